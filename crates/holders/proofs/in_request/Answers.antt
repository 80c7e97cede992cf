-- The request is counted by region from nothing on, and added up.
use mathlib.Core.Path.{◌≡◌}
use Prim.Native.Nat.{ℕ}
use native.Mathlib.Omega.{arith}
use lib.ListN.{get_or}
use Rattle.std.proofs.Common.{rules}
use Rattle.control.specs.Layout.{seen}
use Rattle.report_requests.specs.UnderWay.{request_blocks, in_request}
use Rattle.report_requests.proofs.RequestBounds.{request-bounded, request-max}
use Rattle.holders.proofs.TaskNumbers.{count-is, task-number}
use Rattle.holders.proofs.in_request.Goals as goal

pub add_up-requires-clause-small : goal.add_up-requires-clause-small
add_up-requires-clause-small c = λ r x l p.
    let v = seen c.args.control.now in
    let has : ℕ → ℕ = λ r. in_request c.args.class r (request_blocks v c.args.regions c.args.task) in
    let few = request-bounded v c.args.regions c.args.task (omega arith) in
    let e : x ≡ get_or c.in_ok-counts.counts r 0 = search rules in
    omega (arith, e, count-is has c.in_ok-counts.ensures r (omega arith), request-max c.args.class r _ few)

pub returns : goal.returns
returns c =
    let v = seen c.args.control.now in
    let has : ℕ → ℕ = λ r. in_request c.args.class r (request_blocks v c.args.regions c.args.task) in
    task-number has c.in_ok-counts.ensures _ _ _ (omega arith)
    (c.add_up.ensures (λ r. get_or c.in_ok-counts.counts r 0) (λ r x l p. search rules))
