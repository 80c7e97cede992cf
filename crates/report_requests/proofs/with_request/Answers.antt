-- A request of another class has none of the class; else its blocks are counted, and then its own block.
use mathlib.Core.Path.{sym, ◌∙◌}
use native.Mathlib.Omega.{arith}
use borrow.Author.Rules.{rules}
use Rattle.std.proofs.lemmas.Result.{err_from_is_err_and}
use Rattle.report_requests.proofs.RequestBounds.{read-bounded}
use Rattle.report_requests.proofs.RequestsCounted.{request-outside, request-other, request-blocks, own_inside, own_room}
use Rattle.report_requests.proofs.RequestsCounted.{request-own}
use Rattle.report_requests.proofs.with_request.Goals as goal

pub returns-in_err-request : goal.returns-in_err-request
returns-in_err-request c =
    let p = err_from_is_err_and c.from_residual.result c.from_residual.ensures.1 in
    rw p.1 (request-outside _ (rw c.get.ensures.same at c.in_err-request.ensures))

pub returns-then-get : goal.returns-then-get
returns-then-get c =
    request-other (rw c.get.ensures.same at c.in_ok-request.ensures) _ _
    (λ e. c.if-get.true (c.get-2.ensures.same ∙ e ∙ sym c.get-3.ensures.same))

pub bounds-counts-request : goal.bounds-counts-request
bounds-counts-request c =
    let b = read-bounded _ _ _ c.in_ok-request.ensures (omega arith) in
    omega (arith, b.region)

pub overflow_add-counts : goal.overflow_add-counts
overflow_add-counts c =
    let b = read-bounded _ _ _ c.in_ok-request.ensures (omega arith) in
    omega (arith, b.blocks, c.requires c.in_ok-request.request.region)

pub bounds-counts-request-2 : goal.bounds-counts-request-2
bounds-counts-request-2 c =
    let b = read-bounded _ _ _ c.in_ok-request.ensures (omega arith) in
    omega (arith, b.region)

pub bounds-counts-region_of : goal.bounds-counts-region_of
bounds-counts-region_of c =
    let b = read-bounded _ _ _ c.in_ok-request.ensures (omega arith) in
    let same = sym c.get-2.ensures.same ∙ c.if-get.false ∙ c.get-3.ensures.same in
    own_inside c.in_ok-request.ensures _ c.args.from same (search rules) b c.in-Some.is c.region_of.ensures

pub overflow_add-counts-in-Some : goal.overflow_add-counts-in-Some
overflow_add-counts-in-Some c =
    let b = read-bounded _ _ _ c.in_ok-request.ensures (omega arith) in
    let same = sym c.get-2.ensures.same ∙ c.if-get.false ∙ c.get-3.ensures.same in
    omega (
      arith,
      own_room c.in_ok-request.ensures _ c.args.from same (search rules) b c.in-Some.is c.region_of.ensures c.requires,
    )

pub bounds-counts-region_of-in-Some : goal.bounds-counts-region_of-in-Some
bounds-counts-region_of-in-Some c =
    let b = read-bounded _ _ _ c.in_ok-request.ensures (omega arith) in
    let same = sym c.get-2.ensures.same ∙ c.if-get.false ∙ c.get-3.ensures.same in
    own_inside c.in_ok-request.ensures _ c.args.from same (search rules) b c.in-Some.is c.region_of.ensures

pub returns-in-Some : goal.returns-in-Some
returns-in-Some c =
    let is = rw c.get.ensures.same at c.in_ok-request.ensures in
    let b = read-bounded _ _ _ is (omega arith) in
    let same = sym c.get-2.ensures.same ∙ c.if-get.false ∙ c.get-3.ensures.same in
    request-own is _ c.args.from same (search rules) b c.in-Some.is c.region_of.ensures

pub returns-in_default : goal.returns-in_default
returns-in_default c =
    let is = rw c.get.ensures.same at c.in_ok-request.ensures in
    let b = read-bounded _ _ _ is (omega arith) in
    let same = sym c.get-2.ensures.same ∙ c.if-get.false ∙ c.get-3.ensures.same in
    request-blocks is _ c.args.from same (search rules) b c.in_default.is
