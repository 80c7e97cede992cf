-- The cache is counted by region from nothing on, and added up.
use mathlib.Core.Path.{◌≡◌}
use Prim.Native.Nat.{ℕ}
use native.Mathlib.Omega.{arith}
use lib.ListN.{get_or}
use Rattle.std.proofs.Common.{rules}
use Rattle.links.specs.Link.{link}
use Rattle.control.specs.Layout.{seen}
use Rattle.reports.specs.ByRegion.{in_region}
use Rattle.report_caches.specs.CacheRows.{cache_row}
use Rattle.report_caches.proofs.Walking.{cache-max}
use Rattle.holders.proofs.TaskNumbers.{count-is, task-number}
use Rattle.holders.proofs.in_cache.Goals as goal

pub add_up-requires-clause-small : goal.add_up-requires-clause-small
add_up-requires-clause-small c = λ r x l p.
    let has : ℕ → ℕ =
    λ r. in_region r (cache_row (seen c.args.control.now) (link c.args.area.now) c.args.task c.args.class) in
    let K = c.in_ok-counts.ensures in
    let e : x ≡ get_or c.in_ok-counts.counts r 0 = search rules in
    omega (arith, e, count-is has K r (omega arith), cache-max _ _ _ _ _ r K.in_range_is)

pub returns : goal.returns
returns c =
    let has : ℕ → ℕ =
    λ r. in_region r (cache_row (seen c.args.control.now) (link c.args.area.now) c.args.task c.args.class) in
    task-number has c.in_ok-counts.ensures _ _ _ (omega arith)
    (c.add_up.ensures (λ r. get_or c.in_ok-counts.counts r 0) (λ r x l p. search rules))
