-- What is left of the list tells whether the whole is one.
use mathlib.Core.Path.{◌≡◌, sym}
use Prim.Native.Nat.{◌+◌, ◌-◌}
use native.Mathlib.Nat.{sub-zero}
use native.Mathlib.Omega.{arith}
use Rattle.std.proofs.lemmas.Result.{err_from_is_err_and}
use Rattle.report_regions.proofs.SpareWalks.{list-begins, list-ends, list-breaks, list-goes, list_over}
use Rattle.report_regions.proofs.spares.fits.Goals as goal

pub loop-init : goal.loop-init
loop-init c = rw sub-zero (list-begins _ _ c.first-item.ensures)

pub returns-in_default-clause-passed : goal.returns-in_default-clause-passed
returns-in_default-clause-passed c =
    sym (list-ends _ _ _ c.loop.invariant (omega arith) (omega (arith, c.in_default.ensures)))

pub returns-in_err-region-clause-failed : goal.returns-in_err-region-clause-failed
returns-in_err-region-clause-failed c =
    let p = err_from_is_err_and c.from_residual.result c.from_residual.ensures.1 in
    let some = c.in-Some.ensures in
    let outside = c.in_err-region.ensures.outside in
    rw p.1
    (sym (list-breaks _ _ _ c.loop.invariant (omega arith) (λ e. omega (arith, some)) (omega (arith, some, outside))))

pub loop-preserved : goal.loop-preserved
loop-preserved c =
    let l = c.loop in
    let s : c.args.regions - (l.counter + 1) ≡ c.args.regions - l.counter - 1 = omega arith in
    let some = c.in-Some.ensures in
    let inside = c.in_ok-region.ensures in
    rw s
    (list-goes _ _ _ l.invariant (omega arith) (λ e. omega (arith, some)) (omega (arith, some, inside.inside))
    (rw (inside.found, some.1) at c.get-item.ensures))

pub returns-clause-passed : goal.returns-clause-passed
returns-clause-passed c =
    rw (list_over _ _ _ _ c.loop.invariant (omega arith)) at c.in_range.ensures.passed

pub returns-clause-failed : goal.returns-clause-failed
returns-clause-failed c =
    rw (list_over _ _ _ _ c.loop.invariant (omega arith)) at c.in_range.ensures.failed
