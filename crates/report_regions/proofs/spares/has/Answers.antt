-- What is left of the list tells whether the region is on the whole.
use mathlib.Core.Path.{◌≡◌}
use Prim.Native.Nat.{◌+◌, ◌-◌}
use native.Mathlib.Nat.{sub-zero}
use native.Mathlib.Omega.{arith}
use Rattle.report_regions.proofs.SpareWalks.{on-begins, on-ends, on-found, on-inside, on-goes, on-over}
use Rattle.report_regions.proofs.spares.has.Goals as goal

pub loop-init : goal.loop-init
loop-init c = rw sub-zero (on-begins _ _ _ c.requires c.first-item.ensures)

pub returns-in_default : goal.returns-in_default
returns-in_default c =
    on-ends _ _ _ _ c.loop.invariant (omega arith) (omega (arith, c.in_default.ensures))

pub returns-then-number-region : goal.returns-then-number-region
returns-then-number-region c =
    let some = c.in-Some.ensures in
    on-found _ _ _ _ c.loop.invariant (omega arith) (λ e. omega (arith, some)) (omega (arith, some))

pub new-requires : goal.new-requires
new-requires c =
    let some = c.in-Some.ensures in
    omega (arith, some, on-inside _ _ _ _ c.loop.invariant (omega arith) (λ e. omega (arith, some)))

pub loop-preserved : goal.loop-preserved
loop-preserved c =
    let l = c.loop in
    let s : c.args.regions - (l.counter + 1) ≡ c.args.regions - l.counter - 1 = omega arith in
    let some = c.in-Some.ensures in
    rw s
    (on-goes _ _ _ _ l.invariant (omega arith) (λ e. omega (arith, some)) (λ e. omega (arith, some))
    (rw (c.new.ensures, some.1) at c.get-item.ensures))

pub returns : goal.returns
returns c = on-over _ _ _ _ c.loop.invariant (omega arith)
