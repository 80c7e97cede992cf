-- The keepers of the regions before `region` are filled in.
use mathlib.Core.Path.{◌≡◌, ap}
use mathlib.Core.List.{List}
use Prim.Native.Nat.{ℕ}
use native.Mathlib.Omega.{arith}
use lib.ListN.{get_or}
use Rattle.keepers.proofs.KeepersFound.{keepers-begin, keepers-fail, keepers-next, keepers-end}
use Rattle.keepers.proofs.fill.Goals as goal

pub loop-region-init : goal.loop-region-init
loop-region-init c = keepers-begin _ _ _ c.requires.1

pub returns-in_default : goal.returns-in_default
returns-in_default c =
    keepers-fail _ _ _ _ _ (rw c.new.ensures at c.in_default.ensures) c.loop-region.invariant (omega arith)

pub loop-region-preserved : goal.loop-region-preserved
loop-region-preserved c =
    keepers-next _ _ _ _ c.in-Some.keeper (rw c.new.ensures at c.in-Some.ensures) c.loop-region.invariant (omega arith)
    (ap (λ (q : List ℕ). get_or q 0 0) c.numbers_of-two.ensures)
    (ap (λ (q : List ℕ). get_or q 1 0) c.numbers_of-two.ensures)

pub returns : goal.returns
returns c =
    let e : c.loop-region.region ≡ c.args.regions = omega arith in
    keepers-end _ _ _ (rw e at c.loop-region.invariant)
