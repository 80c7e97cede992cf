-- The last block of the group lies in the area.
use native.Mathlib.Omega.{arith}
use borrow.Author.Tests.{ltb-true}
use Rattle.steps_group.proofs.Fitting.{link-inside}
use Rattle.steps_return.proofs.anchor.write_last.Goals as goal

pub write-requires : goal.write-requires
write-requires c =
    link-inside c.args.request.regions _ _ _ c.first_unit-unit.ensures
    (omega (arith, c.in_ok-region.ensures.inside, c.in_ok-region.ensures.found))
    (omega (arith, ltb-true _ _ c.in_ok-in_range.ensures.passed)) c.requires
