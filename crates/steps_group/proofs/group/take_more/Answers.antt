-- The last block of the group lies in the area, and no group has more blocks than a region.
use native.Mathlib.Omega.{arith}
use borrow.Author.Tests.{ltb-true}
use Rattle.classes.proofs.Tables.{per_region-high}
use Rattle.steps_group.proofs.Fitting.{link-inside}
use Rattle.steps_group.proofs.group.take_more.Goals as goal

pub write-requires : goal.write-requires
write-requires c =
    let inside = ltb-true _ _ c.in_ok-in_range-2.ensures.passed in
    link-inside _ _ _ _ c.first_unit-end.ensures (omega arith) (omega arith) c.requires.0

pub overflow_add-group : goal.overflow_add-group
overflow_add-group c =
    omega (arith, per_region-high c.args.request.class, ltb-true _ _ c.in_ok-in_range.ensures.passed)
