-- What the code computes is a mask that the test passed; no shift is by 64 or more, as a block has at most 32 units.
use Prim.Native.Nat.{◌-◌, ◌*◌, ◌%◌, ◌≤◌}
use native.Mathlib.Nat.{mod-lt}
use native.Mathlib.Omega.{arith}
use borrow.Author.Rules.{rules}
use Rattle.limits.specs.Limits.{REGION_UNITS, WORD_MARKS}
use Rattle.classes.proofs.Tables.{units-low}
use Rattle.report_marks.proofs.EveryMask.{shift-low, mask-before, mask-last}
use Rattle.report_marks.proofs.mask.Goals as goal

pub nonzero_rem-skip : goal.nonzero_rem-skip
nonzero_rem-skip c = omega (arith, units-low c.args.class)

pub overflow_sub-skip : goal.overflow_sub-skip
overflow_sub-skip c =
    let p : 1 ≤ c.units-units.result = omega (arith, units-low c.args.class) in
    omega (arith, mod-lt (WORD_MARKS * c.args.word) p)

pub nonzero_rem-skip-2 : goal.nonzero_rem-skip-2
nonzero_rem-skip-2 c = omega (arith, units-low c.args.class)

pub overflow_shl-all : goal.overflow_shl-all
overflow_shl-all c =
    let u = c.units-units in
    omega (arith, shift-low c.args.class u.result (u.result - WORD_MARKS * c.args.word % u.result) u.ensures)

pub returns-then-word : goal.returns-then-word
returns-then-word c = mask-before _ _ _ _ (search rules) (omega arith) c.units-units.ensures
    c.pattern.ensures

pub nonzero_rem-over : goal.nonzero_rem-over
nonzero_rem-over c = omega (arith, units-low c.args.class)

pub overflow_shl-result : goal.overflow_shl-result
overflow_shl-result c =
    let u = c.units-units in
    omega (arith, shift-low c.args.class u.result REGION_UNITS u.ensures)

pub overflow_shr-result : goal.overflow_shr-result
overflow_shr-result c =
    let u = c.units-units in
    omega (arith, shift-low c.args.class u.result REGION_UNITS u.ensures)

pub returns : goal.returns
returns c = mask-last _ _ _ _ (search rules) (search rules) (omega arith) c.units-units.ensures
    c.pattern.ensures
