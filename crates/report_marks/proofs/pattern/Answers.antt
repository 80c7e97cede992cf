-- Each arm has the word of the definition, which antt computes.
use mathlib.Core.Path.{refl}
use native.Mathlib.Omega.{arith}
use Rattle.classes.specs.Classes.{units}
use Rattle.report_marks.specs.Masks.{every_bit}
use Rattle.report_marks.proofs.EveryMask.{pattern-at}
use Rattle.report_marks.proofs.pattern.Goals as goal

pub returns-in-0 : goal.returns-in-0
unfolding every_bit units
returns-in-0 c =
    pattern-at c.args.class 0 refl (omega arith)

pub returns-in-1 : goal.returns-in-1
unfolding every_bit units
returns-in-1 c =
    pattern-at c.args.class 1 refl (omega arith)

pub returns-in-2 : goal.returns-in-2
unfolding every_bit units
returns-in-2 c =
    pattern-at c.args.class 2 refl (omega arith)

pub returns-in-3 : goal.returns-in-3
unfolding every_bit units
returns-in-3 c =
    pattern-at c.args.class 3 refl (omega arith)

pub returns-in-4 : goal.returns-in-4
unfolding every_bit units
returns-in-4 c =
    pattern-at c.args.class 4 refl (omega arith)

pub returns-in-5 : goal.returns-in-5
unfolding every_bit units
returns-in-5 c =
    pattern-at c.args.class 5 refl (omega arith)

pub returns-in-6 : goal.returns-in-6
unfolding every_bit units
returns-in-6 c =
    pattern-at c.args.class 6 refl (omega arith)

pub returns-in-7 : goal.returns-in-7
unfolding every_bit units
returns-in-7 c =
    pattern-at c.args.class 7 refl (omega arith)

pub returns-in-8 : goal.returns-in-8
unfolding every_bit units
returns-in-8 c =
    pattern-at c.args.class 8 refl (omega arith)

pub returns-in-9 : goal.returns-in-9
unfolding every_bit units
returns-in-9 c =
    pattern-at c.args.class 9 refl (omega arith)

pub returns-in-10 : goal.returns-in-10
unfolding every_bit units
returns-in-10 c =
    pattern-at c.args.class 10 refl (omega arith)

pub returns-in-11 : goal.returns-in-11
unfolding every_bit units
returns-in-11 c =
    pattern-at c.args.class 11 refl (omega arith)

pub returns-in-12 : goal.returns-in-12
unfolding every_bit units
returns-in-12 c =
    pattern-at c.args.class 12 refl (omega arith)
