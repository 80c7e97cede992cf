-- The function that is called does the step at the place, and its answer becomes the number.
use mathlib.Core.Path.{refl}
use native.Mathlib.Omega.{arith}
use Rattle.control.specs.Places.{A1, F1}
use Rattle.stepped.proofs.Doing.{does-in, lends, numbers}
use Rattle.steps.proofs.StepAt.{at}
use Rattle.steps.proofs.step.at.Goals as goal

pub returns-then-place-eq-A1 : goal.returns-then-place-eq-A1
returns-then-place-eq-A1 c =
    numbers (does-in (at _ _ _ _ _ A1 refl (omega arith)) (lends c.take-taken.ensures))
    c.step_number.ensures

pub returns-then-place-eq-F1 : goal.returns-then-place-eq-F1
returns-then-place-eq-F1 c =
    numbers
    (does-in (at _ _ _ _ _ F1 refl (omega arith)) c.put-put.ensures)
    c.step_number-then-place-eq-F1.ensures
