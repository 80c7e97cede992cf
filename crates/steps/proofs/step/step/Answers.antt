-- The tests of a step, then the step at the place.
use Rattle.std.specs.Prelude.{Err}
use mathlib.Core.Path.{refl}
use native.Mathlib.Omega.{arith}
use Rattle.limits.specs.declared.refusal.Refusal.TheVariants.{Idle, OutOfRange}
use Rattle.stepped.proofs.Doing.{done-in, numbers, numbers-in}
use Rattle.steps.proofs.StepAt.{idle, no-class, to-place}
use Rattle.steps.proofs.step.step.Goals as goal

pub returns-then-place-eq-IDLE : goal.returns-then-place-eq-IDLE
returns-then-place-eq-IDLE c = numbers {r = Err Idle} (done-in (idle _ _ _ _ (omega arith)) refl (cc) (cc)) refl

pub returns-then-noted-ge-CLASSES : goal.returns-then-noted-ge-CLASSES
returns-then-noted-ge-CLASSES c =
    numbers {r = Err OutOfRange} (done-in (no-class _ _ _ _ (omega arith) (omega arith)) refl (cc) (cc)) refl

pub returns : goal.returns
returns c =
    numbers-in (to-place _ _ _ _ (omega arith) (omega arith) (omega (arith, c.new.ensures)) (omega arith)) c.at.ensures
