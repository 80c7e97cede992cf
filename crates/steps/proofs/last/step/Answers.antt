-- The function that is called does the step at the place.
use mathlib.Core.Path.{refl}
use native.Mathlib.Omega.{arith}
use Rattle.control.specs.Places.{STRIP_TAKE, STRIP_GIVE, LEAVE_END}
use Rattle.stepped.proofs.Doing.{done, does}
use Rattle.steps.proofs.StepAt.{at, past-places}
use Rattle.steps.proofs.last.step.Goals as goal

pub returns-then-place-eq-STRIP_TAKE : goal.returns-then-place-eq-STRIP_TAKE
returns-then-place-eq-STRIP_TAKE c link = does (at _ link _ _ _ STRIP_TAKE refl (omega arith)) c.take.ensures

pub returns-then-place-eq-STRIP_GIVE : goal.returns-then-place-eq-STRIP_GIVE
returns-then-place-eq-STRIP_GIVE c link = does (at _ link _ _ _ STRIP_GIVE refl (omega arith)) c.give.ensures

pub returns-then-place-eq-LEAVE_END : goal.returns-then-place-eq-LEAVE_END
returns-then-place-eq-LEAVE_END c link = does (at _ link _ _ _ LEAVE_END refl (omega arith)) c.finish.ensures

pub returns : goal.returns
returns c link = done (past-places _ link _ _ _ (omega arith)) refl (cc) refl
