-- The function that is called does the step at the place.
use mathlib.Core.Path.{refl}
use native.Mathlib.Omega.{arith}
use Rattle.control.specs.Places.{F2, F3_READ, F3_LINK, F3_EXCHANGE, F4_CLEAR}
use Rattle.stepped.proofs.Doing.{does-in, lends}
use Rattle.steps.proofs.StepAt.{at}
use Rattle.steps.proofs.free.empty.Goals as goal

pub returns-then-place-eq-F2 : goal.returns-then-place-eq-F2
returns-then-place-eq-F2 c = does-in (at _ _ _ _ _ F2 refl (omega arith)) c.take.ensures

pub returns-then-place-eq-F3_READ : goal.returns-then-place-eq-F3_READ
returns-then-place-eq-F3_READ c = does-in (at _ _ _ _ _ F3_READ refl (omega arith)) (lends (c.read.ensures _))

pub returns-then-place-eq-F3_LINK : goal.returns-then-place-eq-F3_LINK
returns-then-place-eq-F3_LINK c = does-in (at _ _ _ _ _ F3_LINK refl (omega arith)) c.write_last.ensures

pub returns-then-place-eq-F3_EXCHANGE : goal.returns-then-place-eq-F3_EXCHANGE
returns-then-place-eq-F3_EXCHANGE c =
    does-in (at _ _ _ _ _ F3_EXCHANGE refl (omega arith)) (lends (c.exchange.ensures _))

pub returns : goal.returns
returns c = does-in (at _ _ _ _ _ F4_CLEAR refl (omega arith)) (lends (c.clear.ensures _))
