-- The function that is called does the step at the place.
use mathlib.Core.Path.{refl}
use native.Mathlib.Omega.{arith}
use Rattle.control.specs.Places.{A3_READ, A3_EXCHANGE, A4, A7, A8}
use Rattle.stepped.proofs.Doing.{does-in, lends}
use Rattle.steps.proofs.StepAt.{at}
use Rattle.steps.proofs.allocate.fill.Goals as goal

pub returns-then-place-eq-A8 : goal.returns-then-place-eq-A8
returns-then-place-eq-A8 c = does-in (at _ _ _ _ _ A8 refl (omega arith)) c.carve.ensures

pub returns-then-place-eq-A4 : goal.returns-then-place-eq-A4
returns-then-place-eq-A4 c = does-in (at _ _ _ _ _ A4 refl (omega arith)) c.step.ensures

pub returns-then-place-eq-A3_READ : goal.returns-then-place-eq-A3_READ
returns-then-place-eq-A3_READ c = does-in (at _ _ _ _ _ A3_READ refl (omega arith)) (lends (c.read.ensures _ _))

pub returns-then-place-eq-A3_EXCHANGE : goal.returns-then-place-eq-A3_EXCHANGE
returns-then-place-eq-A3_EXCHANGE c =
    does-in (at _ _ _ _ _ A3_EXCHANGE refl (omega arith)) (lends (c.exchange.ensures _))

pub returns : goal.returns
returns c = does-in (at _ _ _ _ _ A7 refl (omega arith)) (lends (c.open.ensures _))
