-- One turn of the run, or its end.
use Rattle.std.proofs.Common.{arith}
use Rattle.schedule.proofs.Running.{begins, ends, goes_on, stops}
use Rattle.schedule.proofs.stand.Stand.run.Goals as goal

pub loop-init : goal.loop-init
loop-init c = begins _ _ _

pub returns-then-answer-ne0 : goal.returns-then-answer-ne0
returns-then-answer-ne0 c = stops c.loop.invariant (omega arith) c.step-answer.ensures (λ e. omega arith)

pub loop-preserved : goal.loop-preserved
loop-preserved c = goes_on c.loop.invariant (omega arith) c.step-answer.ensures (omega arith)

pub returns : goal.returns
returns c = ends c.loop.invariant (omega arith)
