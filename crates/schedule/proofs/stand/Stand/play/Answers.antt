-- One record more, or the end of the schedule.
use Rattle.schedule.proofs.Playing.{goes_on, ends}
use Rattle.schedule.proofs.stand.Stand.play.Goals as goal

pub loop-entry-preserved : goal.loop-entry-preserved
loop-entry-preserved c =
    goes_on c.args.input.now c.loop-entry.invariant c.in-Some.ensures.steps c.treat-answer.ensures

pub returns : goal.returns
returns c =
    let ended = ends c.args.input.now c.loop-entry.invariant c.in-None.ensures.steps in
    record { memories_are = ended.0; answer = ended.1 }
