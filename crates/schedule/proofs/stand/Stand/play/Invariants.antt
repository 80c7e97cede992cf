-- At the head of the loop, what the schedule leaves is what the records ahead leave, and so with the last answer.
use Rattle.schedule.specs.Bytes.{memories}
use Rattle.schedule.proofs.Playing.{PlayAhead}
use Rattle.schedule.proofs.stand.Stand.play.Given as goal

abbrev pub invariant-loop-entry : goal.invariant-loop-entry
invariant-loop-entry l =
    PlayAhead l.input (memories l.initial.self) l.entry-iterator l.answer (memories l.self)
