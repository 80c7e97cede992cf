-- At the head of the loop, what the run leaves is what is left to run.
use Rattle.schedule.specs.Bytes.{memories}
use Rattle.schedule.proofs.Running.{RunAhead}
use Rattle.schedule.proofs.stand.Stand.run.Given as goal

abbrev pub invariant-loop : goal.invariant-loop
invariant-loop l = RunAhead l.task l.most (memories l.initial.self) l.counter (memories l.self)
