-- At the head of the loop what is written and what is still ahead make up the whole output.
use Rattle.std.proofs.Common.{◌≡◌, length}
use Rattle.schedule.specs.Bytes.{memories}
use Rattle.table.proofs.Playing.{TableAhead}
use Rattle.table.proofs.write.Given as goal

abbrev pub invariant-loop-entry : goal.invariant-loop-entry
invariant-loop-entry l = record {
  ahead : TableAhead l.lost l.input (memories l.initial.stand) l.used l.entry-iterator l.counts (memories l.stand) l.out;
  same_length : length l.out ≡ length l.fn.out;
}
