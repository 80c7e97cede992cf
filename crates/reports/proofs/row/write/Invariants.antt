-- The numbers before `i` are written: what is left to write gives the whole.
use mathlib.Core.Path.{◌≡◌}
use Prim.Native.Nat.{◌*◌}
use lib.ListN.{length, drop}
use Rattle.reports.specs.Rows.{BYTES_OF_NUMBER, with_numbers}
use Rattle.reports.proofs.row.write.Given as goal

abbrev pub invariant-loop-i : goal.invariant-loop-i
invariant-loop-i l =
    (length l.row ≡ length l.initial.row)
    × (with_numbers (BYTES_OF_NUMBER * l.i) (drop l.i l.numbers) l.row ≡ with_numbers 0 l.numbers l.initial.row)
