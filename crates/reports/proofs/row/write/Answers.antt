-- The numbers before `i` are written: what is left to write gives the whole.
use mathlib.Core.Path.{sym, ap, ◌∙◌}
use Prim.Native.Nat.{◌+◌, ◌*◌}
use native.Mathlib.Omega.{arith}
use lib.ListN.{length, drop}
use Rattle.fields.proofs.Little.{length-set_le}
use Rattle.reports.specs.Rows.{BYTES_OF_NUMBER, with_numbers}
use Rattle.reports.proofs.Rows.{write-next, write-none}
use Rattle.reports.proofs.ReportAnswers.{answers-23, answers-20}
use Rattle.reports.proofs.row.write.Goals as goal

pub loop-i-preserved : goal.loop-i-preserved
loop-i-preserved c =
    let x = c.loop-i in (
      ap length c.store.ensures ∙ length-set_le _ _ _ _ ∙ x.invariant.0,
      ap (with_numbers (BYTES_OF_NUMBER * (x.i + 1)) (drop (x.i + 1) c.args.numbers.now)) c.store.ensures
          ∙ sym (write-next c.args.numbers.now x.i x.row (omega arith))
          ∙ x.invariant.1,
    )

pub returns-then-row-numbers : goal.returns-then-row-numbers
returns-then-row-numbers c = answers-23 _ _ (omega arith)

pub returns : goal.returns
returns c =
    let x = c.loop-i in
    let numbers = c.args.numbers.now in
    answers-20 _ _ (omega arith)
    (sym (write-none (BYTES_OF_NUMBER * x.i) numbers x.i x.row (omega arith)) ∙ x.invariant.1)
