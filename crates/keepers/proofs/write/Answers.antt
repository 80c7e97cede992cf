-- One law for each answer.
use native.Mathlib.Omega.{arith}
use Rattle.reports.proofs.ReportAnswers.{refused, answers-on}
use Rattle.keepers.proofs.KeepersFound.{kept-tell, keepers-gathered, read-refused}
use Rattle.keepers.proofs.write.Goals as goal

pub returns-in_err-read_fits : goal.returns-in_err-read_fits
returns-in_err-read_fits c =
    refused _ _ _ _ c.from_residual.ensures.1 (read-refused _ _ _ c.in_err-read_fits.ensures.failed)

pub returns-in_err-fill : goal.returns-in_err-fill
returns-in_err-fill c =
    refused _ _ _ _ c.from_residual-in_err-fill.ensures.1
    (kept-tell _ _ _ c.in_ok-read_fits.ensures.passed c.in_err-fill.ensures.failed)

pub returns : goal.returns
returns c =
    answers-on _ _ _ (kept-tell _ _ _ c.in_ok-read_fits.ensures.passed c.in_ok-fill.ensures.passed)
    (rw c.get.ensures.same
    (keepers-gathered _ _ _ c.in_ok-read_fits.ensures.passed (omega arith) c.in_ok-fill.ensures)) c.write.ensures
