-- A value out of its range is answered with 14.
use Rattle.reports.proofs.ReportAnswers.{refused}
use Rattle.sheet.proofs.write.Goals as goal

pub returns-in_err-fill : goal.returns-in_err-fill
returns-in_err-fill c = refused _ _ _ _ c.from_residual.ensures.1 c.in_err-fill.ensures.out_of_range
