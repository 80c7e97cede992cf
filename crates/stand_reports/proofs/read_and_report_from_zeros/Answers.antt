-- The report is on the records of what was read, as they are played from zeros.
use Rattle.std.proofs.Common.{◌≡◌, ℕ, length, ap, ◌∙◌}
use lib.ListN.{length-replicate}
use Rattle.control.specs.Answers.{code_in}
use Rattle.schedule.specs.Records.{INPUT_BYTES}
use Rattle.schedule.specs.Bytes.{zeros}
use Rattle.stand_reports.specs.Reported.{Reports}
use Rattle.stand_reports.proofs.Reading.{of_first}
use Rattle.stand_reports.proofs.read_and_report_from_zeros.Goals as goal

pub returns : goal.returns
returns g c =
    let full : length c.read_full.new.buffer ≡ INPUT_BYTES =
    c.read_full.auto.buffer ∙ length-replicate {A = ℕ} INPUT_BYTES 0 in
    let answers = c.report_after_all-answers in
    of_first (g.R.Read.remaining c.args.reader.now) _ INPUT_BYTES
    (λ input.
    Reports g.T.Report.report_on input zeros c.args.row.now answers.new.row c.codes_of.result)
    (rw full at c.in_ok-n.ensures.first)
    (record {
      last = c.codes_of.ensures.last ∙ ap code_in answers.ensures.last;
      code = c.codes_of.ensures.report ∙ ap code_in answers.ensures.report.number;
      row_is = answers.ensures.report.row_is;
    })
