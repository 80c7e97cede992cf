-- The codes, and then the row.
use Rattle.std.proofs.Common.{◌++◌}
use Rattle.schedule.specs.Records.{INPUT_BYTES}
use Rattle.schedule.specs.Bytes.{zeros, started_part}
use Rattle.stand_reports.specs.Written.{codes_text, output}
use Rattle.stand_reports.proofs.Reading.{both_written, follows}
use Rattle.stand_reports.proofs.run_from_zeros.Goals as goal

pub returns : goal.returns
returns g c =
    both_written c.write_all.result (g.R.Read.remaining c.args.reader.now) _ _ _ INPUT_BYTES
    (output (λ s. g.T.Report.report_on (started_part s)) c.args.last zeros c.args.row.now) _ _
    c.in_ok-write_codes.ensures c.write_all.ensures.bytes
    (follows (g.R.Read.remaining c.args.reader.now)
    (λ input R i. codes_text c.args.last (R.last i) (R.code i) ++ R.row_is i) c.in_ok-codes.ensures)
