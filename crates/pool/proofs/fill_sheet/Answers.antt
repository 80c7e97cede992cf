-- The tests, then the report.
use native.Mathlib.Omega.{arith}
use Rattle.sheet.specs.Sheet.{SHEET_NUMBERS, sheet_number, sheet_in_range}
use Rattle.pool.proofs.Reporting.{stops-at, fills}
use Rattle.pool.proofs.fill_sheet.Goals as goal

pub returns-in_err-started : goal.returns-in_err-started
returns-in_err-started c =
    stops-at sheet_in_range sheet_number _ _ (omega arith) c.report_tests.ensures _ c.from_residual.result
    c.in_err-started.was c.from_residual.ensures.1

pub returns : goal.returns
returns c =
    let T = c.report_tests.ensures in
    let A = rw c.count.ensures at c.write.ensures in
    fills sheet_in_range sheet_number _ _ (omega arith) T (λ k. SHEET_NUMBERS) c.in_ok-started.was A
