-- A control memory of another length is refused; on one of its length another function fills the row.
use mathlib.Core.List.{List}
use Prim.Native.Nat.{ℕ}
use Rattle.sheet.specs.Sheet.{SHEET_NUMBERS, sheet_number, sheet_in_range}
use Rattle.sheet.specs.Sheet.{sheet_of}
use Rattle.pool.proofs.Reporting.{short-report, elsewhere}
use Rattle.pool.proofs.pool_sheet.Goals as goal

pub returns-in_default : goal.returns-in_default
returns-in_default c =
    short-report sheet_in_range sheet_number _ _ _ _ c.in_default.ensures.cases c.number.ensures

pub returns : goal.returns
returns c =
    let kept = c.in-Some.ensures.cases in
    elsewhere
    (λ (b : List ℕ). sheet_of (record { control = b; area = c.args.area.now; strips = c.args.strips.now }) c.args.sheet.now)
    kept.same c.report_number.ensures c.fill_sheet.ensures
