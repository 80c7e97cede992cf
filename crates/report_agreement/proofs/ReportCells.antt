-- What stands in the rows of the two reports, of any memories that pass their tests.
use mathlib.Core.Path.{◌≡◌, ◌∙◌}
use mathlib.Core.List.{List}
use Prim.Native.Nat.{ℕ, ◌+◌, ◌*◌, ◌≤◌, ◌<◌}
use native.Mathlib.Omega.{arith}
use lib.ListN.{length, get_or}
use Rattle.limits.specs.Limits.{REGIONS, TASKS, CLASSES, MOST_BLOCKS}
use Rattle.rows.specs.Comparisons.{before, after, order?}
use Rattle.rows.proofs.Weights.{when-max}
use Rattle.links.specs.Link.{link}
use Rattle.control.specs.Layout.{Regions, seen}
use Rattle.stepped.specs.Outcome.{Memories}
use Rattle.stepped.specs.Calls.{lengths, lending}
use Rattle.reports.proofs.ReportFilled.{Passes, passed-regions, number-stands}
use Rattle.report_regions.specs.OpenClasses.{open_class}
use Rattle.sheet.specs.Sheet.{COLUMNS, SHEET_NUMBERS, SHEET_BYTES, four_of, sheet_number, sheet_in_range, sheet_of}
use Rattle.sheet.proofs.SheetFilled.{number-at}
use Rattle.holders.specs.Form.{HOLDERS, FORM_NUMBERS, FORM_BYTES, class_line, form_number, form_of}
use Rattle.holders.proofs.FormColumns.{number-in-line}
use Rattle.holders.proofs.SheetColumns.{unasked, in-area, beyond}
use Rattle.holders.proofs.NumberBounds.{column-most, holder-most}
use Rattle.report_agreement.specs.SheetTells.{number_at}
use Rattle.report_agreement.specs.FormTells.{form_at}

module _ {s : Memories} (P : Passes sheet_in_range s) where
  -- the started regions are at most sixteen
  pub few-regions : seen s.control Regions ≤ REGIONS
  few-regions = passed-regions (lengths (lending s)) (seen s.control) P.tests

  -- a number of the sheet fits two bytes
  four-small : (c r j : ℕ) → c < CLASSES → j < COLUMNS
      → get_or (four_of (seen s.control) (link s.area) (seen s.control Regions) c r) j 0
      ≤ TASKS * (MOST_BLOCKS + 1)
  four-small c r j class column =
      let v = seen s.control in
      let links = link s.area in
      let regions = v Regions in
      elim (order? r regions) [
        | before l ↦
            omega (
              arith,
              in-area v links regions c class j column r l,
              when-max c (open_class v regions r) (get_or (unasked v links regions c r) j 0),
              column-most v links regions few-regions P.range c class r j,
            )
        | after l ↦ omega (arith, beyond v links regions c class j column r l)
      ]

  -- the number of a class, region and column stands where they say
  pub sheet-cell : (row : List ℕ) → SHEET_BYTES ≤ length row → (c r j : ℕ) → c < CLASSES → r < REGIONS → j < COLUMNS
      → number_at (sheet_of s row).1 c r j
      ≡ get_or (four_of (seen s.control) (link s.area) (seen s.control Regions) c r) j 0
  sheet-cell row long c r j class region column =
      let v = seen s.control in
      let links = link s.area in
      let i = COLUMNS * (REGIONS * c + r) + j in
      let is = number-at v links (v Regions) c r j region column in
      number-stands sheet_in_range SHEET_NUMBERS sheet_number s row P long i (omega arith)
      (omega (arith, is, four-small c r j class column))
      ∙ is

  -- the number of a class and holder stands where they say
  pub form-cell : (row : List ℕ) → FORM_BYTES ≤ length row → (c h : ℕ) → c < CLASSES → h < HOLDERS
      → form_at (form_of s row).1 c h
      ≡ get_or (class_line (seen s.control) (link s.area) (seen s.control Regions) c) h 0
  form-cell row long c h class holder =
      let v = seen s.control in
      let links = link s.area in
      let i = HOLDERS * c + h in
      number-stands sheet_in_range FORM_NUMBERS form_number s row P long i (omega arith)
      (omega (arith, holder-most v links (v Regions) few-regions P.range c class h holder))
      ∙ number-in-line v links (v Regions) c h holder
