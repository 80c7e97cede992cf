-- "every class total equals that of the sheet by region": of any memories on which both reports are given.
use mathlib.Core.Path.{◌≡◌, refl, sym, ◌∙◌}
use mathlib.Core.List.{List}
use Prim.Native.Nat.{ℕ, zero, suc, ◌+◌, ◌≤◌, ◌<◌}
use native.Mathlib.Omega.{arith}
use lib.ListN.{length, get_or}
use Rattle.limits.specs.Limits.{REGIONS, TASKS, CLASSES}
use Rattle.rows.specs.Totals.{total}
use Rattle.rows.proofs.Totals.{total-same}
use Rattle.links.specs.Link.{link}
use Rattle.control.specs.Layout.{Regions, seen}
use Rattle.stepped.specs.Outcome.{Memories}
use Rattle.reports.specs.ByRegion.{in_region}
use Rattle.reports.proofs.ReportFilled.{Passes, given-only}
use Rattle.report_caches.specs.CacheRows.{cache_row, blocks_in_caches}
use Rattle.report_requests.specs.UnderWay.{request_blocks, in_request, blocks_in_requests}
use Rattle.report_regions.specs.OpenClasses.{open_class}
use Rattle.sheet.specs.Sheet.{COLUMNS, SHEET_NUMBERS, SHEET_BYTES, four_of, sheet_number, sheet_in_range, sheet_of}
use Rattle.holders.specs.Form.{HOLDERS, FORM_NUMBERS, FORM_BYTES, added_up, class_line}
use Rattle.holders.specs.Form.{form_number, form_of}
use Rattle.holders.proofs.Exchange.{added-exchange}
use Rattle.holders.proofs.SheetColumns.{unasked, column-added}
use Rattle.holders.proofs.FormColumns.{cache-at, request-at, chains-at}
use Rattle.report_agreement.specs.Sums.{sum}
use Rattle.report_agreement.specs.SheetTells.{number_at}
use Rattle.report_agreement.specs.FormTells.{form_at, column_sum, AddsUpTo, SameTotals}
use Rattle.report_agreement.proofs.Sums.{sum_same}
use Rattle.report_agreement.proofs.ReportCells.{few-regions, sheet-cell, form-cell}

-- the numbers of a line of the form, in their parts
line-parts : (f : ℕ → ℕ)
    → sum HOLDERS f ≡ f 0 + sum TASKS (λ t. f (1 + t)) + sum TASKS (λ t. f (9 + t)) + f 17
unfolding total
line-parts f = omega arith

-- n lines of the sheet, column by column
columns-parts : (n : ℕ) (f : ℕ → ℕ → ℕ)
    → sum n (λ r. sum COLUMNS (f r))
    ≡ sum n (λ r. f r 0) + sum n (λ r. f r 1) + sum n (λ r. f r 2) + sum n (λ r. f r 3)
unfolding total
columns-parts zero f = refl
columns-parts (suc n) f = omega (arith, columns-parts n f)

module _ {s : Memories} (P : Passes sheet_in_range s) (row form : List ℕ) (long : SHEET_BYTES ≤ length row)
    (fits : FORM_BYTES ≤ length form) (c : ℕ) (class : c < CLASSES) where
  -- the two rows that are left
  abbrev sheet : List ℕ
  sheet = (sheet_of s row).1

  abbrev filled : List ℕ
  filled = (form_of s form).1

  -- what is added up over the regions that are open in the class
  abbrev over_open : (ℕ → ℕ) → ℕ
  over_open number =
      let regions = seen s.control Regions in
      added_up regions (open_class (seen s.control) regions) c number

  -- a column of the class, all regions added up
  column-is : (j : ℕ) → j < COLUMNS
      → column_sum sheet c j
      ≡ over_open (λ r. get_or (unasked (seen s.control) (link s.area) (seen s.control Regions) c r) j 0)
  column-is j column =
      let v = seen s.control in
      let links = link s.area in
      sum_same REGIONS (λ r. number_at sheet c r j) (λ r. get_or (four_of v links (v Regions) c r) j 0)
      (λ r l. sheet-cell P row long c r j class l column)
      ∙ column-added v links (v Regions) c class j column (few-regions P)

  -- a number in the line of the class
  cell : (h : ℕ) → h < HOLDERS
      → form_at filled c h ≡ get_or (class_line (seen s.control) (link s.area) (seen s.control Regions) c) h 0
  cell h l = form-cell P form fits c h class l

  -- The numbers of all tasks, from a place in the line on, are a column: the tasks may be added up first, or the
  -- regions.
  tasks-add : {A : Type 0} (has : ℕ → A) (weight : ℕ → A → ℕ) (first j : ℕ) → first + TASKS ≤ HOLDERS → j < COLUMNS
      → ((t : ℕ) → t < TASKS → get_or (class_line (seen s.control) (link s.area) (seen s.control Regions) c)
      (first + t) 0 ≡ over_open (λ r. weight r (has t)))
      → over_open (λ r. get_or (unasked (seen s.control) (link s.area) (seen s.control Regions) c r) j 0)
      ≡ over_open (λ r. total TASKS (λ t x. weight r x) has)
      → sum TASKS (λ t. form_at filled c (first + t)) ≡ column_sum sheet c j
  tasks-add has weight first j fit column holders columns =
      let regions = seen s.control Regions in
      total-same TASKS (λ t n. n) (λ t. form_at filled c (first + t)) (λ t x. over_open (λ r. weight r x)) has
      (λ t l. cell (first + t) (omega arith) ∙ holders t l)
      ∙ sym (column-is j column ∙ columns
      ∙ added-exchange has regions (open_class (seen s.control) regions) c TASKS (λ r t x. weight r x))

  -- the caches of all tasks
  caches-add : sum TASKS (λ t. form_at filled c (1 + t)) ≡ column_sum sheet c 1
  unfolding blocks_in_caches
  caches-add =
      let v = seen s.control in
      tasks-add (λ t. cache_row v (link s.area) t c) in_region 1 1 (omega arith) (omega arith)
      (cache-at v (link s.area) (v Regions) c) refl

  -- the requests of all tasks
  requests-add : sum TASKS (λ t. form_at filled c (9 + t)) ≡ column_sum sheet c 2
  unfolding blocks_in_requests
  requests-add =
      let v = seen s.control in
      tasks-add (request_blocks v (v Regions)) (in_request c) 9 2 (omega arith) (omega arith)
      (request-at v (link s.area) (v Regions) c) refl

  hands-add : form_at filled c 0 ≡ column_sum sheet c 0
  hands-add = cell 0 (omega arith) ∙ sym (column-is 0 (omega arith))

  chains-add : form_at filled c 17 ≡ column_sum sheet c 3
  chains-add =
      let v = seen s.control in
      cell 17 (omega arith) ∙ chains-at v (link s.area) (v Regions) c ∙ sym (column-is 3 (omega arith))

  pub class-adds-up : AddsUpTo sheet filled c
  class-adds-up = record {
    hands = hands-add;
    caches = caches-add;
    requests = requests-add;
    chains = chains-add;
    totals =
        omega (
          arith,
          line-parts (form_at filled c),
          hands-add,
          caches-add,
          requests-add,
          chains-add,
          columns-parts REGIONS (number_at sheet c),
        );
  }

-- Whatever the memories hold: where both reports are given, the form adds up the sheet.
pub same-totals : (s : Memories) (row form : List ℕ) → (sheet_of s row).0 ≡ 20 → (form_of s form).0 ≡ 20
    → SameTotals (sheet_of s row).1 (form_of s form).1
same-totals s row form e f =
    let sheeted = given-only sheet_in_range SHEET_NUMBERS sheet_number s row e in
    let formed = given-only sheet_in_range FORM_NUMBERS form_number s form f in
    class-adds-up sheeted.0 row form sheeted.1 formed.1
