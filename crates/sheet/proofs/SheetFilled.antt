-- The numbers of the sheet, class by class.
use mathlib.Core.Path.{◌≡◌, refl, sym, ap, ap₂, ◌∙◌}
use mathlib.Core.Bool.{Bool, true, false, ◌&&◌}
use mathlib.Core.List.{List}
use Prim.Native.Nat.{ℕ, ◌+◌, ◌/◌, ◌%◌, ◌≤◌, ◌<◌}
use native.Mathlib.Omega.{arith}
use lib.ListN.{length, get_or}
use Rattle.limits.specs.Limits.{REGIONS, CLASSES}
use Rattle.rows.specs.Comparisons.{same, other, same?, before, after, order?}
use Rattle.fields.specs.Columns.{View}
use Rattle.std.specs.Prelude.{Ok}
use Rattle.reports.specs.Passing.{all_pass}
use Rattle.reports.specs.ByRegion.{Counted}
use Rattle.reports.proofs.Passing.{all-pass, one-fails}
use Rattle.reports.specs.Rows.{numbers_to}
use Rattle.reports.specs.Reports.{Gathered}
use Rattle.reports.proofs.Rows.{numbers_are}
use Rattle.report_caches.specs.CacheRows.{caches_in_range, blocks_in_caches}
use Rattle.report_requests.specs.UnderWay.{requests_in_range, blocks_in_requests}
use Rattle.report_regions.specs.Opened.{regions_in_range}
use Rattle.sheet.specs.Sheet.{COLUMNS, SHEET_NUMBERS, four_with, four_of, sheet_number, sheet_in_range}
use Rattle.sheet.specs.Filling.{place_of, RowsAre}

-- a conjunction, one part of which fails
behind : (a b : Bool) → b ≡ false → (a && b) ≡ false
behind true b e = e
behind false b e = refl

module _ (v : View) (link : ℕ → ℕ) (regions : ℕ) where
  -- where the number of the class c, the region r and the column j stands
  pub number-at : (c r j : ℕ) → r < REGIONS → j < COLUMNS
      → sheet_number v link regions (place_of c r + j) ≡ get_or (four_of v link regions c r) j 0
  unfolding sheet_number
  number-at c r j l h =
      let i = place_of c r + j in
      let class : i / COLUMNS / REGIONS ≡ c = omega arith in
      let region : i / COLUMNS % REGIONS ≡ r = omega arith in
      let column : i % COLUMNS ≡ j = omega arith in
      rw (class, region, column)

  -- ---- what is out of its range

  -- the caches of a class
  pub caches-fail : (c : ℕ) → c < CLASSES → caches_in_range v link regions c ≡ false
      → sheet_in_range v link regions ≡ false
  unfolding sheet_in_range
  caches-fail c l e = rw (one-fails CLASSES (caches_in_range v link regions) c l e)

  -- a request
  pub requests-fail : requests_in_range v regions ≡ false → sheet_in_range v link regions ≡ false
  unfolding sheet_in_range
  requests-fail e =
      behind (all_pass CLASSES (caches_in_range v link regions))
      (requests_in_range v regions && regions_in_range v regions)
      (rw e)

  -- what is read of a region
  pub regions_fail : regions_in_range v regions ≡ false → sheet_in_range v link regions ≡ false
  unfolding sheet_in_range
  regions_fail e =
      behind (all_pass CLASSES (caches_in_range v link regions))
      (requests_in_range v regions && regions_in_range v regions)
      (behind (requests_in_range v regions) (regions_in_range v regions) e)

  -- ---- the numbers of the classes before c are filled in

  pub record SheetTo (c : ℕ) (ns : List ℕ) : Type 0 where
    pub long : length ns ≡ SHEET_NUMBERS
    pub caches : (d : ℕ) → d < c → caches_in_range v link regions d ≡ true
    pub requests : 1 ≤ c → requests_in_range v regions ≡ true
    pub opened : 1 ≤ c → regions_in_range v regions ≡ true
    pub numbers : (i : ℕ) → i < place_of c 0 → get_or ns i 0 ≡ sheet_number v link regions i

  -- none is
  pub sheet-begin : (ns : List ℕ) → length ns ≡ SHEET_NUMBERS → SheetTo 0 ns
  sheet-begin ns e = record {
    long = e;
    caches = λ d l. absurd (omega arith);
    requests = λ l. absurd (omega arith);
    opened = λ l. absurd (omega arith);
    numbers = λ i l. absurd (omega arith);
  }

  -- one more is
  module _ (c : ℕ) (ns filled : List ℕ) (cached running : List ℕ) (class : c < CLASSES) (S : SheetTo c ns)
      (K : Counted (caches_in_range v link regions c) (blocks_in_caches v link c) (Ok cached))
      (Q : Counted (requests_in_range v regions) (blocks_in_requests v regions c) (Ok running))
      (R : RowsAre {A = Unit {0}} v regions cached running c ns filled (Ok tt)) where
    -- the row of a region has the numbers of the class
    four_is : (r : ℕ) → r < REGIONS
        → four_with v regions (get_or cached r 0) (get_or running r 0) c r ≡ four_of v link regions c r
    four_is r l = ap₂ (λ (x y : ℕ). four_with v regions x y c r) (K.counts r l) (Q.counts r l)

    -- those of the class itself
    new-number : (i : ℕ) → place_of c 0 ≤ i → i < place_of (c + 1) 0 → get_or filled i 0 ≡ sheet_number v link regions i
    new-number i l h =
        let r = i / COLUMNS % REGIONS in
        let j = i % COLUMNS in
        let region : r < REGIONS = omega arith in
        let column : j < COLUMNS = omega arith in
        let place : place_of c r + j ≡ i = omega arith in
        ap (λ (k : ℕ). get_or filled k 0) (sym place)
        ∙ R.rows r j region column
        ∙ ap (λ (q : List ℕ). get_or q j 0) (four_is r region)
        ∙ sym (number-at c r j region column)
        ∙ ap (sheet_number v link regions) place

    -- so one class more is filled in
    pub sheet-next : SheetTo (c + 1) filled
    sheet-next = record {
      long = R.kept_length ∙ S.long;
      caches = λ d l. elim (same? d c) [ same e ↦ rw e K.in_range_is | other n ↦ S.caches d (omega arith) ];
      requests = λ l. Q.in_range_is;
      opened = λ l. R.passed;
      numbers = λ i l. elim (order? i (place_of c 0)) [
        | before h ↦ R.kept i h ∙ S.numbers i h
        | after h ↦ new-number i h l
      ];
    }

  -- all are
  pub sheet-end : (ns : List ℕ) → SheetTo CLASSES ns
      → Gathered {A = Unit {0}} (sheet_in_range v link regions)
      (numbers_to SHEET_NUMBERS (sheet_number v link regions)) ns (Ok tt)
  unfolding sheet_in_range
  sheet-end ns S = record {
    numbers_are = numbers_are ns SHEET_NUMBERS (sheet_number v link regions) S.long (λ i l. S.numbers i (omega arith));
    in_range_is = rw (
      all-pass CLASSES (caches_in_range v link regions) S.caches,
      S.requests (omega arith),
      S.opened (omega arith),
    );
    out_of_range = tt;
  }
