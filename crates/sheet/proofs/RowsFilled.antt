-- The rows of a class, region by region.
use mathlib.Core.Path.{◌≡◌, refl, sym, ap, ◌∙◌}
use mathlib.Core.Bool.{true, false, true≢false}
use mathlib.Core.List.{List}
use Prim.Native.Nat.{ℕ, ◌+◌, ◌≤◌, ◌<◌}
use native.Mathlib.Omega.{arith}
use borrow.Author.Tests.{lt-ltb, le-ltb}
use borrow.Rule.Slice.PartMut.{put_mid}
use lib.ListN.{length, get_or}
use Rattle.std.specs.Prelude.{Ok, Err}
use Rattle.limits.specs.declared.index.OutOfRange.{OutOfRange}
use Rattle.limits.specs.Limits.{REGIONS, CLASSES}
use Rattle.rows.specs.Comparisons.{same, other, same?, before, after, order?}
use Rattle.fields.specs.Columns.{View}
use Rattle.report_regions.specs.Opened.{opened_of, is_inside, regions_in_range}
use Rattle.reports.proofs.Passing.{all-pass, one-fails}
use Rattle.sheet.specs.Sheet.{COLUMNS, SHEET_NUMBERS, four_with}
use Rattle.sheet.specs.Filling.{region_fits, FourAre, place_of, RowsAre}
use Rattle.sheet.proofs.FourNumbers.{four-long, four-length, four-elsewhere, four-there}

-- ---- whether what is read of the regions is in its range

module _ (v : View) (regions : ℕ) where
  -- of a region of the area
  pub fits-inside : (r : ℕ) → r < regions → region_fits v regions r ≡ is_inside (opened_of v regions r)
  unfolding region_fits
  fits-inside r l = rw (lt-ltb r regions l)

  -- of one that is not in it
  pub fits-beyond : (r : ℕ) → regions ≤ r → region_fits v regions r ≡ true
  unfolding region_fits
  fits-beyond r l = rw (le-ltb r regions l)

  -- it is, where that of each of the 16 is
  pub all_fit : regions ≤ REGIONS → ((r : ℕ) → r < REGIONS → region_fits v regions r ≡ true)
      → regions_in_range v regions ≡ true
  unfolding regions_in_range
  all_fit small h =
      all-pass regions (λ r. is_inside (opened_of v regions r))
      (λ r l. sym (fits-inside r l) ∙ h r (omega arith))

  -- it is not, where that of one is not
  pub one-does-not : (r : ℕ) → region_fits v regions r ≡ false → regions_in_range v regions ≡ false
  unfolding regions_in_range
  one-does-not r e = elim (order? r regions) [
    | before l ↦ one-fails regions (λ r. is_inside (opened_of v regions r)) r l (sym (fits-inside r l) ∙ e)
    | after l ↦ absurd (true≢false (sym (fits-beyond r l) ∙ e))
  ]

-- ---- the rows of the regions before r are filled in

pub record RowsTo (v : View) (regions : ℕ) (caches requests : List ℕ) (c : ℕ) (before : List ℕ) (r : ℕ) (ns : List ℕ)
    : Type 0 where
  pub fit : (z : ℕ) → z < r → region_fits v regions z ≡ true
  pub kept_length : length ns ≡ length before
  pub kept : (i : ℕ) → i < place_of c 0 → get_or ns i 0 ≡ get_or before i 0
  pub rows : (z j : ℕ) → z < r → j < COLUMNS
      → get_or ns (place_of c z + j) 0 ≡ get_or (four_with v regions (get_or caches z 0) (get_or requests z 0) c z) j 0

module _ (v : View) (regions : ℕ) (caches requests : List ℕ) (c : ℕ) (before : List ℕ) where
  -- none is
  pub rows-begin : RowsTo v regions caches requests c before 0 before
  rows-begin = record {
    fit = λ z l. absurd (omega arith);
    kept_length = refl;
    kept = λ i l. refl;
    rows = λ z j l. absurd (omega arith);
  }

  -- one more is
  pub rows_next : (r : ℕ) {ns four : List ℕ} → c < CLASSES → r < REGIONS → length before ≡ SHEET_NUMBERS
      → RowsTo v regions caches requests c before r ns
      → FourAre v regions (get_or caches r 0) (get_or requests r 0) c r (Ok four)
      → RowsTo v regions caches requests c before (r + 1) (put_mid (place_of c r) COLUMNS ns four)
  rows_next r {ns} {four} class region long R F =
      let at = place_of c r in
      let there : at + COLUMNS ≤ length ns = omega (arith, R.kept_length) in
      let all : length four ≡ COLUMNS =
      ap length F.numbers ∙ four-long v regions (get_or caches r 0) (get_or requests r 0) c r
      in
      record {
        fit = λ z l. elim (same? z r) [
          | same e ↦ rw e F.passed
          | other d ↦ R.fit z (omega arith)
        ];
        kept_length = four-length ns four at COLUMNS there all ∙ R.kept_length;
        kept = λ i l. four-elsewhere ns four at COLUMNS there all i (λ h. omega arith) ∙ R.kept i l;
        rows = λ z j l h. elim (same? z r) [
          | same e ↦ rw e (four-there ns four at COLUMNS there all j h
              ∙ ap (λ (q : List ℕ). get_or q j 0) F.numbers)
          | other d ↦
              four-elsewhere ns four at COLUMNS there all (place_of c z + j) (λ g. omega arith)
              ∙ R.rows z j (omega arith) h
        ];
      }

  -- a region that is out of its range
  pub rows-fail : (r : ℕ) {ns : List ℕ} (e : OutOfRange) → RowsTo v regions caches requests c before r ns
      → FourAre v regions (get_or caches r 0) (get_or requests r 0) c r (Err e)
      → RowsAre {A = Unit {0}} v regions caches requests c before ns (Err e)
  rows-fail r e R F = record {
    passed = tt;
    failed = one-does-not v regions r F.failed;
    kept_length = R.kept_length;
    kept = R.kept;
    rows = tt;
  }

  -- all are
  pub rows_end : {ns : List ℕ} → regions ≤ REGIONS → RowsTo v regions caches requests c before REGIONS ns
      → RowsAre {A = Unit {0}} v regions caches requests c before ns (Ok tt)
  rows_end small R = record {
    passed = all_fit v regions small R.fit;
    failed = tt;
    kept_length = R.kept_length;
    kept = R.kept;
    rows = R.rows;
  }
