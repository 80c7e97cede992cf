-- What is read for the keepers, test by test.
use mathlib.Core.Path.{◌≡◌, refl}
use mathlib.Core.Bool.{true, false, ◌&&◌, and-false}
use Prim.Native.Nat.{ℕ, ◌<◌}
use Rattle.limits.specs.Limits.{TASKS, CLASSES}
use Rattle.fields.specs.Columns.{View}
use Rattle.stepped.proofs.Conjunction.{both}
use Rattle.reports.specs.Passing.{all_pass}
use Rattle.reports.proofs.Passing.{each-passes}
use Rattle.report_caches.specs.CacheRows.{is_cache, caches_in_range}
use Rattle.report_requests.specs.UnderWay.{requests_in_range}
use Rattle.report_requests.specs.OneRegion.{held_regions_in_range}
use Rattle.report_regions.specs.Opened.{regions_in_range}
use Rattle.report_regions.specs.SpareList.{is_spare_list}
use Rattle.sheet.specs.Sheet.{sheet_in_range}
use Rattle.keepers.specs.Keepers.{read_in_range}

module _ (v : View) (link : ℕ → ℕ) (regions : ℕ) where
  -- what the sheet reads is out of its range,
  pub sheet-fails : sheet_in_range v link regions ≡ false → read_in_range v link regions ≡ false
  unfolding read_in_range
  sheet-fails e = rw e

  -- or a cache is,
  pub caches-fail : all_pass CLASSES (caches_in_range v link regions) ≡ false → read_in_range v link regions ≡ false
  unfolding read_in_range sheet_in_range
  caches-fail e = rw e

  -- or a region that a task has itself
  pub held-fails : held_regions_in_range v regions ≡ false → read_in_range v link regions ≡ false
  unfolding read_in_range
  held-fails e = rw e (and-false (sheet_in_range v link regions))

  -- all else is in its range, and the list of spare regions tells
  pub spares-tell : all_pass CLASSES (caches_in_range v link regions) ≡ true → requests_in_range v regions ≡ true
      → regions_in_range v regions ≡ true → held_regions_in_range v regions ≡ true
      → is_spare_list v regions ≡ read_in_range v link regions
  unfolding read_in_range sheet_in_range
  spares-tell caches requests opened held = rw (caches, requests, opened, held) refl

  -- ---- what is in its range

  module _ (fits : read_in_range v link regions ≡ true) where
    parts :
        (sheet_in_range v link regions ≡ true) × ((held_regions_in_range v regions && is_spare_list v regions) ≡ true)
    unfolding read_in_range
    parts = both (sheet_in_range v link regions) (held_regions_in_range v regions && is_spare_list v regions) fits

    -- the list of spare regions
    pub list-fits : is_spare_list v regions ≡ true
    list-fits = (both (held_regions_in_range v regions) (is_spare_list v regions) parts.1).1

    -- each cache
    pub cache-fits : (t c : ℕ) → t < TASKS → c < CLASSES → is_cache v link regions t c ≡ true
    unfolding sheet_in_range caches_in_range
    cache-fits t c task class =
        let all =
        (both (all_pass CLASSES (caches_in_range v link regions))
        (requests_in_range v regions && regions_in_range v regions) parts.0).0 in
        each-passes TASKS (λ t. is_cache v link regions t c) (each-passes CLASSES (caches_in_range v link regions) all c
        class) t task
