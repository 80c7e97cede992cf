-- docs/POOL.md, "Reports"
-- What the functions of the sheet ensure.
use Rattle.std.specs.Prelude.{◌≡◌, Bool, true, false, cond, List, ℕ, ◌+◌, ◌*◌, ◌<◌, ltb, length, get_or}
use Rattle.std.specs.Prelude.{IfOk, OnOk, OnErr}
use Rattle.std.specs.declared.result.Result.{Result}
use Rattle.limits.specs.Limits.{REGIONS}
use Rattle.limits.specs.declared.index.OutOfRange.{OutOfRange}
use Rattle.fields.specs.Columns.{View}
use Rattle.report_regions.specs.Opened.{opened_of, is_inside, regions_in_range}
use Rattle.sheet.specs.Sheet.{COLUMNS, four_with}

-- whether what is read of the region r is in its range; of one that is not in the area nothing is read
unfoldable pub region_fits : View → ℕ → ℕ → Bool
region_fits v regions r = cond (ltb r regions) (is_inside (opened_of v regions r)) true

-- the numbers of the class c and the region r, where so many blocks are in caches and with requests
pub record FourAre (v : View) (regions caches requests c r : ℕ) (x : Result (List ℕ) OutOfRange) : Type 0 where
  pub passed : OnOk x (region_fits v regions r ≡ true)
  pub failed : OnErr x (region_fits v regions r ≡ false)
  pub numbers : IfOk x (λ four. four ≡ four_with v regions caches requests c r)

-- where the numbers of the class c and the region r begin
abbrev pub place_of : ℕ → ℕ → ℕ
place_of c r = COLUMNS * (REGIONS * c + r)

-- the numbers of the class c are filled in, where the regions have so many blocks in caches and with requests; those of
-- the classes before it are kept
pub record RowsAre {A : Type 0} (v : View) (regions : ℕ) (caches requests : List ℕ) (c : ℕ) (before after : List ℕ)
    (ended : Result A OutOfRange) : Type 0 where
  pub passed : OnOk ended (regions_in_range v regions ≡ true)
  pub failed : OnErr ended (regions_in_range v regions ≡ false)
  pub kept_length : length after ≡ length before
  pub kept : (i : ℕ) → i < place_of c 0 → get_or after i 0 ≡ get_or before i 0
  pub rows : OnOk ended ((r j : ℕ) → r < REGIONS → j < COLUMNS
      → get_or after (place_of c r + j) 0
      ≡ get_or (four_with v regions (get_or caches r 0) (get_or requests r 0) c r) j 0)
