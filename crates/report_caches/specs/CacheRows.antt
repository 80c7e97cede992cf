-- docs/POOL.md, "Reports"
-- The blocks in the caches of a class, by region, and the lowest of them. A cache is a row: its top, and below each
-- block the one that its link names.
use Rattle.std.specs.Prelude.{Bool, cond, ◌&&◌, List, [], ◌∷◌, ℕ, zero, suc, ltb, leb, eqb}
use Rattle.limits.specs.Limits.{UNITS, TASKS}
use Rattle.rows.specs.Totals.{total}
use Rattle.rows.specs.Linked.{walk}
use Rattle.fields.specs.Columns.{View}
use Rattle.classes.specs.Classes.{per_region}
use Rattle.classes.specs.Geometry.{region_of}
use Rattle.control.specs.Layout.{CacheTop, CacheCount}
use Rattle.stepped.specs.Ranges.{is_block}
use Rattle.reports.specs.Passing.{all_pass}
use Rattle.reports.specs.ByRegion.{in_region}

-- whether u is the top of k cached blocks of the class c, down to the bottom: a block's link is "the unit of the block
-- below, with 8,192 at the bottom"
unfoldable pub is_cache_row : (ℕ → ℕ) → ℕ → ℕ → ℕ → ℕ → Bool
is_cache_row link regions c zero u = eqb u UNITS
is_cache_row link regions c (suc k) u = is_block regions c u && is_cache_row link regions c k (link u)

-- a row of k cached blocks with the top u
abbrev pub row_from : (ℕ → ℕ) → ℕ → ℕ → List ℕ
row_from link u k = walk link (λ x. x) u k

-- the row of the cache of the task t for the class c
abbrev pub cache_row : View → (ℕ → ℕ) → ℕ → ℕ → List ℕ
cache_row v link t c = row_from link (v (CacheTop t c)) (v (CacheCount t c))

-- whether that cache is in range: its count does not pass n, its top and the links below name blocks of the class in
-- the area, and the last one is the bottom
unfoldable pub is_cache : View → (ℕ → ℕ) → ℕ → ℕ → ℕ → Bool
is_cache v link regions t c =
    leb (v (CacheCount t c)) (per_region c) && is_cache_row link regions c (v (CacheCount t c)) (v (CacheTop t c))

-- whether the caches of all eight tasks for the class c are in range, also of those that are not started, as the
-- comparison reads them
unfoldable pub caches_in_range : View → (ℕ → ℕ) → ℕ → ℕ → Bool
caches_in_range v link regions c = all_pass TASKS (λ t. is_cache v link regions t c)

-- "in caches": how many blocks of the region r the caches of all eight tasks for the class c have
unfoldable pub blocks_in_caches : View → (ℕ → ℕ) → ℕ → ℕ → ℕ
blocks_in_caches v link c r = total TASKS (λ t row. in_region r row) (λ t. cache_row v link t c)

-- the block u, where it lies in the region r and below `low`; else `low`
unfoldable pub lower_of : ℕ → ℕ → ℕ → ℕ
lower_of r u low = cond (eqb (region_of u) r && ltb u low) u low

-- the lowest of `low` and the blocks of a row that lie in the region r
unfoldable pub lowest_in : ℕ → List ℕ → ℕ → ℕ
lowest_in r [] low = low
lowest_in r (u ∷ q) low = lowest_in r q (lower_of r u low)

-- the lowest block of the region r that the cache of the task t for the class c has, by its unit; 8,192, which is no
-- block's unit, where it has none there
unfoldable pub lowest_cached : View → (ℕ → ℕ) → ℕ → ℕ → ℕ → ℕ
lowest_cached v link t c r = lowest_in r (cache_row v link t c) UNITS
