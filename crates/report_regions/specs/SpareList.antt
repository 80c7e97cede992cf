-- docs/POOL.md, "Reports"
-- The list of spare regions, read from its head on: an item is a region's number plus one, and 0 is the end.
use Rattle.std.specs.Prelude.{Bool, false, not, ◌&&◌, ◌||◌, ℕ, zero, suc, ◌-◌, leb, eqb}
use Rattle.limits.specs.Limits.{SPARE_REGIONS}
use Rattle.words.specs.Head.{item_of}
use Rattle.fields.specs.Columns.{View}
use Rattle.control.specs.Layout.{Head, RegionNext}

-- whether the list from the item x on has regions of the area alone, and ends after at most n of them
unfoldable pub is_list_from : View → ℕ → ℕ → ℕ → Bool
is_list_from v regions zero x = eqb x 0
is_list_from v regions (suc n) x = eqb x 0 || (leb x regions && is_list_from v regions n (v (RegionNext (x - 1))))

-- whether the region r is one of the first n items from x on
unfoldable pub is_on_from : View → ℕ → ℕ → ℕ → Bool
is_on_from v r zero x = false
is_on_from v r (suc n) x = not (eqb x 0) && (eqb (x - 1) r || is_on_from v r n (v (RegionNext (x - 1))))

-- whether the list of spare regions is in its range: each item is a region of the area, and it ends; each region
-- can stand on it once, so that it has no more items than the area has regions
unfoldable pub is_spare_list : View → ℕ → Bool
is_spare_list v regions = is_list_from v regions regions (item_of (v (Head SPARE_REGIONS)))

-- "the spare list" (the request for the region's keepers): whether the region r is on it
unfoldable pub is_spare : View → ℕ → ℕ → Bool
is_spare v regions r = is_on_from v r regions (item_of (v (Head SPARE_REGIONS)))
