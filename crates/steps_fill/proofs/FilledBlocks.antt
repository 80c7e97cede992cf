-- Where the blocks lie that a step puts on the cache.
use mathlib.Core.Path.{◌≡◌}
use mathlib.Core.Bool.{true}
use mathlib.Core.List.{List}
use Prim.Native.Nat.{ℕ, ◌+◌, ◌*◌, ◌≤◌, ◌<◌}
use native.Mathlib.Omega.{arith}
use borrow.Author.Tests.{ltb-true}
use lib.Dec.{ltb}
use lib.ListN.{length}
use Rattle.limits.specs.Limits.{UNIT_BYTES, REGION_UNITS, REGIONS, UNITS, MOST_BLOCKS}
use Rattle.classes.specs.Classes.{units, per_region}
use Rattle.classes.specs.Geometry.{unit_of}
use Rattle.classes.proofs.Tables.{units-low, per_region-high}
use Rattle.classes.proofs.BlockUnits.{block_at, inside}
use Rattle.stepped.specs.Done.{AreaOf}

-- i is the index of a block of the class c, of which a region has n
module _ (c i : ℕ) {n : ℕ} (f : n ≡ per_region c) (h : ltb i n ≡ true) where
  -- and so it is below n
  pub index-below : i < per_region c
  index-below = omega (arith, f, ltb-true i n h)

  -- it fits two bytes
  pub index-small : i < MOST_BLOCKS
  index-small = omega (arith, index-below, per_region-high c)

  -- the block and its link stay in its region
  pub offset-inside : units c * i < REGION_UNITS
  offset-inside = omega (arith, inside (block_at 0 c i index-below), units-low c)

  -- the block's unit u fits two bytes
  pub unit-small : {u : ℕ} (r : ℕ) → u ≡ unit_of r c i → r < REGIONS → u < UNITS
  unit-small r e l = omega (arith, e, l, offset-inside)

  -- the link of the block's unit u stays in the area
  pub link-inside : {u regions : ℕ} (r : ℕ) (a : List ℕ) → u ≡ unit_of r c i → r < regions → AreaOf regions a
      → UNIT_BYTES * u + UNIT_BYTES ≤ length a
  link-inside r a e l g = omega (arith, e, l, g, offset-inside)
