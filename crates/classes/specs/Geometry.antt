-- docs/POOL.md, "Classes"
-- Where the blocks of a class lie in a region.
use Rattle.std.specs.Prelude.{◌≡◌, Bool, ◌&&◌, ℕ, ◌+◌, ◌*◌, ◌/◌, ◌%◌, ◌≤◌, ◌<◌, ltb, eqb}
use Rattle.limits.specs.Limits.{UNIT_BYTES, REGION_UNITS}
use Rattle.classes.specs.Classes.{ALIGNMENT, units, block, per_region}

-- a block is named by its first unit: that of block i of region r, whose blocks are of class c
abbrev pub unit_of : ℕ → ℕ → ℕ → ℕ
unit_of r c i = REGION_UNITS * r + units c * i

-- the region that unit u lies in
abbrev pub region_of : ℕ → ℕ
region_of u = u / REGION_UNITS

-- a block's index in its region, by which a chain links it, from its first unit
abbrev pub index_of : ℕ → ℕ → ℕ
index_of c u = u % REGION_UNITS / units c

-- u is the first unit of one of the n blocks of class c in its region; what is left over at the end is no block
unfoldable pub is_first : ℕ → ℕ → Bool
is_first c u = eqb (u % REGION_UNITS % units c) 0 && ltb (index_of c u) (per_region c)

-- u names a block of class c in region r: the one at an index below n
pub record BlockOf (r c u : ℕ) : Type 0 where
  pub at : ℕ
  pub below : at < per_region c
  pub is : u ≡ unit_of r c at

-- "every block of 16 bytes or more to start at a multiple of 16" (the request for the new processor): a block of class
-- c that begins at unit u does so, counted in bytes of the area
abbrev pub Aligned : ℕ → ℕ → Type 0
Aligned c u = ALIGNMENT ≤ block c → UNIT_BYTES * u % ALIGNMENT ≡ 0
