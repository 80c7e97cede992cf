-- docs/POOL.md, "Classes"
-- The classes of blocks.
use Rattle.std.specs.Prelude.{List, [], ◌∷◌, ℕ, ◌*◌, ◌/◌, get_or}
use Rattle.limits.specs.Limits.{UNIT_BYTES, REGION_BYTES, LARGEST_SIZE, MOST_BLOCKS}

-- "classes above 8 are those members of the series that are multiples of 16" (the request for the new processor): the
-- bytes of a block of each class
abbrev pub block_sizes : List ℕ
block_sizes = 8 ∷ 16 ∷ 32 ∷ 48 ∷ 64 ∷ 80 ∷ 96 ∷ 112 ∷ 128 ∷ 160 ∷ 192 ∷ 224 ∷ 256 ∷ []

-- "n per class is unchanged": the paper's row "n, per region", for these blocks
abbrev pub block_counts : List ℕ
block_counts = 512 ∷ 256 ∷ 128 ∷ 85 ∷ 64 ∷ 51 ∷ 42 ∷ 36 ∷ 32 ∷ 25 ∷ 21 ∷ 18 ∷ 16 ∷ []

-- the block of class 0, the smallest
abbrev pub SMALLEST_SIZE : ℕ
SMALLEST_SIZE = 8

-- "every block of 16 bytes or more to start at a multiple of 16" (the request for the new processor): that number
abbrev pub ALIGNMENT : ℕ
ALIGNMENT = 16

-- the units of the largest block
abbrev pub LARGEST_UNITS : ℕ
LARGEST_UNITS = LARGEST_SIZE / UNIT_BYTES

-- how many blocks of the largest class a region has
abbrev pub LEAST_BLOCKS : ℕ
LEAST_BLOCKS = REGION_BYTES / LARGEST_SIZE

-- a block of class c in units. Past the table it is that of class 0, so that laws hold for every c
unfoldable pub units : ℕ → ℕ
units c = get_or block_sizes c SMALLEST_SIZE / UNIT_BYTES

-- a block of class c in bytes
abbrev pub block : ℕ → ℕ
block c = UNIT_BYTES * units c

-- how many blocks of class c a region has, n. Past the table it is that of class 0, so that laws hold for every c
unfoldable pub per_region : ℕ → ℕ
per_region c = get_or block_counts c MOST_BLOCKS
