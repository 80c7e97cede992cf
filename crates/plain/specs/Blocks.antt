-- docs/POOL.md, "The plain pool"
-- The blocks of a region as a row.
use Rattle.std.specs.Prelude.{List, ◌∷◌, [], ℕ, zero, suc}
use Rattle.rows.specs.Counting.{count}
use Rattle.classes.specs.Classes.{per_region}
use Rattle.classes.specs.Geometry.{unit_of}

-- k blocks of the region r, whose blocks are of class c, from block i on
abbrev pub blocks_from : ℕ → ℕ → ℕ → ℕ → List ℕ
blocks_from r c i zero = []
blocks_from r c i (suc k) = unit_of r c i ∷ blocks_from r c (suc i) k

-- how often the unit v stands among the n blocks of class c of the region r: 1 if it is one of them, else 0
unfoldable pub count_block : ℕ → ℕ → ℕ → ℕ
count_block v r c = count v (blocks_from r c 0 (per_region c))
