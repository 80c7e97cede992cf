-- docs/POOL.md, "Links, chains and caches"
-- "A free block's first four bytes, low byte first, hold a link."
use Rattle.std.specs.Prelude.{ℕ, ◌*◌, List, [], ◌∷◌}
use Rattle.limits.specs.Limits.{UNIT_BYTES}
use Rattle.fields.specs.Little.{get_le, set_le}

-- "first four bytes"
abbrev pub LINK_BYTES : ℕ
LINK_BYTES = 4

-- the link of the block whose first unit is u
abbrev pub link : List ℕ → ℕ → ℕ
link area u = get_le area (UNIT_BYTES * u) LINK_BYTES

-- the area with the link of the block at u written
abbrev pub with_link : List ℕ → ℕ → ℕ → List ℕ
with_link area u x = set_le area (UNIT_BYTES * u) LINK_BYTES x

-- the block at a unit gets a link
pub data LinkWrite : Type 0 where
  ◌⇒◌ : ℕ → ℕ → LinkWrite

infix 68 ◌⇒◌
-- the area after a list of link writes, in their order
abbrev pub with_links : List LinkWrite → List ℕ → List ℕ
with_links [] area = area
with_links ((u ⇒ x) ∷ ls) area = with_links ls (with_link area u x)
