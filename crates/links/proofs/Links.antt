-- Links of different blocks do not meet, and a byte outside a link leaves it.
use mathlib.Core.Path.{◌≡◌, refl, ◌∙◌}
use mathlib.Core.Logic.{◌≢◌}
use mathlib.Core.List.{List, [], ◌∷◌}
use Prim.Native.Nat.{ℕ, ◌+◌, ◌*◌, ◌≤◌, ◌<◌, ◌^◌}
use native.Mathlib.Omega.{arith}
use lib.ListN.{length, get_or, set}
use Rattle.limits.specs.Limits.{UNIT_BYTES, REGION_BYTES, REGION_UNITS}
use Rattle.fields.specs.Little.{Bytes}
use Rattle.fields.proofs.Little.{get_le-same, get_le-lt, length-set_le, bytes-set_le}
use borrow.Rule.Slice.PartMut.{mid_of, put_mid}
use Rattle.fields.proofs.LentPart.{set_le-part}
use Rattle.fields.proofs.Elsewhere.{get_le-other, get_le-set-other, get_d-other}
use Rattle.links.specs.Link.{LINK_BYTES, link, with_link, LinkWrite, ◌⇒◌, with_links}

-- a link that was written is read back
pub link-same : (area : List ℕ) (u x : ℕ) → UNIT_BYTES * u + LINK_BYTES ≤ length area → x < 256 ^ LINK_BYTES
    → link (with_link area u x) u ≡ x
link-same area u x h k = get_le-same area (UNIT_BYTES * u) LINK_BYTES x h k

-- the write of one link leaves that of every other unit
pub link-other : (area : List ℕ) (u x v : ℕ) → v ≢ u → link (with_link area u x) v ≡ link area v
link-other area u x v n = get_le-other area (UNIT_BYTES * u) LINK_BYTES x (UNIT_BYTES * v) LINK_BYTES (λ h. omega arith)

-- one byte that is changed outside a link leaves the link
pub link-byte : (area : List ℕ) (p b v : ℕ) → (UNIT_BYTES * v ≤ p → UNIT_BYTES * v + LINK_BYTES ≤ p)
    → link (set area p b) v ≡ link area v
link-byte area p b v h = get_le-set-other area p b (UNIT_BYTES * v) LINK_BYTES h

-- the write of a link leaves every byte outside it
pub byte-other : (area : List ℕ) (u x p : ℕ) → (p < UNIT_BYTES * u + LINK_BYTES → p < UNIT_BYTES * u)
    → get_or (with_link area u x) p 0 ≡ get_or area p 0
byte-other area u x p h = get_d-other area (UNIT_BYTES * u) LINK_BYTES x p h

-- a link that is read from bytes has 32 bits
pub link-lt : (area : List ℕ) (u : ℕ) → Bytes area → link area u < 256 ^ LINK_BYTES
link-lt area u h = get_le-lt area (UNIT_BYTES * u) LINK_BYTES h

-- a link written in a region's own part of the area is that of the unit counted from the area's first
pub link-part : (area : List ℕ) (r k u x : ℕ) → k ≡ REGION_BYTES → u < REGION_UNITS
    → put_mid (REGION_BYTES * r) k area (with_link (mid_of (REGION_BYTES * r) k area) u x)
    ≡ with_link area (REGION_UNITS * r + u) x
link-part area r k u x e h =
    let m : UNIT_BYTES * (REGION_UNITS * r + u) ≡ REGION_BYTES * r + UNIT_BYTES * u = omega arith in
    rw m (set_le-part area (REGION_BYTES * r) k (UNIT_BYTES * u) LINK_BYTES x (omega arith))

-- link writes keep the area's length
pub length-linked : (ls : List LinkWrite) (area : List ℕ) → length (with_links ls area) ≡ length area
length-linked [] area = refl
length-linked ((u ⇒ x) ∷ ls) area =
    length-linked ls (with_link area u x) ∙ length-set_le area (UNIT_BYTES * u) LINK_BYTES x

-- link writes leave bytes
pub bytes-linked : (ls : List LinkWrite) (area : List ℕ) → Bytes area → Bytes (with_links ls area)
bytes-linked [] area h = h
bytes-linked ((u ⇒ x) ∷ ls) area h =
    bytes-linked ls (with_link area u x) (bytes-set_le area (UNIT_BYTES * u) LINK_BYTES x h)
