-- A link that is written lies in the area.
use mathlib.Core.Path.{◌≡◌}
use Prim.Native.Nat.{ℕ, ◌+◌, ◌*◌, ◌≤◌, ◌<◌}
use native.Mathlib.Omega.{arith}
use Rattle.limits.specs.Limits.{REGION_BYTES, UNIT_BYTES}
use Rattle.classes.specs.Classes.{per_region}
use Rattle.classes.specs.Geometry.{unit_of}
use Rattle.classes.proofs.Tables.{units-low}
use Rattle.classes.proofs.BlockUnits.{block_at, in-area}

-- the link of a block of a region lies in the area
pub link-inside : {u size : ℕ} (regions r c i : ℕ) → u ≡ unit_of r c i → r < regions → i < per_region c
    → size ≡ REGION_BYTES * regions
    → UNIT_BYTES * u + UNIT_BYTES ≤ size
link-inside regions r c i e h k l = omega (arith, e, in-area regions (block_at r c i k) h, units-low c)
