-- Laws of blocks counted by region.
use mathlib.Core.Path.{◌≡◌}
use mathlib.Core.List.{List, [], ◌∷◌}
use Prim.Native.Nat.{ℕ, ◌+◌, ◌≤◌, ◌<◌}
use native.Mathlib.Omega.{arith}
use lib.ListN.{length, get_or, set}
use lib.Seq.{get_or-set_same, get_or-set_other}
use Rattle.rows.specs.Comparisons.{same, other, same?}
use Rattle.rows.specs.Weights.{when}
use Rattle.rows.proofs.Weights.{when-same, when-other, when-max}
use Rattle.classes.specs.Geometry.{region_of}
use Rattle.reports.specs.ByRegion.{in_region}

-- a region has at most all blocks of a row
pub region-max : (r : ℕ) (q : List ℕ) → in_region r q ≤ length q
region-max r [] = omega arith
region-max r (u ∷ q) = omega (arith, when-max r (region_of u) 1, region-max r q)

-- n blocks more of the region z are counted there, and nowhere else
pub count-grows : (counts : List ℕ) (z n r : ℕ) → z < length counts
    → get_or (set counts z (get_or counts z 0 + n)) r 0 ≡ get_or counts r 0 + when r z n
count-grows counts z n r l =
    let grown = get_or counts z 0 + n in
    elim (same? r z) [
      | same e ↦ rw (e, get_or-set_same counts z grown 0 l, when-same z n)
      | other d ↦ rw (get_or-set_other counts z r grown 0 d, when-other r z n d) (omega arith)
    ]
