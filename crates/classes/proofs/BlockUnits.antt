-- Where the blocks of a class lie: their first units, indexes and regions.
use mathlib.Core.Path.{◌≡◌, refl, sym, ap, subst⁻¹, ◌∙◌}
use mathlib.Core.Bool.{true, and-eq-true_iff}
use Prim.Native.Nat.{ℕ, ◌+◌, ◌*◌, ◌/◌, ◌%◌, ◌≤◌, ◌<◌}
use native.Mathlib.Omega.{arith}
use native.Mathlib.Decide.{dec_lt}
use native.Mathlib.Nat.{mul_assoc, mul-le-mul_left, mul-div_cancel_left, mul-mod_right, div-add-mod}
use lib.Dec.{ltb, eqb}
use borrow.Author.Tests.{eq-eqb, lt-ltb, eqb-true, ltb-true}
use Rattle.limits.specs.Limits.{UNIT_BYTES, REGION_BYTES, REGION_UNITS, REGIONS, UNITS}
use Rattle.classes.specs.Classes.{ALIGNMENT, units, block, per_region}
use Rattle.classes.specs.Geometry.{unit_of, region_of, index_of, is_first, BlockOf, Aligned}
use Rattle.classes.proofs.Tables.{units-low, fits, aligned-size}

-- block i of region r is a block
abbrev pub block_at : (r c i : ℕ) → i < per_region c → BlockOf r c (unit_of r c i)
block_at r c i h = record { at = i; below = h; is = refl }

-- a block stays in its region
pub inside : {r c u : ℕ} → BlockOf r c u
    → (REGION_UNITS * r ≤ u) × (u + units c ≤ REGION_UNITS * r + REGION_UNITS)
inside {c = c} b = omega (arith, mul-le-mul_left (units c) b.below, b.is, fits c)

-- the bytes of a block stay in the area, if its region is one of the area's
pub in-area : {r c u : ℕ} (regions : ℕ) → BlockOf r c u → r < regions
    → UNIT_BYTES * u + block c ≤ REGION_BYTES * regions
in-area regions b h = omega (arith, inside b)

-- a block's name is one of 0 to 8,191, as the area has at most 16 regions
pub unit-below : {r c u : ℕ} → BlockOf r c u → r < REGIONS → u < UNITS
unit-below {c = c} b h = omega (arith, inside b, units-low c)

-- two blocks of one region do not overlap
pub apart : {r c u v : ℕ} → BlockOf r c u → BlockOf r c v → u < v → u + units c ≤ v
apart {c = c} b d h = elim (dec_lt b.at d.at) [
  | yes e ↦ omega (arith, mul-le-mul_left (units c) e, b.is, d.is)
  | no e ↦ (let f : d.at ≤ b.at = omega arith in
      absurd (omega (arith, mul-le-mul_left (units c) f, b.is, d.is)))
]

-- the units that stand before a block in its region
offset-is : {r c u : ℕ} (b : BlockOf r c u) → u % REGION_UNITS ≡ units c * b.at
offset-is {c = c} b = omega (arith, inside b, units-low c, b.is)

-- a block's first unit gives its region
pub region-is : {r c u : ℕ} → BlockOf r c u → region_of u ≡ r
region-is {c = c} b = omega (arith, inside b, units-low c)

-- a block's first unit gives its index
pub index_is : {r c u : ℕ} (b : BlockOf r c u) → index_of c u ≡ b.at
index_is {c = c} b = rw (offset-is b) (mul-div_cancel_left b.at (units-low c))

-- a block's index is below n
pub index_below : {r c u : ℕ} → BlockOf r c u → index_of c u < per_region c
index_below b = rw (index_is b) b.below

-- from a block's unit to its index and back
pub unit-again : {r c u : ℕ} → BlockOf r c u → unit_of r c (index_of c u) ≡ u
unit-again b = rw (index_is b) (sym b.is)

-- from a region and an index to the unit, and back to the region
pub region-again : (r c i : ℕ) → i < per_region c → region_of (unit_of r c i) ≡ r
region-again r c i h = region-is (block_at r c i h)

-- from a region and an index to the unit, and back to the index
pub index-again : (r c i : ℕ) → i < per_region c → index_of c (unit_of r c i) ≡ i
index-again r c i h = index_is (block_at r c i h)

-- different regions or indexes have different units
pub same_block : (r q c i k : ℕ) → i < per_region c → k < per_region c
    → unit_of r c i ≡ unit_of q c k → (r ≡ q) × (i ≡ k)
same_block r q c i k h j e = (
  sym (region-again r c i h) ∙ ap region_of e ∙ region-again q c k j,
  sym (index-again r c i h) ∙ ap (index_of c) e ∙ index-again q c k j,
)

-- the test of a first unit passes only at a block
pub first_block : (c u : ℕ) → is_first c u ≡ true → BlockOf (region_of u) c u
unfolding is_first
first_block c u e =
    let t = (and-eq-true_iff (eqb (u % REGION_UNITS % units c) 0) (ltb (index_of c u) (per_region c))).0 e in
    let z : u % REGION_UNITS % units c ≡ 0 = eqb-true (u % REGION_UNITS % units c) 0 t.0 in
    record {
      at = index_of c u;
      below = ltb-true (index_of c u) (per_region c) t.1;
      is = omega (arith, div-add-mod (u % REGION_UNITS) (units c));
    }

-- the test of a first unit passes at every block
pub block-first : {r c u : ℕ} → BlockOf r c u → is_first c u ≡ true
unfolding is_first
block-first {c = c} {u} b =
    let z : u % REGION_UNITS % units c ≡ 0 = rw (offset-is b) (mul-mod_right (units c) b.at) in
    rw (eq-eqb (u % REGION_UNITS % units c) 0 z, lt-ltb (index_of c u) (per_region c) (index_below b))

-- every block of 16 bytes or more begins at a multiple of 16 bytes of the area, in each region, class and index
pub aligned : (r c i : ℕ) → Aligned c (unit_of r c i)
aligned r c i h =
    let k = block c / ALIGNMENT in
    let e : units c ≡ 2 * k = omega (arith, aligned-size c h, div-add-mod (block c) ALIGNMENT) in
    let f : units c * i ≡ 2 * (k * i) = ap (λ (n : ℕ). n * i) e ∙ mul_assoc 2 k i in
    omega (arith, f)

-- the same of a block by its first unit
pub block-aligned : {r c u : ℕ} → BlockOf r c u → Aligned c u
block-aligned {r} {c} b = subst⁻¹ (Aligned c) b.is (aligned r c b.at)
