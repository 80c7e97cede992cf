-- The blocks of a region as a row: each block stands in it once, and nothing else does.
use mathlib.Core.Path.{◌≡◌, refl, ap}
use mathlib.Core.Logic.{◌≢◌}
use Prim.Native.Nat.{ℕ, zero, suc, ◌+◌, ◌%◌, ◌≤◌, ◌<◌}
use native.Mathlib.Omega.{arith}
use native.Mathlib.Nat.{div-add-mod, mul-le-mul_left}
use lib.ListN.{length}
use Rattle.limits.specs.Limits.{REGION_UNITS}
use Rattle.rows.specs.Comparisons.{same, other, same?, before, after, order?}
use Rattle.rows.specs.Weights.{one}
use Rattle.rows.specs.Counting.{count}
use Rattle.rows.proofs.Weights.{when-same, when-other}
use Rattle.classes.specs.Classes.{units, per_region}
use Rattle.classes.specs.Geometry.{unit_of, region_of, index_of, BlockOf}
use Rattle.classes.proofs.Tables.{units-low}
use Rattle.classes.proofs.BlockUnits.{region-is, index_below, unit-again}
use Rattle.plain.specs.Calls.{First}
use Rattle.plain.specs.Blocks.{blocks_from, count_block}

-- ---- k blocks from block i on

-- The row of k blocks from block i on has k items.
pub length-blocks : (r c i k : ℕ) → length (blocks_from r c i k) ≡ k
length-blocks r c i zero = refl
length-blocks r c i (suc k) = ap suc (length-blocks r c (suc i) k)

-- Blocks of different indexes are different units.
apart : (r c a i : ℕ) → a < i → (unit_of r c a ≢ unit_of r c i) × (unit_of r c i ≢ unit_of r c a)
apart r c a i h = (
  λ e. omega (arith, mul-le-mul_left (units c) h, units-low c),
  λ e. omega (arith, mul-le-mul_left (units c) h, units-low c),
)

-- A block before block i is not in the row from block i on.
before-them : (r c k i a : ℕ) → a < i → count (unit_of r c a) (blocks_from r c i k) ≡ 0
before-them r c zero i a h = refl
before-them r c (suc k) i a h =
    omega (
      arith,
      before-them r c k (suc i) a (omega arith),
      when-other (unit_of r c a) (unit_of r c i) 1 (apart r c a i h).0,
    )

-- Each of the k blocks from block i on stands in their row once.
among-them : (r c k i a : ℕ) → i ≤ a → a < i + k → count (unit_of r c a) (blocks_from r c i k) ≡ 1
among-them r c zero i a h l = absurd (omega arith)
among-them r c (suc k) i a h l = elim (same? i a) [
  | same e ↦ rw e (omega (arith, when-same (unit_of r c a) 1, before-them r c k (suc a) a (omega arith)))
  | other d ↦ omega (
    arith,
    among-them r c k (suc i) a (omega arith) (omega arith),
    when-other (unit_of r c a) (unit_of r c i) 1 (apart r c i a (omega arith)).1,
  )
]

-- What stands in the row of k blocks from block i on is a block, if they are among the n of the region.
only-blocks : (r c v k i : ℕ) → i + k ≤ per_region c → 1 ≤ count v (blocks_from r c i k) → BlockOf r c v
only-blocks r c v zero i l h = absurd (omega arith)
only-blocks r c v (suc k) i l h = elim (same? v (unit_of r c i)) [
  | same e ↦ record { at = i; below = omega arith; is = e }
  | other d ↦ only-blocks r c v k (suc i) (omega arith) (omega (arith, when-other v (unit_of r c i) 1 d))
]

-- ---- all the blocks of a region

-- `count_block` counts in the row of all the blocks of a region.
pub is_block-row : (v r c : ℕ) → count_block v r c ≡ count v (blocks_from r c 0 (per_region c))
unfolding count_block
is_block-row v r c = refl

-- A block counts 1.
pub block-counts : {r c v : ℕ} → BlockOf r c v → count_block v r c ≡ 1
unfolding count_block
block-counts {r} {c} b =
    rw b.is (among-them r c (per_region c) 0 b.at (omega arith) (omega (arith, b.below)))

-- A unit that counts is a block.
pub counts-block : (r c v : ℕ) → 1 ≤ count_block v r c → BlockOf r c v
unfolding count_block
counts-block r c v h = only-blocks r c v (per_region c) 0 (omega arith) h

-- A unit counts at most 1, and only in the region that it lies in.
pub is_block-region : (r c v : ℕ) → count_block v r c ≤ one (region_of v) r
is_block-region r c v = elim (order? 0 (count_block v r c)) [
  | before h ↦ (let b : BlockOf r c v = counts-block r c v h in
      rw (region-is b) (omega (arith, when-same r 1, block-counts b)))
  | after h ↦ omega arith
]

-- ---- the first unit of a block

-- What test 10 of a free finds to be the first unit of a block is a block.
pub first-is-block : (c u : ℕ) → First c u → BlockOf (region_of u) c u
first-is-block c u f =
    record { at = index_of c u; below = f.1; is = omega (arith, div-add-mod (u % REGION_UNITS) (units c), f.0) }

-- Test 10 of a free finds every block to be the first unit of a block.
pub block-is-first : {r c u : ℕ} → BlockOf r c u → First c u
block-is-first {r} {c} {u} b =
    (omega (arith, div-add-mod (u % REGION_UNITS) (units c), unit-again b, region-is b), index_below b)
