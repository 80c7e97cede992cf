-- The laws of the table of classes.
use mathlib.Core.Path.{◌≡◌, refl, sym, ap, ◌∙◌}
use mathlib.Core.Logic.{◌≢◌}
use mathlib.Core.Bool.{Bool, true, false, true≢false, ◌||◌}
use mathlib.Core.List.{List}
use Prim.Native.Nat.{ℕ, zero, suc, ◌-◌, ◌*◌, ◌/◌, ◌%◌, ◌≤◌, ◌<◌}
use native.Mathlib.Omega.{arith}
use native.Mathlib.Decide.{dec_lt}
use lib.Dec.{T, leb, ltb, eqb, leb→le, ltb→lt, eqb→eq}
use lib.ListN.{length, get_or, get_or-eq_default}
use borrow.Author.Tests.{le-ltb}
use Rattle.limits.specs.Limits.{UNIT_BYTES, REGION_BYTES, REGION_UNITS, CLASSES, MOST_BLOCKS}
use Rattle.classes.specs.Classes.{block_sizes, block_counts, SMALLEST_SIZE, LARGEST_UNITS, LEAST_BLOCKS}
use Rattle.classes.specs.Classes.{ALIGNMENT, units, block, per_region}
use Rattle.classes.proofs.Below.{all, at}

-- a test of the two entries of class c, its block and its n; past the table they are those of class 0
entry : (ℕ → ℕ → Bool) → ℕ → Bool
entry f c = f (get_or block_sizes c SMALLEST_SIZE) (get_or block_counts c MOST_BLOCKS)

-- a test that passes at the classes, and at class 0 again, passes at every c
every-class : (f : ℕ → ℕ → Bool) → T (all (entry f) (suc CLASSES)) → (c : ℕ) → T (entry f c)
unfolding entry
every-class f t c = elim (dec_lt c CLASSES) [
  | yes h ↦ at (entry f) (suc CLASSES) t c (omega arith)
  | no h ↦ (let past : CLASSES ≤ c = omega arith in
      rw (get_or-eq_default block_sizes SMALLEST_SIZE past, get_or-eq_default block_counts MOST_BLOCKS past)
      (at (entry f) (suc CLASSES) t CLASSES (omega arith)))
]

-- the table has an entry in each row for each of the classes of `limits`, and no more
pub as-many-sizes : length block_sizes ≡ CLASSES
as-many-sizes = refl

pub as-many-counts : length block_counts ≡ CLASSES
as-many-counts = refl

-- the definitions are the table's rows
pub rows : (c : ℕ) → (block c ≡ get_or block_sizes c SMALLEST_SIZE) × (per_region c ≡ get_or block_counts c MOST_BLOCKS)
unfolding units per_region entry
rows c = (
  eqb→eq (block c) (get_or block_sizes c SMALLEST_SIZE)
      (every-class (λ b n. eqb (UNIT_BYTES * (b / UNIT_BYTES)) b) tt c),
  refl,
)

-- a number that is none of the first n, as a match leaves it to its last arm
abbrev pub Others : ℕ → ℕ → Type 0
Others zero c = Unit {0}
Others (suc n) c = Others n c × (c ≡ n → ⊥)

-- a number that is none of the first n is n or more
from : (n c : ℕ) → Others n c → n ≤ c
from zero c h = omega arith
from (suc n) c h = let l : n ≤ c = from n c h.0 in let k : c ≢ n = h.1 in omega arith

-- a number below n is one of the first n
pub no_more : (n c : ℕ) → c < n → Others n c → ⊥
no_more n c l h = absurd (omega (arith, from n c h))

-- the entry x of the class k is that of every class that is k
pub units-at : (c k : ℕ) {x : ℕ} → x ≡ units k → c ≡ k → x ≡ units c
units-at c k h e = h ∙ ap units (sym e)

pub per_region-at : (c k : ℕ) {x : ℕ} → x ≡ per_region k → c ≡ k → x ≡ per_region c
per_region-at c k h e = h ∙ ap per_region (sym e)

-- a row whose entries are the numbers of f at the classes has, at an index c that is the class d, the number of d
pub entry-is : (xs : List ℕ) (f : ℕ → ℕ) → T (all (λ k. eqb (get_or xs k 0) (f k)) CLASSES)
    → (c d : ℕ) → c < CLASSES → c ≡ d → get_or xs c 0 ≡ f d
entry-is xs f t c d h e =
    eqb→eq (get_or xs c 0) (f c) (at (λ k. eqb (get_or xs k 0) (f k)) CLASSES t c h) ∙ ap f e

-- n is the number of blocks that fit in the bytes of a region
pub per_region-is : (c : ℕ) → per_region c ≡ REGION_BYTES / block c
unfolding units per_region entry
per_region-is c =
    eqb→eq (per_region c) (REGION_BYTES / block c)
    (every-class (λ b n. eqb n (REGION_BYTES / (UNIT_BYTES * (b / UNIT_BYTES)))) tt c)

-- a block has at least one unit
pub units-low : (c : ℕ) → 1 ≤ units c
unfolding units entry
units-low c = leb→le 1 (units c) (every-class (λ b n. leb 1 (b / UNIT_BYTES)) tt c)

-- a block has at most the units of the largest
pub units-high : (c : ℕ) → units c ≤ LARGEST_UNITS
unfolding units entry
units-high c = leb→le (units c) LARGEST_UNITS (every-class (λ b n. leb (b / UNIT_BYTES) LARGEST_UNITS) tt c)

-- a region has at least the blocks of the largest class
pub per_region-low : (c : ℕ) → LEAST_BLOCKS ≤ per_region c
unfolding per_region entry
per_region-low c = leb→le LEAST_BLOCKS (per_region c) (every-class (λ b n. leb LEAST_BLOCKS n) tt c)

-- a region has at most the blocks of the smallest class
pub per_region-high : (c : ℕ) → per_region c ≤ MOST_BLOCKS
unfolding per_region entry
per_region-high c = leb→le (per_region c) MOST_BLOCKS (every-class (λ b n. leb n MOST_BLOCKS) tt c)

-- the blocks of a region fit into its units
pub fits : (c : ℕ) → units c * per_region c ≤ REGION_UNITS
unfolding units per_region entry
fits c = leb→le (units c * per_region c) REGION_UNITS (every-class (λ b n. leb (b / UNIT_BYTES * n) REGION_UNITS) tt c)

-- where the first of two tests fails, the second passes
other : (a b : Bool) → a ≡ false → T (a || b) → T b
other true b e t = absurd (true≢false e)
other false b e t = t

-- a block of 16 bytes or more is a multiple of 16 bytes
pub aligned-size : (c : ℕ) → ALIGNMENT ≤ block c → block c % ALIGNMENT ≡ 0
unfolding units entry
aligned-size c h =
    eqb→eq (block c % ALIGNMENT) 0
    (other (ltb (block c) ALIGNMENT) (eqb (block c % ALIGNMENT) 0) (le-ltb (block c) ALIGNMENT h)
    (every-class (λ b n. let w = UNIT_BYTES * (b / UNIT_BYTES) in ltb w ALIGNMENT || eqb (w % ALIGNMENT) 0) tt c))

-- the block of the class after c is larger
next : ℕ → Bool
next c = ltb (units c) (units (suc c))

-- blocks rise from class to class
pub rise : (c d : ℕ) → c < d → d < CLASSES → units c < units d
unfolding next units
rise c zero h l = absurd (omega arith)
rise c (suc d) h l =
    let s : units d < units (suc d) = ltb→lt (units d) (units (suc d)) (at next (CLASSES - 1) tt d (omega arith)) in
    elim (dec_lt c d) [
      | yes k ↦ omega (arith, rise c d k (omega arith))
      | no k ↦ (let e : c ≡ d = omega arith in rw e s)
    ]
