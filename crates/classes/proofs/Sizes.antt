-- The laws of the class that serves a size.
use mathlib.Core.Path.{◌≡◌, subst}
use Rattle.std.specs.Prelude.{Ok, Err}
use Rattle.limits.specs.declared.refusal.Refusal.TheVariants.{SizeZero, SizeTooLarge}
use mathlib.Core.Bool.{Bool}
use mathlib.Core.List.{List, [], ◌∷◌}
use Prim.Native.Nat.{ℕ, zero, suc, ◌+◌, ◌*◌, ◌-◌, ◌/◌, ◌≤◌, ◌<◌}
use native.Mathlib.Omega.{arith}
use native.Mathlib.Decide.{dec_le, dec_lt}
use lib.Dec.{T, ltb, ltb→lt}
use lib.ListN.{length, get_or}
use borrow.Author.Tests.{le-leb, lt-leb, lt-ltb, le-ltb, eq-eqb, ne_eqb}
use Rattle.limits.specs.Limits.{UNIT_BYTES, CLASSES, LARGEST_SIZE, LARGEST_STRIP}
use Rattle.classes.specs.Classes.{block_sizes, SMALLEST_SIZE, units, block}
use Rattle.classes.specs.Sizes.{first_holding, class_of, choice}
use Rattle.classes.specs.declared.size.Choice.TheVariants.{Class, Strip}
use Rattle.classes.proofs.Below.{at}
use Rattle.classes.proofs.Tables.{rows}

-- what a search of a row finds is at least s
found : (s : ℕ) (l : List ℕ) (d : ℕ) → first_holding s l < length l → s ≤ get_or l (first_holding s l) d
found s [] d h = absurd (omega arith)
found s (b ∷ bs) d h = elim (dec_le s b) [
  | yes k ↦ rw (le-leb s b k) k
  | no k ↦ (let e = lt-leb s b (omega arith) in
      rw e (found s bs d (let i : suc (first_holding s bs) < suc (length bs) = rw e at h in omega arith)))
]

-- where a search goes past the first entry b, that is below s
further : (s b : ℕ) (bs : List ℕ) (k : ℕ) → k < first_holding s (b ∷ bs) → (b < s) × (k ≤ first_holding s bs)
further s b bs k h = elim (dec_le s b) [
  | yes i ↦ absurd (let j : k < 0 = rw (le-leb s b i) at h in omega arith)
  | no i ↦ (let j : k < suc (first_holding s bs) = rw (lt-leb s b (omega arith)) at h in omega arith)
]

-- what a search passed is below s
passed : (s : ℕ) (l : List ℕ) (d k : ℕ) → k < first_holding s l → get_or l k d < s
passed s [] d k h = absurd (omega arith)
passed s (b ∷ bs) d zero h = (further s b bs zero h).0
passed s (b ∷ bs) d (suc k) h = passed s bs d k (omega (arith, further s b bs (suc k) h))

-- every class before that of s has a smaller block than s
pub smallest : (s d : ℕ) → d < class_of s → block d < s
unfolding class_of
smallest s d h = rw (rows d).0 (passed s block_sizes SMALLEST_SIZE d h)

-- a size up to the largest has a class
pub is_class : (s : ℕ) → s ≤ LARGEST_SIZE → class_of s < CLASSES
unfolding units
is_class s h = elim (dec_lt (class_of s) CLASSES) [
  | yes k ↦ k
  | no k ↦ absurd (omega (arith, smallest s (CLASSES - 1) (omega arith)))
]

-- the block of the class of a size holds the size
pub holds : (s : ℕ) → s ≤ LARGEST_SIZE → s ≤ block (class_of s)
unfolding class_of
holds s h = rw (rows (class_of s)).0 (found s block_sizes SMALLEST_SIZE (is_class s h))

-- a size and the bytes of its units, rounded up, have one class
pub rounded : (s : ℕ) → s ≤ LARGEST_SIZE → class_of (UNIT_BYTES * ((s + UNIT_BYTES - 1) / UNIT_BYTES)) ≡ class_of s
rounded s h =
    let w = UNIT_BYTES * ((s + UNIT_BYTES - 1) / UNIT_BYTES) in
    elim (dec_lt (class_of s) (class_of w)) [
      | yes k ↦ absurd (omega (arith, smallest w (class_of s) k, holds s h))
      | no k ↦ elim (dec_lt (class_of w) (class_of s)) [
        | yes j ↦ absurd (omega (arith, smallest s (class_of w) j, holds w (omega arith)))
        | no j ↦ omega arith
      ]
    ]

-- less than a quarter of its block is left over by size s
abbrev little : ℕ → Bool
little s = ltb (4 * (block (class_of s) - s)) (block (class_of s))

-- "The quarter limit on waste then holds from size 49 to 256": 4 × (block − size) is below the block
pub quarter : (s : ℕ) → 49 ≤ s → s ≤ LARGEST_SIZE → 4 * (block (class_of s) - s) < block (class_of s)
unfolding class_of units
quarter s l h =
    let e : 49 + (s - 49) ≡ s = omega arith in
    let t = at (λ k. little (49 + k)) (suc LARGEST_SIZE - 49) tt (s - 49) (omega arith) in
    ltb→lt (4 * (block (class_of s) - s)) (block (class_of s)) (subst (λ (k : ℕ). T (little k)) e t)

-- "At 17 it is not" (the paper): 4 × (block − size) is not below the block
pub not-at-17 : 4 * (block (class_of 17) - 17) < block (class_of 17) → ⊥
unfolding class_of units
not-at-17 h = omega arith

-- nor is it at 36, where it is the block
pub not-at-36 : 4 * (block (class_of 36) - 36) < block (class_of 36) → ⊥
unfolding class_of units
not-at-36 h = omega arith

-- size 0 is refused by 8
pub refuses-none : (s : ℕ) → s ≡ 0 → choice s ≡ Err SizeZero
unfolding choice
refuses-none s e = rw (eq-eqb s 0 e)

-- a size above the largest is refused by 9
pub refuses-large : (s : ℕ) → LARGEST_STRIP < s → choice s ≡ Err SizeTooLarge
unfolding choice
refuses-large s h = rw (ne_eqb s 0 (omega arith), lt-ltb LARGEST_STRIP s h)

-- a size up to that, above the largest of a small block, gets a strip
pub gets-strip : (s : ℕ) → LARGEST_SIZE < s → s ≤ LARGEST_STRIP → choice s ≡ Ok Strip
unfolding choice
gets-strip s l h = rw (ne_eqb s 0 (omega arith), le-ltb LARGEST_STRIP s h, lt-ltb LARGEST_SIZE s l)

-- every other size is served by its class
pub serves : (s : ℕ) → 1 ≤ s → s ≤ LARGEST_SIZE → choice s ≡ Ok (Class (class_of s))
unfolding choice
serves s l h = rw (ne_eqb s 0 (omega arith), le-ltb LARGEST_STRIP s (omega arith), le-ltb LARGEST_SIZE s h)
