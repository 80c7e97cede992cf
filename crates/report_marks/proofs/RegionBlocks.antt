-- From the words of a region to its blocks.
use mathlib.Core.Path.{◌≡◌, sym, ap, ap₂, subst, ◌∙◌}
use mathlib.Core.Bool.{Bool, true, false, ◌&&◌, and-true, and-false}
use Prim.Native.Nat.{ℕ, zero, suc, ◌+◌, ◌-◌, ◌*◌, ◌/◌, ◌%◌, ◌≤◌, ◌<◌}
use native.Mathlib.Nat.{mul-le-mul_left, mul-suc, add-zero, le_of_suc-le-suc}
use native.Mathlib.Omega.{arith}
use lib.Bits.{bit_and}
use lib.Count.{ones}
use Rattle.limits.specs.Limits.{REGION_UNITS, WORD_MARKS}
use Rattle.rows.specs.Comparisons.{before, after, order?, holds, fails, true?}
use Rattle.rows.specs.Totals.{total}
use Rattle.words.specs.Mark.{is_set}
use Rattle.classes.specs.Classes.{units, per_region}
use Rattle.classes.specs.Geometry.{unit_of, is_first}
use Rattle.classes.proofs.BlockUnits.{block_at, first_block, block-first}
use Rattle.classes.proofs.Tables.{units-low, fits}
use Rattle.fields.specs.Columns.{View}
use Rattle.control.specs.Layout.{Marks}
use Rattle.reports.specs.Passing.{weigh, passing}
use Rattle.reports.proofs.Passing.{passing-same, passing-split, passing-none, passing-first}
use Rattle.report_marks.specs.Masks.{REGION_WORDS, MaskOf}
use Rattle.report_marks.specs.InHand.{is_marked, blocks_in_hand}
use Rattle.report_marks.proofs.MaskedWords.{masked}

-- the unit o of region r is the first of a block of class c, and its mark is set
abbrev pub first_marked : View → ℕ → ℕ → ℕ → Bool
first_marked v r c o = is_marked v (REGION_UNITS * r + o) && is_first c o

-- of the first d units of a region, how many are the first of a block and have their mark set
abbrev pub held_in : View → ℕ → ℕ → ℕ → ℕ
held_in v r c d = passing d (first_marked v r c)

-- ---- a word more

-- the marks of the region's word k are those of its 64 units from 64 × k on
pub word-marked : (v : View) (r k j : ℕ) → j < WORD_MARKS
    → is_set (v (Marks (REGION_WORDS * r + k))) j ≡ is_marked v (REGION_UNITS * r + (WORD_MARKS * k + j))
word-marked v r k j l =
    let u = REGION_UNITS * r + (WORD_MARKS * k + j) in
    let d : u / WORD_MARKS ≡ REGION_WORDS * r + k = omega arith in
    let m : u % WORD_MARKS ≡ j = omega arith in
    rw (d, m)

-- the word that is read at the index of the region's word k
pub word-read : (v : View) (r k : ℕ) {i w : ℕ} → w ≡ v (Marks i) → i ≡ REGION_WORDS * r + k
    → w ≡ v (Marks (REGION_WORDS * r + k))
word-read v r k e f = e ∙ ap (λ (j : ℕ). v (Marks j)) f

-- the ones of the masked word are the blocks that begin in it and whose mark is set
pub word_more : (v : View) (r c k w m : ℕ) → w ≡ v (Marks (REGION_WORDS * r + k)) → MaskOf c k m
    → held_in v r c (WORD_MARKS * k) + ones (bit_and w m) ≡ held_in v r c (WORD_MARKS * (k + 1))
word_more v r c k w m e mask =
    let f = first_marked v r c in
    let here : ones (bit_and w m) ≡ passing WORD_MARKS (λ j. f (WORD_MARKS * k + j)) =
    masked w m mask.below
    ∙ passing-same WORD_MARKS (λ j. is_set w j && is_set m j) (λ j. f (WORD_MARKS * k + j)) (λ j l.
    ap₂ ◌&&◌ (ap (λ (x : ℕ). is_set x j) e ∙ word-marked v r k j l) (mask.tells j l)) in
    let n : WORD_MARKS * (k + 1) ≡ WORD_MARKS * k + WORD_MARKS = omega arith in
    rw (here, n) (sym (passing-split (WORD_MARKS * k) WORD_MARKS f))

-- ---- where the blocks of a class begin in a region

module _ (c : ℕ) where
  -- a block begins at every multiple of its units below n
  pub at_block : (i : ℕ) → i < per_region c → is_first c (units c * i) ≡ true
  at_block i h =
      let e : unit_of 0 c i ≡ units c * i = omega arith in
      subst (λ (o : ℕ). is_first c o ≡ true) e (block-first (block_at 0 c i h))

  -- a first unit is such a multiple
  pub multiple : (o : ℕ) → is_first c o ≡ true → o < REGION_UNITS → (i : ℕ) × (i < per_region c) × (o ≡ units c * i)
  multiple o e l = let b = first_block c o e in (b.at, b.below, omega (arith, b.is))

  -- no block begins inside another
  not-inside : (i j : ℕ) → 1 ≤ j → j < units c → units c * i + j < REGION_UNITS → is_first c (units c * i + j) ≡ false
  not-inside i j l h k = elim (true? (is_first c (units c * i + j))) [
    | holds e ↦ (let p = multiple (units c * i + j) e k in
        elim (order? p.0 (suc i)) [
          | before g ↦ absurd (omega (arith, p.2, mul-le-mul_left (units c) (le_of_suc-le-suc g)))
          | after g ↦ absurd (omega (arith, p.2, mul-le-mul_left (units c) g, mul-suc (units c) i))
        ])
    | fails e ↦ e
  ]

  -- no block begins behind the last one
  not_behind : (j : ℕ) → units c * per_region c + j < REGION_UNITS → is_first c (units c * per_region c + j) ≡ false
  not_behind j k = elim (true? (is_first c (units c * per_region c + j))) [
    | holds e ↦ (let p = multiple (units c * per_region c + j) e k in
        absurd (omega (arith, p.2, mul-le-mul_left (units c) p.1, mul-suc (units c) p.0, units-low c)))
    | fails e ↦ e
  ]

-- ---- the blocks of a region

module _ (v : View) (r c : ℕ) where
  -- the mark of the first unit of block i is set
  abbrev held : ℕ → Bool
  held i = is_marked v (unit_of r c i)

  -- a unit that no block begins at does not count
  not_first : (o : ℕ) → is_first c o ≡ false → first_marked v r c o ≡ false
  not_first o e = rw e (and-false (is_marked v (REGION_UNITS * r + o)))

  -- of the units of block i only the first can count
  one_block : (i : ℕ) → i < per_region c
      → passing (units c) (λ j. first_marked v r c (units c * i + j)) ≡ weigh i (held i)
  one_block i h =
      let u = units c * i in
      let inside : u + units c ≤ REGION_UNITS =
      omega (arith, mul-le-mul_left (units c) h, mul-suc (units c) i, fits c) in
      let z : u + 0 ≡ u = omega arith in
      let first : first_marked v r c (u + 0) ≡ held i = rw (z, at_block c i h) (and-true (held i)) in
      passing-first (units c) (λ j. first_marked v r c (u + j)) (units-low c)
      (λ j l d. not_first (u + j) (not-inside c i j (omega arith) l (omega arith)))
      ∙ ap (weigh i) first

  -- the units of the first i blocks count as many as these have marks
  blocks : (i : ℕ) → i ≤ per_region c → held_in v r c (units c * i) ≡ passing i held
  unfolding total
  blocks zero h = let e : units c * 0 ≡ 0 = omega arith in rw e
  blocks (suc i) h =
      rw (mul-suc (units c) i)
      (passing-split (units c * i) (units c) (first_marked v r c)
      ∙ ap₂ (λ (x y : ℕ). x + y) (blocks i (omega arith)) (one_block i h))

  -- the units of a region count as many as it has blocks in hand: what is left over behind the last block counts none
  pub region-held : held_in v r c REGION_UNITS ≡ blocks_in_hand v r c
  unfolding blocks_in_hand
  region-held =
      let f = first_marked v r c in
      let n = units c * per_region c in
      let e : n + (REGION_UNITS - n) ≡ REGION_UNITS = omega (arith, fits c) in
      let none : passing (REGION_UNITS - n) (λ j. f (n + j)) ≡ 0 =
      passing-none (REGION_UNITS - n) (λ j. f (n + j))
      (λ j l. not_first (n + j) (not_behind c j (omega (arith, fits c)))) in
      ap (λ (d : ℕ). passing d f) (sym e)
      ∙ passing-split n (REGION_UNITS - n) f
      ∙ ap₂ (λ (x y : ℕ). x + y) (blocks (per_region c) (omega arith)) none
      ∙ add-zero (passing (per_region c) held)
