-- The lowest block in hand: the first masked word that is not 0 has it, at its lowest bit.
use mathlib.Core.Path.{◌≡◌, sym, ap, ap₂, subst, ◌∙◌}
use mathlib.Core.Logic.{◌≢◌}
use mathlib.Core.Bool.{Bool, true, false, ◌&&◌}
use Prim.Native.Nat.{ℕ, ◌+◌, ◌-◌, ◌*◌, ◌/◌, ◌^◌, ◌≤◌, ◌<◌}
use native.Mathlib.Nat.{div-eq_of_lt, mul-le-mul_left, mul-suc}
use native.Mathlib.Omega.{arith}
use borrow.Author.Tests.{lt-ltb, le-ltb, eq-eqb}
use lib.Dec.{eqb}
use lib.Bits.{bit_and, and_le_r}
use lib.Count.{count_trailing_zeros}
use lib.Pow.{pow_pos}
use Rattle.limits.specs.Limits.{UNITS, REGION_UNITS, WORD_MARKS}
use Rattle.rows.specs.Comparisons.{before, after, order?}
use Rattle.words.specs.Mark.{is_set}
use Rattle.words.proofs.LowestBit.{zeros-set, zeros-low}
use Rattle.classes.specs.Classes.{units, per_region}
use Rattle.classes.specs.Geometry.{unit_of, is_first}
use Rattle.classes.proofs.Tables.{units-low, fits}
use Rattle.fields.specs.Columns.{View}
use Rattle.control.specs.Layout.{Marks}
use Rattle.stepped.proofs.Conjunction.{both}
use Rattle.reports.proofs.FirstPassing.{NonePass, first_found, first-none}
use Rattle.report_marks.specs.Masks.{REGION_WORDS, MaskOf}
use Rattle.report_marks.specs.InHand.{is_marked, lowest_in_hand}
use Rattle.report_marks.proofs.MaskedWords.{and_set}
use Rattle.report_marks.proofs.RegionBlocks.{first_marked, word-marked, at_block, multiple}

module _ (v : View) (r c : ℕ) where
  -- none of the region's first d units is the first of a block with its mark set
  abbrev pub NoneTo : ℕ → Type 0
  NoneTo d = NonePass d (first_marked v r c)

  -- the masked word k of the region has the bits of the blocks that begin in it and whose mark is set
  module _ (k w m : ℕ) (is : w ≡ v (Marks (REGION_WORDS * r + k))) (mask : MaskOf c k m) where
    word-bit : (j : ℕ) → j < WORD_MARKS → is_set (bit_and w m) j ≡ first_marked v r c (WORD_MARKS * k + j)
    word-bit j l =
        and_set w m j
        ∙ ap₂ ◌&&◌ (ap (λ (x : ℕ). is_set x j) is ∙ word-marked v r k j l) (mask.tells j l)

    -- up to the unit d of the word, none of its bits is set
    none-up-to : NoneTo (WORD_MARKS * k) → (d : ℕ) → d ≤ WORD_MARKS
        → ((j : ℕ) → j < d → is_set (bit_and w m) j ≡ false) → NoneTo (WORD_MARKS * k + d)
    none-up-to none d l clear o h = elim (order? o (WORD_MARKS * k)) [
      | before i ↦ none o i
      | after i ↦ (let e : WORD_MARKS * k + (o - WORD_MARKS * k) ≡ o = omega arith in
          subst (λ (x : ℕ). first_marked v r c x ≡ false) e
          (sym (word-bit (o - WORD_MARKS * k) (omega arith)) ∙ clear (o - WORD_MARKS * k) (omega arith)))
    ]

    -- a word that is 0 has none
    pub none-in-word : NoneTo (WORD_MARKS * k) → bit_and w m ≡ 0 → NoneTo (WORD_MARKS * (k + 1))
    none-in-word none e =
        let n : WORD_MARKS * k + WORD_MARKS ≡ WORD_MARKS * (k + 1) = omega arith in
        subst NoneTo n (none-up-to none WORD_MARKS (omega arith) (λ j l.
        let z : 0 / 2 ^ j ≡ 0 = div-eq_of_lt (pow_pos j) in
        rw e (rw z)))

    -- of a word that is not 0 the lowest bit is the first
    pub first-in-word : NoneTo (WORD_MARKS * k) → bit_and w m ≢ 0
        → let j = count_trailing_zeros WORD_MARKS (bit_and w m) in
        (j < WORD_MARKS) × (first_marked v r c (WORD_MARKS * k + j) ≡ true) × NoneTo (WORD_MARKS * k + j)
    first-in-word none n =
        let x = bit_and w m in
        let j = count_trailing_zeros WORD_MARKS x in
        let top = zeros-set WORD_MARKS x (omega arith) (omega (arith, and_le_r w m, mask.below)) in (
          top.0,
          sym (word-bit j top.0) ∙ eq-eqb _ 1 top.1,
          none-up-to none j (omega (arith, top.0)) (λ i l. ap (λ (b : ℕ). eqb b 1) (zeros-low WORD_MARKS x i l)),
        )

  -- ---- the blocks of the region

  not-marked : (a b : Bool) → b ≡ true → (a && b) ≡ false → a ≡ false
  not-marked true b e f = sym e ∙ f
  not-marked false b e f = f

  -- a block whose first unit does not count is not marked
  unmarked : (i : ℕ) → i < per_region c → first_marked v r c (units c * i) ≡ false → is_marked v (unit_of r c i) ≡ false
  unmarked i l e = not-marked (is_marked v (unit_of r c i)) (is_first c (units c * i)) (at_block c i l) e

  -- the first such unit is that of the lowest block in hand,
  pub lowest-found : (o : ℕ) → o < REGION_UNITS → first_marked v r c o ≡ true → NoneTo o
      → REGION_UNITS * r + o ≡ lowest_in_hand v r c
  unfolding lowest_in_hand
  lowest-found o l e none =
      let pair = both (is_marked v (REGION_UNITS * r + o)) (is_first c o) e in
      let p = multiple c o pair.1 l in
      let i = p.0 in
      let u : REGION_UNITS * r + o ≡ unit_of r c i = omega (arith, p.2) in
      let none-held : NonePass i (λ i. is_marked v (unit_of r c i)) = λ k h.
      unmarked k (omega (arith, h, p.1)) (none (units c * k)
      (omega (arith, p.2, mul-le-mul_left (units c) h, mul-suc (units c) k, units-low c))) in
      let held : is_marked v (unit_of r c i) ≡ true = subst (λ (x : ℕ). is_marked v x ≡ true) u pair.0 in
      rw (
        first_found {n = per_region c} (λ i. is_marked v (unit_of r c i)) none-held p.1 held,
        lt-ltb i (per_region c) p.1,
      ) u

  -- and without one there is none
  pub lowest-none : NoneTo REGION_UNITS → lowest_in_hand v r c ≡ UNITS
  unfolding lowest_in_hand
  lowest-none none =
      let none-held : NonePass (per_region c) (λ i. is_marked v (unit_of r c i)) = λ k h.
      unmarked k h (none (units c * k)
      (omega (arith, mul-le-mul_left (units c) h, mul-suc (units c) k, units-low c, fits c))) in
      rw (
        first-none {n = per_region c} (λ i. is_marked v (unit_of r c i)) none-held,
        le-ltb (per_region c) (per_region c) (omega arith),
      )
