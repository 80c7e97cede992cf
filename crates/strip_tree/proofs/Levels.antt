-- The lowest free node of an order, by the words of the tree.
use Prim.Native.Nat.{ℕ, zero, suc, ◌+◌, ◌-◌, ◌*◌, ◌/◌, ◌%◌, ◌^◌, ◌<◌, ◌≤◌}
use mathlib.Core.Path.{◌≡◌, refl, sym, ◌∙◌}
use mathlib.Core.Logic.{◌≢◌}
use mathlib.Core.Bool.{true, false}
use native.Mathlib.Nat.{suc-add, mod-lt}
use native.Mathlib.Omega.{arith}
use borrow.Author.Tests.{eq-eqb, ne_eqb}
use lib.Count.{count_trailing_zeros}
use lib.Pow.{pow_pos, pow_mono}
use Rattle.limits.specs.Limits.{WORD_MARKS, WHOLE_ORDER, ORDERS}
use Rattle.rows.specs.Comparisons.{Equality, same, other, same?, Order, before, after, order?, Truth, holds, fails}
use Rattle.rows.specs.Comparisons.{true?}
use Rattle.words.specs.Mark.{bit_at, is_set}
use Rattle.strip_tree.specs.declared.tree.Tree.{Tree}
use Rattle.strip_tree.specs.Trees.{tree_word, is_free_node}
use Rattle.strip_tree.specs.LowBits.{low_bit, upper}
use Rattle.strip_tree.specs.TreeMoves.{lowest, lowest_of_order}
use Rattle.words.proofs.LowestBit.{zeros-set, zeros-low}
use Rattle.strip_tree.proofs.LowBits.{bit_past, upper-bit}
use Rattle.strip_tree.proofs.Powers.{low_word}

unset : (x y : ℕ) → bit_at x y ≡ 0 → is_set x y ≡ false
unset x y e = rw e

module _ (t : Tree) where
  -- ---- the search, by what it passes

  pub lowest-none : (n i : ℕ) → ((y : ℕ) → i ≤ y → y < i + n → is_free_node t y ≡ false) → lowest t n i ≡ 0
  unfolding lowest
  lowest-none zero i h = refl
  lowest-none (suc n) i h =
      rw (h i (omega arith) (omega arith), lowest-none n (suc i) (λ y a b. h y (omega arith) (omega arith)))

  pub lowest-found : (n i x : ℕ) → i ≤ x → x < i + n → is_free_node t x ≡ true
      → ((y : ℕ) → i ≤ y → y < x → is_free_node t y ≡ false)
      → lowest t n i ≡ x
  unfolding lowest
  lowest-found zero i x a b e h = absurd (omega arith)
  lowest-found (suc n) i x a b e h = by (same? i x) (lowest-found n (suc i) x)
    where
      by : Equality i x
          → (suc i ≤ x → x < suc i + n → is_free_node t x ≡ true
          → ((y : ℕ) → suc i ≤ y → y < x → is_free_node t y ≡ false)
          → lowest t n (suc i) ≡ x) → lowest t (suc n) i ≡ x
      by (same d) f = rw (d, e)
      by (other d) f =
          rw (h i (omega arith) (omega arith)) (f (omega arith) (omega arith) e
          (λ y u v. h y (omega arith) (omega arith)))

  -- ---- a word of bits that are the nodes from a number on

  module _ (x from p : ℕ) (width : p ≤ WORD_MARKS) (small : x < 2 ^ p)
      (are : (y : ℕ) → y < p → is_free_node t (from + y) ≡ is_set x y) where
    none_in : x ≡ 0 → (y : ℕ) → from ≤ y → y < from + p → is_free_node t y ≡ false
    none_in e y a b =
        let d : from + (y - from) ≡ y = omega arith in
        rw d at (are (y - from) (omega arith) ∙ unset x (y - from)
        (bit_past x (y - from) (omega (arith, pow_pos (y - from)))))

    found_in : 0 < x → lowest t p from ≡ from + count_trailing_zeros WORD_MARKS x
    found_in h = at (order? (count_trailing_zeros WORD_MARKS x) p)
      where
        wide : x < 2 ^ WORD_MARKS
        wide = omega (arith, pow_mono width)

        bit : bit_at x (count_trailing_zeros WORD_MARKS x) ≡ 1
        bit = (zeros-set WORD_MARKS x h wide).1

        below : (y : ℕ) → count_trailing_zeros WORD_MARKS x < p → from ≤ y
            → y < from + count_trailing_zeros WORD_MARKS x
            → is_free_node t y ≡ false
        below y l a b =
            let d : from + (y - from) ≡ y = omega arith in
            rw d at (are (y - from) (omega arith) ∙ unset x (y - from)
            (zeros-low WORD_MARKS x (y - from) (omega arith)))

        at : Order (count_trailing_zeros WORD_MARKS x) p → lowest t p from ≡ from + count_trailing_zeros WORD_MARKS x
        at (before l) =
            lowest-found p from (from + count_trailing_zeros WORD_MARKS x) (omega arith) (omega arith)
            (are (count_trailing_zeros WORD_MARKS x) l ∙ eq-eqb _ _ bit) (λ y a b. below y l a b)
        at (after g) =
            absurd (omega (arith, bit, bit_past x (count_trailing_zeros WORD_MARKS x) (omega (arith, pow_mono g))))

    pub in-word : low_bit x from ≡ lowest t p from
    in-word = by (same? x 0)
      where
        by : Equality x 0 → low_bit x from ≡ lowest t p from
        by (same e) = rw (eq-eqb _ _ e, lowest-none p from (none_in e))
        by (other d) = rw (ne_eqb _ _ d, found_in (omega arith))

  -- ---- the nodes of a word

  nodes-of : (w from y : ℕ) → from ≡ WORD_MARKS * w → y < WORD_MARKS
      → is_free_node t (from + y) ≡ is_set (tree_word t w) y
  unfolding is_free_node
  nodes-of w from y e h =
      let q : (from + y) / WORD_MARKS ≡ w = omega arith in
      let r : (from + y) % WORD_MARKS ≡ y = omega arith in
      rw (q, r)

  upper-nodes : (p y : ℕ) → p ≤ 32 → y < p → is_free_node t (p + y) ≡ is_set (upper t.a p) y
  unfolding is_free_node
  upper-nodes p y b h =
      let q : (p + y) / WORD_MARKS ≡ 0 = omega arith in
      let r : (p + y) % WORD_MARKS ≡ p + y = omega arith in
      rw (q, r, upper-bit t.a p y h)

  -- ---- the search over two stretches

  lowest-first : (a b i : ℕ) → lowest t a i ≢ 0 → lowest t (a + b) i ≡ lowest t a i
  unfolding lowest
  lowest-first zero b i d = absurd (d refl)
  lowest-first (suc a) b i d = by (true? (is_free_node t i)) (lowest-first a b (suc i))
    where
      by : Truth (is_free_node t i) → (lowest t a (suc i) ≢ 0 → lowest t (a + b) (suc i) ≡ lowest t a (suc i))
          → lowest t (suc a + b) i ≡ lowest t (suc a) i
      by (holds e) f = rw (suc-add a b, e)
      by (fails e) f = rw (suc-add a b, e) (f (rw e at d))

  lowest-second : (a b i : ℕ) → 1 ≤ i → lowest t a i ≡ 0 → lowest t (a + b) i ≡ lowest t b (i + a)
  unfolding lowest
  lowest-second zero b i h e =
      let z : 0 + b ≡ b = omega arith in
      let y : i + 0 ≡ i = omega arith in
      rw (z, y)
  lowest-second (suc a) b i h e = by (true? (is_free_node t i)) (lowest-second a b (suc i) (omega arith))
    where
      by : Truth (is_free_node t i) → (lowest t a (suc i) ≡ 0 → lowest t (a + b) (suc i) ≡ lowest t b (suc i + a))
          → lowest t (suc a + b) i ≡ lowest t b (i + suc a)
      by (holds d) f =
          let z : i ≡ 0 = rw d at e in
          absurd (omega arith)
      by (fails d) f =
          let z : i + suc a ≡ suc i + a = omega arith in
          rw (suc-add a b, d, z) (f (rw d at e))

  -- ---- order by order

  module _ (c : t.c < 2 ^ WORD_MARKS) where
    third : low_bit t.c 128 ≡ lowest t 64 128
    third = in-word t.c 128 64 (omega arith) c (λ y h. nodes-of 2 128 y refl h)

    pub level-first : low_bit t.c 128 ≢ 0 → lowest_of_order t 0 ≡ low_bit t.c 128
    level-first d = lowest-first 64 64 128 (λ e. d (third ∙ e)) ∙ sym third

    pub level-second : t.d < 2 ^ WORD_MARKS → low_bit t.c 128 ≡ 0 → lowest_of_order t 0 ≡ low_bit t.d 192
    level-second l e =
        lowest-second 64 64 128 (omega arith) (sym third ∙ e)
        ∙ sym (in-word t.d 192 64 (omega arith) l (λ y h. nodes-of 3 192 y refl h))

  pub level-one : t.b < 2 ^ WORD_MARKS → lowest_of_order t 1 ≡ low_bit t.b 64
  level-one l = sym (in-word t.b 64 64 (omega arith) l (λ y h. nodes-of 1 64 y refl h))

  pub level-upper : (j : ℕ) → j < ORDERS → 2 ≤ j
      → lowest_of_order t j ≡ low_bit (upper t.a (2 ^ (WHOLE_ORDER - j))) (2 ^ (WHOLE_ORDER - j))
  level-upper j h g =
      let p = 2 ^ (WHOLE_ORDER - j) in
      let b = low_word j h g in
      sym (in-word (upper t.a p) p p (omega arith) (mod-lt (t.a / 2 ^ p) (pow_pos p)) (λ y l. upper-nodes p y b l))
