-- Setting and clearing a mark changes its own bit of the word alone.
use Rattle.std.proofs.Common.{◌≡◌, ℕ, ◌+◌, ◌-◌, ◌*◌, ◌/◌, ◌%◌, ◌^◌, ◌<◌, eqb, ◌≢◌, ◌⊎◌, sym, refl, ap, ◌∙◌, inl, inr}
use Rattle.std.proofs.Common.{one-mul, arith, pow_pos, shl_exact, eq-eqb, ne_eqb}
use native.Mathlib.Nat.{add-div_right}
use native.Mathlib.Decide.{dec_lt}
use lib.Bits.{bit_and, bit_or, and_mask, and_le_l, or_lt}
use lib.Pow.{pow-lt}
use Rattle.limits.specs.Limits.{WORD_MARKS}
use Rattle.words.specs.Mark.{bit_at, is_set, with_set, with_clear, BitWritten}
use Rattle.words.proofs.Bits.{added-here, added-others, and-bit, or-bit, and-rest}

module _ (w i : ℕ) where
  -- a bit is 1 or 0
  one_or_zero : (bit_at w i ≡ 1) ⊎ (bit_at w i ≡ 0)
  one_or_zero = elim (dec_lt (bit_at w i) 1) [ yes h ↦ inr (omega arith) | no h ↦ inl (omega arith) ]

  -- ---- by what the mark was

  module _ (one : bit_at w i ≡ 1) where
    pub set-set : with_set w i ≡ w
    set-set = rw (eq-eqb (bit_at w i) 1 one)

    pub clear-set : with_clear w i ≡ w - 2 ^ i
    clear-set = rw (eq-eqb (bit_at w i) 1 one)

    less-more : w - 2 ^ i + 2 ^ i ≡ w
    less-more = let e = rw one at (and-bit w i) in omega (arith, and_le_l w (2 ^ i))

    less-here : bit_at (w - 2 ^ i) i ≡ 0
    less-here = let q = rw less-more at (add-div_right (w - 2 ^ i) (pow_pos i)) in omega arith

    less-others : (j : ℕ) → j ≢ i → bit_at (w - 2 ^ i) j ≡ bit_at w j
    less-others j h = sym (rw less-more at (added-others (w - 2 ^ i) i less-here j h))

  module _ (none : bit_at w i ≡ 0) where
    pub set-clear : with_set w i ≡ w + 2 ^ i
    set-clear = rw (ne_eqb (bit_at w i) 1 (omega arith))

    pub clear-clear : with_clear w i ≡ w
    clear-clear = rw (ne_eqb (bit_at w i) 1 (omega arith))

  -- ---- clear: less 2 ^ i where the mark was set

  pub clear-here : bit_at (with_clear w i) i ≡ 0
  clear-here = elim one_or_zero [
    | inl one ↦ rw (clear-set one) (less-here one)
    | inr none ↦ rw (clear-clear none) none
  ]

  pub clear-others : (j : ℕ) → j ≢ i → bit_at (with_clear w i) j ≡ bit_at w j
  clear-others j h = elim one_or_zero [
    | inl one ↦ rw (clear-set one) (less-others one j h)
    | inr none ↦ rw (clear-clear none)
  ]

  pub clear-sum : with_clear w i + bit_at w i * 2 ^ i ≡ w
  clear-sum = elim one_or_zero [
    | inl one ↦ rw (clear-set one, one) (omega (arith, less-more one))
    | inr none ↦ rw (clear-clear none, none) (omega arith)
  ]

  -- ---- set: 2 ^ i more than clear

  pub set_sum : with_set w i ≡ with_clear w i + 2 ^ i
  set_sum = elim one_or_zero [
    | inl one ↦ rw (set-set one, clear-set one) (sym (less-more one))
    | inr none ↦ rw (set-clear none, clear-clear none)
  ]

  pub set_here : bit_at (with_set w i) i ≡ 1
  set_here = rw set_sum (added-here (with_clear w i) i clear-here)

  pub set-others : (j : ℕ) → j ≢ i → bit_at (with_set w i) j ≡ bit_at w j
  set-others j h = rw set_sum (added-others (with_clear w i) i clear-here j h ∙ clear-others j h)

  -- ---- the masks, and the bounds

  pub or_set : bit_or w (2 ^ i) ≡ with_set w i
  or_set = omega (arith, set_sum, clear-sum, or-bit w i)

  module _ (k : ℕ) (fits : w < 2 ^ k) (inside : i < k) where
    pub and-clear : bit_and w (2 ^ k - 1 - 2 ^ i) ≡ with_clear w i
    and-clear = omega (arith, clear-sum, and-rest w i k fits inside)

    pub set_below : with_set w i < 2 ^ k
    set_below = rw or_set at (or_lt k w (2 ^ i) fits (pow-lt inside))

    pub clear-below : with_clear w i < 2 ^ k
    clear-below = omega (arith, clear-sum)

-- ---- what the code's shifts and masks make of a word of 64 bits

pub tested : (w i : ℕ) → eqb (bit_and (w / 2 ^ i) 1) 1 ≡ is_set w i
tested w i = ap (λ (x : ℕ). eqb x 1) (and_mask (w / 2 ^ i) 1)

shifted : (i : ℕ) → i < WORD_MARKS → 1 * 2 ^ i % 18446744073709551616 ≡ 2 ^ i
shifted i h = shl_exact 1 i WORD_MARKS (omega arith) (omega arith) ∙ one-mul (2 ^ i)

pub set-changed : (w i : ℕ) → i < WORD_MARKS
    → BitWritten w i 1 (with_set w i) (bit_or w (1 * 2 ^ i % 18446744073709551616))
set-changed w i h =
    rw (shifted i h, or_set w i) (record { value = refl; here = set_here w i; others = set-others w i })

pub clear-changed : (w i : ℕ) → w < 18446744073709551616 → i < WORD_MARKS
    → BitWritten w i 0 (with_clear w i) (bit_and w (18446744073709551615 - 1 * 2 ^ i % 18446744073709551616))
clear-changed w i l h =
    rw (shifted i h, and-clear w i WORD_MARKS l h)
    (record { value = refl; here = clear-here w i; others = clear-others w i })
