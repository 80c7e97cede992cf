-- The ones of a masked word are the bits that are set both in the word and in the mask.
use mathlib.Core.Path.{◌≡◌, refl, sym, ap, ap₂, ◌∙◌}
use mathlib.Core.Bool.{◌&&◌}
use Prim.Native.Nat.{ℕ, zero, suc, ◌+◌, ◌/◌, ◌%◌, ◌^◌, ◌≤◌, ◌<◌}
use native.Mathlib.Nat.{mod-lt, mod-eq_of_lt, add_comm}
use native.Mathlib.Omega.{arith}
use lib.Dec.{eqb}
use lib.Bits.{bit_and, and_le_r, and_shr, and_mod}
use lib.Count.{ones, ones_in, ones_cat, ones-le}
use lib.Pow.{pow_pos, mod-pow-add}
use Rattle.limits.specs.Limits.{WORD_MARKS}
use Rattle.words.specs.Mark.{bit_at, is_set}
use Rattle.rows.specs.Totals.{total}
use Rattle.reports.specs.Passing.{weigh, passing}
use Rattle.reports.proofs.Passing.{passing-same}

-- ---- the ones of a number are its bits that are set

-- a number below 2 is its own count of ones
bit-ones : (b d : ℕ) → b < 2 → ones b ≡ weigh d (eqb b 1)
unfolding ones ones_in
bit-ones zero d h = refl
bit-ones (suc zero) d h = refl
bit-ones (suc (suc b)) d h = absurd (omega arith)

-- the ones of the lowest d bits
ones_low : (d n : ℕ) → ones (n % 2 ^ d) ≡ passing d (is_set n)
unfolding total ones ones_in
ones_low zero n = let e : n % 1 ≡ 0 = omega arith in ap ones e
ones_low (suc d) n =
    let e : 1 + d ≡ suc d = omega arith in
    let bit : bit_at n d < 2 = omega arith in
    ap (λ (k : ℕ). ones (n % 2 ^ k)) (sym e)
    ∙ ap ones (mod-pow-add n 1 d)
    ∙ ones_cat d (bit_at n d) (n % 2 ^ d) (mod-lt n (pow_pos d))
    ∙ add_comm (ones (bit_at n d)) (ones (n % 2 ^ d))
    ∙ ap₂ (λ (x y : ℕ). x + y) (ones_low d n) (bit-ones (bit_at n d) d bit)

-- ---- a word and a mask

-- two numbers below 2: their `and` is 1 where both are
both-set : (p q : ℕ) → p < 2 → q < 2 → eqb (bit_and p q) 1 ≡ (eqb p 1 && eqb q 1)
both-set zero zero h l = refl
both-set zero (suc zero) h l = refl
both-set (suc zero) zero h l = refl
both-set (suc zero) (suc zero) h l = refl
both-set zero (suc (suc q)) h l = absurd (omega arith)
both-set (suc zero) (suc (suc q)) h l = absurd (omega arith)
both-set (suc (suc p)) q h l = absurd (omega arith)

-- a bit of the `and` is set where it is set in both
pub and_set : (w m j : ℕ) → is_set (bit_and w m) j ≡ (is_set w j && is_set m j)
and_set w m j =
    ap (λ (x : ℕ). eqb (x % 2) 1) (and_shr w m j)
    ∙ ap (λ (x : ℕ). eqb x 1) (and_mod (w / 2 ^ j) (m / 2 ^ j) 1)
    ∙ both-set (bit_at w j) (bit_at m j) (omega arith) (omega arith)

module _ (w m : ℕ) (h : m < 2 ^ WORD_MARKS) where
  below : bit_and w m < 2 ^ WORD_MARKS
  below = omega (arith, and_le_r w m)

  -- "count of ones over masked 64-bit mark words": as many as there are bits set both in the word and in the mask
  pub masked : ones (bit_and w m) ≡ passing WORD_MARKS (λ j. is_set w j && is_set m j)
  masked =
      ap ones (sym (mod-eq_of_lt below))
      ∙ ones_low WORD_MARKS (bit_and w m)
      ∙ passing-same WORD_MARKS (is_set (bit_and w m)) (λ j. is_set w j && is_set m j) (λ j l. and_set w m j)

  -- a word has at most 64 ones
  pub masked-max : ones (bit_and w m) ≤ WORD_MARKS
  masked-max = ones-le WORD_MARKS (bit_and w m) below
