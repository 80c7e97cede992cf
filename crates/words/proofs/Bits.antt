-- The bits of a number. Adding 2 ^ i to a number whose bit i is 0 changes that bit alone; a mask with one bit
-- set adds that bit by `or`, and its complement takes it away by `and`.
use Rattle.std.proofs.Common.{◌≡◌, ℕ, ◌+◌, ◌-◌, ◌*◌, ◌/◌, ◌%◌, ◌^◌, ◌<◌, ◌≢◌, sym, ap, ◌∙◌, subst, ap₂, mod-lt}
use Rattle.std.proofs.Common.{mod-eq_of_lt, div-add-mod', arith, pow_pos, pow-add, shr-shr, shr_lt}
use native.Mathlib.Nat.{add-div_right, add-mod_right}
use native.Mathlib.Decide.{dec_lt}
use lib.Bits.{bit_and, bit_or, and_high, or_add_and, and_block, and_mask}
use lib.Pow.{field, mod-mod-pow, shr_mod, split, ones_lt}
use Rattle.words.specs.Mark.{bit_at}

-- ---- every bit but one

-- a bit below the bit i is one of the remainder by 2 ^ i
low-at : (n d j : ℕ) → bit_at (n % 2 ^ (d + 1 + j)) j ≡ bit_at n j
low-at n d j = ap (λ (x : ℕ). x % 2) (field n (d + 1) j) ∙ mod-mod-pow (n / 2 ^ j) d 1

low_bit : (n i j : ℕ) → j < i → bit_at (n % 2 ^ i) j ≡ bit_at n j
low_bit n i j h =
    let e : i - j - 1 + 1 + j ≡ i = omega arith in
    subst (λ (k : ℕ). bit_at (n % 2 ^ k) j ≡ bit_at n j) e (low-at n (i - j - 1) j)

-- a bit above the bit i is one of what stands above it
high-at : (n i d : ℕ) → bit_at (n / 2 ^ i / 2) d ≡ bit_at n (i + (1 + d))
high-at n i d = ap (λ (x : ℕ). x % 2) (shr-shr (n / 2 ^ i) 1 d ∙ shr-shr n i (1 + d))

high_bit : (n i j : ℕ) → i < j → bit_at (n / 2 ^ i / 2) (j - i - 1) ≡ bit_at n j
high_bit n i j h =
    let e : i + (1 + (j - i - 1)) ≡ j = omega arith in
    high-at n i (j - i - 1) ∙ ap (bit_at n) e

-- two numbers that agree below and above the bit i have every other bit in common
module _ (x y i : ℕ) (low : x % 2 ^ i ≡ y % 2 ^ i) (high : x / 2 ^ i / 2 ≡ y / 2 ^ i / 2) (j : ℕ) where
  agree-low : j < i → bit_at x j ≡ bit_at y j
  agree-low h = sym (low_bit x i j h) ∙ ap (λ (n : ℕ). bit_at n j) low ∙ low_bit y i j h

  agree-high : i < j → bit_at x j ≡ bit_at y j
  agree-high h = sym (high_bit x i j h) ∙ ap (λ (n : ℕ). bit_at n (j - i - 1)) high ∙ high_bit y i j h

  agree : j ≢ i → bit_at x j ≡ bit_at y j
  agree h = elim (dec_lt j i) [ yes l ↦ agree-low l | no l ↦ agree-high (omega arith) ]

-- ---- the bit i of w is 0: adding 2 ^ i changes that bit alone
module _ (w i : ℕ) (clear : bit_at w i ≡ 0) where
  quotient : (w + 2 ^ i) / 2 ^ i ≡ w / 2 ^ i + 1
  quotient = add-div_right w (pow_pos i)

  pub added-here : bit_at (w + 2 ^ i) i ≡ 1
  added-here = rw quotient (omega arith)

  pub added-others : (j : ℕ) → j ≢ i → bit_at (w + 2 ^ i) j ≡ bit_at w j
  added-others = agree (w + 2 ^ i) w i (add-mod_right w (2 ^ i)) (rw quotient (omega arith))

-- ---- the mask with the bit i alone, and its complement in k bits

pub and-bit : (w i : ℕ) → bit_and w (2 ^ i) ≡ bit_at w i * 2 ^ i
and-bit w i =
    let e : 2 ^ (1 + i) - 2 ^ i ≡ 2 ^ i = rw (pow-add 2 1 i) (omega arith) in
    rw e at (and_high w 1 i)

pub or-bit : (w i : ℕ) → bit_or w (2 ^ i) + bit_at w i * 2 ^ i ≡ w + 2 ^ i
or-bit w i = rw (and-bit w i) at (or_add_and w (2 ^ i))

-- k digits, all set but that at i: those above i, and the i low ones
mask-parts : (b p : ℕ) → 0 < p → (b + 2) * p - 1 - p ≡ b * p + (p - 1)
mask-parts b p h = omega arith

others-mask : (d i : ℕ) → 2 ^ (d + 1 + i) - 1 - 2 ^ i ≡ (2 ^ (d + 1) - 2) * 2 ^ i + (2 ^ i - 1)
others-mask d i =
    let e : 2 ^ (d + 1) ≡ 2 ^ (d + 1) - 2 + 2 = rw (pow-add 2 d 1) (omega (arith, pow_pos d)) in
    ap (λ (x : ℕ). x - 1 - 2 ^ i) (pow-add 2 (d + 1) i ∙ ap (λ (x : ℕ). x * 2 ^ i) e)
    ∙ mask-parts (2 ^ (d + 1) - 2) (2 ^ i) (pow_pos i)

-- a number of k digits without the digit at i
abbrev without : ℕ → ℕ → ℕ
without w i = (w / 2 ^ i / 2 * 2) * 2 ^ i + w % 2 ^ i

and_at : (w d i : ℕ) → w < 2 ^ (d + 1 + i) → bit_and w (2 ^ (d + 1 + i) - 1 - 2 ^ i) ≡ without w i
and_at w d i h =
    let high = and_high (w / 2 ^ i) d 1 ∙ ap (λ (x : ℕ). x * 2) (shr_mod d 1 (shr_lt (d + 1) i h)) in
    let low = and_mask (w % 2 ^ i) i ∙ mod-eq_of_lt (mod-lt w (pow_pos i)) in
    ap₂ bit_and (sym (split w i)) (others-mask d i)
    ∙ and_block i (w / 2 ^ i) (2 ^ (d + 1) - 2) (w % 2 ^ i) (2 ^ i - 1) (mod-lt w (pow_pos i)) (ones_lt i)
    ∙ ap₂ (λ (x y : ℕ). x * 2 ^ i + y) high low

and-others : (w i k : ℕ) → w < 2 ^ k → i < k → bit_and w (2 ^ k - 1 - 2 ^ i) ≡ without w i
and-others w i k h l =
    let e : k - i - 1 + 1 + i ≡ k = omega arith in
    subst (λ (n : ℕ). w < 2 ^ n → bit_and w (2 ^ n - 1 - 2 ^ i) ≡ without w i) e (and_at w (k - i - 1) i) h

pub and-rest : (w i k : ℕ) → w < 2 ^ k → i < k → bit_and w (2 ^ k - 1 - 2 ^ i) + bit_at w i * 2 ^ i ≡ w
and-rest w i k h l =
    let q = ap (λ (x : ℕ). x * 2 ^ i) (div-add-mod' (w / 2 ^ i) 2) in
    omega (arith, and-others w i k h l, split w i)
