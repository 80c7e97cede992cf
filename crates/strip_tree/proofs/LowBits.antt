-- Bits of a word, and shifts.
use Prim.Native.Nat.{ℕ, ◌+◌, ◌-◌, ◌*◌, ◌/◌, ◌%◌, ◌^◌, ◌<◌, ◌≤◌}
use mathlib.Core.Path.{◌≡◌, ap, ◌∙◌, subst}
use native.Mathlib.Nat.{div-eq_of_lt, one-mul}
use native.Mathlib.Omega.{arith}
use lib.Pow.{field, mod-mod-pow, shr-shr, shl_exact, shr_le}
use Rattle.limits.specs.Limits.{SLOTS, ORDERS}
use Rattle.words.specs.Mark.{bit_at}

-- ---- single bits

-- a number below 2 ^ j has no bit from j on
pub bit_past : (n j : ℕ) → n < 2 ^ j → bit_at n j ≡ 0
bit_past n j h = rw (div-eq_of_lt h)

low-at : (n d j : ℕ) → bit_at (n % 2 ^ (d + 1 + j)) j ≡ bit_at n j
low-at n d j = ap (λ (x : ℕ). x % 2) (field n (d + 1) j) ∙ mod-mod-pow (n / 2 ^ j) d 1

low_bit : (n i j : ℕ) → j < i → bit_at (n % 2 ^ i) j ≡ bit_at n j
low_bit n i j h =
    let e : i - j - 1 + 1 + j ≡ i = omega arith in
    subst (λ (k : ℕ). bit_at (n % 2 ^ k) j ≡ bit_at n j) e (low-at n (i - j - 1) j)

-- the bits from p on, p of them
pub upper-bit : (n p j : ℕ) → j < p → bit_at (n / 2 ^ p % 2 ^ p) j ≡ bit_at n (p + j)
upper-bit n p j h = low_bit (n / 2 ^ p) p j h ∙ ap (λ (x : ℕ). x % 2) (shr-shr n p j)

-- ---- the mask of p bits
pub one_shifted : (p : ℕ) → p ≤ 32 → 1 * 2 ^ p % 18446744073709551616 ≡ 2 ^ p
one_shifted p h = shl_exact 1 p 64 (omega arith) (omega arith) ∙ one-mul (2 ^ p)

-- a slot shifted down and up again
pub kept-shifted : (s k : ℕ) → s < SLOTS → k < ORDERS → s / 2 ^ k * 2 ^ k % 18446744073709551616 ≡ s / 2 ^ k * 2 ^ k
kept-shifted s k h l = shl_exact 7 k 64 (omega (arith, shr_le s k)) (omega arith)
