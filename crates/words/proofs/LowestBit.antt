-- The lowest bit of a word that is set.
use Rattle.std.proofs.Common.{◌≡◌, ℕ, zero, suc, ◌+◌, ◌/◌, ◌%◌, ◌^◌, ◌<◌, sym, refl, ap, ◌∙◌, arith, shr-shr}
use lib.Count.{count_trailing_zeros, under}
use Rattle.words.specs.Mark.{bit_at}

-- a bit of a number is the bit before it of its half
bit-suc : (n i : ℕ) → bit_at n (suc i) ≡ bit_at (n / 2) i
bit-suc n i =
    let e : 1 + i ≡ suc i = omega arith in
    sym (ap (λ (x : ℕ). x % 2) (shr-shr n 1 i ∙ ap (λ (k : ℕ). n / 2 ^ k) e))

module _ (n k : ℕ) where
  abbrev Set : ℕ → Type 0
  Set z = (z < suc k) × (bit_at n z ≡ 1)

  set_at : (d : ℕ) → n % 2 ≡ d
      → ((d ≡ 0) → (count_trailing_zeros k (n / 2) < k) × (bit_at (n / 2) (count_trailing_zeros k (n / 2)) ≡ 1))
      → Set (under d (count_trailing_zeros k (n / 2)))
  set_at zero e f =
      let x = f refl in
      (omega (arith, x.0), bit-suc n (count_trailing_zeros k (n / 2)) ∙ x.1)
  set_at (suc d) e f = (omega arith, omega arith)

  low_of : (d : ℕ) → n % 2 ≡ d → (i : ℕ) → ((j : ℕ) → j < count_trailing_zeros k (n / 2) → bit_at (n / 2) j ≡ 0)
      → i < under d (count_trailing_zeros k (n / 2)) → bit_at n i ≡ 0
  low_of zero e zero f h = omega arith
  low_of zero e (suc i) f h = bit-suc n i ∙ f i (omega arith)
  low_of (suc d) e i f h = absurd (omega arith)

-- the lowest set bit is set
pub zeros-set : (k n : ℕ) → 0 < n → n < 2 ^ k
    → (count_trailing_zeros k n < k) × (bit_at n (count_trailing_zeros k n) ≡ 1)
unfolding count_trailing_zeros
zeros-set zero n h l = absurd (omega arith)
zeros-set (suc k) n h l =
    set_at n k (n % 2) refl (λ e. zeros-set k (n / 2) (omega arith) (omega (arith, native.Mathlib.Nat.pow-suc 2 k)))

-- and none below it is
pub zeros-low : (k n i : ℕ) → i < count_trailing_zeros k n → bit_at n i ≡ 0
unfolding count_trailing_zeros
zeros-low zero n i h = absurd (omega arith)
zeros-low (suc k) n i h = low_of n k (n % 2) refl i (zeros-low k (n / 2)) h
