-- A number's decimal text is what it should be: read as decimal it says the number, and no zero stands in front.
use Prim.Native.Nat.{ℕ, zero, suc, ◌+◌, ◌*◌, ◌-◌, ◌/◌, ◌%◌, ◌≤◌, ◌<◌}
use mathlib.Core.Path.{◌≡◌, refl}
use mathlib.Core.List.{List, [], ◌∷◌, ◌++◌}
use native.Mathlib.Omega.{arith}
use native.Mathlib.Decide.{dec_lt}
use borrow.Author.Tests.{lt-ltb, le-ltb}
use lib.ListN.{get_or}
use Rattle.text.specs.Texts.{digits, decimal}

-- the number that digits say, behind those that say a
abbrev pub value : ℕ → List ℕ → ℕ
value a [] = a
value a (d ∷ l) = value (10 * a + (d - 48)) l

value-last : (a : ℕ) (l : List ℕ) (d : ℕ) → value a (l ++ d ∷ []) ≡ 10 * value a l + (d - 48)
value-last a [] d = refl
value-last a (x ∷ l) d = value-last (10 * a + (x - 48)) l d

digits_value : (f n : ℕ) → n < f → value 0 (digits f n) ≡ n
unfolding digits
digits_value zero n h = absurd (omega arith)
digits_value (suc f) n h = elim (dec_lt n 10) [
  | yes d ↦ rw (lt-ltb n 10 d) (omega arith)
  | no d ↦ rw (le-ltb n 10 (omega arith))
      (omega (arith, value-last 0 (digits f (n / 10)) (48 + n % 10), digits_value f (n / 10) (omega arith)))
]

pub reads-back : (n : ℕ) → value 0 (decimal n) ≡ n
reads-back n = digits_value (suc n) n (omega arith)

front : (l t : List ℕ) → 49 ≤ get_or l 0 0 → 49 ≤ get_or (l ++ t) 0 0
front [] t h = absurd (omega arith)
front (x ∷ l) t h = h

digits-first : (f n : ℕ) → n < f → 0 < n → 49 ≤ get_or (digits f n) 0 0
unfolding digits
digits-first zero n h k = absurd (omega arith)
digits-first (suc f) n h k = elim (dec_lt n 10) [
  | yes d ↦ rw (lt-ltb n 10 d) (omega arith)
  | no d ↦ rw (le-ltb n 10 (omega arith))
      (front (digits f (n / 10)) ((48 + n % 10) ∷ []) (digits-first f (n / 10) (omega arith) (omega arith)))
]

-- the first digit of a number that is not 0 is 1 at least
pub no-zero-first : (n : ℕ) → 0 < n → 49 ≤ get_or (decimal n) 0 0
no-zero-first n h = digits-first (suc n) n (omega arith) h

-- "0" for 0, and the three digits of 480
pub as_written : (decimal 0 ≡ 48 ∷ []) × (decimal 480 ≡ 52 ∷ 56 ∷ 48 ∷ [])
unfolding digits
as_written = (refl, refl)
