-- What a write leaves as it was, each law over every width.
use mathlib.Core.Path.{◌≡◌, refl, ◌∙◌}
use mathlib.Core.List.{List}
use Prim.Native.Nat.{ℕ, zero, suc, ◌+◌, ◌/◌, ◌%◌, ◌≤◌, ◌<◌}
use native.Mathlib.Decide.{dec_lt}
use native.Mathlib.Omega.{arith}
use lib.ListN.{get_or, set}
use lib.Seq.{get_or-set_other}
use Rattle.fields.specs.Little.{get_le, set_le}
use Rattle.fields.proofs.Little.{get_d-before}

-- a write leaves each byte past it
pub get_d_past : (s : List ℕ) (at w v i : ℕ) → at + w ≤ i → get_or (set_le s at w v) i 0 ≡ get_or s i 0
unfolding set_le
get_d_past s at zero v i h = refl
get_d_past s at (suc w) v i h =
    get_d_past (set s at (v % 256)) (suc at) w (v / 256) i (omega arith)
    ∙ get_or-set_other s at i (v % 256) 0 (omega arith)

-- a write leaves each byte outside it
pub get_d-other : (s : List ℕ) (at w v i : ℕ) → (i < at + w → i < at) → get_or (set_le s at w v) i 0 ≡ get_or s i 0
get_d-other s at w v i h = by (dec_lt i (at + w))
  where
    by : Dec (i < at + w) → get_or (set_le s at w v) i 0 ≡ get_or s i 0
    by (yes l) = get_d-before s at w v i (h l)
    by (no l) = get_d_past s at w v i (omega arith)

-- two lists that agree on a number's bytes have the same number there
pub get_le-agree : (s t : List ℕ) (at w : ℕ)
    → ((i : ℕ) → at ≤ i → i < at + w → get_or s i 0 ≡ get_or t i 0) → get_le s at w ≡ get_le t at w
unfolding get_le
get_le-agree s t at zero h = refl
get_le-agree s t at (suc w) h =
    rw (h at (omega arith) (omega arith), get_le-agree s t (suc at) w (λ i l k. h i (omega arith) (omega arith)))

-- a write leaves a number that it does not overlap; `omega arith` proves the premise, whichever is first
pub get_le-other : (s : List ℕ) (at w v to n : ℕ) → (to < at + w → to + n ≤ at)
    → get_le (set_le s at w v) to n ≡ get_le s to n
get_le-other s at w v to n h =
    get_le-agree (set_le s at w v) s to n (λ i l k. get_d-other s at w v i (λ m. omega (arith, h (omega arith))))

-- one byte that is changed leaves a number that it is not part of
pub get_le-set-other : (s : List ℕ) (p x to n : ℕ) → (to ≤ p → to + n ≤ p) → get_le (set s p x) to n ≡ get_le s to n
get_le-set-other s p x to n h =
    get_le-agree (set s p x) s to n (λ i l k. get_or-set_other s p i x 0 (λ e. omega (arith, h (omega arith))))
