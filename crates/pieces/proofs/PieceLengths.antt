-- The lengths of pieces.
use mathlib.Core.Path.{◌≡◌, refl, sym, ap, ap₂, ◌∙◌}
use Prim.Native.Nat.{ℕ, zero, suc, ◌+◌, ◌^◌, ◌≤◌}
use native.Mathlib.Nat.{pow-suc, add-mul, one-mul}
use native.Mathlib.Omega.{arith}
use Rattle.rows.specs.Comparisons.{Order, before, after, order?}
use Rattle.pieces.specs.Pieces.{slots_in}
use Rattle.pieces.specs.PieceRows.{AtMultiple}

-- a piece has at least one slot
pub some : (n : ℕ) → 1 ≤ slots_in n
some zero = omega arith
some (suc n) = omega (arith, some n)

-- a piece has a power of two of slots
pub power : (n : ℕ) → slots_in n ≡ 2 ^ n
power zero = refl
power (suc n) = omega (arith, power n, pow-suc 2 n)

-- a larger piece has a multiple of the slots
pub multiple : (k n : ℕ) → k ≤ n → AtMultiple (slots_in n) k
multiple k zero h =
    let e : k ≡ 0 = omega arith in
    rw e (record { times = 1; is = refl })
multiple k (suc n) h = by (order? n k) (multiple k n)
  where
    by : Order n k → (k ≤ n → AtMultiple (slots_in n) k) → AtMultiple (slots_in (suc n)) k
    by (before l) m =
        let e : k ≡ suc n = omega arith in
        rw e (record { times = 1; is = sym (one-mul (slots_in (suc n))) })
    by (after g) m =
        let a = m g in
        record {
          times = a.times + a.times;
          is = ap (λ (x : ℕ). x + x) a.is ∙ sym (add-mul a.times a.times (slots_in k));
        }

-- a larger piece has no fewer slots
pub larger : (k n : ℕ) → k ≤ n → slots_in k ≤ slots_in n
larger k zero h =
    let e : k ≡ 0 = omega arith in
    rw e (omega arith)
larger k (suc n) h = by (order? n k) (larger k n)
  where
    by : Order n k → (k ≤ n → slots_in k ≤ slots_in n) → slots_in k ≤ slots_in (suc n)
    by (before l) m =
        let e : k ≡ suc n = omega arith in
        rw e (omega arith)
    by (after g) m = omega (arith, m g)

-- a place past a number of larger pieces is aligned as it was
pub aligned-past : (k n p : ℕ) → k ≤ n → AtMultiple p k → AtMultiple (slots_in n + p) k
aligned-past k n p h a =
    let m = multiple k n h in
    record {
      times = m.times + a.times;
      is = ap₂ (λ (x y : ℕ). x + y) m.is a.is ∙ sym (add-mul m.times a.times (slots_in k));
    }
