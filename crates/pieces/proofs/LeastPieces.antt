-- The piece that a strip is taken from: in which half it is, and how large it is.
use mathlib.Core.Path.{◌≡◌}
use mathlib.Core.Bool.{true, false}
use Prim.Native.Nat.{ℕ, suc, ◌≤◌, ◌<◌}
use native.Mathlib.Omega.{arith}
use borrow.Author.Tests.{le-leb, lt-leb}
use Rattle.limits.specs.Limits.{WHOLE_ORDER}
use Rattle.rows.specs.Comparisons.{Order, before, after, order?}
use Rattle.pieces.specs.Pieces.{free, held, begun, Pieces, whole, halves}
use Rattle.pieces.specs.Strips.{NO_ORDER, least_order, least_in_lower}

-- the piece is in the lower half, or in the upper
pub data Half (k : ℕ) {n : ℕ} (l r : Pieces n) : Type 0 where
  low : least_in_lower k l r ≡ true → least_order k (halves l r) ≡ least_order k l
      → least_order k l ≤ least_order k r → Half k l r
  high : least_in_lower k l r ≡ false → least_order k (halves l r) ≡ least_order k r
      → least_order k r < least_order k l → Half k l r

pub half? : (k : ℕ) {n : ℕ} (l r : Pieces n) → Half k l r
half? k l r = elim (order? (least_order k r) (least_order k l)) [
  | before h ↦ high (lt-leb _ _ h) (omega arith) h
  | after h ↦ low (le-leb _ _ h) (omega arith) h
]

-- a free piece is sufficient if its order is k or more
pub enough : (k n : ℕ) → least_order k (whole {n = n} free) ≤ WHOLE_ORDER → k ≤ n
enough k n h = by (order? n k)
  where
    by : Order n k → k ≤ n
    by (before l) = absurd (few (rw (lt-leb _ _ l) at h))
      where
        few : NO_ORDER ≤ WHOLE_ORDER → ⊥
        few x = omega arith
    by (after g) = g

pub exact : (k n : ℕ) → k ≤ n → least_order k (whole {n = n} free) ≡ n
exact k n h = rw (le-leb _ _ h)

-- the least order is k or more
pub least_above : (k : ℕ) {n : ℕ} (t : Pieces n) → k ≤ WHOLE_ORDER → k ≤ least_order k t
least_above k (whole {n} free) b = by (order? n k)
  where
    by : Order n k → k ≤ least_order k (whole {n = n} free)
    by (before l) = rw (lt-leb _ _ l) (omega arith)
    by (after g) = rw (le-leb _ _ g) g
least_above k (whole held) b = omega arith
least_above k (whole (begun t)) b = omega arith
least_above k (halves l r) b = omega (arith, least_above k l b, least_above k r b)

-- where a sufficient piece is free, the order is at most that of the whole
pub least-within : (k : ℕ) {n : ℕ} (t : Pieces n) → least_order k t ≤ WHOLE_ORDER → least_order k t ≤ n
least-within k (whole {n} free) h = rw (exact k n (enough k n h)) (omega arith)
least-within k (whole held) h = omega arith
least-within k (whole (begun t)) h = omega arith
least-within k (halves {n} l r) h = by (half? k l r) (least-within k l) (least-within k r)
  where
    by : Half k l r → (least_order k l ≤ WHOLE_ORDER → least_order k l ≤ n)
        → (least_order k r ≤ WHOLE_ORDER → least_order k r ≤ n) → least_order k (halves l r) ≤ suc n
    by (low e d b) f g = omega (arith, f (omega arith))
    by (high e d b) f g = omega (arith, g (omega arith))

pub sufficient : (k : ℕ) {n : ℕ} (t : Pieces n) → k ≤ WHOLE_ORDER → least_order k t ≤ WHOLE_ORDER → k ≤ n
sufficient k t b h = omega (arith, least_above k t b, least-within k t h)
