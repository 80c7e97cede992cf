-- Nodes above one another.
use mathlib.Core.Path.{◌≡◌, refl, ap, ◌∙◌}
use mathlib.Core.Logic.{◌≢◌, ◌⊎◌, inl, inr}
use Prim.Native.Nat.{ℕ, zero, suc, ◌+◌, ◌*◌, ◌/◌, ◌^◌, ◌≤◌, ◌<◌}
use native.Mathlib.Nat.{pow-suc}
use native.Mathlib.Omega.{arith}
use Rattle.rows.specs.Comparisons.{Equality, same, other, same?}
use Rattle.strips_agreement.specs.TreeFollows.{node_above}

-- one halving more
pub up-half : (m y : ℕ) → node_above (suc m) y ≡ node_above m y / 2
up-half zero y = refl
up-half (suc m) y = up-half m (y / 2)

pub up_le : (m y : ℕ) → node_above m y ≤ y
up_le zero y = omega arith
up_le (suc m) y = omega (arith, up_le m (y / 2))

-- what is above a node that is above another
pub up-trans : (m y x d b : ℕ) → node_above m y ≡ x → node_above d x ≡ b → (e : ℕ) × (node_above e y ≡ b)
up-trans zero y x d b p q = (d, rw p q)
up-trans (suc m) y x d b p q = let r = up-trans m (y / 2) x d b p q in (suc r.0, r.1)

-- of two nodes at one depth the one below the higher number is the higher
pub up-order : (d x y a b : ℕ) → node_above d x ≡ a → node_above d y ≡ b → a < b → x < y
up-order zero x y a b p q h = omega arith
up-order (suc d) x y a b p q h = omega (arith, up-order d (x / 2) (y / 2) a b p q h)

-- no node is below both halves
pub apart : (i m n y : ℕ) → 1 ≤ i → node_above m y ≡ 2 * i → node_above n y ≡ 2 * i + 1 → ⊥
apart i zero zero y h p q = omega arith
apart i zero (suc n) y h p q = omega (arith, up_le n (y / 2))
apart i (suc m) zero y h p q = omega (arith, up_le m (y / 2))
apart i (suc m) (suc n) y h p q = apart i m n (y / 2) h p q

-- a node below another is below one of its halves
pub below : (i m y : ℕ) → node_above m y ≡ i → y ≢ i
    → ((n : ℕ) × (node_above n y ≡ 2 * i)) ⊎ ((n : ℕ) × (node_above n y ≡ 2 * i + 1))
below i zero y p d = absurd (d p)
below i (suc m) y p d = by (same? (node_above m y) (2 * i))
  where
    by : Equality (node_above m y) (2 * i)
        → ((n : ℕ) × (node_above n y ≡ 2 * i)) ⊎ ((n : ℕ) × (node_above n y ≡ 2 * i + 1))
    by (same e) = inl (m, e)
    by (other e) = inr (m, omega (arith, up-half m y))

-- the nodes at one depth below the first
pub up_one : (d y : ℕ) → node_above d y ≡ 1 → (2 ^ d ≤ y) × (y < 2 ^ d + 2 ^ d)
up_one zero y p = (omega arith, omega arith)
up_one (suc d) y p =
    let r = up_one d (y / 2) p in
    (omega (arith, r.0, pow-suc 2 d), omega (arith, r.1, pow-suc 2 d))

pub one_up : (d y : ℕ) → 2 ^ d ≤ y → y < 2 ^ d + 2 ^ d → node_above d y ≡ 1
one_up zero y a b = omega arith
one_up (suc d) y a b = one_up d (y / 2) (omega (arith, pow-suc 2 d)) (omega (arith, pow-suc 2 d))

-- ---- the two halves b and c of a node a, whichever is first
pub record Halves (a b c : ℕ) : Type 0 where
  pub first : b / 2 ≡ a
  pub second : c / 2 ≡ a
  pub above : a < b
  pub beside : a < c
  pub apart : (m n y : ℕ) → node_above m y ≡ b → node_above n y ≡ c → ⊥
  pub either : (m y : ℕ) → node_above m y ≡ a → y ≢ a
      → ((n : ℕ) × (node_above n y ≡ b)) ⊎ ((n : ℕ) × (node_above n y ≡ c))

pub lower-first : (a : ℕ) → 1 ≤ a → Halves a (2 * a) (2 * a + 1)
lower-first a h = record {
  first = omega arith;
  second = omega arith;
  above = omega arith;
  beside = omega arith;
  apart = λ m n y p q. apart a m n y h p q;
  either = λ m y p d. below a m y p d;
}

pub upper_first : (a : ℕ) → 1 ≤ a → Halves a (2 * a + 1) (2 * a)
upper_first a h = record {
  first = omega arith;
  second = omega arith;
  above = omega arith;
  beside = omega arith;
  apart = λ m n y p q. apart a n m y h q p;
  either = λ m y p d. turn (below a m y p d);
}
  where
    turn : {A B : Type 0} → A ⊎ B → B ⊎ A
    turn (inl x) = inr x
    turn (inr x) = inl x

module _ {a b c : ℕ} (h : Halves a b c) where
  -- below a half is below the whole
  pub up_first : (m y : ℕ) → node_above m y ≡ b → node_above (suc m) y ≡ a
  up_first m y p = up-half m y ∙ ap (λ (x : ℕ). x / 2) p ∙ h.first

  -- the whole is below neither half
  pub not-below : (m : ℕ) → node_above m a ≡ b → ⊥
  not-below m p = omega (arith, up_le m a, h.above)

  -- what is not below the whole is below neither half
  pub not_first : (y : ℕ) → ((m : ℕ) → node_above m y ≢ a) → (m : ℕ) → node_above m y ≢ b
  not_first y n m p = n (suc m) (up_first m y p)
