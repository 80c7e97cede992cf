-- The order of a size is the smallest whose strip holds it.
use mathlib.Core.Path.{◌≡◌, refl}
use mathlib.Core.Logic.{◌⊎◌, inl, inr}
use Prim.Native.Nat.{ℕ, zero, suc, ◌+◌, ◌*◌, ◌≤◌, ◌<◌}
use native.Mathlib.Omega.{arith}
use borrow.Author.Tests.{le-leb, lt-leb}
use Rattle.limits.specs.Limits.{LARGEST_STRIP, WHOLE_ORDER}
use Rattle.rows.specs.Comparisons.{Order, before, after, order?}
use Rattle.pieces.specs.StripSizes.{strip_bytes, order_from, order_of, RoundsTo}

module _ (z : ℕ) (most : z ≤ LARGEST_STRIP) where
  from-rounds : (n k : ℕ) → n + k ≡ WHOLE_ORDER → ((j : ℕ) → j < k → strip_bytes j < z) → RoundsTo z (order_from n k z)
  unfolding order_from
  from-rounds zero k e s =
      let d : k ≡ WHOLE_ORDER = omega arith in
      record { within = omega arith; holds = rw d most; smallest = s }
  from-rounds (suc n) k e s = by (order? (strip_bytes k) z) (from-rounds n (suc k) (omega arith))
    where
      more : strip_bytes k < z → (j : ℕ) → j < suc k → strip_bytes j < z
      more l j h = at (order? j k)
        where
          at : Order j k → strip_bytes j < z
          at (before b) = s j b
          at (after a) =
              let d : j ≡ k = omega arith in
              rw d l

      by : Order (strip_bytes k) z → (((j : ℕ) → j < suc k → strip_bytes j < z) → RoundsTo z (order_from n (suc k) z))
          → RoundsTo z (order_from (suc n) k z)
      by (before l) r = rw (lt-leb _ _ l) (r (more l))
      by (after g) r = rw (le-leb _ _ g) (record { within = omega arith; holds = g; smallest = s })

  -- "A size is rounded up to a power of two, at least 512"
  pub rounds : RoundsTo z (order_of z)
  rounds = from-rounds WHOLE_ORDER 0 refl (λ j h. omega arith)

-- a size has one order
pub rounds-once : (z j k : ℕ) → RoundsTo z j → RoundsTo z k → j ≡ k
rounds-once z j k a b = by (order? j k) (order? k j)
  where
    by : Order j k → Order k j → j ≡ k
    by (before l) o = omega (arith, b.smallest j l, a.holds)
    by (after g) (before l) = omega (arith, a.smallest k l, b.holds)
    by (after g) (after h) = omega arith

-- a strip is at least as large as asked for, and less than twice that, or 512
pub less-than-twice : (z k : ℕ) → RoundsTo z k → (k ≡ 0) ⊎ (strip_bytes k < 2 * z)
less-than-twice z zero r = inl refl
less-than-twice z (suc k) r = inr (omega (arith, r.smallest k (omega arith)))
