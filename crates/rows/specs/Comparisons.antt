-- docs/POOL.md, "Below the pool"
-- Tests that hand on the fact they found, for use in a proof by cases.
use Rattle.std.specs.Prelude.{◌≡◌, refl, ◌≢◌, Bool, true, false, ℕ, ◌≤◌, ◌<◌}
use Rattle.std.proofs.Common.{arith}
use Rattle.std.proofs.Math.Decide.{ℕ_discrete, dec_lt}

-- Two numbers are the same, or the first is another one.
pub data Equality (u v : ℕ) : Type 0 where
  same : u ≡ v → Equality u v
  other : u ≢ v → Equality u v

-- Whether two numbers are the same.
pub same? : (u v : ℕ) → Equality u v
same? u v = elim (ℕ_discrete u v) [ yes e ↦ same e | no d ↦ other d ]

-- The first number is below the second, or it is not.
pub data Order (u v : ℕ) : Type 0 where
  before : u < v → Order u v
  after : v ≤ u → Order u v

-- Whether one number is below another.
pub order? : (u v : ℕ) → Order u v
order? u v = elim (dec_lt u v) [ yes l ↦ before l | no n ↦ after (omega arith) ]

-- A test holds, or it fails.
pub data Truth (b : Bool) : Type 0 where
  holds : b ≡ true → Truth b
  fails : b ≡ false → Truth b

-- Whether a test holds.
pub true? : (b : Bool) → Truth b
true? true = holds refl
true? false = fails refl
