-- A test at every number below a bound, which antt computes once, and what it gives at each of them.
use mathlib.Core.Path.{subst⁻¹}
use mathlib.Core.Logic.{⊎_elim}
use mathlib.Core.Bool.{Bool, true, false, ◌&&◌}
use Prim.Native.Nat.{ℕ, zero, suc, ◌<◌}
use native.Mathlib.Nat.{not-suc-le-zero, le_of_suc-le-suc, eq-or-lt_of_le}
use lib.Dec.{T}

-- the test f passes at every number below n
abbrev pub all : (ℕ → Bool) → ℕ → Bool
all f zero = true
all f (suc n) = f n && all f n

-- two tests of which both pass
pub both : (a b : Bool) → T (a && b) → T a × T b
both true b t = (tt, t)
both false b t = absurd t

-- a test that passes at every number below n passes at each of them
pub at : (f : ℕ → Bool) (n : ℕ) → T (all f n) → (k : ℕ) → k < n → T (f k)
at f zero t k h = absurd (not-suc-le-zero h)
at f (suc n) t k h =
    let p = both (f n) (all f n) t in
    ⊎_elim (λ e. subst⁻¹ (λ (m : ℕ). T (f m)) e p.0) (λ l. at f n p.1 k l)
    (eq-or-lt_of_le (le_of_suc-le-suc h))
