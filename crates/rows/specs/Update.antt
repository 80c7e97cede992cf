-- docs/POOL.md, "Below the pool"
-- A function of numbers, changed at one of them.
use Rattle.std.specs.Prelude.{ℕ}
use Rattle.std.proofs.Math.Decide.{ℕ_discrete}
use Rattle.rows.specs.Branch.{if}

-- The function f with the value v at the number i, and as it was at every other number j.
unfoldable pub update : {A : Type 0} → (ℕ → A) → ℕ → A → ℕ → A
update f i v j = if (ℕ_discrete j i) v (f j)
