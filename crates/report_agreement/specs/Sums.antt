-- docs/POOL.md, "Reports"
-- Numbers added up.
use Rattle.std.specs.Prelude.{ℕ}
use Rattle.rows.specs.Totals.{total}

-- the sum of the first n numbers of f
abbrev pub sum : ℕ → (ℕ → ℕ) → ℕ
sum n f = total n (λ i x. x) f
