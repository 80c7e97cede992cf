-- docs/POOL.md, "Below the pool"
-- Numbers that count only where a test holds.
use Rattle.std.specs.Prelude.{ℕ}
use Rattle.std.proofs.Math.Decide.{ℕ_discrete, dec_lt}
use Rattle.rows.specs.Branch.{if}

-- n if u is v, else 0.
unfoldable pub when : ℕ → ℕ → ℕ → ℕ
when u v n = if (ℕ_discrete u v) n 0

-- 1 if u is v, else 0.
abbrev pub one : ℕ → ℕ → ℕ
one u v = when u v 1

-- 1 if u is below v, else 0.
unfoldable pub below : ℕ → ℕ → ℕ
below u v = if (dec_lt u v) 1 0
