-- docs/POOL.md, "Reports"
-- How many numbers pass a test, whether all do, and which is the first that does.
use Rattle.std.specs.Prelude.{Bool, true, cond, ◌&&◌, ℕ, zero, suc, ltb}
use Rattle.rows.specs.Totals.{total}

-- 1 where a test passes, else 0; it is a weight of `total`, and the index i plays no part
abbrev pub weigh : ℕ → Bool → ℕ
weigh i b = cond b 1 0

-- how many of the numbers below n pass the test f
abbrev pub passing : ℕ → (ℕ → Bool) → ℕ
passing n f = total n weigh f

-- whether all the numbers below n pass the test f
unfoldable pub all_pass : ℕ → (ℕ → Bool) → Bool
all_pass zero f = true
all_pass (suc n) f = all_pass n f && f n

-- the first of the numbers below n that passes the test f; n where none does
unfoldable pub first_passing : ℕ → (ℕ → Bool) → ℕ
first_passing zero f = 0
first_passing (suc n) f = let i = first_passing n f in cond (ltb i n) i (cond (f n) n (suc n))
