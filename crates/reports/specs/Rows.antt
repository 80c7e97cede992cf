-- docs/POOL.md, "Reports"
-- The row that a report fills.
use Rattle.std.specs.Prelude.{List, [], ◌∷◌, ℕ, zero, suc, ◌+◌}
use Rattle.fields.specs.Little.{set_le}

-- a number of a row takes two bytes
abbrev pub BYTES_OF_NUMBER : ℕ
BYTES_OF_NUMBER = 2

-- a row with the numbers from the byte `at` on, one behind the other, low byte first; a longer row keeps its further
-- bytes
unfoldable pub with_numbers : ℕ → List ℕ → List ℕ → List ℕ
with_numbers at [] row = row
with_numbers at (n ∷ ns) row = with_numbers (at + BYTES_OF_NUMBER) ns (set_le row at BYTES_OF_NUMBER n)

-- the numbers f 0 to f (n − 1)
unfoldable pub numbers_to : ℕ → (ℕ → ℕ) → List ℕ
numbers_to zero f = []
numbers_to (suc n) f = f 0 ∷ numbers_to n (λ i. f (suc i))
