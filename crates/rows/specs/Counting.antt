-- docs/POOL.md, "Below the pool"
-- How often a number stands in a row. A row is a list of numbers, its first item on top.
use Rattle.std.specs.Prelude.{◌≡◌, List, [], ◌∷◌, ◌++◌, ℕ, ◌+◌}
use Rattle.rows.specs.Weights.{one}

-- How often u stands in a row.
abbrev pub count : ℕ → List ℕ → ℕ
count u [] = 0
count u (v ∷ r) = one u v + count u r

-- A row taken apart at an item u: what stands in front of u, and what stands behind it.
pub record Split (u : ℕ) (r : List ℕ) : Type 0 where
  pub front : List ℕ
  pub back : List ℕ
  pub is : r ≡ front ++ (u ∷ back)
