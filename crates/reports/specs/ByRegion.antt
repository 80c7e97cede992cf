-- docs/POOL.md, "Reports"
-- Blocks counted by region.
use Rattle.std.specs.Prelude.{◌≡◌, Bool, true, false, List, [], ◌∷◌, ℕ, ◌+◌, ◌≤◌, ◌<◌, get_or, IfOk, OnOk, OnErr}
use Rattle.std.specs.declared.result.Result.{Result}
use Rattle.limits.specs.Limits.{REGIONS, MOST_BLOCKS}
use Rattle.rows.specs.Weights.{one}
use Rattle.classes.specs.Geometry.{region_of}
use Rattle.limits.specs.declared.index.OutOfRange.{OutOfRange}

-- how many blocks of a row, which are named by their first units, lie in the region r
abbrev pub in_region : ℕ → List ℕ → ℕ
in_region r [] = 0
in_region r (u ∷ q) = one r (region_of u) + in_region r q

-- What is ensured by a function that counts blocks by region: it gives the counts exactly where all that it read is in
-- its range; the count of the region r is then `number r`.
pub record Counted (in_range : Bool) (number : ℕ → ℕ) (counted : Result (List ℕ) OutOfRange) : Type 0 where
  pub counts : IfOk counted (λ counts. (r : ℕ) → r < REGIONS → get_or counts r 0 ≡ number r)
  pub in_range_is : OnOk counted (in_range ≡ true)
  pub out_of_range : OnErr counted (in_range ≡ false)

-- What is asked of counts to which those of one more task are added: none of them passes 65,535 then, for a task has at
-- most so many blocks of a region in a cache, or in a request with the block that it frees.
abbrev pub CanGrow : List ℕ → Type 0
CanGrow from = (r : ℕ) → get_or from r 0 + (MOST_BLOCKS + 1) ≤ 65535
