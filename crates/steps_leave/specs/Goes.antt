-- docs/POOL.md, "Leaving"
-- What the search for the next cache ensures.
use Rattle.std.specs.Prelude.{◌≡◌, true, List, [], ℕ}
use Rattle.fields.specs.Columns.{View}
use Rattle.control.specs.Layout.{changed}
use Rattle.stepped.specs.Leaving.{next_cached, count_fits, leave_writes}

-- Leaving goes on with the classes from c on: the count that was read is in its range.
pub record Goes (v : View) (t c : ℕ) (before after : List ℕ) : Type 0 where
  pub fits : count_fits v t (next_cached v t c) ≡ true
  pub control : after ≡ changed (leave_writes v t (next_cached v t c) []) before
