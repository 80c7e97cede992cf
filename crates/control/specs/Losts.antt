-- docs/POOL.md, "Lost exchanges"
-- The count of a task's lost exchanges.
use Rattle.std.specs.Prelude.{ℕ, ◌+◌, cond, ltb}

-- the most that is counted: "or is 4,294,967,295 where there were more" (the request for lost exchanges)
abbrev pub MOST_LOST : ℕ
MOST_LOST = 4294967295

-- a lost exchange counts one more, never past the most
unfoldable pub one_more : ℕ → ℕ
one_more n = cond (ltb n MOST_LOST) (n + 1) n
