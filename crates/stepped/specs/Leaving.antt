-- docs/POOL.md, "Leaving"
-- Leaving: "in rising order of class, each non-empty cache is returned as in free, steps 2 to 6, and one further step,
-- after all are empty, finishes the request" (the request for leaving). Here are the beginning, the way from one cache
-- to the next, and the last step.
use Rattle.std.specs.Prelude.{ℕ, zero, suc, ◌+◌, ◌-◌, Bool, cond, ◌||◌, List, [], ◌∷◌, leb, eqb}
use Rattle.limits.specs.Limits.{CLASSES}
use Rattle.fields.specs.Columns.{View, Write, ◌:=◌}
use Rattle.classes.specs.Classes.{per_region}
use Rattle.plain.specs.Moves.{Decided, nothing}
use Rattle.control.specs.Layout.{CacheCount, GroupCount, TaskLost, TaskPlace, TaskClass, TaskUnit, LEAVING}
use Rattle.control.specs.Places.{IDLE, F2, LEAVE_END}
use Rattle.control.specs.Answers.{Freed}
use Rattle.stepped.specs.Outcome.{Outcome, bad, accept, over}

-- v: what stands in the fields; t: the task
module _ (v : View) (t : ℕ) where
  -- the first of the n classes from c on whose cache is not empty, or the number behind them: "Empty caches take no
  -- step"
  unfoldable pub first_cached : ℕ → ℕ → ℕ
  first_cached c zero = c
  first_cached c (suc n) = cond (eqb (v (CacheCount t c)) 0) (first_cached (c + 1) n) c

  -- the class that leaving goes on with, of those from c on; CLASSES where all caches are empty
  abbrev pub next_cached : ℕ → ℕ
  next_cached c = first_cached c (CLASSES - c)

  -- the count that was read is in its range: all caches are empty, or that of the class j has at most n blocks
  abbrev pub count_fits : ℕ → Bool
  count_fits j = eqb j CLASSES || leb (v (CacheCount t j)) (per_region j)

  -- leaving goes on with the cache of the class j, and a new group; or, all caches empty, with its last step. The
  -- writes ws follow
  abbrev pub leave_writes : ℕ → List Write → List Write
  leave_writes j ws =
      cond (eqb j CLASSES)
      (TaskPlace t := LEAVE_END ∷ ws)
      (TaskPlace t := F2 ∷ TaskClass t := j ∷ GroupCount t := 0 ∷ ws)

  -- leaving goes on with the next cache that is not empty, of the classes from c on, without a step, after the writes
  -- ws of the move e; "14 comes where the bad value is read"
  unfoldable pub leave_from : ℕ → Decided → List Write → Outcome
  leave_from c e ws = cond (count_fits (next_cached c)) (accept e (leave_writes (next_cached c) ws) []) bad

  -- "Beginning a request does no step": that of leaving changes the task's own fields alone
  abbrev pub begin_leave : Outcome
  begin_leave = leave_from 0 nothing (TaskUnit t := LEAVING ∷ TaskLost t := 0 ∷ [])

  -- the last step: "one further step, after all are empty, finishes the request"
  abbrev pub leave_end : Outcome
  leave_end = over Freed nothing (TaskPlace t := IDLE ∷ []) []
