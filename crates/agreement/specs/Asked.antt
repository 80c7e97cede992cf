-- docs/POOL.md, "Runs and premises"
-- What each task has asked for last, by the history of a run.
use Rattle.std.specs.Prelude.{cond, ◌&&◌, [], ◌∷◌, ℕ, eqb}
use Rattle.plain.specs.Calls.{Call, start, allocate, free, leave, step}
use Rattle.agreement.specs.Events.{Event, call, write, write_strip}
use Rattle.agreement.specs.Reached.{History}

-- the request that a task began last since the start: none, an allocation of so many bytes, the free of a unit, or
-- leaving
pub data Asked : Type 0 where
  nothing_yet : Asked
  for_bytes : (size : ℕ) → Asked
  for_free : (unit : ℕ) → Asked
  for_leave : Asked

-- What the task t has asked for after a call that answered `code`, where it had asked for a before it: an accepted
-- beginning, which answers 0, asks anew, and an accepted start forgets what was asked.
abbrev pub asked_by : ℕ → Call → ℕ → Asked → Asked
asked_by t (start b) code a = cond (eqb code 0) nothing_yet a
asked_by t (allocate u size) code a = cond (eqb code 0 && eqb u t) (for_bytes size) a
asked_by t (free u unit) code a = cond (eqb code 0 && eqb u t) (for_free unit) a
asked_by t (leave u) code a = cond (eqb code 0 && eqb u t) for_leave a
asked_by t (step u) code a = a

-- the same of an event: a user's write asks for nothing
abbrev pub asked_in : ℕ → Event → ℕ → Asked → Asked
asked_in t (call k lent) code a = asked_by t k code a
asked_in t (write at b) code a = a
asked_in t (write_strip at b) code a = a

-- what the task t has asked for last in a history, whose latest event is the first
abbrev pub asked : ℕ → History → Asked
asked t [] = nothing_yet
asked t (x ∷ h) = asked_in t x.event x.answer.code (asked t h)
