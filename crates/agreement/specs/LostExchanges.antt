-- docs/POOL.md, "Lost exchanges"
-- The lost exchanges of a request, by the history of a run.
use Rattle.std.specs.Prelude.{Bool, true, false, cond, ◌&&◌, List, [], ◌∷◌, ◌≡◌, ℕ, suc, ◌≤◌, ◌<◌, eqb, leb}
use Rattle.plain.specs.Moves.{Decided, nothing, found_empty, popped, pushed, lost, anchor_empty, took, gave}
use Rattle.plain.specs.Moves.{anchor_lost, strip_taken, strip_given, no_strip, Answer}
use Rattle.plain.specs.Calls.{Call, start, allocate, free, leave, step}
use Rattle.limits.specs.Limits.{TASKS}
use Rattle.control.specs.Layout.{Tasks, TaskLost, seen}
use Rattle.control.specs.Losts.{MOST_LOST}
use Rattle.agreement.specs.Events.{Event, call, write, write_strip}
use Rattle.agreement.specs.Reached.{History}

-- "The pop and push of a list, and the change of an anchor, are to count the lost exchanges" (the request for lost
-- exchanges): whether what a step decided is one
abbrev pub is_lost : Decided → Bool
is_lost nothing = false
is_lost (found_empty ℓ) = false
is_lost (popped ℓ x) = false
is_lost (pushed ℓ x) = false
is_lost (lost ℓ) = true
is_lost (anchor_empty d) = false
is_lost (took d) = false
is_lost (gave d) = false
is_lost (anchor_lost d) = true
is_lost (strip_taken s) = false
is_lost (strip_given s) = false
is_lost no_strip = false

-- how many of these are lost exchanges
abbrev pub lost_among : List Decided → ℕ
lost_among [] = 0
lost_among (e ∷ es) = cond (is_lost e) (suc (lost_among es)) (lost_among es)

-- What the steps of a request of the task t have decided after a call that answered y, where it was es before the call:
-- nothing yet behind an accepted beginning, which answers 0, or an accepted start; a step of the task adds its own.
abbrev pub moves_by : ℕ → Call → Answer → List Decided → List Decided
moves_by t (start b) y es = cond (eqb y.code 0) [] es
moves_by t (allocate u size) y es = cond (eqb y.code 0 && eqb u t) [] es
moves_by t (free u unit) y es = cond (eqb y.code 0 && eqb u t) [] es
moves_by t (leave u) y es = cond (eqb y.code 0 && eqb u t) [] es
moves_by t (step u) y es = cond (eqb u t) (y.decided ∷ es) es

-- the same of an event: a user's write decides nothing
abbrev pub moves_in : ℕ → Event → Answer → List Decided → List Decided
moves_in t (call k lent) y es = moves_by t k y es
moves_in t (write at b) y es = es
moves_in t (write_strip at b) y es = es

-- "that request's history": what the steps of the task t have decided since the accepted beginning of its request, the
-- latest first, as the latest event of the history is its first. The plain pool decides the same at each of them
-- (`says` of Agreement's `Agrees`).
abbrev pub request_moves : ℕ → History → List Decided
request_moves t [] = []
request_moves t (x ∷ h) = moves_in t x.event x.answer (request_moves t h)

-- "or is 4,294,967,295 where there were more"
abbrev pub up_to_most : ℕ → ℕ
up_to_most n = cond (leb n MOST_LOST) n MOST_LOST

-- "it equals the lost exchanges in that request's history, or is 4,294,967,295 where there were more"
abbrev pub lost_in_request : ℕ → History → ℕ
lost_in_request t h = up_to_most (lost_among (request_moves t h))

-- once the pool is started, each task's count is that of the lost exchanges in its request
abbrev pub AllCounted : History → List ℕ → Type 0
AllCounted h control = 1 ≤ seen control Tasks → (t : ℕ) → t < TASKS → seen control (TaskLost t) ≡ lost_in_request t h
