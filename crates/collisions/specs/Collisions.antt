-- docs/POOL.md, "Collisions"
-- That lost exchanges are paid for by won ones: the two sentences of the request for collisions, of the history of a
-- run.
use Rattle.std.specs.Prelude.{◌≡◌, ◌≢◌, Bool, true, false, cond, List, [], ◌∷◌, ◌++◌, ℕ, suc, ◌*◌, ◌-◌, ◌≤◌, eqb}
use Rattle.plain.specs.Moves.{Decided, nothing, found_empty, popped, pushed, lost, anchor_empty, took, gave}
use Rattle.plain.specs.Moves.{anchor_lost, strip_taken, strip_given, no_strip, Answer}
use Rattle.plain.specs.Calls.{Call, start, allocate, free, leave, step}
use Rattle.agreement.specs.Events.{Event, call, write, write_strip}
use Rattle.agreement.specs.LostExchanges.{lost_among}
use Rattle.collisions.specs.Recorded.{Record}
use Rattle.collisions.specs.Accesses.{Word, Access, reads, wins, loses, no_word, accesses}

-- ---- "from a start up to the next"

-- how many tasks there are after a call that answered y, where there were n before it: an accepted start, which answers
-- 0, names them anew
abbrev pub tasks_by : Call → Answer → ℕ → ℕ
tasks_by (start b) y n = cond (eqb y.code 0) b.tasks n
tasks_by (allocate t size) y n = n
tasks_by (free t u) y n = n
tasks_by (leave t) y n = n
tasks_by (step t) y n = n

-- the same of an event
abbrev pub tasks_in : Event → Answer → ℕ → ℕ
tasks_in (call k lent) y n = tasks_by k y n
tasks_in (write at b) y n = n
tasks_in (write_strip at b) y n = n

-- "With T tasks": those of the last accepted start of a history, whose latest event is the first; 0 before any start
abbrev pub started_tasks : Record → ℕ
started_tasks [] = 0
started_tasks (x ∷ h) = tasks_in x.happened.event x.happened.answer (started_tasks h)

-- what has happened since the last accepted start after a call that answered y, where q is that with the call itself:
-- nothing, if the call is such a start
abbrev pub since_by : Call → Answer → Record → Record
since_by (start b) y q = cond (eqb y.code 0) [] q
since_by (allocate t size) y q = q
since_by (free t u) y q = q
since_by (leave t) y q = q
since_by (step t) y q = q

-- the same of an event
abbrev pub since_in : Event → Answer → Record → Record
since_in (call k lent) y q = since_by k y q
since_in (write at b) y q = q
since_in (write_strip at b) y q = q

-- "from a start up to the next": what has happened in a history since its last accepted start
abbrev pub since_start : Record → Record
since_start [] = []
since_start (x ∷ h) = since_in x.happened.event x.happened.answer (x ∷ since_start h)

-- ---- "the lost exchanges number at most (T − 1) times the won ones"

-- whether what a step decided is a won exchange, of a list's head or of an anchor
abbrev pub is_won : Decided → Bool
is_won nothing = false
is_won (found_empty ℓ) = false
is_won (popped ℓ x) = true
is_won (pushed ℓ x) = true
is_won (lost ℓ) = false
is_won (anchor_empty d) = false
is_won (took d) = true
is_won (gave d) = true
is_won (anchor_lost d) = false
is_won (strip_taken s) = false
is_won (strip_given s) = false
is_won no_strip = false

-- how many of these are won exchanges; `lost_among` counts the lost ones
abbrev pub won_among : List Decided → ℕ
won_among [] = 0
won_among (e ∷ es) = cond (is_won e) (suc (won_among es)) (won_among es)

-- what the events of a history have decided, the latest first
abbrev pub decided_in : Record → List Decided
decided_in [] = []
decided_in (x ∷ h) = x.happened.answer.decided ∷ decided_in h

-- "With T tasks, in every schedule from a start up to the next, the lost exchanges number at most (T − 1) times the won
-- ones."
abbrev pub FewLost : ℕ → List Decided → Type 0
FewLost T es = lost_among es ≤ (T - 1) * won_among es

-- ---- "each lost exchange has a won one"

-- the task t reads no word by it
abbrev pub NoRead : ℕ → Access → Type 0
NoRead t (reads u w) = u ≢ t
NoRead t (wins u w) = Unit {0}
NoRead t (loses u w) = Unit {0}
NoRead t no_word = Unit {0}

-- the task t reads no word by any of them
abbrev pub NoReads : ℕ → List Access → Type 0
NoReads t [] = Unit {0}
NoReads t (x ∷ h) = NoRead t x × NoReads t h

-- "each lost exchange has a won one by another task, on the same word, after the loser's read and before its lost
-- exchange": h is what was done before the task t lost an exchange of the word w, the latest first. The loser's read
-- is its last one.
pub record Paid (t : ℕ) (w : Word) (h : List Access) : Type 0 where
  pub winner : ℕ
  pub another : winner ≢ t
  -- what was done after the won exchange, between it and the read, and before the read
  pub after : List Access
  pub between : List Access
  pub before : List Access
  pub is : h ≡ after ++ (wins winner w ∷ (between ++ (reads t w ∷ before)))
  pub last : NoReads t (after ++ (wins winner w ∷ between))

-- a lost exchange is paid for by what was done before it; of the others nothing is asked
abbrev pub PaidBy : Access → List Access → Type 0
PaidBy (reads t w) h = Unit {0}
PaidBy (wins t w) h = Unit {0}
PaidBy (loses t w) h = Paid t w h
PaidBy no_word h = Unit {0}

-- each lost exchange is
abbrev pub EachPaid : List Access → Type 0
EachPaid [] = Unit {0}
EachPaid (x ∷ h) = PaidBy x h × EachPaid h

-- ---- both

-- the two sentences, of the events of a run behind its last accepted start
pub record CollisionsPaid (h : Record) : Type 0 where
  pub few : FewLost (started_tasks h) (decided_in (since_start h))
  pub each : EachPaid (accesses (since_start h))
