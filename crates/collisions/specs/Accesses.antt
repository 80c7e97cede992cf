-- docs/POOL.md, "Collisions"
-- What each event of a run does with the words that tasks exchange, read off the stepped run: its memories, its answer
-- and the move that it decided.
use Rattle.std.specs.Prelude.{cond, List, [], ◌∷◌, ℕ, pred, eqb}
use Rattle.limits.specs.Limits.{SPARE_DESCRIPTORS, SPARE_REGIONS}
use Rattle.fields.specs.Columns.{View}
use Rattle.plain.specs.Moves.{Decided, nothing, found_empty, popped, pushed, lost, anchor_empty, took, gave}
use Rattle.plain.specs.Moves.{anchor_lost, strip_taken, strip_given, no_strip, Answer}
use Rattle.plain.specs.Calls.{Call, start, allocate, free, leave, step}
use Rattle.control.specs.Layout.{Map, TaskPlace, TaskClass, TaskDescriptor, TaskRegion, seen}
use Rattle.control.specs.Places.{POP_PARTIAL, POP_SPARE, POP_REGION, PUSH_RETIRE, PUSH_BACK, PUSH_RELEASE, PUSH_OFFER}
use Rattle.control.specs.Places.{A3_READ, F3_READ}
use Rattle.agreement.specs.Events.{Event, call, write, write_strip}
use Rattle.collisions.specs.Recorded.{Record}

-- "on the same word" (the request for collisions): the head of the list ℓ, or the anchor of the descriptor d
pub data Word : Type 0 where
  head : (ℓ : ℕ) → Word
  anchor : (d : ℕ) → Word

-- what an event does with a word: the task t reads it, to exchange it later; wins an exchange of it; or loses one
pub data Access : Type 0 where
  reads wins loses : (t : ℕ) (w : Word) → Access
  no_word : Access

-- ---- reads

-- The places of the step list at which the task t reads a word, each with that word, by the fields v: "read head", in
-- each pop and push; and "Read the anchor", in an allocation that of the descriptor popped, in a return that of the
-- descriptor which the map names for the group's region. (An entry is one more than the descriptor's number; a return
-- that finds none is refused.) No other place reads one.
abbrev pub read_places : View → ℕ → List (ℕ × Word)
read_places v t =
    (POP_PARTIAL, head (v (TaskClass t)))
    ∷ (POP_SPARE, head SPARE_DESCRIPTORS)
    ∷ (POP_REGION, head SPARE_REGIONS)
    ∷ (PUSH_RETIRE, head SPARE_DESCRIPTORS)
    ∷ (PUSH_BACK, head SPARE_DESCRIPTORS)
    ∷ (PUSH_RELEASE, head SPARE_REGIONS)
    ∷ (PUSH_OFFER, head (v (TaskClass t)))
    ∷ (A3_READ, anchor (v (TaskDescriptor t)))
    ∷ (F3_READ, anchor (pred (v (Map (v (TaskRegion t))))))
    ∷ []

-- the word that is read at the place, if the table has it
abbrev pub read_from : ℕ → ℕ → List (ℕ × Word) → Access
read_from t place [] = no_word
read_from t place (x ∷ q) = cond (eqb place x.0) (reads t x.1) (read_from t place q)

-- what the task t reads at its place
abbrev pub read_at : View → ℕ → Access
read_at v t = read_from t (v (TaskPlace t)) (read_places v t)

-- ---- the accesses of a run

-- By what a step of the task t decided. A won pop, a won push, a chain taken and a group given back are won exchanges.
-- The reads that find a list empty, or an anchor EMPTY, decide; every other read decides nothing: r is what the step
-- reads by its place. A strip's move has no such word.
abbrev pub access_by : ℕ → Decided → Access → Access
access_by t nothing r = r
access_by t (found_empty ℓ) r = reads t (head ℓ)
access_by t (popped ℓ x) r = wins t (head ℓ)
access_by t (pushed ℓ x) r = wins t (head ℓ)
access_by t (lost ℓ) r = loses t (head ℓ)
access_by t (anchor_empty d) r = reads t (anchor d)
access_by t (took d) r = wins t (anchor d)
access_by t (gave d) r = wins t (anchor d)
access_by t (anchor_lost d) r = loses t (anchor d)
access_by t (strip_taken s) r = no_word
access_by t (strip_given s) r = no_word
access_by t no_strip r = no_word

-- what a step of the task t that answered y does, by the fields v before it: one that was refused reads nothing
abbrev pub step_access : View → ℕ → Answer → Access
step_access v t y = access_by t y.decided (cond (eqb y.code 0) (read_at v t) no_word)

-- what a call does: steps alone read and exchange
abbrev pub call_access : View → Call → Answer → Access
call_access v (start b) y = no_word
call_access v (allocate t size) y = no_word
call_access v (free t u) y = no_word
call_access v (leave t) y = no_word
call_access v (step t) y = step_access v t y

-- what an event does: a user's write is in no such word
abbrev pub event_access : View → Event → Answer → Access
event_access v (call k lent) y = call_access v k y
event_access v (write at b) y = no_word
event_access v (write_strip at b) y = no_word

-- what the events of a run do, the latest first
abbrev pub accesses : Record → List Access
accesses [] = []
accesses (x ∷ q) =
    event_access (seen x.memories.control) x.happened.event x.happened.answer ∷ accesses q
