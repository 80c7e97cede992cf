-- The bench table, and what each of its rows says.
use mathlib.Core.Path.{◌≡◌}
use mathlib.Core.Bool.{cond}
use mathlib.Core.List.{List, [], ◌∷◌, map}
use Prim.Native.Nat.{ℕ, suc, ◌<◌}
use lib.Dec.{eqb}
use lib.ListN.{replicate}
use Rattle.fields.specs.Columns.{View, assigned}
use Rattle.words.specs.Head.{word, tag_of, advanced_word}
use Rattle.words.specs.Anchor.{EMPTY, PARTIAL, full, returned}
use Rattle.classes.specs.Classes.{block}
use Rattle.plain.specs.State.{working, Mem}
use Rattle.plain.specs.Steps.{Result}
use Rattle.plain.specs.Calls.{Start, allocate, step}
use Rattle.plain.specs.Calls as Plain
use Rattle.control.specs.Layout.{TaskPlace, TaskClass}
use Rattle.control.specs.Answers.{code_of}
use Rattle.stepped.specs.Outcome.{Memories, Outcome}
use Rattle.stepped.specs.Calls.{Lent, lengths}
use Rattle.stepped.specs.Calls as Stepped
use Rattle.agreement.specs.Events.{Event, call}
use Rattle.agreement.specs.Reached.{starting}
use Rattle.agreement.proofs.BenchSizes.{Served, bytes, strip, number}
use Rattle.agreement.proofs.Undisturbed.{brief, finishing}
use Rattle.agreement.proofs.AnswersOfRuns.{stepped_answers}
use Rattle.pieces.specs.StripSizes.{strip_bytes}
use Rattle.plain.specs.State.{Place, idle}
use Rattle.plain.specs.Requests.{Request, allocation, freeing, strip_allocation, strip_freeing, leaving, request_at}
use Rattle.control.specs.Places.{STRIP_TAKE}

-- ---- the table

pub data Row : Type 0 where
  -- a size, and the block that serves it or the number that refuses it
  of_size : ℕ → Served → Row
  -- the first allocation of a size in a fresh pool: the step at which it finishes, and the unit
  first-allocation : (size step unit : ℕ) → Row
  -- a tag, and the tag after a won exchange
  tag-won : (tag next : ℕ) → Row
  -- a FULL anchor of a class with n blocks, and a group that is returned: the state and the count then
  group-returned : (n group state count : ℕ) → Row

abbrev pub table : List Row
table =
    of_size 0 (number 8)
    ∷ of_size 1 (bytes 8)
    ∷ of_size 9 (bytes 16)
    ∷ of_size 17 (bytes 32)
    ∷ of_size 65 (bytes 80)
    ∷ of_size 256 (bytes 256)
    ∷ of_size 257 (strip 512)
    ∷ first-allocation 256 26 480
    ∷ first-allocation 8 522 511
    ∷ first-allocation 257 1 8192
    ∷ tag-won 4294967295 0
    ∷ group-returned 16 16 EMPTY 16
    ∷ group-returned 16 15 PARTIAL 15
    ∷ []

-- ---- what a row says

-- What the beginning of an allocation shows: x where the code is 0, else the number that refuses it.
abbrev pub begins : ℕ → Served → Served
begins code x = cond (eqb code 0) x (number code)

-- in the stepped pool, by its answer, and the place and the class, or the order, that it writes
abbrev pub stepped_begins : View → ℕ → Outcome → Served
stepped_begins v t o =
    let c = assigned o.writes v (TaskClass t) in
    begins (code_of o.answer)
    (cond (eqb (assigned o.writes v (TaskPlace t)) STRIP_TAKE) (strip (strip_bytes c)) (bytes (block c)))

-- the block or the strip that a request is for; a free is for none, nor is leaving
abbrev pub requested : Request → Served
requested (allocation c) = bytes (block c)
requested (strip_allocation k) = strip (strip_bytes k)
requested (freeing c u) = bytes 0
requested (strip_freeing s) = strip 0
requested leaving = bytes 0

-- the same of a task at a place
abbrev pub requested_at : Place → Served
requested_at idle = bytes 0
requested_at (working w) = requested (request_at w)

-- in the plain pool, by its answer and the task's request
abbrev pub plain_begins : ℕ → Result → Served
plain_begins t y = begins y.1.code (requested_at (y.0.task t).place)

-- a start, an allocation of the size begun by the task t, and n steps of it
abbrev pub allocating : (lent : Lent) (b : Start) (t size n : ℕ) → List Event
allocating lent b t size n = starting b lent ∷ call (allocate t size) lent ∷ replicate n (call (step t) lent)

-- What a row says. Of sizes, in both pools, whatever they hold, and of every task. Of first allocations, on the bytes:
-- after every accepted start, whatever bytes the memories held before, and of each of its tasks; the start, the
-- beginning and all of the n steps but the last are code 0 with value 0, and the last finishes with the unit. Of tags,
-- in every head word and with every item put on top; of groups, with every first block.
abbrev pub RowHolds : Row → Type 0
RowHolds (of_size s x) =
    (t : ℕ) (v : View) (m : Mem)
    → (stepped_begins v t (Stepped.begin_allocate t s) ≡ x) × (plain_begins t (Plain.begin_allocate t s m) ≡ x)
RowHolds (first-allocation s n unit) =
    (lent : Lent) (b : Start) (t : ℕ) (before : Memories) → Plain.StartTested b (lengths lent) → t < b.tasks
    → map brief (stepped_answers (allocating lent b t s n) before) ≡ finishing (suc n) unit
RowHolds (tag-won tag next) = (w item : ℕ) → tag_of w ≡ tag → advanced_word w item ≡ word item next
RowHolds (group-returned n g state count) =
    (first : ℕ) → returned (full n) first g n ≡ record { state = state; avail = first; count = count }

abbrev pub Every : List Row → Type 0
Every [] = Unit {0}
Every (r ∷ q) = RowHolds r × Every q
