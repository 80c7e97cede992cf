-- docs/POOL.md, "Runs and premises"
-- The events of a run: calls, with what they are lent, and users' writes; the two runs; and the premises.
use Rattle.std.specs.Prelude.{◌≡◌, List, [], ◌∷◌, ℕ, pred, ◌+◌, ◌*◌, ◌≤◌, ◌<◌}
use Rattle.limits.specs.Limits.{CONTROL_BYTES, UNIT_BYTES, SLOT_BYTES, TAGS}
use Rattle.fields.specs.Little.{Bytes}
use lib.ListN.{length, set}
use Rattle.classes.specs.Classes.{block}
use Rattle.classes.specs.Geometry.{region_of}
use Rattle.pieces.specs.Pieces.{held as held_piece}
use Rattle.pieces.specs.Strips.{here, strip_starts}
use Rattle.pieces.specs.StripSizes.{strip_bytes}
use Rattle.plain.specs.State.{Phase, read, next, exchange}
use Rattle.plain.specs.Moves.{Answer, going, nothing}
use Rattle.plain.specs.Steps.{pop_list, push_list}
use Rattle.plain.specs.Noted.{Noted, unnoted, pop_noted, push_noted, anchor_noted, entry_noted, noted}
use Rattle.plain.specs.Calls.{Pool, Call, start, allocate, free, leave, step, Lengths}
use Rattle.plain.specs.Calls as Plain
use Rattle.control.specs.Layout.{Tasks, seen}
use Rattle.control.specs.Answers.{code_of, value_of}
use Rattle.stepped.specs.Outcome.{Memories, Effect, memories_after}
use Rattle.stepped.specs.Calls.{Lent, lengths, effect_in}

-- A call, with what it is lent. A call that is no start is lent the pool's memories if they have these lengths, else
-- others, which it refuses and does not touch. A start is lent an area and a strips' memory with any bytes, and a
-- control memory with any bytes of the length that is named. A user writes the byte b at the byte `at` of the area, or
-- of the strips' memory.
pub data Event : Type 0 where
  call : (k : Call) (lent : Lent) → Event
  write : (at b : ℕ) → Event
  write_strip : (at b : ℕ) → Event

-- a call that is no start: of what it is lent the lengths alone matter (`same-lengths` of proofs/Lent.antt)
abbrev pub NoStart : Call → Type 0
NoStart (start b) = ⊥
NoStart (allocate t size) = Unit {0}
NoStart (free t u) = Unit {0}
NoStart (leave t) = Unit {0}
NoStart (step t) = Unit {0}

-- ---- the stepped run: on the bytes of the three memories

-- what a call leaves, and its answer
abbrev pub ran : Effect → Memories × Answer
ran e = (
  memories_after e,
  record { code = code_of e.answer; value = value_of e.answer; decided = e.decided },
)

-- An event of the stepped run. A start that is accepted takes the memories that it is lent for the pool's; one that is
-- refused leaves the pool's.
abbrev pub stepped : Event → Memories → Memories × Answer
stepped (call k lent) s = ran (effect_in k lent s)
stepped (write at b) s =
    (record { control = s.control; area = set s.area at b; strips = s.strips }, going nothing)
stepped (write_strip at b) s =
    (record { control = s.control; area = s.area; strips = set s.strips at b }, going nothing)

-- ---- the whole run: the plain pool, "fed only each call's numbers and the lengths lent"; it sees no write

-- an event of the whole run
abbrev pub whole : Event → Pool → Pool × Answer
whole (call k lent) s = Plain.plain_call k (lengths lent) s
whole (write at b) s = (s, going nothing)
whole (write_strip at b) s = (s, going nothing)

-- ---- the premises

-- "no head changes 2^32 times or more between a task's read and its exchange" (the demands): asked of a head exchange
-- alone. `won` is the list's number of won exchanges, and n the one that the task noted; they are the plain pool's, for
-- the memories have only the tag, which wraps.
abbrev pub Recent : ℕ → Phase → Type 0
Recent won read = Unit {0}
Recent won (next n) = Unit {0}
Recent won (exchange n) = won < n + TAGS

-- the premise on heads, by what a task has noted: of an anchor nothing is asked
abbrev pub Near : (ℕ → ℕ) → Noted → Type 0
Near won unnoted = Unit {0}
Near won (pop_noted p φ) = Recent (won (pop_list p)) φ
Near won (push_noted p φ) = Recent (won (push_list p)) φ
Near won (anchor_noted d n) = Unit {0}
Near won (entry_noted y d n) = Unit {0}

-- the class of the blocks of the unit's region, by the descriptor that the map names
abbrev pub class_there : ℕ → Pool → ℕ
class_there u s = (s.mem.descriptor (pred (s.mem.map (region_of u)))).class

-- "users write only in blocks they hold" (the demands): the byte `at` lies in the block `unit`, which is in a user's
-- hands; in whose, is not asked. The pool is then started, for nothing is in hands before; it is said so that proofs
-- have it at once.
pub record InHands (at : ℕ) (s : Pool) : Type 0 where
  pub started : 1 ≤ s.tasks
  pub unit : ℕ
  pub held : 1 ≤ s.mem.hands unit
  pub from : UNIT_BYTES * unit ≤ at
  pub to : at < UNIT_BYTES * unit + block (class_there unit s)

-- "Strips count as blocks in the demands" (the request for strips): the byte `at` lies in a strip in a user's hands, of
-- this order, at this slot
pub record InStrip (at : ℕ) (s : Pool) : Type 0 where
  pub started : 1 ≤ s.tasks
  pub slot : ℕ
  pub order : ℕ
  pub held : strip_starts s.mem.strips slot ≡ here order held_piece
  pub from : SLOT_BYTES * slot ≤ at
  pub to : at < SLOT_BYTES * slot + strip_bytes order

-- the premise of a call: a step alone has one, and only where it passes the tests 1, 4, 2, 5
abbrev pub CallPremise : Call → Lengths → Pool → Type 0
CallPremise (start b) lent s = Unit {0}
CallPremise (allocate t size) lent s = Unit {0}
CallPremise (free t u) lent s = Unit {0}
CallPremise (leave t) lent s = Unit {0}
CallPremise (step t) lent s = Plain.Tested t lent s → Near s.mem.won (noted (s.mem.task t).place)

-- the premise of an event, in the plain pool before it
abbrev pub Premise : Event → Pool → Type 0
Premise (call k lent) s = CallPremise k (lengths lent) s
Premise (write at b) s = InHands at s
Premise (write_strip at b) s = InStrip at s

-- the premises of a list of events, each in the plain pool before its event
abbrev pub Premises : List Event → Pool → Type 0
Premises [] s = Unit {0}
Premises (e ∷ es) s = Premise e s × Premises es (whole e s).0

-- ---- the beginning

-- The memories that the runs may begin with: a control memory of its length that is not started, as all zeros are,
-- whatever else it holds; and any area and strips' memory, for no call but a start takes them.
pub record Unstarted (s₁ : Memories) : Type 0 where
  pub length : lib.ListN.length s₁.control ≡ CONTROL_BYTES
  pub bytes : Bytes s₁.control
  pub tasks : seen s₁.control Tasks ≡ 0
