-- docs/POOL.md, "Runs and premises"
-- Runs made of the exported functions' contracts, with users' writes between the calls; and what demand 3 says of them.
use Rattle.std.specs.Prelude.{◌≡◌, ◌≢◌, ◌⊎◌, false, cond, List, [], ◌∷◌, ℕ, eqb, length, set}
use Rattle.limits.specs.Limits.{CONTROL_BYTES}
use Rattle.plain.specs.Moves.{Answer}
use Rattle.plain.specs.Calls.{Pool, Call, start, allocate, free, leave, step, StartedLengths}
use Rattle.control.specs.Layout.{Tasks, Regions, seen}
use Rattle.control.specs.Answers.{code_in, value_in, lost_in}
use Rattle.stepped.specs.Outcome.{Memories}
use Rattle.stepped.specs.Calls.{lending, lengths}
use Rattle.agreement.specs.Events.{Event, stepped, whole, Premise}
use Rattle.agreement.specs.Events as Events
use Rattle.agreement.specs.Reached.{History, Reached}
use Rattle.agreement.specs.Agreement.{Agrees, Unchanged, Untouched}
use Rattle.pool.specs.Call.{Ensures}
use Rattle.demands.specs.AnswerKinds.{Refusal, ends_request}

-- What happens to a pool: a call on its memories leaves the memories `left` and answers `number`; a call on other
-- memories, lent as `lent`; a user writes the byte b at the byte `at` of the area, or of the strips' memory: "Strips
-- count as blocks in the demands" (the request for strips), and so users may write in those that they hold.
pub data Act : Type 0 where
  on_own : (call : Call) (left : Memories) (number : ℕ) → Act
  on_other : (call : Call) (lent left : Memories) (number : ℕ) → Act
  write : (at b : ℕ) → Act
  write_strip : (at b : ℕ) → Act

-- the contract of the exported function, on memories
abbrev pub Contract : Call → Memories → Memories → ℕ → Type 0
Contract k lent left number =
    Ensures k lent.control lent.area lent.strips left.control left.area left.strips number

-- "A call that is lent another length": a control memory that is not of 8,192 bytes, or the pool's with an area or a
-- strips' memory that is not of the started length; while the pool is not started, any of them.
abbrev pub OtherLength : Memories → Memories → Type 0
OtherLength s lent =
    (length lent.control ≢ CONTROL_BYTES)
    ⊎ ((lent.control ≡ s.control)
    × ((StartedLengths (lengths (lending lent)) (seen s.control Regions) → ⊥) ⊎ (seen s.control Tasks ≡ 0)))

-- Other memories that a call may be lent: a start any, every other call those of another length.
abbrev pub Lendable : Call → Memories → Memories → Type 0
Lendable (start b) s lent = Unit {0}
Lendable (allocate t size) s lent = OtherLength s lent
Lendable (free t u) s lent = OtherLength s lent
Lendable (leave t) s lent = OtherLength s lent
Lendable (step t) s lent = OtherLength s lent

-- all that is known of an act is the contract of the function that was called
abbrev pub Happens : Act → Memories → Type 0
Happens (on_own k left number) s = Contract k s left number
Happens (on_other k lent left number) s = Contract k lent left number × Lendable k s lent
Happens (write at b) s = Unit {0}
Happens (write_strip at b) s = Unit {0}

-- The pool's memories after a call on others: "a later accepted start sets both runs anew"; any other "touches
-- nothing".
abbrev pub after_other : Call → Memories → ℕ → Memories → Memories
after_other (start b) left number s = cond (eqb number 0) left s
after_other (allocate t size) left number s = s
after_other (free t u) left number s = s
after_other (leave t) left number s = s
after_other (step t) left number s = s

-- the pool's memories after an act
abbrev pub after_act : Act → Memories → Memories
after_act (on_own k left number) s = left
after_act (on_other k lent left number) s = after_other k left number s
after_act (write at b) s = record { control = s.control; area = set s.area at b; strips = s.strips }
after_act (write_strip at b) s = record { control = s.control; area = s.area; strips = set s.strips at b }

-- acts one after the other, from the memories s
abbrev pub AllHappen : List Act → Memories → Type 0
AllHappen [] s = Unit {0}
AllHappen (a ∷ rest) s = Happens a s × AllHappen rest (after_act a s)

-- ---- the whole run beside it

-- the event of a call that is lent the memories s: the plain pool is fed its numbers and the lengths lent
abbrev pub event_of_call : Call → Memories → Event
event_of_call k s = Events.call k (lending s)

-- the event of an act on the pool's memories s
abbrev pub event_of_act : Act → Memories → Event
event_of_act (on_own k left number) s = event_of_call k s
event_of_act (on_other k lent left number) s = event_of_call k lent
event_of_act (write at b) s = Events.write at b
event_of_act (write_strip at b) s = Events.write_strip at b

-- the events of acts one after the other
abbrev pub events_of_acts : List Act → Memories → List Event
events_of_acts [] s = []
events_of_acts (a ∷ rest) s = event_of_act a s ∷ events_of_acts rest (after_act a s)

-- The number tells the code and the value of y, and no lost exchanges where y ends no request: "Every other answer
-- gives 0" (the request for lost exchanges). What it tells where y ends one is in LostTold: "The two runs are compared
-- without this number".
pub record Number (number : ℕ) (y : Answer) : Type 0 where
  pub code : code_in number ≡ y.code
  pub value : value_in number ≡ y.value
  pub none_lost : ends_request y.code ≡ false → lost_in number ≡ 0

-- the number that a call answered is that of y; a user's write answers nothing
abbrev pub Answered : Act → Answer → Type 0
Answered (on_own k left number) y = Number number y
Answered (on_other k lent left number) y = Number number y
Answered (write at b) y = Unit {0}
Answered (write_strip at b) y = Unit {0}

-- a call on other memories that was refused left them as they were, too
abbrev pub OtherLeft : Act → Type 0
OtherLeft (on_own k left number) = Unit {0}
OtherLeft (on_other k lent left number) = Refusal number → left ≡ lent
OtherLeft (write at b) = Unit {0}
OtherLeft (write_strip at b) = Unit {0}

-- the memories after an act, and beside them the answer and the decided move by the definitions: the move is no byte
abbrev pub left_by : Act → Memories → Memories × Answer
left_by a s = (after_act a s, (stepped (event_of_act a s) s).1)

-- What demand 3, and demand 1's last sentence, say of one act: the plain pool p gives the same code and value and
-- decides the same move, never 14; afterwards both have the same lists, chains and holders, each block of an open
-- region in exactly one place, and the same strips and free pieces in order, each with its order, state and holder,
-- each unit of the strips' memory in exactly one of them; a refused call left the pool's memories as they were, and the
-- memories that it was lent; and no call changed a byte of a block in a user's hands, or of the strips' memory.
pub record Tells (a : Act) (s : Memories) (p : Pool) : Type 0 where
  pub answered : Answered a (whole (event_of_act a s) p).1
  pub agrees : Agrees (left_by a s) (whole (event_of_act a s) p)
  pub unchanged : Unchanged s (left_by a s)
  pub other_left : OtherLeft a
  pub untouched : Untouched (event_of_act a s) s (left_by a s) p

-- P of each act of a run, in its order, with the memories and the plain pool before it
abbrev pub AlongActs : (Act → Memories → Pool → Type 0) → List Act → Memories → Pool → Type 0
AlongActs P [] s p = Unit {0}
AlongActs P (a ∷ rest) s p = P a s p × AlongActs P rest (after_act a s) (whole (event_of_act a s) p).0

-- Every act of a run, in its order, is as `Tells` says.
abbrev pub Told : List Act → Memories → Pool → Type 0
Told = AlongActs Tells

-- P of every act whose event meets its premise, wherever a run has come
abbrev pub WhereverActs : (Act → Memories → Pool → Type 0) → Type 0
WhereverActs P =
    (h : History) (s : Memories) (p : Pool) → Reached h s p → (a : Act) → Happens a s → Premise (event_of_act a s) p
    → P a s p
