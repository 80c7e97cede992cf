-- docs/POOL.md, "What is compared"
-- What the agreement of the two runs says, over a whole list of events.
use Rattle.std.specs.Prelude.{◌≡◌, ◌≢◌, List, ℕ, ◌*◌, ◌≤◌, length, get_or}
use Rattle.limits.specs.Limits.{CONTROL_BYTES, REGION_BYTES, STRIPS_BYTES}
use Rattle.plain.specs.Moves.{Answer}
use Rattle.plain.specs.Calls.{Pool, Call, start, allocate, free, leave, step}
use Rattle.control.specs.Layout.{Tasks, Regions, seen}
use Rattle.agreement.specs.Contents.{Contents, contents_of}
use Rattle.stepped.specs.Outcome.{Memories}
use Rattle.stepped.specs.Calls.{Lent}
use Rattle.agreement.specs.Events.{Event, call, write, write_strip, stepped, whole, InHands}
use Rattle.agreement.specs.Reached.{Along}
use Rattle.agreement.specs.Observe.{SameObserved}

-- what the control memory and the area hold, column by column
abbrev pub contents : Memories → Contents
contents s = contents_of (seen s.control) s.area

-- One event of the two runs, which "decide the same moves at the same calls, give the same code and value, never 14,
-- and have after every call the same lists, chains and holders; each block of an open region is in exactly one place"
-- (the demands).
pub record Agrees (x : Memories × Answer) (y : Pool × Answer) : Type 0 where
  -- code, value and decided move
  pub says : x.1 ≡ y.1
  pub never_14 : x.1.code ≢ 14
  -- the started numbers of tasks, 0 while the pool is not started, and of regions
  pub tasks : seen x.0.control Tasks ≡ y.0.tasks
  pub regions : 1 ≤ y.0.tasks → seen x.0.control Regions ≡ y.0.regions
  -- the lengths of the three memories, so that a call that is lent these is lent the pool's
  pub control_length : length x.0.control ≡ CONTROL_BYTES
  pub area_length : 1 ≤ y.0.tasks → length x.0.area ≡ REGION_BYTES * y.0.regions
  pub strips_length : 1 ≤ y.0.tasks → length x.0.strips ≡ STRIPS_BYTES
  pub same : 1 ≤ y.0.tasks → SameObserved y.0.regions (contents x.0) y.0.mem

-- Each byte of a small block that is in a user's hands before is as it was, and so is every byte of the strips' memory,
-- whether a strip in hand has it or not.
pub record HandsKept (s₁ : Memories) (s : Pool) (after : Memories) : Type 0 where
  pub blocks : (at : ℕ) → InHands at s → get_or after.area at 0 ≡ get_or s₁.area at 0
  pub strips : after.strips ≡ s₁.strips

-- "No call changes a byte of a block in a user's hands" (the demands). An accepted start begins anew: "It leaves the
-- area as it is" (the paper), which is the area that it is lent, and so the strips' memory. A user's own write is no
-- call.
abbrev pub CallUntouched : Call → Lent → Memories → Memories × Answer → Pool → Type 0
CallUntouched (start b) lent s₁ x s =
    x.1.code ≡ 0 → (x.0.area ≡ lent.area) × (x.0.strips ≡ lent.strips)
CallUntouched (allocate t size) lent s₁ x s = HandsKept s₁ s x.0
CallUntouched (free t u) lent s₁ x s = HandsKept s₁ s x.0
CallUntouched (leave t) lent s₁ x s = HandsKept s₁ s x.0
CallUntouched (step t) lent s₁ x s = HandsKept s₁ s x.0

-- An event that is a call is as `CallUntouched` says; of a user's own write nothing is asked.
abbrev pub Untouched : Event → Memories → Memories × Answer → Pool → Type 0
Untouched (call k lent) s₁ x s = CallUntouched k lent s₁ x s
Untouched (write at b) s₁ x s = Unit {0}
Untouched (write_strip at b) s₁ x s = Unit {0}

-- "A refused call .. leaves both memories unchanged" (the paper), and the strips' memory: the pool's, also where it was
-- lent others.
abbrev pub Unchanged : Memories → Memories × Answer → Type 0
Unchanged s₁ x = 1 ≤ x.1.code → x.1.code ≤ 11 → x.0 ≡ s₁

-- what is said of one event, on the memories s₁ and beside the plain pool s
abbrev pub AgreesAt : Event → Memories → Pool → Type 0
AgreesAt e s₁ s =
    Agrees (stepped e s₁) (whole e s) × Unchanged s₁ (stepped e s₁) × Untouched e s₁ (stepped e s₁) s

-- every event of a list, in its order, is as `AgreesAt` says
abbrev pub Agree : List Event → Memories → Pool → Type 0
Agree = Along AgreesAt
