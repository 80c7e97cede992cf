-- docs/POOL.md, "The plain pool"
-- What the plain pool keeps: rows and plain numbers, no links and no head words.
use Rattle.std.specs.Prelude.{List, ℕ, ◌+◌}
use Rattle.limits.specs.Limits.{WHOLE_ORDER}
use Rattle.rows.specs.Update.{update}
use Rattle.pieces.specs.Pieces.{Pieces}

-- an anchor's "state .. (0 EMPTY, 1 PARTIAL, 2 FULL)"
pub data State : Type 0 where
  EMPTY PARTIAL FULL : State

-- the number of a state in an anchor's word
abbrev pub state_number : State → ℕ
state_number EMPTY = 0
state_number PARTIAL = 1
state_number FULL = 2

-- "each descriptor's state, region, class and chain, a row of blocks"
pub record Descriptor : Type 0 where
  pub state : State
  pub region : ℕ
  pub class : ℕ
  pub chain : List ℕ

-- "An anchor read notes the state and the chain's first block, if any, and length": the block's unit plus one, 0 for
-- none
pub record Note : Type 0 where
  pub state : State
  pub first : ℕ
  pub length : ℕ

-- The three steps of a pop and of a push: "read head .. ; read the item's next; exchange" and "read head; write the
-- item's next; exchange". "A head read notes the list's number of won exchanges, whether or not the row is empty": the
-- number stays noted until the exchange. A pop that finds its list empty is over, and keeps no note.
pub data Phase : Type 0 where
  read : Phase
  next : ℕ → Phase
  exchange : ℕ → Phase

-- The pops of the step list, each with what the task has under way: c the class, d a descriptor.
pub data Pop : Type 0 where
  -- allocate, step 2: "Pop the class's partial list"
  partial : (c : ℕ) → Pop
  -- allocate, step 5: "Pop a spare descriptor"
  spare : (c : ℕ) → Pop
  -- allocate, step 6: "Pop a spare region", with the descriptor popped before
  region : (c d : ℕ) → Pop

-- What a task returns a cache for: the free of the block u, whose cache is full, or leaving, where "each non-empty
-- cache is returned as in free, steps 2 to 6" (the request for leaving).
pub data Purpose : Type 0 where
  to_free : (u : ℕ) → Purpose
  to_leave : Purpose

-- The pushes of the step list: z is what the task returns for, w the state in which it found the anchor, r a region.
pub data Push : Type 0 where
  -- allocate, step 3: "EMPTY: push the descriptor on the spare list"
  retire : (c d : ℕ) → Push
  -- allocate, step 6: "Empty: push the descriptor back"
  back : (c d : ℕ) → Push
  -- free, step 4: "then push that region on its spare list"
  release : (c : ℕ) (z : Purpose) (d : ℕ) (w : State) (r : ℕ) → Push
  -- free, step 5: "push the descriptor on the partial list"
  offer : (c : ℕ) (z : Purpose) (d : ℕ) → Push

-- "place in the step list, what it noted and what it has under way", of a task at work. A place is named by its pop or
-- push, or by its step: a of Allocate, f of Free. The places of free's steps 2 to 5 are those of leaving, too: z says
-- for which of the two. y is the first block of a group and g the others.
pub data Work : Type 0 where
  a1 : (c : ℕ) → Work
  popping : Pop → Phase → Work
  pushing : Push → Phase → Work
  a3-read : (c d : ℕ) → Work
  a3-exchange : (c d : ℕ) (n : Note) → Work
  -- what is left of the chain that was taken: its first block x, which is moved next, and the others
  a4 : (c x : ℕ) (q : List ℕ) → Work
  a7 : (c d r : ℕ) → Work
  -- block i of the region r is carved next
  a8 : (c r i : ℕ) → Work
  f1 : (c u : ℕ) → Work
  -- g is the group so far
  f2 : (c : ℕ) (z : Purpose) (g : List ℕ) → Work
  f3-read : (c : ℕ) (z : Purpose) (y : ℕ) (g : List ℕ) → Work
  f3-link : (c : ℕ) (z : Purpose) (y : ℕ) (g : List ℕ) (d : ℕ) (n : Note) → Work
  f3-exchange : (c : ℕ) (z : Purpose) (y : ℕ) (g : List ℕ) (d : ℕ) (n : Note) → Work
  f4-clear : (c : ℕ) (z : Purpose) (d : ℕ) (w : State) (r : ℕ) → Work
  -- a strip of order k is to be taken
  strip-take : (k : ℕ) → Work
  -- the strip at the slot s, whose free has begun, is to be given back
  strip-give : (s : ℕ) → Work
  -- all caches of a task that leaves are empty: "one further step .. finishes the request" (the request for leaving)
  leave-end : Work

-- "each task's request": none, or one that it is at work on
pub data Place : Type 0 where
  idle : Place
  working : Work → Place

-- a task: its place, and "the caches as rows", one for each class
pub record Task : Type 0 where
  pub place : Place
  pub cache : ℕ → List ℕ

-- "each list as a row from the top, with the number of its won exchanges since the start, never wrapping; .. the map;
-- the caches as rows; the blocks in users' hands", with the descriptors and the tasks above, and the strips' memory in
-- pieces: "each unit of that area is in exactly one strip or free piece" (the request for strips)
pub record Mem : Type 0 where
  pub row : ℕ → List ℕ
  pub won : ℕ → ℕ
  pub descriptor : ℕ → Descriptor
  -- the descriptor that a region's entry names, plus one; 0 for none
  pub map : ℕ → ℕ
  -- 1 for a block in a user's hands, by its unit, else 0
  pub hands : ℕ → ℕ
  pub task : ℕ → Task
  pub strips : Pieces WHOLE_ORDER

-- the task t is now T
abbrev pub set_task : ℕ → Task → Mem → Mem
set_task t T m = record {
  row = m.row;
  won = m.won;
  descriptor = m.descriptor;
  map = m.map;
  hands = m.hands;
  task = update m.task t T;
  strips = m.strips;
}

-- a won exchange of the list ℓ, after which its row is q: "takes or puts the top item and adds one"
abbrev pub set_row : ℕ → List ℕ → Mem → Mem
set_row ℓ q m = record {
  row = update m.row ℓ q;
  won = update m.won ℓ (m.won ℓ + 1);
  descriptor = m.descriptor;
  map = m.map;
  hands = m.hands;
  task = m.task;
  strips = m.strips;
}

-- the descriptor d is now D
abbrev pub set_descriptor : ℕ → Descriptor → Mem → Mem
set_descriptor d D m = record {
  row = m.row;
  won = m.won;
  descriptor = update m.descriptor d D;
  map = m.map;
  hands = m.hands;
  task = m.task;
  strips = m.strips;
}

-- the map's entry of the region r is now z
abbrev pub set_map : ℕ → ℕ → Mem → Mem
set_map r z m = record {
  row = m.row;
  won = m.won;
  descriptor = m.descriptor;
  map = update m.map r z;
  hands = m.hands;
  task = m.task;
  strips = m.strips;
}

-- the block of the unit u is now in a user's hands, where b is 1, or no longer, where it is 0
abbrev pub set_hands : ℕ → ℕ → Mem → Mem
set_hands u b m = record {
  row = m.row;
  won = m.won;
  descriptor = m.descriptor;
  map = m.map;
  hands = update m.hands u b;
  task = m.task;
  strips = m.strips;
}

-- the pieces of the strips' memory are now p
abbrev pub set_strips : Pieces WHOLE_ORDER → Mem → Mem
set_strips p m = record {
  row = m.row;
  won = m.won;
  descriptor = m.descriptor;
  map = m.map;
  hands = m.hands;
  task = m.task;
  strips = p;
}
