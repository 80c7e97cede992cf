-- docs/POOL.md, "The invariant"
-- The invariant of the plain pool: every descriptor, every region and every block has one place.
use Rattle.std.specs.Prelude.{◌≡◌, List, ◌∷◌, [], ℕ, suc, ◌+◌, ◌≤◌, ◌<◌, length}
use Rattle.limits.specs.Limits.{REGIONS, TASKS, CLASSES, DESCRIPTORS, SPARE_DESCRIPTORS, SPARE_REGIONS}
use Rattle.limits.specs.Limits.{DESCRIPTOR_LISTS}
use Rattle.rows.specs.Weights.{one, below}
use Rattle.rows.specs.Counting.{count}
use Rattle.rows.specs.Totals.{total}
use Rattle.classes.specs.Classes.{per_region}
use Rattle.pieces.specs.Pieces.{begun, Joined}
use Rattle.pieces.specs.Strips.{here, strip_starts}
use Rattle.plain.specs.State.{State, EMPTY, PARTIAL, FULL, Descriptor, Mem}
use Rattle.plain.specs.Calls.{Pool, Call, plain_call, Lengths}
use Rattle.plain.specs.Blocks.{count_block}
use Rattle.plain.specs.ByState.{IfOpen, IfEmpty, one_if_empty}
use Rattle.plain.specs.HolderWeights.{row_weight, inside_weight, inside_class_weight, chain_weight, chain_class_weight}
use Rattle.plain.specs.HolderWeights.{open_weight, full_weight, block_weight, block_class_weight, descriptor_weight}
use Rattle.plain.specs.HolderWeights.{descriptor_class_weight, spare_weight, region_weight, unmapped_weight}
use Rattle.plain.specs.TaskHolds.{TaskHolds}
use Rattle.plain.specs.Requests.{frees_strip}
use Rattle.plain.specs.Leaving.{LeavesHold}

-- how many blocks a chain has in each state, where a region has n
abbrev pub ChainLength : State → ℕ → ℕ → Type 0
ChainLength EMPTY n l = Unit {0}
ChainLength PARTIAL n l = (1 ≤ l) × (l < n)
ChainLength FULL n l = l ≡ 0

-- an open region's descriptor: its class is one of the classes, its chain has blocks of its region, each once,
-- and as many as its state says
pub record OpenDescriptor (D : Descriptor) : Type 0 where
  pub fits : D.class < CLASSES
  pub inside : (v : ℕ) → count v D.chain ≤ count_block v D.region D.class
  pub sized : ChainLength D.state (per_region D.class) (length D.chain)

-- an EMPTY descriptor: it has no chain, as at the start, or its chain has all the blocks of the region that it opened
pub data ClosedDescriptor (D : Descriptor) : Type 0 where
  never_opened : D.chain ≡ [] → ClosedDescriptor D
  all_returned : D.class < CLASSES → ((v : ℕ) → count v D.chain ≡ count_block v D.region D.class)
      → length D.chain ≡ per_region D.class → ClosedDescriptor D

-- the pool's memory, with an area of `area` regions
pub record Invariant (area : ℕ) (m : Mem) : Type 0 where
  -- each of the 64 descriptors is once on a list of descriptors, or held by a task, or FULL; there is no other
  pub descriptors : (d : ℕ)
      → total DESCRIPTOR_LISTS (row_weight d) m.row + total TASKS (descriptor_weight d) m.task
      + total DESCRIPTORS (full_weight d) m.descriptor ≡ below d DESCRIPTORS
  -- each region of the area is once on the list of spare regions, or held by a task, or open; there is no other
  pub regions : (r : ℕ)
      → count r (m.row SPARE_REGIONS) + total TASKS (region_weight r) m.task
      + total DESCRIPTORS (open_weight r) m.descriptor
      ≡ below r area
  -- a descriptor on the partial list of a class, or held for it, is of that class
  pub classes : (c d : ℕ) → c < CLASSES
      → count d (m.row c) + total TASKS (descriptor_class_weight c d) m.task ≤ one c (m.descriptor d).class
  -- a descriptor on the list of spare descriptors, or held as spare, is EMPTY
  pub spares : (d : ℕ)
      → count d (m.row SPARE_DESCRIPTORS) + total TASKS (spare_weight d) m.task ≤ one_if_empty (m.descriptor d).state
  -- each block of an open region is once in a user's hands, or with a task, or in a chain; and no other unit is
  pub blocks : (v : ℕ)
      → m.hands v + total TASKS (block_weight v) m.task + total DESCRIPTORS (chain_weight v) m.descriptor
      ≡ total DESCRIPTORS (inside_weight v) m.descriptor
  -- what a task has for a class, and what is in a chain of the class, is a block of an open region of the class
  pub block_classes : (c v : ℕ)
      → total TASKS (block_class_weight c v) m.task + total DESCRIPTORS (chain_class_weight c v) m.descriptor
      ≤ total DESCRIPTORS (inside_class_weight c v) m.descriptor
  -- what holds of the descriptor of an open region
  pub chains : (d : ℕ) → d < DESCRIPTORS → IfOpen (m.descriptor d).state (OpenDescriptor (m.descriptor d))
  -- what holds of an EMPTY descriptor
  pub closed : (d : ℕ) → d < DESCRIPTORS → IfEmpty (m.descriptor d).state (ClosedDescriptor (m.descriptor d))
  -- the map names an open region's descriptor
  pub maps : (d : ℕ) → d < DESCRIPTORS → IfOpen (m.descriptor d).state (m.map (m.descriptor d).region ≡ suc d)
  -- an entry of the map names one of the 64 descriptors, or none
  pub entries : (r : ℕ) → m.map r ≤ DESCRIPTORS
  -- a region that is spare, or held by a task that is not about to clear its entry, has no entry in the map
  pub unmapped : (r : ℕ) → 1 ≤ count r (m.row SPARE_REGIONS) + total TASKS (unmapped_weight r) m.task → m.map r ≡ 0
  -- what holds of each task at its place
  pub tasks : (t : ℕ) → t < TASKS → TaskHolds m (m.task t)

-- the strips of the pool's memory
pub record StripsHold (m : Mem) : Type 0 where
  -- "Freed halves join whenever both are free"
  pub joined : Joined m.strips
  -- a strip whose free a task has begun is the one that this task frees
  pub freed_by : (s k t : ℕ) → strip_starts m.strips s ≡ here k (begun t)
      → (t < TASKS) × (frees_strip (m.task t).place ≡ suc s)
  -- the strip that a task frees is one whose free this task has begun
  pub begun_by : (t s : ℕ) → t < TASKS → frees_strip (m.task t).place ≡ suc s
      → (k : ℕ) × (strip_starts m.strips s ≡ here k (begun t))

-- the invariant of the pool: at most 8 tasks, and, once it is started, at most 16 regions, its memory's invariant, that
-- of its strips, and that of the tasks that leave
pub record Good (s : Pool) : Type 0 where
  pub few : s.tasks ≤ TASKS
  pub small : 1 ≤ s.tasks → s.regions ≤ REGIONS
  pub inv : 1 ≤ s.tasks → Invariant s.regions s.mem
  pub strips : 1 ≤ s.tasks → StripsHold s.mem
  pub leaves : 1 ≤ s.tasks → LeavesHold s.mem

-- the pool after a list of calls, each with the lengths that it is lent
unfoldable pub run : List (Call × Lengths) → Pool → Pool
run [] s = s
run (c ∷ cs) s = run cs (plain_call c.0 c.1 s).0
