-- docs/POOL.md, "The plain pool"
-- The calls of the plain pool, with their refusals in the paper's order: "Start tests 1, 2, 3. Other calls test 1, 4,
-- 2, 5, then 6 or 7, then 8, 9 or 10, 11." It "is fed only each call's numbers and the lengths lent".
use Rattle.std.specs.Prelude.{◌≡◌, ◌≢◌, List, ◌∷◌, [], ℕ, zero, suc, ◌*◌, ◌/◌, ◌%◌, ◌≤◌, ◌<◌}
use Rattle.std.proofs.Math.Decide.{ℕ_discrete, dec_lt, dec_le}
use Rattle.limits.specs.Limits.{CONTROL_BYTES, REGION_BYTES, AREA_BYTES, REGION_UNITS, TASKS, CLASSES, DESCRIPTORS}
use Rattle.limits.specs.Limits.{SPARE_DESCRIPTORS, SPARE_REGIONS, LARGEST_SIZE, STRIPS_BYTES, LARGEST_STRIP, UNITS}
use Rattle.limits.specs.Limits.{SLOT_UNITS, BOTH_UNITS}
use Rattle.rows.specs.Branch.{if, both}
use Rattle.classes.specs.Classes.{units, per_region}
use Rattle.classes.specs.Sizes.{class_of}
use Rattle.classes.specs.Geometry.{region_of, index_of}
use Rattle.pieces.specs.Pieces.{free as free_piece, held, begun, one_piece}
use Rattle.pieces.specs.Strips.{StripStart, nowhere, here, strip_starts, free_begun}
use Rattle.pieces.specs.StripSizes.{order_of}
use Rattle.pieces.specs.StripUnits.{slot_of_unit}
use Rattle.plain.specs.State.{State, EMPTY, PARTIAL, FULL, Descriptor, Task, Mem, set_task, set_hands, Place, idle}
use Rattle.plain.specs.State.{a1, f1, Work, strip-take, strip-give, working, set_strips}
use Rattle.plain.specs.Moves.{Answer, going, nothing, refused}
use Rattle.plain.specs.Steps.{Result, leave_from, step_of}

-- the pool: "the started number of tasks", 0 while it is not started, "and area length", in regions
pub record Pool : Type 0 where
  pub tasks : ℕ
  pub regions : ℕ
  pub mem : Mem

-- the numbers of a start
pub record Start : Type 0 where
  pub tasks : ℕ

-- a call with its numbers: a start, the beginning of a request, or one step of a task
pub data Call : Type 0 where
  start : Start → Call
  allocate : (task size : ℕ) → Call
  free : (task unit : ℕ) → Call
  leave : (task : ℕ) → Call
  step : (task : ℕ) → Call

-- "the lengths lent": those of the control memory, of the area and of the strips' memory
pub record Lengths : Type 0 where
  pub control : ℕ
  pub area : ℕ
  pub strips : ℕ

-- ---- a start

-- the n items from i on
unfoldable pub rising : ℕ → ℕ → List ℕ
rising zero i = []
rising (suc n) i = i ∷ rising n (suc i)

-- "partial lists empty"; "both spare lists rising from item 0 on top"; "There are 64 descriptors"
abbrev pub start_row : ℕ → ℕ → List ℕ
start_row regions ℓ =
    if (ℕ_discrete ℓ SPARE_DESCRIPTORS) (rising DESCRIPTORS 0)
    (if (ℕ_discrete ℓ SPARE_REGIONS) (rising regions 0) [])

-- "begins a new run: tasks idle, caches and partial lists empty, tags 0, marks clear, map entries none". The paper
-- names no descriptor's state here; no step reads one before step 7 of an allocation writes it. Of the strips' memory
-- "a start leaves it one free piece" (the request for strips).
unfoldable pub start_mem : ℕ → Mem
start_mem regions = record {
  row = start_row regions;
  won = λ ℓ. 0;
  descriptor = λ d. record { state = EMPTY; region = 0; class = 0; chain = [] };
  map = λ r. 0;
  hands = λ u. 0;
  task = λ t. record { place = idle; cache = λ c. [] };
  strips = one_piece;
}

-- "2 area length zero, no multiple of 4,096 or above 65,536": the area's length passes this test
abbrev pub StartArea : ℕ → Type 0
StartArea area = (area % REGION_BYTES ≡ 0) × ((0 < area) × (area ≤ AREA_BYTES))

-- test 2 of a start passes: the area's length does, and "a second area of another length is 2" (the request for strips)
abbrev pub StartLengths : Lengths → Type 0
StartLengths lent = StartArea lent.area × (lent.strips ≡ STRIPS_BYTES)

-- whether the lengths of the area and of the strips' memory pass test 2 of a start
abbrev pub start_lengths? : (lent : Lengths) → Dec (StartLengths lent)
start_lengths? lent =
    both
    (both (ℕ_discrete (lent.area % REGION_BYTES) 0) (both (dec_lt 0 lent.area) (dec_le lent.area AREA_BYTES)))
    (ℕ_discrete lent.strips STRIPS_BYTES)

-- "3 tasks not 1 to 8": the number of tasks passes this test
abbrev pub StartTasks : ℕ → Type 0
StartTasks n = (1 ≤ n) × (n ≤ TASKS)

-- whether the number of tasks passes test 3 of a start
abbrev pub start_tasks? : (n : ℕ) → Dec (StartTasks n)
start_tasks? n = both (dec_le 1 n) (dec_le n TASKS)

-- the tests 1, 2, 3 of a start pass, in either pool
pub record StartTested (b : Start) (lent : Lengths) : Type 0 where
  pub control_is : lent.control ≡ CONTROL_BYTES
  pub lengths : StartLengths lent
  pub tasks : StartTasks b.tasks

-- the first of the tests 1, 2, 3 of a start that fails refuses it by its number; those before it pass
pub data StartFails (b : Start) (lent : Lengths) : ℕ → Type 0 where
  start_control : lent.control ≢ CONTROL_BYTES → StartFails b lent 1
  start_lengths : lent.control ≡ CONTROL_BYTES → (StartLengths lent → ⊥) → StartFails b lent 2
  start_tasks : lent.control ≡ CONTROL_BYTES → StartLengths lent → (StartTasks b.tasks → ⊥)
      → StartFails b lent 3

-- "pool not started": what a run begins with
unfoldable pub unstarted : Pool
unstarted = record { tasks = 0; regions = 0; mem = start_mem 0 }

-- ---- the beginnings

-- the first place of an allocation: "blocks of 257 to 65,536 bytes" are strips (the request for them), those of 1 to
-- 256 bytes small blocks
abbrev pub first_place : ℕ → Work
first_place size = if (dec_lt LARGEST_SIZE size) (strip-take (order_of size)) (a1 (class_of size))

-- allocate: "8 size 0"; "9 now means above 65,536" (the request for strips); "Beginning a request does no step"
abbrev pub begin_allocate : ℕ → ℕ → Mem → Result
begin_allocate t size m =
    if (ℕ_discrete size 0) (m, refused 8)
    (if (dec_lt LARGEST_STRIP size) (m, refused 9)
    (set_task t (record { place = working (first_place size); cache = (m.task t).cache }) m, going nothing))

-- "its anchor is not EMPTY"
abbrev pub NotEmpty : State → Type 0
NotEmpty EMPTY = ⊥
NotEmpty PARTIAL = Unit {0}
NotEmpty FULL = Unit {0}

-- whether a state is not EMPTY
abbrev pub not_empty? : (s : State) → Dec (NotEmpty s)
not_empty? EMPTY = no (λ x. x)
not_empty? PARTIAL = yes tt
not_empty? FULL = yes tt

-- "A region is open while that descriptor names it back and its anchor is not EMPTY": D is the one that its map entry
-- names.
abbrev pub Opens : Descriptor → ℕ → Type 0
Opens D r = (D.region ≡ r) × NotEmpty D.state

-- whether the descriptor D opens the region r
abbrev pub opens? : (D : Descriptor) (r : ℕ) → Dec (Opens D r)
opens? D r = both (ℕ_discrete D.region r) (not_empty? D.state)

-- u is the first unit of a block of the class c in its region
abbrev pub First : ℕ → ℕ → Type 0
First c u = (u % REGION_UNITS % units c ≡ 0) × (index_of c u < per_region c)

-- whether u is the first unit of a block of the class c in its region
abbrev pub first? : (c u : ℕ) → Dec (First c u)
first? c u = both (ℕ_discrete (u % REGION_UNITS % units c) 0) (dec_lt (index_of c u) (per_region c))

-- "10 not the first unit of a block of an open region; 11 such a unit, but its mark is clear"; "Beginning a free clears
-- the block's mark; any task may free". D is the descriptor that the map names for the unit's region.
abbrev pub free_in : Descriptor → ℕ → ℕ → Mem → Result
free_in D t u m =
    let T : Task = record { place = working (f1 D.class u); cache = (m.task t).cache } in
    if (both (opens? D (region_of u)) (first? D.class u))
    (if (ℕ_discrete (m.hands u) 0) (m, refused 11) (set_task t T (set_hands u 0 m), going nothing))
    (m, refused 10)

-- the beginning of a free, by the map's entry of the unit's region: none, or a descriptor's number plus one
abbrev pub free_entry : ℕ → ℕ → ℕ → Mem → Result
free_entry zero t u m = (m, refused 10)
free_entry (suc d) t u m = free_in (m.descriptor d) t u m

-- the beginning of the free of a small block. "10 not the first unit of a block of an open region": so where the area
-- has no such region; else its map entry tells
abbrev pub begin_free_small : ℕ → ℕ → ℕ → Mem → Result
begin_free_small t u regions m =
    if (dec_lt (region_of u) regions) (free_entry (m.map (region_of u)) t u m) (m, refused 10)

-- "Its units run from 8,192 to 16,383": u is the first unit of a slot of the strips' memory
abbrev pub StripUnit : ℕ → Type 0
StripUnit u = (UNITS ≤ u) × ((u < BOTH_UNITS) × (u % SLOT_UNITS ≡ 0))

-- whether u is the first unit of a slot
abbrev pub strip_unit? : (u : ℕ) → Dec (StripUnit u)
strip_unit? u = both (dec_le UNITS u) (both (dec_lt u BOTH_UNITS) (ℕ_discrete (u % SLOT_UNITS) 0))

-- "A unit from 8,192 where no strip starts is 10, and one whose free has begun is 11": by what starts at the slot s.
-- (No free piece is a strip: `strip_starts` names none.)
abbrev pub free_strip_at : StripStart → ℕ → ℕ → Mem → Result
free_strip_at nowhere t s m = (m, refused 10)
free_strip_at (here k free_piece) t s m = (m, refused 10)
free_strip_at (here k held) t s m =
    let T : Task = record { place = working (strip-give s); cache = (m.task t).cache } in
    (set_task t T (set_strips (free_begun t s m.strips) m), going nothing)
free_strip_at (here k (begun u)) t s m = (m, refused 11)

-- the beginning of the free of a strip, by its unit
abbrev pub begin_free_strip : ℕ → ℕ → Mem → Result
begin_free_strip t u m =
    if (strip_unit? u) (free_strip_at (strip_starts m.strips (slot_of_unit u)) t (slot_of_unit u) m) (m, refused 10)

-- the beginning of a free: the units from 8,192 up are the strips' memory's
abbrev pub begin_free : ℕ → ℕ → ℕ → Mem → Result
begin_free t u regions m = if (dec_lt u UNITS) (begin_free_small t u regions m) (begin_free_strip t u m)

-- the beginning of leaving: "Beginning a request does no step". It goes to the first cache that is not empty; "with
-- nothing cached it finishes in its first step" (the request for leaving)
abbrev pub begin_leave : ℕ → Mem → Result
begin_leave t m =
    let k = (m.task t).cache in
    (set_task t (record { place = working (leave_from k 0 CLASSES); cache = k }) m, going nothing)

-- "6 the task has a request in hand": the beginning x of a request is made at idle alone
abbrev pub when_idle : Place → Result → Mem → Result
when_idle idle x m = x
when_idle (working w) x m = (m, refused 6)

-- ---- the calls

-- a call that is refused "changes nothing"
abbrev pub refuse : ℕ → Pool → Pool × Answer
refuse code s = (s, refused code)

-- the pool after the tests, by what follows them
abbrev pub became : Pool → Result → Pool × Answer
became s x = (record { tasks = s.tasks; regions = s.regions; mem = x.0 }, x.1)

-- test 2 of a call that is no start, for so many started regions: "2 area length .. not the started one", and "a second
-- area of another length is 2" (the request for strips)
abbrev pub StartedLengths : Lengths → ℕ → Type 0
StartedLengths lent regions = (lent.area ≡ REGION_BYTES * regions) × (lent.strips ≡ STRIPS_BYTES)

-- whether the lengths of the area and of the strips' memory pass test 2 of a call that is no start
abbrev pub started_lengths? : (lent : Lengths) (regions : ℕ) → Dec (StartedLengths lent regions)
started_lengths? lent regions =
    both (ℕ_discrete lent.area (REGION_BYTES * regions)) (ℕ_discrete lent.strips STRIPS_BYTES)

-- tests 1, 4, 2, 5 of a call that is no start, then x: "1 control not 8,192 bytes", "4 pool not started", 2, "5 no such
-- task"
abbrev pub tested : ℕ → Lengths → Pool → Result → Pool × Answer
tested t lent s x =
    if (ℕ_discrete lent.control CONTROL_BYTES)
    (if (ℕ_discrete s.tasks 0) (refuse 4 s)
    (if (started_lengths? lent s.regions)
    (if (dec_lt t s.tasks) (became s x) (refuse 5 s))
    (refuse 2 s)))
    (refuse 1 s)

-- the tests 1, 4, 2, 5 pass
pub record Tested (t : ℕ) (lent : Lengths) (s : Pool) : Type 0 where
  pub control_is : lent.control ≡ CONTROL_BYTES
  pub started : 1 ≤ s.tasks
  pub lengths : StartedLengths lent s.regions
  pub below : t < s.tasks

-- "A start may come at any time and begins a new run"
abbrev pub start_call : Start → Lengths → Pool → Pool × Answer
start_call b lent s =
    let regions = lent.area / REGION_BYTES in
    if (ℕ_discrete lent.control CONTROL_BYTES)
    (if (start_lengths? lent)
    (if (start_tasks? b.tasks)
    (record { tasks = b.tasks; regions = regions; mem = start_mem regions }, going nothing)
    (refuse 3 s))
    (refuse 2 s))
    (refuse 1 s)

-- a call that is lent memories of these lengths
unfoldable pub plain_call : Call → Lengths → Pool → Pool × Answer
plain_call (start b) lent s = start_call b lent s
plain_call (allocate t size) lent s =
    tested t lent s (when_idle (s.mem.task t).place (begin_allocate t size s.mem) s.mem)
plain_call (free t u) lent s =
    tested t lent s (when_idle (s.mem.task t).place (begin_free t u s.regions s.mem) s.mem)
plain_call (leave t) lent s =
    tested t lent s (when_idle (s.mem.task t).place (begin_leave t s.mem) s.mem)
plain_call (step t) lent s = tested t lent s (step_of t s.mem)
