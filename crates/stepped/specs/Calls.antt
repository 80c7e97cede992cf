-- docs/POOL.md, "Calls and refusals"
-- The calls of the stepped pool, with their tests in the paper's order: "Start tests 1, 2, 3. Other calls test 1, 4, 2,
-- 5, then 6 or 7, then 8, 9 or 10, 11. 14 comes where the bad value is read."
use Rattle.std.specs.Prelude.{ℕ, ◌*◌, ◌/◌, ◌%◌, ◌-◌, ◌≤◌, ◌<◌, ◌≡◌, ◌≢◌, Bool, cond, ◌&&◌, List, [], ◌∷◌, ltb, leb, eqb}
use Rattle.std.specs.Prelude.{length}
use Rattle.limits.specs.Limits.{CONTROL_BYTES, REGIONS, REGION_BYTES, AREA_BYTES, TASKS, CLASSES, DESCRIPTORS}
use Rattle.limits.specs.Limits.{LARGEST_SIZE, LARGEST_STRIP, WORD_MARKS, UNITS, STRIPS_BYTES}
use Rattle.fields.specs.Columns.{View, ◌:=◌}
use Rattle.links.specs.Link
use Rattle.words.specs.Anchor.{EMPTY, anchor_of}
use Rattle.words.specs.Mark.{is_set, with_clear}
use Rattle.classes.specs.Sizes.{class_of}
use Rattle.classes.specs.Geometry.{region_of, is_first}
use Rattle.pieces.specs.StripSizes.{order_of}
use Rattle.plain.specs.Moves.{nothing}
use Rattle.plain.specs.Calls.{Start, Call, start, allocate, free, leave, step, Lengths, StartedLengths}
use Rattle.control.specs.Layout.{Anchor, Marks, TaskUnit, TaskPlace, TaskClass, DescriptorRegion, DescriptorClass}
use Rattle.control.specs.Layout.{Map, Tasks, Regions, TaskLost, seen}
use Rattle.control.specs.Places.{IDLE, A1, F1, STRIP_TAKE, PLACES}
use Rattle.control.specs.Answers.{Accepted}
use Rattle.stepped.specs.Outcome.{Outcome, refuse, bad, accept, Memories, Effect, effect, step_effect}
use Rattle.stepped.specs.Ranges.{one_to, is_anchor}
use Rattle.stepped.specs.StripSteps.{begin_free_strip}
use Rattle.stepped.specs.Leaving.{begin_leave}
use Rattle.stepped.specs.Steps as Steps
use Rattle.stepped.specs.Start.{start_image}

-- ---- the tests that every call but a start passes first

-- test 2, for so many started regions: "2 area length .. not the started one", and "a second area of another length is
-- 2" (the request for strips)
abbrev pub is_started_lengths : Lengths → ℕ → Bool
is_started_lengths lent regions = eqb lent.area (REGION_BYTES * regions) && eqb lent.strips STRIPS_BYTES

-- tests 1, 4, 2, 5, by the lengths that are lent; then x. "4 pool not started (control all zero is such a pool)"
unfoldable pub tested : Lengths → View → ℕ → Outcome → Outcome
tested lent v t x =
    let tasks = v Tasks in
    let regions = v Regions in
    cond (eqb lent.control CONTROL_BYTES)
    (cond (leb tasks TASKS)
    (cond (eqb tasks 0) (refuse 4)
    (cond (one_to REGIONS regions)
    (cond (is_started_lengths lent regions)
    (cond (ltb t tasks) x (refuse 5))
    (refuse 2))
    bad))
    bad)
    (refuse 1)

-- The tests 1, 4, 2, 5 pass: the memories have their lengths, the started numbers of tasks and regions are in their
-- ranges, and the task is one of them.
pub record Tested (lent : Lengths) (v : View) (t : ℕ) : Type 0 where
  pub control_is : lent.control ≡ CONTROL_BYTES
  pub started : 1 ≤ v Tasks
  pub tasks : v Tasks ≤ TASKS
  pub some : 1 ≤ v Regions
  pub regions : v Regions ≤ REGIONS
  pub lengths_are : StartedLengths lent (v Regions)
  pub below : t < v Tasks

-- "1 control not 8,192 bytes", "4 pool not started": these two pass, and the number of tasks is in its range
abbrev pub HasTasks : Lengths → View → Type 0
HasTasks lent v = (lent.control ≡ CONTROL_BYTES) × (1 ≤ v Tasks) × (v Tasks ≤ TASKS)

-- the number of regions is in its range
abbrev pub HasRegions : View → Type 0
HasRegions v = (1 ≤ v Regions) × (v Regions ≤ REGIONS)

-- The first of the tests 1, 4, 2, 5 that fails refuses the call by its number; those before it pass. The stored numbers
-- of tasks and regions are read for 4 and 2: out of their ranges, the number is 14.
pub data FirstFails (lent : Lengths) (v : View) (t : ℕ) : ℕ → Type 0 where
  control_fails : lent.control ≢ CONTROL_BYTES → FirstFails lent v t 1
  tasks_fail : lent.control ≡ CONTROL_BYTES → TASKS < v Tasks → FirstFails lent v t 14
  not_started : lent.control ≡ CONTROL_BYTES → v Tasks ≡ 0 → FirstFails lent v t 4
  regions_fail : HasTasks lent v → (HasRegions v → ⊥) → FirstFails lent v t 14
  lengths_fail : HasTasks lent v → HasRegions v → (StartedLengths lent (v Regions) → ⊥) → FirstFails lent v t 2
  task_fails : HasTasks lent v → HasRegions v → StartedLengths lent (v Regions) → v Tasks ≤ t → FirstFails lent v t 5

-- "6 the task has a request in hand"; then the beginning x. A place past the step list is outside its range.
unfoldable pub when_idle : View → ℕ → Outcome → Outcome
when_idle v t x = cond (ltb (v (TaskPlace t)) PLACES) (cond (eqb (v (TaskPlace t)) IDLE) x (refuse 6)) bad

-- ---- the beginnings

-- "8 size 0"; "9 now means above 65,536" (the request for strips). "blocks of 257 to 65,536 bytes" are strips, and the
-- order of one stands where the class of a small block does; a size up to 256 gets the smallest class that holds it
unfoldable pub begin_allocate : ℕ → ℕ → Outcome
begin_allocate t size =
    cond (eqb size 0) (refuse 8)
    (cond (ltb LARGEST_STRIP size) (refuse 9)
    (cond (ltb LARGEST_SIZE size)
    (accept nothing (TaskPlace t := STRIP_TAKE ∷ TaskClass t := order_of size ∷ TaskLost t := 0 ∷ []) [])
    (accept nothing (TaskPlace t := A1 ∷ TaskClass t := class_of size ∷ TaskLost t := 0 ∷ []) [])))

-- the mark of the unit u, a block of the class c: "11 such a unit, but its mark is clear"; else the mark is cleared
unfoldable pub free_marked : View → ℕ → ℕ → ℕ → Outcome
free_marked v t u c =
    let marks = v (Marks (u / WORD_MARKS)) in
    cond (is_set marks (u % WORD_MARKS))
    (accept nothing
    (TaskPlace t := F1
    ∷ TaskClass t := c
    ∷ TaskUnit t := u
    ∷ TaskLost t := 0
    ∷ Marks (u / WORD_MARKS) := with_clear marks (u % WORD_MARKS)
    ∷ [])
    [])
    (refuse 11)

-- the unit u, whose region the descriptor d opens: "10 not the first unit of a block", by the class of d
unfoldable pub free_open : View → ℕ → ℕ → ℕ → Outcome
free_open v t u d =
    let c = v (DescriptorClass d) in
    cond (ltb c CLASSES) (cond (is_first c u) (free_marked v t u c) (refuse 10)) bad

-- "A region is open while that descriptor names it back and its anchor is not EMPTY."
unfoldable pub free_by : View → ℕ → ℕ → ℕ → ℕ → Outcome
free_by v regions t u d =
    cond (ltb (v (DescriptorRegion d)) regions)
    (cond (eqb (v (DescriptorRegion d)) (region_of u))
    (cond (is_anchor (v (Anchor d)))
    (cond (eqb (anchor_of (v (Anchor d))).state EMPTY) (refuse 10) (free_open v t u d))
    bad)
    (refuse 10))
    bad

-- the map's entry of the unit's region: none, or a descriptor's number plus one
unfoldable pub free_entry : View → ℕ → ℕ → ℕ → ℕ → Outcome
free_entry v regions t u entry =
    cond (eqb entry 0) (refuse 10) (cond (leb entry DESCRIPTORS) (free_by v regions t u (entry - 1)) bad)

-- the beginning of the free of a small block: "10 not the first unit of a block of an open region"
unfoldable pub begin_free_small : View → ℕ → ℕ → ℕ → Outcome
begin_free_small v regions t u =
    cond (ltb (region_of u) regions) (free_entry v regions t u (v (Map (region_of u)))) (refuse 10)

-- the beginning of a free: the units from 8,192 up are the strips' memory's
unfoldable pub begin_free : View → ℕ → ℕ → ℕ → Outcome
begin_free v regions t u = cond (ltb u UNITS) (begin_free_small v regions t u) (begin_free_strip v t u)

-- ---- the calls, from the bytes that are lent to the bytes that they leave

-- What a call is lent: a control memory of so many bytes, an area and a strips' memory. A start takes the two for the
-- pool's; of any other call their lengths alone matter.
pub record Lent : Type 0 where
  pub control : ℕ
  pub area : List ℕ
  pub strips : List ℕ

-- "the lengths lent"
abbrev pub lengths : Lent → Lengths
lengths lent =
    record { control = lent.control; area = length lent.area; strips = length lent.strips }

-- an accepted start fills the control memory, and takes the area and the strips' memory that it is lent, as they are
abbrev pub start_effect : Start → Lent → Effect
start_effect b lent = record {
  answer = Accepted;
  lost = 0;
  decided = nothing;
  control = start_image b (length lent.area / REGION_BYTES);
  area = lent.area;
  strips = lent.strips;
}

-- test 2 of a start: "2 area length zero, no multiple of 4,096 or above 65,536", and "a second area of another length
-- is 2" (the request for strips)
abbrev pub is_start_lengths : Lengths → Bool
is_start_lengths lent =
    (eqb (lent.area % REGION_BYTES) 0 && one_to AREA_BYTES lent.area) && eqb lent.strips STRIPS_BYTES

-- "1 control not 8,192 bytes; 2 ..; 3 tasks not 1 to 8". A refused start leaves the pool's memories s.
unfoldable pub start_in : Start → Lent → Memories → Effect
start_in b lent s =
    cond (eqb lent.control CONTROL_BYTES)
    (cond (is_start_lengths (lengths lent))
    (cond (one_to TASKS b.tasks) (start_effect b lent) (effect (refuse 3) s))
    (effect (refuse 2) s))
    (effect (refuse 1) s)

-- the beginning of an allocation, by the lengths lent and the fields
unfoldable pub allocate_outcome : Lengths → View → ℕ → ℕ → Outcome
allocate_outcome lent v t size = tested lent v t (when_idle v t (begin_allocate t size))

-- the beginning of a free, by the lengths lent and the fields
unfoldable pub free_outcome : Lengths → View → ℕ → ℕ → Outcome
free_outcome lent v t u = tested lent v t (when_idle v t (begin_free v (v Regions) t u))

-- the beginning of leaving, by the lengths lent and the fields
unfoldable pub leave_outcome : Lengths → View → ℕ → Outcome
leave_outcome lent v t = tested lent v t (when_idle v t (begin_leave v t))

-- "one call is one step of one task": by the lengths lent, the fields and the links
unfoldable pub step_outcome : Lengths → View → (ℕ → ℕ) → ℕ → Outcome
step_outcome lent v link t = tested lent v t (Steps.step_of v link (v Regions) t)

-- what a call makes of the pool's memories s, which need not be those that it is lent
abbrev pub effect_in : Call → Lent → Memories → Effect
effect_in (start b) lent s = start_in b lent s
effect_in (allocate t size) lent s = effect (allocate_outcome (lengths lent) (seen s.control) t size) s
effect_in (free t u) lent s = effect (free_outcome (lengths lent) (seen s.control) t u) s
effect_in (leave t) lent s = effect (leave_outcome (lengths lent) (seen s.control) t) s
effect_in (step t) lent s = step_effect t (step_outcome (lengths lent) (seen s.control) (Link.link s.area) t) s

-- the memories s, lent to a call
abbrev pub lending : Memories → Lent
lending s = record { control = length s.control; area = s.area; strips = s.strips }

-- what a call makes of the memories that it is lent
abbrev pub effect_of : Call → Memories → Effect
effect_of k s = effect_in k (lending s) s
