-- docs/POOL.md, "Calls and refusals"
-- The tests of each call in the paper's order: "Start tests 1, 2, 3. Other calls test 1, 4, 2, 5, then 6 or 7, then 8,
-- 9 or 10, 11. 14 comes where the bad value is read."
use Rattle.std.specs.Prelude.{ℕ, ◌*◌, ◌/◌, ◌%◌, ◌-◌, ◌≡◌, Bool, true, cond, not, ◌&&◌, List, [], ◌∷◌, ◌++◌, ltb, leb}
use Rattle.std.specs.Prelude.{eqb}
use Rattle.limits.specs.Limits.{CONTROL_BYTES, REGION_BYTES, AREA_BYTES, TASKS, REGIONS, CLASSES, DESCRIPTORS}
use Rattle.limits.specs.Limits.{LARGEST_STRIP, WORD_MARKS, UNITS, STRIPS_BYTES}
use Rattle.control.specs.Places.{IDLE, PLACES}
use Rattle.fields.specs.Columns.{View}
use Rattle.words.specs.Anchor.{EMPTY, anchor_of}
use Rattle.words.specs.Mark.{is_set}
use Rattle.classes.specs.Geometry.{region_of, is_first}
use Rattle.pieces.specs.StripUnits.{slot_of_unit, is_strip_unit}
use Rattle.strip_tree.specs.SlotStates.{FREE_BEGUN, LAST_BYTE, order_in}
use Rattle.strip_tree.specs.TreeMoves.{can_begin}
use Rattle.plain.specs.Calls.{Start, Lengths}
use Rattle.control.specs.Layout.{Anchor, Marks, TaskPlace, TaskClass, DescriptorRegion, DescriptorClass, Map, Tasks}
use Rattle.control.specs.Layout.{Regions, SlotByte}
use Rattle.stepped.specs.Leaving.{next_cached, count_fits}
use Rattle.stepped.specs.Ranges.{one_to, is_anchor}

-- a test: what it asks, and the number by which it refuses a call that fails it
pub record Test : Type 0 where
  pub asks : Bool
  pub number : ℕ

infix 68 ◌or◌
-- b is asked, and n refuses a call that fails it
abbrev pub ◌or◌ : Bool → ℕ → Test
b or n = record { asks = b; number = n }

-- the number of the first test that fails; n where all pass
abbrev pub first_failed : List Test → ℕ → ℕ
first_failed [] n = n
first_failed (t ∷ ts) n = cond t.asks (first_failed ts n) t.number

-- every test passes
abbrev pub Passes : List Test → Type 0
Passes [] = Unit {0}
Passes (t ∷ ts) = (t.asks ≡ true) × Passes ts

-- "1 control not 8,192 bytes; 2 area length zero, no multiple of 4,096 or above 65,536 ..; 3 tasks not 1 to 8"; "a
-- second area of another length is 2" (the request for strips)
abbrev pub start_tests : Start → Lengths → List Test
start_tests b lent =
    eqb lent.control CONTROL_BYTES or 1
    ∷ (eqb (lent.area % REGION_BYTES) 0 && one_to AREA_BYTES lent.area) or 2
    ∷ eqb lent.strips STRIPS_BYTES or 2
    ∷ one_to TASKS b.tasks or 3
    ∷ []

-- "1, 4, 2, 5": the length of the control memory; the pool is started; the area has the started length, and the strips'
-- memory its own; there is such a task. The started numbers of tasks and regions are read for 4 and 2.
abbrev pub call_tests : Lengths → View → ℕ → List Test
call_tests lent v t =
    eqb lent.control CONTROL_BYTES or 1
    ∷ leb (v Tasks) TASKS or 14
    ∷ not (eqb (v Tasks) 0) or 4
    ∷ one_to REGIONS (v Regions) or 14
    ∷ eqb lent.area (REGION_BYTES * v Regions) or 2
    ∷ eqb lent.strips STRIPS_BYTES or 2
    ∷ ltb t (v Tasks) or 5
    ∷ []

-- "6 the task has a request in hand", by its place
abbrev pub idle_tests : View → ℕ → List Test
idle_tests v t = ltb (v (TaskPlace t)) PLACES or 14 ∷ eqb (v (TaskPlace t)) IDLE or 6 ∷ []

-- "8 size 0"; "9 now means above 65,536" (the request for strips)
abbrev pub size_tests : ℕ → List Test
size_tests size = not (eqb size 0) or 8 ∷ not (ltb LARGEST_STRIP size) or 9 ∷ []

-- "10 not the first unit of a block of an open region; 11 such a unit, but its mark is clear". The unit's region is one
-- of the area's, and its map entry names a descriptor d, which names it back; d's anchor is not EMPTY; the unit is the
-- first of a block of d's class.
abbrev pub unit_tests : View → ℕ → List Test
unit_tests v u =
    let r = region_of u in
    let entry = v (Map r) in
    let d = entry - 1 in
    ltb r (v Regions) or 10
    ∷ not (eqb entry 0) or 10
    ∷ leb entry DESCRIPTORS or 14
    ∷ ltb (v (DescriptorRegion d)) (v Regions) or 14
    ∷ eqb (v (DescriptorRegion d)) r or 10
    ∷ is_anchor (v (Anchor d)) or 14
    ∷ not (eqb (anchor_of (v (Anchor d))).state EMPTY) or 10
    ∷ ltb (v (DescriptorClass d)) CLASSES or 14
    ∷ is_first (v (DescriptorClass d)) u or 10
    ∷ is_set (v (Marks (u / WORD_MARKS))) (u % WORD_MARKS) or 11
    ∷ []

-- "A unit from 8,192 where no strip starts is 10, and one whose free has begun is 11" (the request for strips): the
-- unit is the first of a slot, whose byte is not 0. A byte past the last is out of its range, 14, and so is one whose
-- strip cannot begin there, since its length does not divide the slot's number.
abbrev pub strip_tests : View → ℕ → List Test
strip_tests v u =
    let s = slot_of_unit u in
    let x = v (SlotByte s) in
    is_strip_unit u or 10
    ∷ not (eqb x 0) or 10
    ∷ leb x LAST_BYTE or 14
    ∷ can_begin s (order_in x) or 14
    ∷ not (leb FREE_BEGUN x) or 11
    ∷ []

-- "7 step without one"; at a place other than idle the class of the request is read, too, which is where a strip's
-- request has its order
abbrev pub request_tests : View → ℕ → List Test
request_tests v t = ltb IDLE (v (TaskPlace t)) or 7 ∷ ltb (v (TaskClass t)) CLASSES or 14 ∷ []

-- all tests of the beginning of an allocation
abbrev pub allocate_tests : Lengths → View → ℕ → ℕ → List Test
allocate_tests lent v t size = call_tests lent v t ++ (idle_tests v t ++ size_tests size)

-- all tests of the beginning of a free: of a strip, whose "units run from 8,192 to 16,383", or of a small block
abbrev pub free_tests : Lengths → View → ℕ → ℕ → List Test
free_tests lent v t u =
    call_tests lent v t ++ (idle_tests v t ++ cond (ltb u UNITS) (unit_tests v u) (strip_tests v u))

-- the count of the first cache that is not empty is in its range: it is read at the beginning of leaving
abbrev pub search_tests : View → ℕ → List Test
search_tests v t = count_fits v t (next_cached v t 0) or 14 ∷ []

-- all tests of the beginning of leaving: "Tests for a request in hand apply as for any other" (the request for leaving)
abbrev pub leave_tests : Lengths → View → ℕ → List Test
leave_tests lent v t = call_tests lent v t ++ (idle_tests v t ++ search_tests v t)

-- all tests of a step before the step itself
abbrev pub step_tests : Lengths → View → ℕ → List Test
step_tests lent v t = call_tests lent v t ++ request_tests v t
