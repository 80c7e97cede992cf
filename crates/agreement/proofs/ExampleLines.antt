-- The lines of the example's run, with the moves that need care: lost exchanges of a head and of an anchor, a region
-- closed in one return and opened again for another class, an EMPTY anchor found on a partial list, a head that changes
-- and comes back to its item between a read and its exchange, 13; strips that are halved and joined, and 16; tasks that
-- leave at once; and users' writes, into blocks and into strips.
use mathlib.Core.List.{List, [], ◌∷◌, ◌++◌, map}
use Prim.Native.Nat.{ℕ, zero, suc, ◌*◌}
use lib.ListN.{replicate}
use Rattle.limits.specs.Limits.{CONTROL_BYTES, REGION_BYTES, SPARE_DESCRIPTORS, SPARE_REGIONS, STRIPS_BYTES}
use Rattle.classes.specs.Sizes.{class_of}
use Rattle.plain.specs.Moves.{Decided, nothing, found_empty, popped, pushed, lost, anchor_empty, took, gave}
use Rattle.plain.specs.Moves.{anchor_lost, strip_taken, strip_given, no_strip}
use Rattle.plain.specs.Moves.{Answer, going, finished, finished_by, ended, refused}
use Rattle.plain.specs.Calls.{Start, allocate, free, leave, step}
use Rattle.stepped.specs.Calls.{Lent}
use Rattle.agreement.specs.Events.{Event, call, write, write_strip}

-- ---- the lines of the schedule: two regions, three tasks

-- an area of two regions
abbrev pub AREA : ℕ
AREA = 2 * REGION_BYTES

-- what the calls behind the start are lent: the control memory, two regions and the strips' memory, of which the
-- lengths alone matter
abbrev pub lent : Lent
lent = record { control = CONTROL_BYTES; area = replicate AREA 0; strips = replicate STRIPS_BYTES 0 }

abbrev pub allocates : ℕ → ℕ → List Event
allocates t size = call (allocate t size) lent ∷ []

abbrev pub frees : ℕ → ℕ → List Event
frees t u = call (free t u) lent ∷ []

abbrev pub leaves : ℕ → List Event
leaves t = call (leave t) lent ∷ []

-- n steps of the task t
abbrev pub steps : ℕ → ℕ → List Event
steps t n = replicate n (call (step t) lent)

abbrev pub writes : ℕ → ℕ → List Event
writes at b = write at b ∷ []

abbrev pub strip_writes : ℕ → ℕ → List Event
strip_writes at b = write_strip at b ∷ []

-- a line, and what its calls answer beside code 0 with nothing decided
abbrev pub ExampleLine : Type 0
ExampleLine = List Event × List Answer

-- the classes of the blocks that are asked for, by their bytes
abbrev pub CLASS_160 : ℕ
CLASS_160 = class_of 160

abbrev pub CLASS_192 : ℕ
CLASS_192 = class_of 192

abbrev pub CLASS_224 : ℕ
CLASS_224 = class_of 224

abbrev pub CLASS_256 : ℕ
CLASS_256 = class_of 256

-- A list of partial descriptors has the number of its class. A region has 16 blocks of 256 bytes; block i of region r
-- is the unit 512 × r + 32 × i.
abbrev pub contention : List ExampleLine
contention =
    -- Tasks 0 and 1 begin alike: each has read the head of the spare descriptors and the next of the top one.
    (allocates 0 256, [])
    ∷ (steps 0 4, going (found_empty CLASS_256) ∷ [])
    ∷ (allocates 1 256, [])
    ∷ (steps 1 4, going (found_empty CLASS_256) ∷ [])
    -- Task 0 wins its exchange; task 1 loses it and pops the next descriptor. Each opens a region and carves its 16
    -- blocks, and its user gets the last of them.
    ∷ (steps 0 1, going (popped SPARE_DESCRIPTORS 0) ∷ [])
    ∷ (steps 1 1, going (lost SPARE_DESCRIPTORS) ∷ [])
    ∷ (steps 0 21, going (popped SPARE_REGIONS 0) ∷ finished 480 ∷ [])
    ∷ (steps 1 24, going (popped SPARE_DESCRIPTORS 1) ∷ going (popped SPARE_REGIONS 1) ∷ finished 992 ∷ [])
    -- The users write into their blocks, over the links, and get one block more each.
    ∷ (writes 3840 170, [])
    ∷ (writes 7936 255, [])
    ∷ (writes 8191 1, [])
    ∷ (allocates 0 256, [])
    ∷ (steps 0 1, finished 448 ∷ [])
    ∷ (allocates 1 256, [])
    ∷ (steps 1 1, finished 960 ∷ [])
    -- Two of these blocks, one of each region, fill task 1's cache; the third finds it full.
    ∷ (frees 1 480, [])
    ∷ (steps 1 1, finished 0 ∷ [])
    -- Block 480 is not freed twice: its mark is clear.
    ∷ (frees 1 480, refused 11 ∷ [])
    ∷ (frees 1 960, [])
    ∷ (steps 1 1, finished 0 ∷ [])
    ∷ (frees 1 448, [])
    -- A group of one, block 960, goes back to region 1: FULL, then PARTIAL. Its descriptor is offered.
    ∷ (steps 1 9, going (gave 1) ∷ going (pushed CLASS_256 1) ∷ [])
    -- Task 2 pops that descriptor and reads its anchor.
    ∷ (allocates 2 256, [])
    ∷ (steps 2 5, going (popped CLASS_256 1) ∷ [])
    -- Task 1 returns a group of one to region 0, then one of 14 to region 1, whose anchor changes; block 448 is cached.
    ∷ (steps 1 8, going (gave 0) ∷ going (pushed CLASS_256 0) ∷ [])
    ∷ (steps 1 19, going (gave 1) ∷ finished 0 ∷ [])
    -- Task 2 loses its exchange of that anchor, reads it again and takes the chain of 15.
    ∷ (steps 2 1, going (anchor_lost 1) ∷ [])
    ∷ (steps 2 18, going (took 1) ∷ finished 960 ∷ [])
    ∷ []

abbrev pub closing : List ExampleLine
closing =
    -- Task 2 gets all 16 blocks of region 1 in its cache. A block of region 0 finds it full, and all 16 go back in one
    -- group: FULL, then EMPTY. Region 1 is closed and spare; its descriptor is offered though it is EMPTY.
    (frees 2 992, [])
    ∷ (steps 2 1, finished 0 ∷ [])
    ∷ (frees 2 960, [])
    ∷ (steps 2 1, finished 0 ∷ [])
    ∷ (allocates 0 256, [])
    ∷ (steps 0 1, finished 416 ∷ [])
    ∷ (frees 2 416, [])
    ∷ (steps 2 29, going (gave 1) ∷ going (pushed SPARE_REGIONS 1) ∷ going (pushed CLASS_256 1) ∷ finished 0 ∷ [])
    ∷ []

abbrev pub reopening : List ExampleLine
reopening =
    -- Region 1 is opened again, for blocks of 224 bytes; the user writes the first and the last byte of one.
    (allocates 0 224, [])
    ∷ (
      steps 0 28,
      going (found_empty CLASS_224) ∷ going (popped SPARE_DESCRIPTORS 2) ∷ going (popped SPARE_REGIONS 1)
          ∷ finished 988 ∷ [],
    )
    ∷ (writes 7904 7, [])
    ∷ (writes 8127 9, [])
    -- Task 1's cache has one block. Then its list has the descriptor that is EMPTY, which goes to the spare ones, and
    -- below it one with a chain of one.
    ∷ (allocates 1 256, [])
    ∷ (steps 1 1, finished 448 ∷ [])
    ∷ (allocates 1 256, [])
    ∷ (steps 1 8, going (popped CLASS_256 1) ∷ going (anchor_empty 1) ∷ going (pushed SPARE_DESCRIPTORS 1) ∷ [])
    ∷ (steps 1 7, going (popped CLASS_256 0) ∷ going (took 0) ∷ finished 480 ∷ [])
    -- Task 1 wants 192 bytes: it has read the head of the spare descriptors, with descriptor 1 on top, and its next.
    ∷ (allocates 1 192, [])
    ∷ (steps 1 4, going (found_empty CLASS_192) ∷ [])
    ∷ []

abbrev pub meanwhile : List ExampleLine
meanwhile =
    -- Task 2 pops descriptor 1, finds no spare region, pushes it back and ends with 13: it is on top again.
    (allocates 2 160, [])
    ∷ (
      steps 2 6,
      going (found_empty CLASS_160) ∷ going (popped SPARE_DESCRIPTORS 1) ∷ going (found_empty SPARE_REGIONS) ∷ [],
    )
    ∷ (steps 2 3, ended 13 (pushed SPARE_DESCRIPTORS 1) ∷ [])
    ∷ []

abbrev pub ending : List ExampleLine
ending =
    -- Task 1 loses its exchange, though the item is the one that it noted; it tries again and ends with 13.
    (steps 1 1, going (lost SPARE_DESCRIPTORS) ∷ [])
    ∷ (steps 1 4, going (popped SPARE_DESCRIPTORS 1) ∷ going (found_empty SPARE_REGIONS) ∷ [])
    ∷ (steps 1 3, ended 13 (pushed SPARE_DESCRIPTORS 1) ∷ [])
    ∷ []

-- The strip at slot s begins at the unit 8,192 + 64 × s and at the byte 512 × s.
abbrev pub strips : List ExampleLine
strips =
    -- Task 0 asks for 300 bytes, a strip of 512: the whole is halved seven times. Task 1 asks for 30,000, a strip of
    -- 32,768, and gets the upper half as it is.
    (allocates 0 300, [])
    ∷ (allocates 1 30000, [])
    ∷ (steps 0 1, finished_by (strip_taken 0) 8192 ∷ [])
    ∷ (steps 1 1, finished_by (strip_taken 64) 12288 ∷ [])
    -- The user writes the first and the last byte of the smaller one.
    ∷ (strip_writes 0 170, [])
    ∷ (strip_writes 511 1, [])
    -- 63 slots are free, but none of the two halves is: 32,768 bytes more end with 16.
    ∷ (allocates 2 32768, [])
    ∷ (steps 2 1, ended 16 no_strip ∷ [])
    -- Task 1 begins to free the smaller one. It is not freed twice, and at the next slot no strip begins.
    ∷ (frees 1 8192, [])
    ∷ (frees 2 8192, refused 11 ∷ [])
    ∷ (frees 2 8256, refused 10 ∷ [])
    -- The freed slot joins six times, with the other half of each piece: now the lower half is free, and no strip
    -- begins there any more.
    ∷ (steps 1 1, finished_by (strip_given 0) 0 ∷ [])
    ∷ (frees 2 8192, refused 10 ∷ [])
    ∷ (allocates 2 32768, [])
    ∷ (steps 2 1, finished_by (strip_taken 0) 8192 ∷ [])
    ∷ []

abbrev pub leaving : List ExampleLine
leaving =
    -- Task 1 has nothing cached: leaving takes one step.
    (leaves 1, [])
    ∷ (steps 1 1, finished 0 ∷ [])
    -- Tasks 0 and 2 leave at once. A task that leaves has a request in hand.
    ∷ (leaves 0, [])
    ∷ (leaves 2, [])
    ∷ (leaves 0, refused 6 ∷ [])
    -- Task 0 returns 17 blocks of 224 bytes to region 1: FULL, then PARTIAL. Its descriptor is offered.
    ∷ (steps 0 24, going (gave 2) ∷ going (pushed CLASS_224 2) ∷ [])
    -- Its next cache that is not empty has 13 blocks of 256 bytes, of region 0, whose anchor it reads.
    ∷ (steps 0 16, [])
    -- Task 2 returns its one block to the same region, and finishes by one further step.
    ∷ (steps 2 8, going (gave 0) ∷ going (pushed CLASS_256 0) ∷ [])
    ∷ (steps 2 1, finished 0 ∷ [])
    -- Task 0 loses its exchange of that anchor. It reads it again, returns its blocks and finishes by one further step.
    ∷ (steps 0 1, going (anchor_lost 0) ∷ [])
    ∷ (steps 0 3, going (gave 0) ∷ [])
    ∷ (steps 0 1, finished 0 ∷ [])
    -- A task that has left begins again: it takes the chain of 14 that the two have returned.
    ∷ (allocates 0 256, [])
    ∷ (steps 0 21, going (popped CLASS_256 0) ∷ going (took 0) ∷ finished 416 ∷ [])
    ∷ []

abbrev pub schedule : List ExampleLine
schedule = contention ++ (closing ++ (reopening ++ (meanwhile ++ (ending ++ (strips ++ leaving)))))

-- ---- its events and its answers

abbrev pub joined : {A : Type 0} → List (List A) → List A
joined [] = []
joined (q ∷ qs) = q ++ joined qs

abbrev pub events : List ExampleLine → List Event
events ls = joined (map (λ (l : ExampleLine). l.0) ls)

abbrev pub answers : List ExampleLine → List Answer
answers ls = joined (map (λ (l : ExampleLine). l.1) ls)

-- without code 0 with nothing decided
abbrev pub told_by : ℕ → Decided → Answer → List Answer → List Answer
told_by zero nothing a q = q
told_by zero (found_empty ℓ) a q = a ∷ q
told_by zero (popped ℓ x) a q = a ∷ q
told_by zero (pushed ℓ x) a q = a ∷ q
told_by zero (lost ℓ) a q = a ∷ q
told_by zero (anchor_empty d) a q = a ∷ q
told_by zero (took d) a q = a ∷ q
told_by zero (gave d) a q = a ∷ q
told_by zero (anchor_lost d) a q = a ∷ q
told_by zero (strip_taken s) a q = a ∷ q
told_by zero (strip_given s) a q = a ∷ q
told_by zero no_strip a q = a ∷ q
told_by (suc code) e a q = a ∷ q

abbrev pub told : List Answer → List Answer
told [] = []
told (a ∷ q) = told_by a.code a.decided a (told q)

-- three tasks
abbrev pub three : Start
three = record { tasks = 3 }
