-- docs/POOL.md, "The control memory"
-- The layout of the control memory. Each column is defined once, with its first byte, its width and how many numbers it
-- has, and below it the field that stands in it; `layout` lists the columns in their order. A further column is its
-- definition and a line of the list. docs/LAYOUT.md gives each field's range and says what the gaps are kept for.
use Rattle.std.specs.Prelude.{ℕ, ◌+◌, ◌*◌, ◌/◌, ◌≡◌, ◌≤◌, List, [], ◌∷◌, length}
use Rattle.limits.specs.Limits.{CONTROL_BYTES, UNITS, TASKS, REGIONS, DESCRIPTORS, LISTS, WORD_MARKS, SLOTS}
use Rattle.limits.specs.Limits.{BOTH_UNITS}
use Rattle.fields.specs.Columns.{Column, Field, View, Write, column_of, past_of, view, written}

-- `count` numbers of `width` bytes each, from the byte `start` on
abbrev column : ℕ → ℕ → ℕ → Column
column start width count = record { start = start; width = width; count = count }

-- the number of a column at an index
abbrev pub field_of : Column → ℕ → Field
field_of k index = record { column = k.start; index = index }

-- the field at an index of the column that starts at a byte
abbrev pub field_at : ℕ → ℕ → Field
field_at start index = record { column = start; index = index }

-- how many words the marks of all units take, 64 in each
abbrev pub MARK_WORDS : ℕ
MARK_WORDS = UNITS / WORD_MARKS

-- how many words the tree of the free pieces of strips takes: two nodes to a slot, 64 in each word
abbrev pub TREE_WORDS : ℕ
TREE_WORDS = SLOTS * 2 / WORD_MARKS

-- the caches stand task by task, with room for so many classes of a task
abbrev pub CACHES_OF_TASK : ℕ
CACHES_OF_TASK = 16

-- how many caches there is room for
abbrev pub CACHES : ℕ
CACHES = CACHES_OF_TASK * TASKS

-- the head word of a list: first those of the partial descriptors of each class, then the spare descriptors, then the
-- spare regions
abbrev pub heads : Column
heads = column 0 8 LISTS

abbrev pub Head : ℕ → Field
Head = field_of heads

-- a descriptor's anchor
abbrev pub anchors : Column
anchors = column 256 8 DESCRIPTORS

abbrev pub Anchor : ℕ → Field
Anchor = field_of anchors

-- 64 marks, of the units 64 × k to 64 × k + 63
abbrev pub unit_marks : Column
unit_marks = column 768 8 MARK_WORDS

abbrev pub Marks : ℕ → Field
Marks = field_of unit_marks

-- the head word that a task noted
abbrev pub task_heads : Column
task_heads = column 4864 8 TASKS

abbrev pub TaskHead : ℕ → Field
TaskHead = field_of task_heads

-- the anchor that a task noted
abbrev pub task_anchors : Column
task_anchors = column 4928 8 TASKS

abbrev pub TaskAnchor : ℕ → Field
TaskAnchor = field_of task_anchors

-- the top block of a cache: its unit, 8,192 for none
abbrev pub cache_tops : Column
cache_tops = column 4992 2 CACHES

abbrev pub TopOfCache : ℕ → Field
TopOfCache = field_of cache_tops

-- how many blocks a cache has
abbrev pub cache_counts : Column
cache_counts = column 5248 2 CACHES

abbrev pub CountOfCache : ℕ → Field
CountOfCache = field_of cache_counts

-- the top block of the cache of the task t for the class c
abbrev pub CacheTop : ℕ → ℕ → Field
CacheTop t c = TopOfCache (CACHES_OF_TASK * t + c)

-- how many blocks the cache of the task t for the class c has
abbrev pub CacheCount : ℕ → ℕ → Field
CacheCount t c = CountOfCache (CACHES_OF_TASK * t + c)

-- the unit of the block or strip that a task frees; LEAVING from the beginning of leaving to that of a free
abbrev pub task_units : Column
task_units = column 5504 2 TASKS

abbrev pub TaskUnit : ℕ → Field
TaskUnit = field_of task_units

-- what stands in the place of a unit while a task leaves: the first number that is no unit, of either memory
abbrev pub LEAVING : ℕ
LEAVING = BOTH_UNITS

-- the index of the block that a task moves or carves next
abbrev pub task_indexes : Column
task_indexes = column 5520 2 TASKS

abbrev pub TaskIndex : ℕ → Field
TaskIndex = field_of task_indexes

-- how many blocks of a taken chain are left to move
abbrev pub task_lefts : Column
task_lefts = column 5536 2 TASKS

abbrev pub TaskLeft : ℕ → Field
TaskLeft = field_of task_lefts

-- the index of the first block of a task's group
abbrev pub group_firsts : Column
group_firsts = column 5552 2 TASKS

abbrev pub GroupFirst : ℕ → Field
GroupFirst = field_of group_firsts

-- the index of the last block of a task's group
abbrev pub group_lasts : Column
group_lasts = column 5568 2 TASKS

abbrev pub GroupLast : ℕ → Field
GroupLast = field_of group_lasts

-- how many blocks a task's group has
abbrev pub group_counts : Column
group_counts = column 5584 2 TASKS

abbrev pub GroupCount : ℕ → Field
GroupCount = field_of group_counts

-- how many exchanges a task has lost in the request that it has in hand, or had last
abbrev pub task_losts : Column
task_losts = column 5600 4 TASKS

abbrev pub TaskLost : ℕ → Field
TaskLost = field_of task_losts

-- a task's place in the step list: one of Places, and `step_list` of the stepped pool is their list
abbrev pub task_places : Column
task_places = column 5632 1 TASKS

abbrev pub TaskPlace : ℕ → Field
TaskPlace = field_of task_places

-- the class of the block that a task's request is for, or the order of its strip; in leaving, that of the cache that is
-- returned
abbrev pub task_classes : Column
task_classes = column 5640 1 TASKS

abbrev pub TaskClass : ℕ → Field
TaskClass = field_of task_classes

-- the item's next that a pop noted: a number plus one, 0 for none
abbrev pub task_nexts : Column
task_nexts = column 5648 1 TASKS

abbrev pub TaskNext : ℕ → Field
TaskNext = field_of task_nexts

-- the descriptor that a task has in hand; in a return, the group's
abbrev pub task_descriptors : Column
task_descriptors = column 5656 1 TASKS

abbrev pub TaskDescriptor : ℕ → Field
TaskDescriptor = field_of task_descriptors

-- the region that a task has in hand; in a return, the group's
abbrev pub task_regions : Column
task_regions = column 5664 1 TASKS

abbrev pub TaskRegion : ℕ → Field
TaskRegion = field_of task_regions

-- the state in which a return found the anchor that it exchanged
abbrev pub task_states : Column
task_states = column 5672 1 TASKS

abbrev pub TaskState : ℕ → Field
TaskState = field_of task_states

-- the next of a descriptor on its list: a number plus one, 0 for none
abbrev pub descriptor_nexts : Column
descriptor_nexts = column 5696 1 DESCRIPTORS

abbrev pub DescriptorNext : ℕ → Field
DescriptorNext = field_of descriptor_nexts

-- the next of a spare region: a number plus one, 0 for none
abbrev pub region_nexts : Column
region_nexts = column 5760 1 REGIONS

abbrev pub RegionNext : ℕ → Field
RegionNext = field_of region_nexts

-- a descriptor's region
abbrev pub descriptor_regions : Column
descriptor_regions = column 5776 1 DESCRIPTORS

abbrev pub DescriptorRegion : ℕ → Field
DescriptorRegion = field_of descriptor_regions

-- a descriptor's class
abbrev pub descriptor_classes : Column
descriptor_classes = column 5840 1 DESCRIPTORS

abbrev pub DescriptorClass : ℕ → Field
DescriptorClass = field_of descriptor_classes

-- "A map entry for each region names its descriptor, or none": its number plus one, 0 for none
abbrev pub map_entries : Column
map_entries = column 5904 1 REGIONS

abbrev pub Map : ℕ → Field
Map = field_of map_entries

-- the started number of tasks, 0 while the pool is not started
abbrev pub started_tasks : Column
started_tasks = column 5944 1 1

abbrev pub Tasks : Field
Tasks = field_of started_tasks 0

-- the started number of regions
abbrev pub started_regions : Column
started_regions = column 5945 1 1

abbrev pub Regions : Field
Regions = field_of started_regions 0

-- the strips: one bit each for a free piece, 64 nodes of the tree in a word
abbrev pub free_nodes : Column
free_nodes = column 6016 8 TREE_WORDS

abbrev pub FreeNodes : ℕ → Field
FreeNodes = field_of free_nodes

-- what begins at a slot: 0 no strip, 1 + k a strip of order k in hand, 9 + k one whose free has begun
abbrev pub bytes_of_slots : Column
bytes_of_slots = column 6048 1 SLOTS

abbrev pub SlotByte : ℕ → Field
SlotByte = field_of bytes_of_slots

-- the columns, in the order of their bytes
abbrev pub layout : List Column
layout =
    heads
    ∷ anchors
    ∷ unit_marks
    ∷ task_heads
    ∷ task_anchors
    ∷ cache_tops
    ∷ cache_counts
    ∷ task_units
    ∷ task_indexes
    ∷ task_lefts
    ∷ group_firsts
    ∷ group_lasts
    ∷ group_counts
    ∷ task_losts
    ∷ task_places
    ∷ task_classes
    ∷ task_nexts
    ∷ task_descriptors
    ∷ task_regions
    ∷ task_states
    ∷ descriptor_nexts
    ∷ region_nexts
    ∷ descriptor_regions
    ∷ descriptor_classes
    ∷ map_entries
    ∷ started_tasks
    ∷ started_regions
    ∷ free_nodes
    ∷ bytes_of_slots
    ∷ []

-- the byte that a column starts at
abbrev pub start_of : Column → ℕ
start_of k = k.start

-- what stands in each field of a control memory
abbrev pub seen : List ℕ → View
seen = view layout

-- a control memory after writes to its fields
abbrev pub changed : List Write → List ℕ → List ℕ
changed = written layout

-- a control memory: every call tests its length first
abbrev pub Control : List ℕ → Type 0
Control b = length b ≡ CONTROL_BYTES

-- the layout has a column that starts there, of so many numbers of so many bytes, and it lies in the control memory
pub record IsColumn (start width count : ℕ) : Type 0 where
  pub is_listed : column_of layout start ≡ column start width count
  pub is_inside : past_of (column start width count) ≤ CONTROL_BYTES
