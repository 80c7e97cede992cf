-- docs/POOL.md, "The control memory"
-- The range of every field of the control memory, once the pool is started: "a range holds every value that a run under
-- demand 3's premises stores in the field".
use Rattle.std.specs.Prelude.{ℕ, ◌+◌, ◌^◌, ◌≤◌, ◌<◌, ◌≡◌, ◌⊎◌, true}
use Rattle.limits.specs.Limits.{REGIONS, UNITS, TASKS, CLASSES, DESCRIPTORS, MOST_BLOCKS, SPARE_REGIONS}
use Rattle.limits.specs.Limits.{DESCRIPTOR_LISTS, ORDERS, SLOTS}
use Rattle.fields.specs.Columns.{Field, View, Has, width}
use Rattle.words.specs.Head.{item_of}
use Rattle.words.specs.Anchor.{EMPTY, PARTIAL, FULL, anchor_of}
use Rattle.classes.specs.Classes.{per_region}
use Rattle.pieces.specs.StripUnits.{slot_of_unit, is_strip_unit}
use Rattle.strip_tree.specs.TreeMoves.{can_begin}
use Rattle.strip_tree.specs.SlotStates.{FREE_BEGUN, LAST_BYTE, order_in}
use Rattle.control.specs.Layout.{layout, Head, Anchor, TaskHead, TaskAnchor, CacheTop, CacheCount, TaskUnit, LEAVING}
use Rattle.control.specs.Layout.{TaskIndex, TaskLeft, GroupFirst, GroupLast, GroupCount}
use Rattle.control.specs.Layout.{TaskPlace, TaskClass, TaskNext, TaskDescriptor, TaskRegion, TaskState}
use Rattle.control.specs.Layout.{DescriptorNext, RegionNext, DescriptorRegion, DescriptorClass, Map, Tasks, Regions}
use Rattle.control.specs.Layout.{SlotByte, seen}
use Rattle.control.specs.Places.{POP_REGION, PUSH_BACK, PUSH_RELEASE, PUSH_OFFER, A3_EXCHANGE, A4, A7, A8, F1, F2}
use Rattle.control.specs.Places.{F3_READ, F3_LINK, F3_EXCHANGE, F4_CLEAR, STRIP_TAKE, STRIP_GIVE, PLACES}
use Rattle.control.specs.Places.{TO_NEXT, TO_EXCHANGE}
use Rattle.control.specs.declared.moves.Pop.{Pop}
use Rattle.control.specs.declared.moves.Push.{Push}
use Rattle.stepped.specs.Ranges.{is_block, is_top}
use Rattle.stepped.specs.Lists.{how_many, pop_place, pop_items, push_place, push_items}
use Rattle.stepped.specs.Outcome.{Memories}
use Rattle.plain.specs.Calls.{Pool}
use Rattle.agreement.specs.Events.{Event, stepped}
use Rattle.agreement.specs.Tied.{FoundStates}

-- x is from 1 to `most`
abbrev pub OneTo : ℕ → ℕ → Type 0
OneTo most x = (1 ≤ x) × (x ≤ most)

-- X where the task t is at a place from a to b, in the order of the table of places. A move has three: its head read,
-- its next and its exchange.
abbrev pub AtPlaces : View → ℕ → ℕ → ℕ → Type 0 → Type 0
AtPlaces v t a b X = a ≤ v (TaskPlace t) → v (TaskPlace t) ≤ b → X

-- What the task t noted of a list, and what it has under way, is in its range at the places from its write to its last
-- read; elsewhere it is left over.

-- what the task t noted of a list: the item of the head, which a pop has and a push may lack, and the next; each is a
-- number plus one, or 0 for none
pub record ListsInRange (regions : ℕ) (v : View) (t : ℕ) : Type 0 where
  pub pop_head : (p : Pop) → AtPlaces v t (pop_place p + TO_NEXT) (pop_place p + TO_EXCHANGE)
      (OneTo (how_many (pop_items p) regions) (item_of (v (TaskHead t))))
  pub pop-next : (p : Pop) → AtPlaces v t (pop_place p + TO_EXCHANGE) (pop_place p + TO_EXCHANGE)
      (v (TaskNext t) ≤ how_many (pop_items p) regions)
  pub push_head : (p : Push) → AtPlaces v t (push_place p + TO_NEXT) (push_place p + TO_EXCHANGE)
      (item_of (v (TaskHead t)) ≤ how_many (push_items p) regions)

-- the place of the task t, and what it has in hand beside blocks
pub record HandInRange (regions : ℕ) (v : View) (t : ℕ) : Type 0 where
  -- idle, or a place of the step list
  pub place : v (TaskPlace t) < PLACES
  -- the descriptor in hand, held as spare or for the partial list
  pub descriptor_spare : AtPlaces v t POP_REGION (PUSH_BACK + TO_EXCHANGE) (v (TaskDescriptor t) < DESCRIPTORS)
  pub descriptor_listed : AtPlaces v t PUSH_OFFER A3_EXCHANGE (v (TaskDescriptor t) < DESCRIPTORS)
  pub descriptor_opens : AtPlaces v t A7 A7 (v (TaskDescriptor t) < DESCRIPTORS)
  -- the descriptor to whose chain the group returns
  pub descriptor_group : AtPlaces v t F3_LINK F3_EXCHANGE (v (TaskDescriptor t) < DESCRIPTORS)
  -- the region that is released, the one whose blocks are moved or carved, and the group's
  pub region_released : AtPlaces v t PUSH_RELEASE (PUSH_RELEASE + TO_EXCHANGE) (v (TaskRegion t) < regions)
  pub region_filled : AtPlaces v t A4 A8 (v (TaskRegion t) < regions)
  pub region_grouped : AtPlaces v t F2 F2 (1 ≤ v (GroupCount t) → v (TaskRegion t) < regions)
  pub region_group : AtPlaces v t F3_READ F4_CLEAR (v (TaskRegion t) < regions)
  -- the state in which a return found the anchor, where it is still to be read
  pub state_released : AtPlaces v t PUSH_RELEASE (PUSH_RELEASE + TO_EXCHANGE) (v (TaskState t) ≤ FULL)
  pub state_cleared : AtPlaces v t F4_CLEAR F4_CLEAR (v (TaskState t) ≤ FULL)

-- what the task t noted of an anchor, and the blocks that it moves or groups
pub record ChainsInRange (v : View) (t : ℕ) : Type 0 where
  -- the noted anchor from which an allocation takes the chain
  pub anchor_state : AtPlaces v t A3_EXCHANGE A3_EXCHANGE ((anchor_of (v (TaskAnchor t))).state ≡ PARTIAL)
  pub anchor_avail : AtPlaces v t A3_EXCHANGE A3_EXCHANGE
      ((anchor_of (v (TaskAnchor t))).avail < per_region (v (TaskClass t)))
  pub anchor_count : AtPlaces v t A3_EXCHANGE A3_EXCHANGE
      (OneTo (per_region (v (TaskClass t))) (anchor_of (v (TaskAnchor t))).count)
  -- the noted anchor before whose chain a return puts its group: n as avail is none
  pub returns_state : AtPlaces v t F3_LINK F3_EXCHANGE ((anchor_of (v (TaskAnchor t))).state ≤ FULL)
  pub returns_avail : AtPlaces v t F3_LINK F3_EXCHANGE
      ((anchor_of (v (TaskAnchor t))).avail ≤ per_region (v (TaskClass t)))
  pub returns_count : AtPlaces v t F3_LINK F3_EXCHANGE
      ((anchor_of (v (TaskAnchor t))).count + v (GroupCount t) ≤ per_region (v (TaskClass t)))
  -- the index of the block that is moved or carved next
  pub index_moved : AtPlaces v t A4 A4 (v (TaskIndex t) < per_region (v (TaskClass t)))
  pub index_carved : AtPlaces v t A8 A8 (v (TaskIndex t) < per_region (v (TaskClass t)))
  -- how many blocks of the chain are left to move
  pub left : AtPlaces v t A4 A4 (OneTo (per_region (v (TaskClass t))) (v (TaskLeft t)))
  -- how many blocks the group has: 0 before its first
  pub grouped : AtPlaces v t F2 F2 (v (GroupCount t) ≤ per_region (v (TaskClass t)))
  pub group : AtPlaces v t F3_READ F3_EXCHANGE (OneTo (per_region (v (TaskClass t))) (v (GroupCount t)))
  -- the indexes of the first and the last block of the group
  pub first_grouped : AtPlaces v t F2 F2 (1 ≤ v (GroupCount t) → v (GroupFirst t) < per_region (v (TaskClass t)))
  pub first : AtPlaces v t F3_READ F3_EXCHANGE (v (GroupFirst t) < per_region (v (TaskClass t)))
  pub last_grouped : AtPlaces v t F2 F2 (1 ≤ v (GroupCount t) → v (GroupLast t) < per_region (v (TaskClass t)))
  pub last : AtPlaces v t F3_READ F3_EXCHANGE (v (GroupLast t) < per_region (v (TaskClass t)))

-- the unit of a task that returns a cache: that of a block of the class, which is freed, or none
abbrev pub ReturnUnit : ℕ → View → ℕ → Type 0
ReturnUnit regions v t =
    (v (TaskUnit t) ≡ LEAVING) ⊎ (is_block regions (v (TaskClass t)) (v (TaskUnit t)) ≡ true)

-- the fields of the task t
pub record TaskInRange (regions : ℕ) (v : View) (t : ℕ) : Type 0 where
  -- the class of the request, or of the cache that leaving returns, is one of the classes; so is the order of a strip,
  -- where a class would stand
  pub class : v (TaskClass t) < CLASSES
  pub lists : ListsInRange regions v t
  pub hand : HandInRange regions v t
  pub chains : ChainsInRange v t
  -- the unit that is freed: a block of the class; or none, where the task leaves
  pub unit_put : AtPlaces v t F1 F1 (is_block regions (v (TaskClass t)) (v (TaskUnit t)) ≡ true)
  pub unit_pushing : AtPlaces v t PUSH_RELEASE (PUSH_OFFER + TO_EXCHANGE) (ReturnUnit regions v t)
  pub unit : AtPlaces v t F2 F4_CLEAR (ReturnUnit regions v t)
  -- the order of the strip that is to be taken, and the unit of the one that is freed: its free has begun
  pub strip_order : AtPlaces v t STRIP_TAKE STRIP_TAKE (v (TaskClass t) < ORDERS)
  pub strip-unit : AtPlaces v t STRIP_GIVE STRIP_GIVE (is_strip_unit (v (TaskUnit t)) ≡ true)
  pub strip-freed : AtPlaces v t STRIP_GIVE STRIP_GIVE (FREE_BEGUN ≤ v (SlotByte (slot_of_unit (v (TaskUnit t)))))
  -- the descriptor that a return has in hand where it found the anchor FULL
  pub descriptor_released : AtPlaces v t PUSH_RELEASE (PUSH_RELEASE + TO_EXCHANGE)
      (v (TaskState t) ≡ FULL → v (TaskDescriptor t) < DESCRIPTORS)
  pub descriptor_cleared : AtPlaces v t F4_CLEAR F4_CLEAR (v (TaskState t) ≡ FULL → v (TaskDescriptor t) < DESCRIPTORS)
  -- each class's cache: how many blocks, and its top: a block of the class, or, where there is none, the number past
  -- all units
  pub counts : (c : ℕ) → c < CLASSES → v (CacheCount t c) ≤ per_region c
  pub tops : (c : ℕ) → c < CLASSES → is_top regions c (v (CacheCount t c)) (v (CacheTop t c)) ≡ true
  pub tops_max : (c : ℕ) → c < CLASSES → v (CacheTop t c) ≤ UNITS

-- the fields of a started pool
pub record InRange (v : View) : Type 0 where
  -- each field holds a number of its width: so a tag is any number of 32 bits, and 64 marks are any 64 bits, and so are
  -- 64 nodes of the tree
  pub widths : (f : Field) → Has layout f → v f < 256 ^ width layout f
  pub tasks : OneTo TASKS (v Tasks)
  pub regions : OneTo REGIONS (v Regions)
  -- the item of each head: a number plus one, or 0
  pub heads : (ℓ : ℕ) → ℓ < DESCRIPTOR_LISTS → item_of (v (Head ℓ)) ≤ DESCRIPTORS
  pub head_regions : item_of (v (Head SPARE_REGIONS)) ≤ v Regions
  -- each item's next: a number plus one, or 0
  pub descriptor-nexts : (d : ℕ) → d < DESCRIPTORS → v (DescriptorNext d) ≤ DESCRIPTORS
  pub region-nexts : (r : ℕ) → r < v Regions → v (RegionNext r) ≤ v Regions
  -- each anchor: EMPTY, PARTIAL or FULL; an index and a count as large as any class has
  pub states : (d : ℕ) → d < DESCRIPTORS → (anchor_of (v (Anchor d))).state ≤ FULL
  pub avails : (d : ℕ) → d < DESCRIPTORS → (anchor_of (v (Anchor d))).avail ≤ MOST_BLOCKS
  pub chain-counts : (d : ℕ) → d < DESCRIPTORS → (anchor_of (v (Anchor d))).count ≤ MOST_BLOCKS
  -- each anchor that is not EMPTY: an index and a count as large as its own class has; n as avail is none
  pub open_avails : (d : ℕ) → d < DESCRIPTORS → EMPTY < (anchor_of (v (Anchor d))).state
      → (anchor_of (v (Anchor d))).avail ≤ per_region (v (DescriptorClass d))
  pub open_counts : (d : ℕ) → d < DESCRIPTORS → EMPTY < (anchor_of (v (Anchor d))).state
      → (anchor_of (v (Anchor d))).count ≤ per_region (v (DescriptorClass d))
  pub descriptor-regions : (d : ℕ) → d < DESCRIPTORS → v (DescriptorRegion d) < v Regions
  pub descriptor-classes : (d : ℕ) → d < DESCRIPTORS → v (DescriptorClass d) < CLASSES
  -- each map entry: a descriptor's number plus one, or 0
  pub maps : (r : ℕ) → r < v Regions → v (Map r) ≤ DESCRIPTORS
  -- the byte of each slot: 0, or that of a strip in hand or of one whose free has begun, at a multiple of its own
  -- length
  pub slot_bytes : (s : ℕ) → s < SLOTS → v (SlotByte s) ≤ LAST_BYTE
  pub slot_orders : (s : ℕ) → s < SLOTS → 1 ≤ v (SlotByte s) → can_begin s (order_in (v (SlotByte s))) ≡ true
  pub each_task : (t : ℕ) → t < TASKS → TaskInRange (v Regions) v t

-- the fields of a memory are in their ranges, once it is started
abbrev pub Ranged : Memories → Type 0
Ranged s = 1 ≤ seen s.control Tasks → InRange (seen s.control)

-- the fields of a memory are in their ranges, once it is started, and each task's noted state is at every place,
-- whether it is still to be read or not
abbrev pub AllRanged : Memories → Type 0
AllRanged s = Ranged s × FoundStates s.control

-- the fields are in their ranges after the event e on the memories s₁
abbrev pub RangedAfter : Event → Memories → Pool → Type 0
RangedAfter e s₁ s = AllRanged (stepped e s₁).0
