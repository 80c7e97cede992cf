-- docs/POOL.md, "The relation"
-- The control memory and the area, column by column: what each field and each link says.
use Rattle.std.specs.Prelude.{ℕ, ◌/◌, ◌%◌, cond, List, eqb}
use Rattle.std.proofs.Math.Decide.{dec_lt}
use Rattle.limits.specs.Limits.{CLASSES, WORD_MARKS}
use Rattle.rows.specs.Branch.{if}
use Rattle.fields.specs.Columns.{View}
use Rattle.words.specs.Head.{head_of}
use Rattle.words.specs.Anchor.{anchor_of}
use Rattle.words.specs.Mark.{bit_at}
use Rattle.words.specs.declared.head.Head.{Head}
use Rattle.words.specs.declared.anchor.Anchor.{Anchor}
use Rattle.plain.specs.State.{Purpose, to_free, to_leave}
use Rattle.control.specs.Layout
use Rattle.strip_tree.specs.declared.tree.Tree.{Tree}
use Rattle.stepped.specs.StripSteps.{tree_of}

-- ---- a task's part of the control memory

-- what a task noted: of a list, its head and the next of the head's item; of a descriptor, its anchor
pub record TaskNotes : Type 0 where
  pub head : Head
  pub next : ℕ
  pub anchor : Anchor

-- what a task has in hand: a descriptor; a region, in it the next block's index and how many are left; and the state in
-- which a return found the anchor
pub record TaskHand : Type 0 where
  pub descriptor : ℕ
  pub region : ℕ
  pub index : ℕ
  pub left : ℕ
  pub state : ℕ

-- the group of a return, for a free or for leaving: the indexes of its first and its last block, and how many it has
pub record TaskGroup : Type 0 where
  pub first : ℕ
  pub last : ℕ
  pub count : ℕ

-- a task's caches, by class: the top block, and how many blocks there are
pub record TaskCaches : Type 0 where
  pub top : ℕ → ℕ
  pub count : ℕ → ℕ

-- a task's part of the control memory: its place in the step list, the class of its request or the order of its strip,
-- and the block or strip that it frees, or that it leaves; what it noted, what it has in hand, its group and its caches
pub record Slot : Type 0 where
  pub place : ℕ
  pub class : ℕ
  pub unit : ℕ
  pub noted : TaskNotes
  pub hand : TaskHand
  pub group : TaskGroup
  pub caches : TaskCaches

-- what a task returns a cache for, by its unit: the block that it frees, or leaving
abbrev pub purpose_of : ℕ → Purpose
purpose_of u = cond (eqb u Layout.LEAVING) to_leave (to_free u)

-- ---- the control memory and the area

-- the lists: each one's head, and the nexts of the descriptors and of the regions
pub record Lists : Type 0 where
  pub head : ℕ → Head
  pub descriptor_next : ℕ → ℕ
  pub region_next : ℕ → ℕ

-- the descriptors: the anchor, the region and the class of each
pub record Descriptors : Type 0 where
  pub anchor : ℕ → Anchor
  pub region : ℕ → ℕ
  pub class : ℕ → ℕ

-- the map's entry of each region, and the mark of each unit
pub record Entries : Type 0 where
  pub map : ℕ → ℕ
  pub mark : ℕ → ℕ

-- the strips: the tree of free pieces, and the byte of each of their slots
pub record StripFields : Type 0 where
  pub tree : Tree
  pub byte : ℕ → ℕ

-- what the control memory and the area hold, part by part
pub record Contents : Type 0 where
  pub lists : Lists
  pub descriptors : Descriptors
  pub entries : Entries
  pub strips : StripFields
  pub slot : ℕ → Slot
  pub area : List ℕ

-- ---- read off a view of the fields

-- a field of a task's caches: those of the classes, and 0 past them
abbrev pub by_class : (ℕ → ℕ) → ℕ → ℕ
by_class f c = if (dec_lt c CLASSES) (f c) 0

-- the part of the task t
abbrev pub slot_of : View → ℕ → Slot
slot_of v t = record {
  place = v (Layout.TaskPlace t);
  class = v (Layout.TaskClass t);
  unit = v (Layout.TaskUnit t);
  noted = record {
    head = head_of (v (Layout.TaskHead t));
    next = v (Layout.TaskNext t);
    anchor = anchor_of (v (Layout.TaskAnchor t));
  };
  hand = record {
    descriptor = v (Layout.TaskDescriptor t);
    region = v (Layout.TaskRegion t);
    index = v (Layout.TaskIndex t);
    left = v (Layout.TaskLeft t);
    state = v (Layout.TaskState t);
  };
  group = record {
    first = v (Layout.GroupFirst t);
    last = v (Layout.GroupLast t);
    count = v (Layout.GroupCount t);
  };
  caches = record {
    top = by_class (λ c. v (Layout.CacheTop t c));
    count = by_class (λ c. v (Layout.CacheCount t c));
  };
}

-- "One mark per unit": that of the unit u is a bit of its word
abbrev pub mark_of : View → ℕ → ℕ
mark_of v u = bit_at (v (Layout.Marks (u / WORD_MARKS))) (u % WORD_MARKS)

-- what the control memory and the area hold, read off a view of the fields and the area
abbrev pub contents_of : View → List ℕ → Contents
contents_of v area = record {
  lists = record {
    head = λ ℓ. head_of (v (Layout.Head ℓ));
    descriptor_next = λ d. v (Layout.DescriptorNext d);
    region_next = λ r. v (Layout.RegionNext r);
  };
  descriptors = record {
    anchor = λ d. anchor_of (v (Layout.Anchor d));
    region = λ d. v (Layout.DescriptorRegion d);
    class = λ d. v (Layout.DescriptorClass d);
  };
  entries = record { map = λ r. v (Layout.Map r); mark = mark_of v };
  strips = record { tree = tree_of v; byte = λ s. v (Layout.SlotByte s) };
  slot = slot_of v;
  area = area;
}
