-- docs/POOL.md, "The invariant"
-- What each holder weighs. The first numbers are what is asked about, the last one is the holder's own; the
-- totals over all holders are what the invariant speaks of.
use Rattle.std.specs.Prelude.{List, ℕ, ◌+◌}
use Rattle.limits.specs.Limits.{CLASSES}
use Rattle.rows.specs.Weights.{when, one}
use Rattle.rows.specs.Counting.{count}
use Rattle.rows.specs.Totals.{total}
use Rattle.plain.specs.State.{Descriptor, Task}
use Rattle.plain.specs.Blocks.{count_block}
use Rattle.plain.specs.ByState.{if_open, one_if_full}
use Rattle.plain.specs.Held.{class_at, under_way, holds_descriptor, holds_spare, holds_for_class, holds_region}
use Rattle.plain.specs.Held.{holds_unmapped}

-- ---- a row

-- how often v stands in a row
abbrev pub row_weight : ℕ → ℕ → List ℕ → ℕ
row_weight v i q = count v q

-- ---- a descriptor. An EMPTY one has no region and no chain: whatever stands in its fields, it weighs nothing.

-- 1 if v is a block of the region that the descriptor opens, else 0
abbrev pub inside_weight : ℕ → ℕ → Descriptor → ℕ
inside_weight v i D = if_open D.state (count_block v D.region D.class)

-- 1 if v is a block of the region that the descriptor opens for the class c, else 0
abbrev pub inside_class_weight : ℕ → ℕ → ℕ → Descriptor → ℕ
inside_class_weight c v i D = if_open D.state (when c D.class (count_block v D.region D.class))

-- how often v stands in the chain of a descriptor that is not EMPTY
abbrev pub chain_weight : ℕ → ℕ → Descriptor → ℕ
chain_weight v i D = if_open D.state (count v D.chain)

-- how often v stands in the chain of a descriptor of the class c that is not EMPTY
abbrev pub chain_class_weight : ℕ → ℕ → ℕ → Descriptor → ℕ
chain_class_weight c v i D = if_open D.state (when c D.class (count v D.chain))

-- 1 if the descriptor opens the region r, else 0
abbrev pub open_weight : ℕ → ℕ → Descriptor → ℕ
open_weight r i D = if_open D.state (one r D.region)

-- 1 if the descriptor is d, and FULL, else 0
abbrev pub full_weight : ℕ → ℕ → Descriptor → ℕ
full_weight d i D = when d i (one_if_full D.state)

-- ---- a task

-- how often the task has the block v, in its caches or under way
abbrev pub block_weight : ℕ → ℕ → Task → ℕ
block_weight v i T = total CLASSES (row_weight v) T.cache + count v (under_way T.place)

-- how often the task has the block v for the class c, in the cache of the class or under way
abbrev pub block_class_weight : ℕ → ℕ → ℕ → Task → ℕ
block_class_weight c v i T = count v (T.cache c) + when c (class_at T.place) (count v (under_way T.place))

-- how often the task holds the descriptor d
abbrev pub descriptor_weight : ℕ → ℕ → Task → ℕ
descriptor_weight d i T = holds_descriptor d T.place

-- how often the task holds the descriptor d for the partial list of the class c
abbrev pub descriptor_class_weight : ℕ → ℕ → ℕ → Task → ℕ
descriptor_class_weight c d i T = holds_for_class c d T.place

-- how often the task holds the descriptor d as spare
abbrev pub spare_weight : ℕ → ℕ → Task → ℕ
spare_weight d i T = holds_spare d T.place

-- how often the task holds the region r
abbrev pub region_weight : ℕ → ℕ → Task → ℕ
region_weight r i T = holds_region r T.place

-- how often the task holds the region r without an entry in the map
abbrev pub unmapped_weight : ℕ → ℕ → Task → ℕ
unmapped_weight r i T = holds_unmapped r T.place
