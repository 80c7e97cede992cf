-- docs/POOL.md, "Start"
-- The control memory that a start leaves.
use Rattle.std.specs.Prelude.{ℕ, zero, suc, ◌+◌, cond, List, [], ◌∷◌, ◌++◌, eqb, replicate}
use Rattle.limits.specs.Limits.{CONTROL_BYTES, UNITS, DESCRIPTORS, SPARE_DESCRIPTORS, SPARE_REGIONS}
use Rattle.fields.specs.Columns.{Field, Write, ◌:=◌}
use Rattle.plain.specs.Calls.{Start}
use Rattle.control.specs.Layout.{CACHES, Head, TopOfCache, DescriptorNext, RegionNext, Tasks, Regions, FreeNodes}
use Rattle.control.specs.Layout.{changed}
use Rattle.strip_tree.specs.Trees.{WHOLE_FREE}

-- the fields f 0 to f (n - 1) get the values x 0 to x (n - 1)
abbrev pub fill : (ℕ → Field) → (ℕ → ℕ) → ℕ → List Write
fill f x zero = []
fill f x (suc n) = f n := x n ∷ fill f x n

-- "rising from item 0 on top": of n items the last has no next, each other the one after it
abbrev pub next_up : ℕ → ℕ → ℕ
next_up n i = cond (eqb (i + 1) n) 0 (i + 2)

-- what differs from zero: "both spare lists rising from item 0 on top"; the tree in which the whole is free: "A start
-- leaves it one free piece" (the request for strips); and the bottom as the top of each empty cache
unfoldable pub start_writes : Start → ℕ → List Write
start_writes b regions =
    Tasks := b.tasks
    ∷ Regions := regions
    ∷ Head SPARE_DESCRIPTORS := 1
    ∷ Head SPARE_REGIONS := 1
    ∷ FreeNodes 0 := WHOLE_FREE
    ∷ (fill DescriptorNext (next_up DESCRIPTORS) DESCRIPTORS
    ++ (fill RegionNext (next_up regions) regions ++ fill TopOfCache (λ i. UNITS) CACHES))

-- "tasks idle, caches and partial lists empty, tags 0, marks clear, map entries none": every other byte is zero
unfoldable pub start_image : Start → ℕ → List ℕ
start_image b regions = changed (start_writes b regions) (replicate CONTROL_BYTES 0)
