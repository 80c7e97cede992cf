-- docs/POOL.md, "The invariant"
-- The one place of each block, and of each item of a list.
use Rattle.std.specs.Prelude.{◌≡◌, ◌≢◌, ℕ, suc, ◌+◌, ◌≤◌, ◌<◌}
use Rattle.limits.specs.Limits.{TASKS, DESCRIPTORS, SPARE_REGIONS, DESCRIPTOR_LISTS}
use Rattle.rows.specs.Counting.{count}
use Rattle.rows.specs.Totals.{total}
use Rattle.classes.specs.Geometry.{region_of}
use Rattle.plain.specs.State.{Mem}
use Rattle.plain.specs.Calls.{Opens, First}
use Rattle.plain.specs.HolderWeights.{row_weight, chain_weight, block_weight, block_class_weight}

-- v is a block of an open region, whose descriptor is d: "the first unit of a block of an open region", as test 10
-- of a free finds it
pub record OpenBlock (m : Mem) (v d : ℕ) : Type 0 where
  pub entry : m.map (region_of v) ≡ suc d
  pub opens : Opens (m.descriptor d) (region_of v)
  pub first : First (m.descriptor d).class v

-- where the unit v is: "Its holder, or place, is a user's hands, a task or its region's chain, and it stands there
-- once." What is under way counts with the task's caches.
pub record OnePlace (m : Mem) (v : ℕ) : Type 0 where
  -- a block of an open region is once in a user's hands, or with a task, or in the region's chain
  pub once : (d : ℕ) → OpenBlock m v d
      → m.hands v + total TASKS (block_weight v) m.task + count v (m.descriptor d).chain ≡ 1
  -- no task has a block of an open region for another class than the region's
  pub class : (d : ℕ) → OpenBlock m v d → (c : ℕ) → c ≢ (m.descriptor d).class
      → total TASKS (block_class_weight c v) m.task ≡ 0
  -- a unit that is no block of an open region is nowhere
  pub nowhere : ((d : ℕ) → ¬ OpenBlock m v d)
      → (m.hands v ≡ 0) × (total TASKS (block_weight v) m.task ≡ 0)
      × (total DESCRIPTORS (chain_weight v) m.descriptor ≡ 0)

-- the items of the lists, in an area of `area` regions
pub record OnceListed (area : ℕ) (m : Mem) : Type 0 where
  -- a descriptor is at most once on all the lists of descriptors together
  pub descriptors : (d : ℕ) → total DESCRIPTOR_LISTS (row_weight d) m.row ≤ 1
  -- a descriptor is at most once on each list of descriptors
  pub descriptor : (ℓ d : ℕ) → ℓ < DESCRIPTOR_LISTS → count d (m.row ℓ) ≤ 1
  -- a descriptor on a list is one of the 64
  pub below : (ℓ d : ℕ) → ℓ < DESCRIPTOR_LISTS → 1 ≤ count d (m.row ℓ) → d < DESCRIPTORS
  -- a region is at most once on the list of spare regions
  pub region : (r : ℕ) → count r (m.row SPARE_REGIONS) ≤ 1
  -- a region on the list of spare regions is one of the area's
  pub in_area : (r : ℕ) → 1 ≤ count r (m.row SPARE_REGIONS) → r < area
