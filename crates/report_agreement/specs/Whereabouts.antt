-- docs/POOL.md, "Reports"
-- Where the blocks of a region are in the plain pool.
use Rattle.std.specs.Prelude.{ℕ, leb}
use Rattle.limits.specs.Limits.{TASKS, CLASSES}
use Rattle.rows.specs.Counting.{count}
use Rattle.rows.specs.Totals.{total}
use Rattle.classes.specs.Classes.{per_region}
use Rattle.classes.specs.Geometry.{unit_of}
use Rattle.plain.specs.State.{Task, Mem}
use Rattle.plain.specs.Held.{under_way}
use Rattle.plain.specs.HolderWeights.{row_weight}
use Rattle.agreement.specs.Observe.{plain_chain}
use Rattle.reports.specs.Passing.{passing}

-- "in hand": how often the block v is in a user's hands
abbrev pub times_in_hand : Mem → ℕ → ℕ
times_in_hand m v = m.hands v

-- "each task's caches": how often the block v stands in the caches of a task
abbrev pub times_cached_by : Task → ℕ → ℕ
times_cached_by T v = total CLASSES (row_weight v) T.cache

-- "in caches": how often it stands in those of all tasks
abbrev pub times_cached : Mem → ℕ → ℕ
times_cached m v = total TASKS (λ t T. times_cached_by T v) m.task

-- "each task's request": how often the request of a task has the block v under way
abbrev pub times_running_by : Task → ℕ → ℕ
times_running_by T v = count v (under_way T.place)

-- "with running requests": how often those of all tasks have it
abbrev pub times_running : Mem → ℕ → ℕ
times_running m v = total TASKS (λ t T. times_running_by T v) m.task

-- "in the chain": how often the block v stands in the chain of the region r
abbrev pub times_chained : Mem → ℕ → ℕ → ℕ
times_chained m r v = count v (plain_chain m r)

-- "the number of blocks with that holder": `often` tells how often a block stands with it; of the n blocks of class c
-- in the region r, how many do so at least once
abbrev pub blocks_there : (ℕ → ℕ) → ℕ → ℕ → ℕ
blocks_there often r c = passing (per_region c) (λ i. leb 1 (often (unit_of r c i)))
