-- docs/POOL.md, "Reports"
-- What the keepers tell of the plain pool: "one always applies, and it is proved to be true of the pool" (the request
-- for the region's keepers). The kinds and the places in the row are written as numbers.
use Rattle.std.specs.Prelude.{◌≡◌, ◌⊎◌, List, ℕ, ◌+◌, ◌*◌, ◌≤◌, ◌<◌, get_or}
use Rattle.limits.specs.Limits.{TASKS, SPARE_REGIONS}
use Rattle.rows.specs.Counting.{count}
use Rattle.fields.specs.Little.{get_le}
use Rattle.classes.specs.Geometry.{region_of}
use Rattle.plain.specs.State.{Mem}
use Rattle.plain.specs.Calls.{Pool}
use Rattle.plain.specs.Held.{holds_region}
use Rattle.agreement.specs.Observe.{plain_class}
use Rattle.report_agreement.specs.Whereabouts.{times_in_hand, times_cached_by, times_running_by}

-- ---- in the row, the region r at the byte 4 × r

-- "kind"
abbrev pub kind_at : List ℕ → ℕ → ℕ
kind_at row r = get_or row (4 * r) 0

-- "task"
abbrev pub task_at : List ℕ → ℕ → ℕ
task_at row r = get_or row (4 * r + 1) 0

-- "unit in two bytes"
abbrev pub unit_at : List ℕ → ℕ → ℕ
unit_at row r = get_le row (4 * r + 2) 2

-- ---- in the plain pool

-- "block in hand": the unit u is of the region r, and in a user's hands
abbrev pub HandHas : Mem → ℕ → ℕ → Type 0
HandHas m r u = (region_of u ≡ r) × (1 ≤ times_in_hand m u)

-- "a cached block with its task": the unit u is of the region r, and in a cache of the task t
abbrev pub CacheHas : Mem → ℕ → ℕ → ℕ → Type 0
CacheHas m r t u = (region_of u ≡ r) × (1 ≤ times_cached_by (m.task t) u)

-- "has the region itself, off every list and not open": the task t holds the region r, which is not on the list of
-- spare regions, the one list of regions, and not open
abbrev pub HasRegion : Mem → ℕ → ℕ → Type 0
HasRegion m r t =
    (1 ≤ holds_region r (m.task t).place) × (count r (m.row SPARE_REGIONS) ≡ 0) × (plain_class m r ≡ 0)

-- "the task whose running request has blocks of the region, or has the region itself": a unit of the region r is under
-- way with the request of the task t, or the task has the region r
abbrev pub RequestHas : Mem → ℕ → ℕ → Type 0
RequestHas m r t = ((u : ℕ) × (region_of u ≡ r) × (1 ≤ times_running_by (m.task t) u)) ⊎ HasRegion m r t

-- "the spare list": the region r is on it
abbrev pub SpareHas : Mem → ℕ → Type 0
SpareHas m r = 1 ≤ count r (m.row SPARE_REGIONS)

-- Who keeps the region r, by kind, task and unit: "The first of these that applies is named, among equals the lowest
-- task and unit."
pub data Keeps (m : Mem) (r : ℕ) : (kind task unit : ℕ) → Type 0 where
  -- the lowest block in hand
  in-hand : {u : ℕ} → HandHas m r u → ((x : ℕ) → HandHas m r x → u ≤ x) → Keeps m r 1 0 u
  -- no block is in hand; the lowest task with a cached block, and its lowest block there
  in-cache : {t u : ℕ} → t < TASKS → ((x : ℕ) → HandHas m r x → ⊥)
      → CacheHas m r t u
      → ((i x : ℕ) → i < TASKS → CacheHas m r i x → t ≤ i)
      → ((x : ℕ) → CacheHas m r t x → u ≤ x)
      → Keeps m r 2 t u
  -- no block is in hand or cached; the lowest task whose request has blocks of the region, or the region itself
  in-request : {t : ℕ} → t < TASKS → ((x : ℕ) → HandHas m r x → ⊥)
      → ((i x : ℕ) → i < TASKS → CacheHas m r i x → ⊥)
      → RequestHas m r t
      → ((i : ℕ) → i < TASKS → RequestHas m r i → t ≤ i)
      → Keeps m r 3 t 0
  -- no block is in hand, cached or with a request, and no request has the region: it is on the list of spare regions
  spare : ((x : ℕ) → HandHas m r x → ⊥)
      → ((i x : ℕ) → i < TASKS → CacheHas m r i x → ⊥)
      → ((i : ℕ) → i < TASKS → RequestHas m r i → ⊥)
      → SpareHas m r
      → Keeps m r 4 0 0

-- the row tells the plain pool: the keeper of each region of the area
abbrev pub KeepersTell : List ℕ → Pool → Type 0
KeepersTell row s = (r : ℕ) → r < s.regions → Keeps s.mem r (kind_at row r) (task_at row r) (unit_at row r)
