-- docs/POOL.md, "The invariant"
-- What holds of a task at each place: of its caches, and of what it noted.
use Rattle.std.specs.Prelude.{◌≡◌, List, ◌∷◌, [], ℕ, suc, ◌+◌, ◌≤◌, ◌<◌, length}
use Rattle.limits.specs.Limits.{CLASSES, ORDERS, SLOTS}
use Rattle.rows.specs.Counting.{count}
use Rattle.classes.specs.Classes.{per_region}
use Rattle.classes.specs.Geometry.{region_of}
use Rattle.plain.specs.State.{state_number, Phase, read, next, exchange, retire, back, release, offer, Place, idle}
use Rattle.plain.specs.State.{a1, popping, pushing, a3-read, a3-exchange, a4, a7, a8, f1, f2, f3-read, f3-link}
use Rattle.plain.specs.State.{f3-exchange, f4-clear, strip-take, strip-give, leave-end, Task, Mem, Work, working}
use Rattle.plain.specs.State.{Push}
use Rattle.plain.specs.Steps.{pop_list, push_list}
use Rattle.plain.specs.Held.{pop_held, Held, block_in, descriptor_in, held}
use Rattle.plain.specs.Noted.{Noted, unnoted, pop_noted, push_noted, anchor_noted, entry_noted, noted}

-- the items of a row lie in one region with y
abbrev pub Together : ℕ → List ℕ → Type 0
Together y g = (v : ℕ) → 1 ≤ count v g → region_of v ≡ region_of y

-- the blocks of a group lie in one region
abbrev pub Group : List ℕ → Type 0
Group [] = Unit {0}
Group (y ∷ g) = Together y g

-- The class is one of the classes, and its cache is empty.
abbrev pub EmptyCache : (ℕ → List ℕ) → ℕ → Type 0
EmptyCache k c = (c < CLASSES) × (length (k c) ≡ 0)

-- The class is one of the classes, and its cache has fewer than n blocks.
abbrev pub RoomInCache : (ℕ → List ℕ) → ℕ → Type 0
RoomInCache k c = (c < CLASSES) × (length (k c) < per_region c)

-- In the pushes of an allocate the cache is empty; in those of a return, for a free or for leaving, it has room, since
-- its group is returned.
abbrev pub PushHolds : (ℕ → List ℕ) → Push → Type 0
PushHolds k (retire c d) = EmptyCache k c
PushHolds k (back c d) = EmptyCache k c
PushHolds k (release c z d w r) = RoomInCache k c
PushHolds k (offer c z d) = RoomInCache k c

-- What holds of the caches k at each place. The class is one of the classes. In an allocate, from the pop of step 2 to
-- step 7, its cache is empty; an anchor that is to be exchanged was not noted as EMPTY; the taken chain and the cache
-- have fewer than n blocks; as many blocks are cached as carved. In a return, for a free or for leaving, group and
-- cache are not both empty, and have at most n blocks; the group lies in one region, and has at most n blocks with the
-- chain that was noted; after its return the cache has fewer than n. The order and the slot of a strip's request are
-- one of the orders and slots.
abbrev pub HoldsAt : (ℕ → List ℕ) → Work → Type 0
HoldsAt k (a1 c) = c < CLASSES
HoldsAt k (popping p φ) = EmptyCache k (pop_held p).class
HoldsAt k (pushing p φ) = PushHolds k p
HoldsAt k (a3-read c d) = EmptyCache k c
HoldsAt k (a3-exchange c d n) = (c < CLASSES) × (length (k c) ≡ 0) × (1 ≤ state_number n.state)
HoldsAt k (a4 c x q) = (c < CLASSES) × (length (k c) + suc (length q) < per_region c)
HoldsAt k (a7 c d r) = EmptyCache k c
HoldsAt k (a8 c r i) = (c < CLASSES) × (length (k c) ≡ i) × (i < per_region c)
HoldsAt k (f1 c u) = c < CLASSES
HoldsAt k (f2 c z g) =
    (c < CLASSES) × (1 ≤ length (k c) + length g) × (length (k c) + length g ≤ per_region c) × Group g
HoldsAt k (f3-read c z y g) = (c < CLASSES) × (length (k c) + suc (length g) ≤ per_region c) × Together y g
HoldsAt k (f3-link c z y g d n) =
    (c < CLASSES) × (length (k c) + suc (length g) ≤ per_region c) × Together y g
    × (n.length + suc (length g) ≤ per_region c)
HoldsAt k (f3-exchange c z y g d n) =
    (c < CLASSES) × (length (k c) + suc (length g) ≤ per_region c) × Together y g
    × (n.length + suc (length g) ≤ per_region c)
HoldsAt k (f4-clear c z d w r) = RoomInCache k c
HoldsAt k (strip-take j) = j < ORDERS
HoldsAt k (strip-give s) = s < SLOTS
HoldsAt k leave-end = Unit {0}

-- What holds of the caches k at a place: of an idle task nothing is asked.
abbrev pub PlaceHolds : (ℕ → List ℕ) → Place → Type 0
PlaceHolds k idle = Unit {0}
PlaceHolds k (working w) = HoldsAt k w

-- What a pop noted at its head read, n, is a number of won exchanges that the list had or has; and if it still has
-- that number, the row q, which was not empty then, is not empty now.
abbrev pub PopNote : List ℕ → ℕ → Phase → Type 0
PopNote q won read = Unit {0}
PopNote q won (next n) = (n ≤ won) × (won ≡ n → 1 ≤ length q)
PopNote q won (exchange n) = (n ≤ won) × (won ≡ n → 1 ≤ length q)

-- The number that a push noted is one that the list had or has.
abbrev pub PushNote : ℕ → Phase → Type 0
PushNote won read = Unit {0}
PushNote won (next n) = n ≤ won
PushNote won (exchange n) = n ≤ won

-- What holds of the note of a task that has h under way. Where an allocate noted the anchor of a descriptor, it has it
-- in hand; where a return did, the map still names it for the region of a block under way.
abbrev pub NotedHolds : (ℕ → List ℕ) → (won map : ℕ → ℕ) → Held → Noted → Type 0
NotedHolds row won map h unnoted = Unit {0}
NotedHolds row won map h (pop_noted p φ) = PopNote (row (pop_list p)) (won (pop_list p)) φ
NotedHolds row won map h (push_noted p φ) = PushNote (won (push_list p)) φ
NotedHolds row won map h (anchor_noted d n) = 1 ≤ descriptor_in d h
NotedHolds row won map h (entry_noted y d n) = (1 ≤ block_in y h) × (map (region_of y) ≡ suc d)

-- what holds of the note of a task, by its place
abbrev pub NoteHolds : (ℕ → List ℕ) → (won map : ℕ → ℕ) → Place → Type 0
NoteHolds row won map p = NotedHolds row won map (held p) (noted p)

-- a task T of the memory m: each cache has at most n blocks, and what holds at its place and of its note
pub record TaskHolds (m : Mem) (T : Task) : Type 0 where
  pub lengths : (c : ℕ) → length (T.cache c) ≤ per_region c
  pub place : PlaceHolds T.cache T.place
  pub note : NoteHolds m.row m.won m.map T.place
