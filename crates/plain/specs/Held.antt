-- docs/POOL.md, "The invariant"
-- What a task has under way at each place.
use Rattle.std.specs.Prelude.{List, ◌∷◌, ◌++◌, [], ℕ, ◌+◌, ◌-◌}
use Rattle.limits.specs.Limits.{CLASSES}
use Rattle.rows.specs.Weights.{when}
use Rattle.rows.specs.Counting.{count}
use Rattle.classes.specs.Classes.{per_region}
use Rattle.plain.specs.State.{State, EMPTY, PARTIAL, FULL, partial, spare, region, retire, back, release, offer}
use Rattle.plain.specs.State.{Place, idle, a1, popping, pushing, a3-read, a3-exchange, a4, a7, a8, f1, f2}
use Rattle.plain.specs.State.{f3-read, f3-link, f3-exchange, f4-clear, strip-take, strip-give, Work, working}
use Rattle.plain.specs.State.{Pop, Push, Purpose, to_free, to_leave, leave-end}
use Rattle.plain.specs.Blocks.{blocks_from}

-- What a task has under way beside its caches: blocks, all of one class; descriptors held as spare, which are
-- EMPTY; descriptors held for the partial list of the class; regions that are neither open nor spare, without an
-- entry in the map, and, as closing, those that still have one.
pub record Held : Type 0 where
  pub class : ℕ
  pub blocks : List ℕ
  pub spares : List ℕ
  pub listed : List ℕ
  pub regions : List ℕ
  pub closing : List ℕ

-- class, blocks, descriptors held as spare, descriptors held for the class's list, regions; none is closing
abbrev pub hold : ℕ → List ℕ → List ℕ → List ℕ → List ℕ → Held
hold c b s l r = record { class = c; blocks = b; spares = s; listed = l; regions = r; closing = [] }

-- the descriptor that a return owes to the partial list, if it found the anchor FULL
abbrev pub owed : State → ℕ → List ℕ
owed EMPTY d = []
owed PARTIAL d = []
owed FULL d = d ∷ []

-- the block that a task has of its own while it returns a cache: the one being freed. Leaving has none.
abbrev pub own_blocks : Purpose → List ℕ
own_blocks (to_free u) = u ∷ []
own_blocks to_leave = []

-- what a task has under way in a pop, whatever its phase
abbrev pub pop_held : Pop → Held
pop_held (partial c) = hold c [] [] [] []
pop_held (spare c) = hold c [] [] [] []
pop_held (region c d) = hold c [] (d ∷ []) [] []

-- what a task has under way in a push, whatever its phase
abbrev pub push_held : Push → Held
push_held (retire c d) = hold c [] (d ∷ []) [] []
push_held (back c d) = hold c [] (d ∷ []) [] []
push_held (release c z d w r) = hold c (own_blocks z) [] (owed w d) (r ∷ [])
push_held (offer c z d) = hold c (own_blocks z) [] (d ∷ []) []

-- What each place has under way. The blocks are a taken chain, those still to be carved, the block being freed,
-- and a group. A strip's request has no small block, no descriptor and no region, nor has the last step of leaving,
-- which is past all classes.
abbrev pub held_at : Work → Held
held_at (a1 c) = hold c [] [] [] []
held_at (popping p φ) = pop_held p
held_at (pushing p φ) = push_held p
held_at (a3-read c d) = hold c [] [] (d ∷ []) []
held_at (a3-exchange c d n) = hold c [] [] (d ∷ []) []
held_at (a4 c x q) = hold c (x ∷ q) [] [] []
held_at (a7 c d r) = hold c [] (d ∷ []) [] (r ∷ [])
held_at (a8 c r i) = hold c (blocks_from r c i (per_region c - i)) [] [] []
held_at (f1 c u) = hold c (u ∷ []) [] [] []
held_at (f2 c z g) = hold c (own_blocks z ++ g) [] [] []
held_at (f3-read c z y g) = hold c (own_blocks z ++ (y ∷ g)) [] [] []
held_at (f3-link c z y g d n) = hold c (own_blocks z ++ (y ∷ g)) [] [] []
held_at (f3-exchange c z y g d n) = hold c (own_blocks z ++ (y ∷ g)) [] [] []
held_at (f4-clear c z d w r) =
    record { class = c; blocks = own_blocks z; spares = []; listed = owed w d; regions = []; closing = r ∷ [] }
held_at (strip-take k) = hold 0 [] [] [] []
held_at (strip-give s) = hold 0 [] [] [] []
held_at leave-end = hold CLASSES [] [] [] []

-- what a task has under way at its place: an idle one has nothing
abbrev pub held : Place → Held
held idle = hold 0 [] [] [] []
held (working w) = held_at w

-- ---- how often something is under way

-- how often the block v is under way
abbrev pub block_in : ℕ → Held → ℕ
block_in v h = count v h.blocks

-- how often the block v is under way for the class c
abbrev pub class_block_in : ℕ → ℕ → Held → ℕ
class_block_in c v h = when c h.class (count v h.blocks)

-- how often the descriptor d is under way, as spare or for a partial list
abbrev pub descriptor_in : ℕ → Held → ℕ
descriptor_in d h = count d h.spares + count d h.listed

-- how often the descriptor d is under way as spare
abbrev pub spare_in : ℕ → Held → ℕ
spare_in d h = count d h.spares

-- how often the descriptor d is under way for the partial list of the class c
abbrev pub listed_in : ℕ → ℕ → Held → ℕ
listed_in c d h = when c h.class (count d h.listed)

-- how often the region r is under way, with an entry in the map or without
abbrev pub region_in : ℕ → Held → ℕ
region_in r h = count r h.regions + count r h.closing

-- how often the region r is under way without an entry in the map
abbrev pub unmapped_in : ℕ → Held → ℕ
unmapped_in r h = count r h.regions

-- ---- what a task at a place has under way

-- the class of what a task at the place p has under way
abbrev pub class_at : Place → ℕ
class_at p = (held p).class

-- the blocks that a task at the place p has under way
abbrev pub under_way : Place → List ℕ
under_way p = (held p).blocks

-- how often a task at the place p holds the descriptor d
abbrev pub holds_descriptor : ℕ → Place → ℕ
holds_descriptor d p = descriptor_in d (held p)

-- how often a task at the place p holds the descriptor d as spare
abbrev pub holds_spare : ℕ → Place → ℕ
holds_spare d p = spare_in d (held p)

-- how often a task at the place p holds the descriptor d for the partial list of the class c
abbrev pub holds_for_class : ℕ → ℕ → Place → ℕ
holds_for_class c d p = listed_in c d (held p)

-- how often a task at the place p holds the region r
abbrev pub holds_region : ℕ → Place → ℕ
holds_region r p = region_in r (held p)

-- how often a task at the place p holds the region r without an entry in the map
abbrev pub holds_unmapped : ℕ → Place → ℕ
holds_unmapped r p = unmapped_in r (held p)
