-- docs/POOL.md, "What is compared"
-- What is compared: "each list's items from the top, which regions are open and in which class, and, for these, the
-- chain in order and each block's holder"; and of the strips "both are compared", strips and free pieces. It is read
-- off the memories, through the links and by the counts, and off the plain pool.
use Rattle.std.specs.Prelude.{◌≡◌, List, [], ◌∷◌, ◌++◌, ℕ, zero, suc, ◌+◌, ◌-◌, ◌≤◌, ◌<◌, cond, ◌&&◌, leb, eqb}
use Rattle.std.proofs.Math.Decide.{ℕ_discrete, dec_lt, dec_le}
use Rattle.limits.specs.Limits.{DESCRIPTORS, CLASSES, TASKS, UNITS, BOTH_UNITS, SPARE_REGIONS, DESCRIPTOR_LISTS}
use Rattle.limits.specs.Limits.{WHOLE_ORDER, SLOTS}
use Rattle.strip_tree.specs.SlotStates.{FREE_BEGUN}
use Rattle.rows.specs.Branch.{if, both}
use Rattle.rows.specs.Counting.{count}
use Rattle.rows.specs.Totals.{total}
use Rattle.rows.specs.Linked.{walk}
use Rattle.classes.specs.Classes.{per_region}
use Rattle.classes.specs.Geometry.{unit_of, BlockOf}
use Rattle.words.specs.Anchor.{EMPTY}
use Rattle.links.specs.Link.{link}
use Rattle.pieces.specs.PieceRows.{Piece, pieces_row, having_slot, NoneToJoin}
use Rattle.pieces.specs.StripUnits.{strip_unit, slot_of_unit}
use Rattle.strips_agreement.specs.ObservedPieces.{observed_pieces}
use Rattle.strips_agreement.specs.SlotsCounted.{free_over, strips_over}
use Rattle.plain.specs.State.{Mem}
use Rattle.plain.specs.Calls.{opens?}
use Rattle.plain.specs.Blocks.{blocks_from}
use Rattle.plain.specs.Held.{own_blocks}
use Rattle.plain.specs.HolderWeights.{block_weight}
use Rattle.plain.specs.OnePlace.{OpenBlock}
use Rattle.control.specs.Places.{A4, A8, F1, F2, F3_EXCHANGE, F4_CLEAR, PUSH_RELEASE, PUSH_OFFER}
use Rattle.control.specs.Places.{TO_EXCHANGE, STRIP_GIVE}
use Rattle.agreement.specs.Contents.{Slot, Contents, purpose_of}

-- ---- lists

-- at most n items, read from the link f on: an item's number plus one, or 0 at the end
abbrev pub list_from : (ℕ → ℕ) → ℕ → ℕ → List ℕ
list_from next zero f = []
list_from next (suc n) zero = []
list_from next (suc n) (suc x) = x ∷ list_from next n (next x)

-- The list ℓ of descriptors. One item more is read than there are descriptors (below: regions), so that a list that
-- does not end is not taken for one that does.
abbrev pub list_of : Contents → ℕ → List ℕ
list_of a ℓ = list_from a.lists.descriptor_next (suc DESCRIPTORS) (a.lists.head ℓ).item

-- the list of the spare regions
abbrev pub spare_regions : Contents → ℕ → List ℕ
spare_regions a regions = list_from a.lists.region_next (suc regions) (a.lists.head SPARE_REGIONS).item

-- ---- open regions: "a region is open while that descriptor names it back and its anchor is not EMPTY"

-- the class in which the region r is open, plus one, 0 where it is not; by its map entry
abbrev pub class_by : ℕ → ℕ → Contents → ℕ
class_by zero r a = 0
class_by (suc d) r a =
    if (both (ℕ_discrete (a.descriptors.region d) r) (dec_lt EMPTY (a.descriptors.anchor d).state))
    (suc (a.descriptors.class d)) 0

-- the chain of the region r, by its map entry: as many blocks as the anchor counts, from avail on; none where the
-- region is not open
abbrev pub chain_by : ℕ → ℕ → Contents → List ℕ
chain_by zero r a = []
chain_by (suc d) r a =
    if (both (ℕ_discrete (a.descriptors.region d) r) (dec_lt EMPTY (a.descriptors.anchor d).state))
    (walk (link a.area) (unit_of r (a.descriptors.class d)) (a.descriptors.anchor d).avail
    (a.descriptors.anchor d).count) []

-- the class in which the plain pool has the region r open, plus one, 0 where it has not; by its map entry
abbrev pub plain_class_by : ℕ → ℕ → Mem → ℕ
plain_class_by zero r m = 0
plain_class_by (suc d) r m = if (opens? (m.descriptor d) r) (suc (m.descriptor d).class) 0

-- the chain of the region r in the plain pool, by its map entry; none where the region is not open
abbrev pub plain_chain_by : ℕ → ℕ → Mem → List ℕ
plain_chain_by zero r m = []
plain_chain_by (suc d) r m = if (opens? (m.descriptor d) r) (m.descriptor d).chain []

-- the class in which the plain pool has the region r open, plus one, 0 where it has not
abbrev pub plain_class : Mem → ℕ → ℕ
plain_class m r = plain_class_by (m.map r) r m

-- the chain of the region r in the plain pool
abbrev pub plain_chain : Mem → ℕ → List ℕ
plain_chain m r = plain_chain_by (m.map r) r m

-- ---- tasks

-- a task's group: as many blocks as it counts, from its first on
abbrev group_of : Slot → Contents → List ℕ
group_of s a = walk (link a.area) (unit_of s.hand.region s.class) s.group.first s.group.count

-- the blocks that a table has for a place: each line gives the first and the last of its places; elsewhere there are
-- none
abbrev pub blocks_at : List (ℕ × ℕ × List ℕ) → ℕ → List ℕ
blocks_at [] place = []
blocks_at (line ∷ table) place = cond (leb line.0 place && leb place line.1) line.2 (blocks_at table place)

-- "In comparing holders, a chain or group under way, a block being freed and blocks still to be carved count with their
-- task's cache": what a task has under way, by its place
abbrev pub under_ways : Slot → Contents → List (ℕ × ℕ × List ℕ)
under_ways s a =
    let own = own_blocks (purpose_of s.unit) in
    -- the rest of the chain that was taken
    (A4, A4, walk (link a.area) (unit_of s.hand.region s.class) s.hand.index s.hand.left)
    -- the blocks still to be carved
    ∷ (A8, A8, blocks_from s.hand.region s.class s.hand.index (per_region s.class - s.hand.index))
    -- the block that is freed; from step 2 on, with the group; and alone again while its map entry is cleared, its
    -- region released and its descriptor offered. Leaving has the group alone
    ∷ (F1, F1, s.unit ∷ [])
    ∷ (F2, F3_EXCHANGE, own ++ group_of s a)
    ∷ (F4_CLEAR, F4_CLEAR, own)
    ∷ (PUSH_RELEASE, PUSH_RELEASE + TO_EXCHANGE, own)
    ∷ (PUSH_OFFER, PUSH_OFFER + TO_EXCHANGE, own)
    ∷ []

-- how often a cache of n blocks with the top u has the block v
abbrev pub in_cache : Contents → ℕ → ℕ → ℕ → ℕ
in_cache a v u n = count v (walk (link a.area) (λ x. x) u n)

-- how often a task has the block v, in its caches or under way
abbrev pub with_task : Contents → ℕ → ℕ → ℕ
with_task a t v =
    let s = a.slot t in
    total CLASSES (λ c n. in_cache a v (s.caches.top c) n) s.caches.count + count v
    (blocks_at (under_ways s a) s.place)

-- ---- holders: "a user's hands, a task or its region's chain"

-- who has a block
pub data Holder : Type 0 where
  hands : Holder
  task : ℕ → Holder
  chain : Holder
  nowhere : Holder

-- the first of the n tasks from t on that has the block, else the chain if it has it
abbrev pub holder_of : ℕ → (ℕ → ℕ) → ℕ → ℕ → Holder
holder_of zero has in_chain t = if (dec_le 1 in_chain) chain nowhere
holder_of (suc n) has in_chain t = if (dec_le 1 (has t)) (task t) (holder_of n has in_chain (suc t))

-- the holder of a block: a user's hands if its mark is set, else the first task that has it, else the chain if it has
-- it
abbrev pub holder : ℕ → (ℕ → ℕ) → ℕ → Holder
holder mark has in_chain = if (dec_le 1 mark) hands (holder_of TASKS has in_chain 0)

-- the holder of the block v with regard to the region r, in the memories
abbrev pub holder_in : Contents → ℕ → ℕ → Holder
holder_in a r v = holder (a.entries.mark v) (λ t. with_task a t v) (count v (chain_by (a.entries.map r) r a))

-- the holder of the block v with regard to the region r, in the plain pool
abbrev pub plain_holder : Mem → ℕ → ℕ → Holder
plain_holder m r v = holder (m.hands v) (λ t. block_weight v t (m.task t)) (count v (plain_chain m r))

-- ---- strips: "each unit of that area is in exactly one strip or free piece, and both are compared"

-- the first of the n tasks from t on that frees the strip at the slot s, as its place and its unit say; the number
-- behind them where none does
abbrev pub task_freeing : Contents → ℕ → ℕ → ℕ → ℕ
task_freeing a zero t s = t
task_freeing a (suc n) t s =
    cond (eqb (a.slot t).place STRIP_GIVE && eqb (a.slot t).unit (strip_unit s)) t (task_freeing a n (suc t) s)

-- 1 if the fields of a task say that it frees the strip at the slot q, else 0
abbrev pub frees_slot : Slot → ℕ → ℕ
frees_slot s q = cond (eqb s.place STRIP_GIVE && eqb s.unit (strip_unit q)) 1 0

-- the pieces of the strips' memory from slot 0 on, each with its order, its state, and the task that frees it
abbrev pub pieces_in : Contents → List Piece
pieces_in a = observed_pieces a.strips.tree a.strips.byte (task_freeing a TASKS 0) WHOLE_ORDER 1 0

-- ---- the comparison, in an area of so many regions

-- what is compared is the same in the memories and in the plain pool
pub record SameObserved (regions : ℕ) (a : Contents) (m : Mem) : Type 0 where
  pub lists : (ℓ : ℕ) → ℓ < DESCRIPTOR_LISTS → list_of a ℓ ≡ m.row ℓ
  pub spares : spare_regions a regions ≡ m.row SPARE_REGIONS
  pub classes : (r : ℕ) → r < regions → class_by (a.entries.map r) r a ≡ plain_class m r
  pub chains : (r : ℕ) → r < regions → chain_by (a.entries.map r) r a ≡ plain_chain m r
  -- the holder of the block v of the region r, and, beyond what is asked, of every unit with regard to every region
  pub holders : (r v : ℕ) → r < regions → v < UNITS → holder_in a r v ≡ plain_holder m r v
  -- "each block of an open region is in exactly one place": counted in the memories, and in the plain pool
  pub one_place : (r c v : ℕ) → r < regions → class_by (a.entries.map r) r a ≡ suc c → BlockOf r c v
      → a.entries.mark v + total TASKS (λ t s. with_task a t v) a.slot + count v (chain_by (a.entries.map r) r a)
      ≡ 1
  pub plain_one_place : (r c v : ℕ) → r < regions → plain_class m r ≡ suc c → BlockOf r c v
      → m.hands v + total TASKS (block_weight v) m.task + count v (plain_chain m r) ≡ 1
  -- an open region's chain has blocks of this region and class alone, so that no block stands in another region's chain
  pub own-blocks : (r c v : ℕ) → r < regions → plain_class m r ≡ suc c → 1 ≤ count v (plain_chain m r)
      → BlockOf r c v
  -- what is in a user's hands is a block of an open region
  pub held : (v : ℕ) → 1 ≤ m.hands v → (d : ℕ) × OpenBlock m v d
  -- the strips and free pieces from slot 0 on, each with its order, state and holder
  pub pieces : pieces_in a ≡ pieces_row 0 m.strips
  -- "each unit of that area is in exactly one strip or free piece": counted in the memories, over every bit of the tree
  -- and every byte of the slots; and in the plain pool, where the pieces tile the memory by the way they are built
  pub one_piece : (u : ℕ) → UNITS ≤ u → u < BOTH_UNITS
      → free_over a.strips.tree (slot_of_unit u) + strips_over a.strips.byte (slot_of_unit u) ≡ 1
  pub plain_one_piece : (u : ℕ) → UNITS ≤ u → u < BOTH_UNITS → having_slot (slot_of_unit u) (pieces_row 0 m.strips) ≡ 1
  -- a strip whose free has begun is freed by one task, and no task frees another
  pub one_freeing : (q : ℕ) → q < SLOTS
      → total TASKS (λ t s. frees_slot s q) a.slot ≡ cond (leb FREE_BEGUN (a.strips.byte q)) 1 0
  -- "Freed halves join whenever both are free": no two pieces are left to join
  pub none_to_join : NoneToJoin (pieces_in a)
