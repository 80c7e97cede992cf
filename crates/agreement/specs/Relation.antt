-- docs/POOL.md, "The relation"
-- What holds between the control memory and the area of the stepped pool, column by column, and the plain pool.
use Rattle.std.specs.Prelude.{◌≡◌, List, [], ◌∷◌, ◌++◌, ℕ, zero, suc, ◌+◌, ◌*◌, ◌%◌, ◌≤◌, ◌<◌}
use lib.ListN.{length}
use Rattle.limits.specs.Limits.{REGION_BYTES, UNITS, TASKS, CLASSES, DESCRIPTORS, MOST_BLOCKS, TAGS, SPARE_REGIONS}
use Rattle.limits.specs.Limits.{DESCRIPTOR_LISTS, LISTS, WHOLE_ORDER}
use Rattle.rows.specs.Counting.{count}
use Rattle.rows.specs.Linked.{Linked}
use Rattle.classes.specs.Classes.{per_region}
use Rattle.classes.specs.Geometry.{index_of, region_of, BlockOf}
use Rattle.words.specs.Anchor.{PARTIAL}
use Rattle.words.specs.declared.head.Head.{Head}
use Rattle.words.specs.declared.anchor.Anchor.{Anchor}
use Rattle.links.specs.Link.{link}
use Rattle.pieces.specs.Pieces.{Pieces}
use Rattle.pieces.specs.StripUnits.{strip_unit}
use Rattle.strips_agreement.specs.TreeFollows.{Follows}
use Rattle.plain.specs.State.{State, state_number, Descriptor, Note, Phase, read, next, exchange, Place, idle, a1}
use Rattle.plain.specs.State.{popping, pushing, a3-read, a3-exchange, a4, a7, a8, f1, f2, f3-read, f3-link, f3-exchange}
use Rattle.plain.specs.State.{f4-clear, strip-take, strip-give, leave-end, Task, Mem, Work, working, Purpose}
use Rattle.plain.specs.State as Plain
use Rattle.plain.specs.Steps.{top}
use Rattle.plain.specs.ByState.{IfOpen}
use Rattle.plain.specs.Blocks.{count_block}
use Rattle.control.specs.Places.{IDLE, A1, A3_READ, A3_EXCHANGE, A4, A7, A8, F1, F2, F3_READ, F3_LINK, F3_EXCHANGE}
use Rattle.control.specs.Places.{F4_CLEAR, STRIP_TAKE, STRIP_GIVE, LEAVE_END, TO_NEXT, TO_EXCHANGE}
use Rattle.control.specs.declared.moves.Pop.{Pop}
use Rattle.control.specs.declared.moves.Pop.TheVariants.{Partial, Spare, Region}
use Rattle.control.specs.declared.moves.Push.{Push}
use Rattle.control.specs.declared.moves.Push.TheVariants.{Retire, Back, Release, Offer}
use Rattle.stepped.specs.Lists.{Items, descriptor_items, region_items, how_many, pop_place, pop_list, pop_items}
use Rattle.stepped.specs.Lists.{push_place}
use Rattle.stepped.specs.Lists.{push_list, push_items}
use Rattle.agreement.specs.Contents.{TaskHand, TaskCaches, Slot, Lists, Descriptors, Entries, StripFields}
use Rattle.agreement.specs.Contents.{Contents, purpose_of}

-- the tag of a number of won exchanges
abbrev pub wrap : ℕ → ℕ
wrap n = n % TAGS

-- a row without its first item
abbrev pub tail : List ℕ → List ℕ
tail [] = []
tail (x ∷ q) = q

-- ---- what a task noted

-- A noted head: its tag is the noted number's, and while that number stands, its item is the row's top.
pub record HeadNoted (m : Mem) (ℓ : ℕ) (h : Head) (n : ℕ) : Type 0 where
  pub past : n ≤ m.won ℓ
  pub tags : h.tag ≡ wrap n
  pub same : n ≡ m.won ℓ → h.item ≡ top (m.row ℓ)

-- A move of the list ℓ, a pop or a push, whose first place is b; its list's items are below `items`. From its head read
-- on it has noted a head, whose item is `least` or more; before its exchange it is `Ready`, for the noted number.
pub data MoveRelated (m : Mem) (s : Slot) (b ℓ items least : ℕ) (Ready : ℕ → Type 0) : Phase → Type 0 where
  at_read : s.place ≡ b → MoveRelated m s b ℓ items least Ready read
  at_next : {n : ℕ} → s.place ≡ b + TO_NEXT → HeadNoted m ℓ s.noted.head n → least ≤ s.noted.head.item
      → s.noted.head.item ≤ items
      → MoveRelated m s b ℓ items least Ready (next n)
  at_exchange : {n : ℕ} → s.place ≡ b + TO_EXCHANGE → HeadNoted m ℓ s.noted.head n → least ≤ s.noted.head.item
      → s.noted.head.item ≤ items → Ready n
      → MoveRelated m s b ℓ items least Ready (exchange n)

-- A pop is ready with the next that it read. While the noted number n stands, that is what stands below the row's top:
-- nothing is said of the links, so that the steps of others leave it.
pub record PopReady (m : Mem) (s : Slot) (ℓ items n : ℕ) : Type 0 where
  pub most : s.noted.next ≤ items
  pub below : n ≡ m.won ℓ → s.noted.next ≡ top (tail (m.row ℓ))

-- A push is ready where the next of its item x, which its owner alone writes, is the noted head's item.
pub record PushReady (s : Slot) (x : ℕ) (nx : ℕ → ℕ) : Type 0 where
  pub written : nx x ≡ s.noted.head.item

-- the column of the nexts of the descriptors, or of the regions
abbrev pub nexts : Items → Contents → ℕ → ℕ
nexts descriptor_items a = a.lists.descriptor_next
nexts region_items a = a.lists.region_next

-- the descriptor in hand, or the region
abbrev pub in_hand : Items → TaskHand → ℕ
in_hand descriptor_items h = h.descriptor
in_hand region_items h = h.region

-- a pop, by its reason: no empty list is noted
abbrev pub PopRelated : ℕ → Mem → Slot → Pop → Phase → Type 0
PopRelated regions m s P =
    let ℓ = pop_list P s.class in
    let items = how_many (pop_items P) regions in
    MoveRelated m s (pop_place P) ℓ items 1 (PopReady m s ℓ items)

-- a push, by its reason
abbrev pub PushRelated : ℕ → Contents → Mem → Slot → Push → Phase → Type 0
PushRelated regions a m s P =
    let items = push_items P in
    MoveRelated m s (push_place P) (push_list P s.class) (how_many items regions) 0
    (λ n. PushReady s (in_hand items s.hand) (nexts items a))

-- the plain pool's pop for a request of the class c
abbrev pub plain_pop : Pop → ℕ → TaskHand → Plain.Pop
plain_pop Partial c h = Plain.partial c
plain_pop Spare c h = Plain.spare c
plain_pop Region c h = Plain.Pop.region c h.descriptor

-- the plain pool's push for a request of the class c; z is what a return is for, w the state that a release found
abbrev pub plain_push : Push → ℕ → Purpose → TaskHand → State → Plain.Push
plain_push Retire c z h w = Plain.retire c h.descriptor
plain_push Back c z h w = Plain.back c h.descriptor
plain_push Release c z h w = Plain.release c z h.descriptor w h.region
plain_push Offer c z h w = Plain.offer c z h.descriptor

-- a release has noted the state that it found, for the step after it; of the other pushes nothing is asked
abbrev pub ReleaseNoted : Push → ℕ → State → Type 0
ReleaseNoted Retire was w = Unit {0}
ReleaseNoted Back was w = Unit {0}
ReleaseNoted Release was w = was ≡ state_number w
ReleaseNoted Offer was w = Unit {0}

-- the index by which an anchor names a chain's first block, which is given plus one, or 0 for none: n for none
abbrev pub first_index : ℕ → ℕ → ℕ
first_index c zero = per_region c
first_index c (suc x) = index_of c x

-- the first block, if there is one, is a block of the region and the class
abbrev pub FirstIn : ℕ → ℕ → ℕ → Type 0
FirstIn r c zero = Unit {0}
FirstIn r c (suc x) = BlockOf r c x

-- A noted anchor: state, first block and length are those of the plain pool's note; it may be stale for ever.
pub record NoteRelated (m : Mem) (c d : ℕ) (n : Note) (a : Anchor) : Type 0 where
  pub state : a.state ≡ state_number n.state
  pub count : a.count ≡ n.length
  pub avail : a.avail ≡ first_index c n.first
  pub first : FirstIn (m.descriptor d).region c n.first
  pub none : n.first ≡ 0 → n.length ≡ 0

-- A group: the blocks before its last are linked up to it.
pub record GroupRelated (a : Contents) (s : Slot) (y : ℕ) (g : List ℕ) : Type 0 where
  pub front : List ℕ
  pub last : ℕ
  pub is : y ∷ g ≡ front ++ (last ∷ [])
  pub linked : Linked (link a.area) (index_of s.class) (index_of s.class last) s.group.first front
  pub last_is : s.group.last ≡ index_of s.class last
  pub counts : s.group.count ≡ suc (length g)
  pub region : s.hand.region ≡ region_of y

-- ---- a task

-- A place of a task at work, with what is under way; the plain place is built from the task's fields.
pub data WorkRelated (regions : ℕ) (a : Contents) (m : Mem) (s : Slot) : Work → Type 0 where
  r_a1 : s.place ≡ A1 → WorkRelated regions a m s (a1 s.class)
  r_popping : (P : Pop) {φ : Phase} → PopRelated regions m s P φ
      → WorkRelated regions a m s (popping (plain_pop P s.class s.hand) φ)
  r_pushing : (P : Push) (w : State) {φ : Phase} → ReleaseNoted P s.hand.state w → PushRelated regions a m s P φ
      → WorkRelated regions a m s (pushing (plain_push P s.class (purpose_of s.unit) s.hand w) φ)
  r_a3_read : s.place ≡ A3_READ → WorkRelated regions a m s (a3-read s.class s.hand.descriptor)
  -- the noted anchor is PARTIAL, names a block, and counts 1 to n
  r_a3_exchange : {n : Note} → s.place ≡ A3_EXCHANGE
      → NoteRelated m s.class s.hand.descriptor n s.noted.anchor
      → s.noted.anchor.state ≡ PARTIAL → 1 ≤ s.noted.anchor.count → s.noted.anchor.count ≤ per_region s.class
      → s.noted.anchor.avail < per_region s.class
      → WorkRelated regions a m s (a3-exchange s.class s.hand.descriptor n)
  r_a4 : {x : ℕ} {q : List ℕ} → s.place ≡ A4
      → Linked (link a.area) (index_of s.class) (per_region s.class) s.hand.index (x ∷ q)
      → s.hand.left ≡ suc (length q) → ((v : ℕ) → count v (x ∷ q) ≤ count_block v s.hand.region s.class)
      → WorkRelated regions a m s (a4 s.class x q)
  r_a7 : s.place ≡ A7 → WorkRelated regions a m s (a7 s.class s.hand.descriptor s.hand.region)
  r_a8 : s.place ≡ A8 → WorkRelated regions a m s (a8 s.class s.hand.region s.hand.index)
  r_f1 : s.place ≡ F1 → WorkRelated regions a m s (f1 s.class s.unit)
  r_f2 : s.place ≡ F2 → s.group.count ≡ 0 → WorkRelated regions a m s (f2 s.class (purpose_of s.unit) [])
  r_f2_more : {y : ℕ} {g : List ℕ} → s.place ≡ F2 → GroupRelated a s y g
      → WorkRelated regions a m s (f2 s.class (purpose_of s.unit) (y ∷ g))
  r_f3_read : {y : ℕ} {g : List ℕ} → s.place ≡ F3_READ → GroupRelated a s y g
      → WorkRelated regions a m s (f3-read s.class (purpose_of s.unit) y g)
  r_f3_link : {y : ℕ} {g : List ℕ} {n : Note} → s.place ≡ F3_LINK → GroupRelated a s y g
      → NoteRelated m s.class s.hand.descriptor n s.noted.anchor
      → s.group.count + s.noted.anchor.count ≤ per_region s.class
      → WorkRelated regions a m s (f3-link s.class (purpose_of s.unit) y g s.hand.descriptor n)
  r_f3_exchange : {y : ℕ} {g : List ℕ} {n : Note} → s.place ≡ F3_EXCHANGE → (G : GroupRelated a s y g)
      → NoteRelated m s.class s.hand.descriptor n s.noted.anchor
      → s.group.count + s.noted.anchor.count ≤ per_region s.class
      → link a.area G.last ≡ s.noted.anchor.avail
      → WorkRelated regions a m s (f3-exchange s.class (purpose_of s.unit) y g s.hand.descriptor n)
  r_f4_clear : {w : State} → s.place ≡ F4_CLEAR → s.hand.state ≡ state_number w
      → WorkRelated regions a m s (f4-clear s.class (purpose_of s.unit) s.hand.descriptor w s.hand.region)
  -- the order of the strip that is to be taken stands where a class does
  r_strip_take : s.place ≡ STRIP_TAKE → WorkRelated regions a m s (strip-take s.class)
  r_strip_give : {q : ℕ} → s.place ≡ STRIP_GIVE → s.unit ≡ strip_unit q → WorkRelated regions a m s (strip-give q)
  r_leave_end : s.place ≡ LEAVE_END → WorkRelated regions a m s leave-end

-- Any place: a task is idle, or at work.
pub data PlaceRelated (regions : ℕ) (a : Contents) (m : Mem) (s : Slot) : Place → Type 0 where
  r_idle : s.place ≡ IDLE → PlaceRelated regions a m s idle
  r_working : {w : Work} → WorkRelated regions a m s w → PlaceRelated regions a m s (working w)

-- The caches: each is linked from its top.
pub record CachesRelated (nx : ℕ → ℕ) (k : TaskCaches) (cache : ℕ → List ℕ) : Type 0 where
  pub tops : (c : ℕ) → c < CLASSES → Linked nx (λ u. u) UNITS (k.top c) (cache c)
  pub counts : (c : ℕ) → c < CLASSES → k.count c ≡ length (cache c)

-- A task: its class is one of the classes, its place, and its caches.
pub record SlotRelated (regions : ℕ) (a : Contents) (m : Mem) (s : Slot) (T : Task) : Type 0 where
  pub fits : s.class < CLASSES
  pub place : PlaceRelated regions a m s T.place
  pub caches : CachesRelated (link a.area) s.caches T.cache

-- ---- a descriptor

-- the chain of a descriptor, linked from avail, with n at the end
pub record ChainRelated (nx : ℕ → ℕ) (a : Anchor) (D : Descriptor) : Type 0 where
  pub linked : Linked nx (index_of D.class) (per_region D.class) a.avail D.chain
  pub counts : a.count ≡ length D.chain

-- a descriptor: its state, region and class; and its chain while it is not EMPTY
pub record DescriptorRelated (nx : ℕ → ℕ) (a : Anchor) (r c : ℕ) (D : Descriptor) : Type 0 where
  pub state : a.state ≡ state_number D.state
  pub region : r ≡ D.region
  pub class : c ≡ D.class
  pub chain : IfOpen D.state (ChainRelated nx a D)

-- ---- the pool

-- the lists, by the numbers of won exchanges and the rows of the plain pool
pub record ListsRelated (regions : ℕ) (l : Lists) (won : ℕ → ℕ) (row : ℕ → List ℕ) : Type 0 where
  pub tags : (ℓ : ℕ) → ℓ < LISTS → (l.head ℓ).tag ≡ wrap (won ℓ)
  -- the lists of descriptors, and that of spare regions
  pub rows : (ℓ : ℕ) → ℓ < DESCRIPTOR_LISTS → Linked l.descriptor_next suc 0 (l.head ℓ).item (row ℓ)
  pub spare_row : Linked l.region_next suc 0 (l.head SPARE_REGIONS).item (row SPARE_REGIONS)
  pub descriptor_nexts : (d : ℕ) → d < DESCRIPTORS → l.descriptor_next d ≤ DESCRIPTORS
  pub region_nexts : (r : ℕ) → r < regions → l.region_next r ≤ regions

-- the descriptors, with chains linked by nx
pub record DescriptorsRelated (regions : ℕ) (nx : ℕ → ℕ) (D : Descriptors) (plain : ℕ → Descriptor) : Type 0 where
  pub each : (d : ℕ) → d < DESCRIPTORS → DescriptorRelated nx (D.anchor d) (D.region d) (D.class d) (plain d)
  -- the anchor, the region and the class of every descriptor, also of an EMPTY one, are in their ranges
  pub avails : (d : ℕ) → d < DESCRIPTORS → (D.anchor d).avail ≤ MOST_BLOCKS
  pub chain_counts : (d : ℕ) → d < DESCRIPTORS → (D.anchor d).count ≤ MOST_BLOCKS
  pub region_numbers : (d : ℕ) → d < DESCRIPTORS → D.region d < regions
  pub class_numbers : (d : ℕ) → d < DESCRIPTORS → D.class d < CLASSES

-- the map and the marks
pub record EntriesRelated (regions : ℕ) (e : Entries) (map hands : ℕ → ℕ) : Type 0 where
  pub maps : (r : ℕ) → r < regions → e.map r ≡ map r
  pub marks : (u : ℕ) → u < UNITS → e.mark u ≡ hands u

-- the strips: the tree and the bytes of the slots follow the pieces
abbrev pub StripsRelated : StripFields → Pieces WHOLE_ORDER → Type 0
StripsRelated f p = Follows f.tree f.byte p

-- the relation of all but the tasks; the area has the started length
pub record Core (regions : ℕ) (a : Contents) (m : Mem) : Type 0 where
  pub lists : ListsRelated regions a.lists m.won m.row
  pub descriptors : DescriptorsRelated regions (link a.area) a.descriptors m.descriptor
  pub entries : EntriesRelated regions a.entries m.map m.hands
  pub strips : StripsRelated a.strips m.strips
  pub length : lib.ListN.length a.area ≡ REGION_BYTES * regions

-- the two pools in relation: what the tasks share, and each task
pub record Related (regions : ℕ) (a : Contents) (m : Mem) : Type 0 where
  pub core : Core regions a m
  pub slots : (t : ℕ) → t < TASKS → SlotRelated regions a m (a.slot t) (m.task t)
