-- Writes to fields, seen column by column: what an assigned view reads as.
use mathlib.Core.Path.{◌≡◌, refl, sym, ap, fun_ext, ◌∙◌}
use mathlib.Core.Logic.{◌≢◌}
use mathlib.Core.Bool.{cond}
use mathlib.Core.List.{List, [], ◌∷◌}
use Prim.Native.Nat.{ℕ, ◌/◌, ◌%◌, ◌<◌}
use native.Mathlib.Omega.{arith}
use native.Mathlib.Decide.{ℕ_discrete, dec_lt}
use borrow.Author.Tests.{eq-eqb, ne_eqb}
use lib.Dec.{eqb}
use Rattle.limits.specs.Limits.{CLASSES, WORD_MARKS}
use Rattle.rows.specs.Branch.{if}
use Rattle.rows.specs.Update.{update}
use Rattle.fields.specs.Columns.{View, ◌:=◌, assigned}
use Rattle.words.specs.Mark.{bit_at}
use Rattle.control.specs.Layout.{Marks}
use Rattle.control.specs.Layout
use Rattle.words.specs.Head.{head_of}
use Rattle.words.specs.Anchor.{anchor_of}
use Rattle.agreement.specs.Contents.{Slot, Contents, by_class, slot_of, mark_of, contents_of}
use Rattle.agreement.proofs.Sets.{on_lists, on_descriptors, on_entries, with_slots, with_heads, with_descriptor_nexts}
use Rattle.agreement.proofs.Sets.{with_region_nexts, with_anchors, with_map, with_marks, set_slot, set_head}
use Rattle.agreement.proofs.Sets.{set_descriptor_next}
use Rattle.agreement.proofs.Sets.{set_region_next, set_anchor, set_owner, set_map, set_mark}
use Rattle.strip_tree.specs.declared.tree.Tree.{Tree}
use Rattle.stepped.specs.StripSteps.{tree_of, tree_writes}
use Rattle.agreement.proofs.Sets.{with_strips}

-- ---- one column

-- a column that is assigned at the index i is that column, updated there; g reads a number of it
pub column-update : {A : Type 0} (g : ℕ → A) (f : ℕ → ℕ) (i x : ℕ)
    → (λ (j : ℕ). g (cond (eqb i j) x (f j))) ≡ update (λ (j : ℕ). g (f j)) i (g x)
unfolding update
column-update g f i x = fun_ext (λ j. by j (ℕ_discrete j i))
  where
    by : (j : ℕ) (d : Dec (j ≡ i)) → g (cond (eqb i j) x (f j)) ≡ if d (g x) (g (f j))
    by j (yes e) = rw (eq-eqb i j (sym e))
    by j (no n) = rw (ne_eqb i j (λ e. n (sym e)))

-- ---- the tasks' parts

-- all parts, where that of the task t is now s and the others are as they were
pub slots-update : (v v' : View) (t : ℕ) (s : Slot) → slot_of v' t ≡ s → ((j : ℕ) → t ≢ j → slot_of v' j ≡ slot_of v j)
    → slot_of v' ≡ update (slot_of v) t s
unfolding update
slots-update v v' t s e h = fun_ext (λ j. by j (ℕ_discrete j t))
  where
    by : (j : ℕ) (d : Dec (j ≡ t)) → slot_of v' j ≡ if d s (slot_of v j)
    by j (yes i) = ap (slot_of v') i ∙ e
    by j (no n) = h j (λ i. n (sym i))

-- ---- the caches: tasks and classes apart

-- where a column of the caches has the task t's for the class c
abbrev cache_at : ℕ → ℕ → ℕ
cache_at t c = (Layout.CacheTop t c).index

-- the column of the caches, assigned at the task t and the class c, as that task sees it
pub cache-here : (f : ℕ → ℕ) (t c x : ℕ) → c < CLASSES
    → by_class (λ e. cond (eqb (cache_at t c) (cache_at t e)) x (f (cache_at t e)))
    ≡ update (by_class (λ e. f (cache_at t e))) c x
unfolding update
cache-here f t c x l = fun_ext (λ e. by e (dec_lt e CLASSES) (ℕ_discrete e c))
  where
    by : (e : ℕ) (p : Dec (e < CLASSES)) (q : Dec (e ≡ c))
        → if p (cond (eqb (cache_at t c) (cache_at t e)) x (f (cache_at t e))) 0 ≡ if q x (if p (f (cache_at t e)) 0)
    by e (yes p) (yes q) = rw (eq-eqb (cache_at t c) (cache_at t e) (omega arith))
    by e (yes p) (no q) = rw (ne_eqb (cache_at t c) (cache_at t e) (λ z. q (omega arith)))
    by e (no p) (yes q) = absurd (p (omega arith))
    by e (no p) (no q) = refl

-- the column of the caches, assigned at the task t and the class c, as another task sees it: it is as it was
pub cache-there : (f : ℕ → ℕ) (t c x j : ℕ) → c < CLASSES → t ≢ j
    → by_class (λ e. cond (eqb (cache_at t c) (cache_at j e)) x (f (cache_at j e))) ≡ by_class (λ e. f (cache_at j e))
cache-there f t c x j l n = fun_ext (λ e. by e (dec_lt e CLASSES))
  where
    by : (e : ℕ) (p : Dec (e < CLASSES))
        → if p (cond (eqb (cache_at t c) (cache_at j e)) x (f (cache_at j e))) 0 ≡ if p (f (cache_at j e)) 0
    by e (yes p) = rw (ne_eqb (cache_at t c) (cache_at j e) (λ z. n (omega arith)))
    by e (no p) = refl

-- ---- the marks

-- the word of the unit u's mark, with one bit changed to b, changes that mark alone
module _ (v : View) (u b made : ℕ) (here : bit_at made (u % WORD_MARKS) ≡ b)
    (others : (j : ℕ) → j ≢ u % WORD_MARKS → bit_at made j ≡ bit_at (v (Marks (u / WORD_MARKS))) j) where
  marks-update : (λ (w : ℕ). bit_at (cond (eqb (u / WORD_MARKS) (w / WORD_MARKS)) made (v (Marks (w / WORD_MARKS))))
      (w % WORD_MARKS))
      ≡ update (mark_of v) u b
  unfolding update
  marks-update = fun_ext (λ w. by w (ℕ_discrete w u) (ℕ_discrete (u / WORD_MARKS) (w / WORD_MARKS)))
    where
      by : (w : ℕ) (d : Dec (w ≡ u)) (e : Dec (u / WORD_MARKS ≡ w / WORD_MARKS))
          → bit_at (cond (eqb (u / WORD_MARKS) (w / WORD_MARKS)) made (v (Marks (w / WORD_MARKS)))) (w % WORD_MARKS)
          ≡ if d b (mark_of v w)
      by w (yes d) (yes e) = rw (eq-eqb (u / WORD_MARKS) (w / WORD_MARKS) e, d) here
      by w (yes d) (no e) = absurd (e (ap (λ (z : ℕ). z / WORD_MARKS) (sym d)))
      by w (no d) (yes e) =
          rw (eq-eqb (u / WORD_MARKS) (w / WORD_MARKS) e)
          (others (w % WORD_MARKS) (λ z. d (omega arith)) ∙ ap (λ (k : ℕ). bit_at (v (Marks k)) (w % WORD_MARKS)) e)
      by w (no d) (no e) = rw (ne_eqb (u / WORD_MARKS) (w / WORD_MARKS) e)

-- ---- the memories

-- After writes that change the view v to v': what is shared is as in b, and of the tasks' parts only that of t, now s,
-- has changed. The first premise is `refl` where only fields of tasks were written.
pub becomes : (v v' : View) (area : List ℕ) (t : ℕ) (s : Slot) (b : Contents)
    → contents_of v' area ≡ with_slots (slot_of v') b
    → b.slot ≡ slot_of v → slot_of v' t ≡ s → ((j : ℕ) → t ≢ j → slot_of v' j ≡ slot_of v j)
    → contents_of v' area ≡ set_slot t s b
becomes v v' area t s b e f own others =
    e ∙ ap (λ (S : ℕ → Slot). with_slots S b)
    (slots-update v v' t s own others ∙ ap (λ (S : ℕ → Slot). update S t s) (sym f))

-- What is shared, after a write of one of its columns; S are the tasks' parts. `put` puts a column into the memories.
module _ (v : View) (S : ℕ → Slot) (area : List ℕ) where
  abbrev before : Contents
  before = with_slots S (contents_of v area)

  column-written : {A : Type 0} (put : (ℕ → A) → Contents → Contents) (g : ℕ → A) (f : ℕ → ℕ) (i x : ℕ)
      → put (λ (j : ℕ). g (cond (eqb i j) x (f j))) before ≡ put (update (λ (j : ℕ). g (f j)) i (g x)) before
  column-written {A} put g f i x = ap (λ (h : ℕ → A). put h before) (column-update g f i x)

  -- a head
  pub head-written : (ℓ w : ℕ)
      → with_slots S (contents_of (assigned (Layout.Head ℓ := w ∷ []) v) area)
      ≡ with_slots S (set_head ℓ (head_of w) (contents_of v area))
  head-written = column-written (λ f. on_lists (with_heads f)) head_of (λ j. v (Layout.Head j))

  -- a descriptor's next
  pub descriptor_next-written : (d x : ℕ)
      → with_slots S (contents_of (assigned (Layout.DescriptorNext d := x ∷ []) v) area)
      ≡ with_slots S (set_descriptor_next d x (contents_of v area))
  descriptor_next-written =
      column-written (λ f. on_lists (with_descriptor_nexts f)) (λ y. y) (λ j. v (Layout.DescriptorNext j))

  -- a region's next
  pub region_next-written : (r x : ℕ)
      → with_slots S (contents_of (assigned (Layout.RegionNext r := x ∷ []) v) area)
      ≡ with_slots S (set_region_next r x (contents_of v area))
  region_next-written = column-written (λ f. on_lists (with_region_nexts f)) (λ y. y) (λ j. v (Layout.RegionNext j))

  -- an anchor
  pub anchor-written : (d w : ℕ)
      → with_slots S (contents_of (assigned (Layout.Anchor d := w ∷ []) v) area)
      ≡ with_slots S (set_anchor d (anchor_of w) (contents_of v area))
  anchor-written = column-written (λ f. on_descriptors (with_anchors f)) anchor_of (λ j. v (Layout.Anchor j))

  -- a map entry
  pub map-written : (r x : ℕ)
      → with_slots S (contents_of (assigned (Layout.Map r := x ∷ []) v) area)
      ≡ with_slots S (set_map r x (contents_of v area))
  map-written = column-written (λ f. on_entries (with_map f)) (λ y. y) (λ j. v (Layout.Map j))

  -- a descriptor written whole, and a map entry
  pub owner-written : (d w r c e : ℕ)
      → with_slots S (contents_of (assigned (Layout.Anchor d := w ∷ Layout.DescriptorRegion d := r
      ∷ Layout.DescriptorClass d := c ∷ Layout.Map r := e ∷ []) v) area)
      ≡ with_slots S (set_owner d (anchor_of w) r c e (contents_of v area))
  owner-written d w r c e z =
      on_entries (with_map (column-update (λ (y : ℕ). y) (λ (j : ℕ). v (Layout.Map j)) r e z))
      (on_descriptors (λ D. record {
        anchor = column-update anchor_of (λ (j : ℕ). v (Layout.Anchor j)) d w z;
        region = column-update (λ (y : ℕ). y) (λ (j : ℕ). v (Layout.DescriptorRegion j)) d r z;
        class = column-update (λ (y : ℕ). y) (λ (j : ℕ). v (Layout.DescriptorClass j)) d c z;
      }) before)

  -- a word of marks whose bit of the unit u is b, and whose others are as they were
  pub mark-written : (u b made : ℕ) → bit_at made (u % WORD_MARKS) ≡ b
      → ((j : ℕ) → j ≢ u % WORD_MARKS → bit_at made j ≡ bit_at (v (Marks (u / WORD_MARKS))) j)
      → with_slots S (contents_of (assigned (Marks (u / WORD_MARKS) := made ∷ []) v) area)
      ≡ with_slots S (set_mark u b (contents_of v area))
  mark-written u b made here others =
      ap (λ (f : ℕ → ℕ). on_entries (with_marks f) before) (marks-update v u b made here others)

  -- the byte of the slot q
  pub slot-written : (q x : ℕ)
      → with_slots S (contents_of (assigned (Layout.SlotByte q := x ∷ []) v) area)
      ≡ with_slots S (with_strips (tree_of v) (update (λ j. v (Layout.SlotByte j)) q x) (contents_of v area))
  slot-written = column-written (with_strips (tree_of v)) (λ y. y) (λ j. v (Layout.SlotByte j))

  -- the byte of the slot q, and the tree
  pub strip-written : (q x : ℕ) (tree : Tree)
      → with_slots S (contents_of (assigned (Layout.SlotByte q := x ∷ tree_writes tree) v) area)
      ≡ with_slots S (with_strips tree (update (λ j. v (Layout.SlotByte j)) q x) (contents_of v area))
  strip-written q x tree = column-written (with_strips tree) (λ y. y) (λ j. v (Layout.SlotByte j)) q x
