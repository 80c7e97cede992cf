-- The writes of a task's turn, and what the memories hold after them: its own part with its caches, a link, an anchor,
-- a map entry.
use mathlib.Core.Path.{◌≡◌, refl, ap, ◌∙◌}
use mathlib.Core.Logic.{◌≢◌}
use mathlib.Core.List.{List}
use Prim.Native.Nat.{ℕ, ◌≤◌, ◌<◌}
use Rattle.limits.specs.Limits.{CLASSES, DESCRIPTORS, MOST_BLOCKS}
use Rattle.fields.specs.Columns.{View}
use Rattle.links.specs.Link.{link, with_link}
use Rattle.words.specs.Anchor.{anchor_of}
use Rattle.plain.specs.State as State
use Rattle.plain.specs.State.{Descriptor, Mem, Place, Task, state_number, set_descriptor, set_task}
use Rattle.plain.specs.ByState.{IfOpen}
use Rattle.plain.specs.HolderWeights.{block_weight}
use Rattle.plain.proofs.PlaceAlone.{task_of}
use Rattle.agreement.specs.Contents.{Slot, Contents, slot_of, contents_of}
use Rattle.agreement.specs.Relation.{ChainRelated, Related, SlotRelated}
use Rattle.agreement.proofs.Slots.{to_cache}
use Rattle.agreement.proofs.Sets.{with_slots, set_slot, set_link, set_anchor, set_map}
use Rattle.agreement.proofs.AssignedContents.{becomes}
use Rattle.agreement.proofs.TurnInBoth.{quiet, linking}
use Rattle.agreement.proofs.TurnChanges.{anchoring, clearing}
use Rattle.agreement.proofs.Turns.{At}
use Rattle.agreement.proofs.Caching.{with_cache, cache-own, cache-others}
use Rattle.limits.specs.Limits.{WHOLE_ORDER}
use Rattle.pieces.specs.Pieces.{Pieces}
use Rattle.strip_tree.specs.declared.tree.Tree.{Tree}
use Rattle.strips_agreement.specs.TreeFollows.{Follows}
use Rattle.plain.specs.State.{set_strips}
use Rattle.agreement.proofs.Sets.{with_strips}
use Rattle.agreement.proofs.TurnChanges.{stripping}

-- Writes that change the view v to v': what is shared is as in b, and of the tasks' parts only that of t, now s, has
-- changed.
pub record OwnWrites (v v' : View) (area : List ℕ) (t : ℕ) (s : Slot) (b : Contents) : Type 0 where
  pub shared : contents_of v' area ≡ with_slots (slot_of v') b
  pub own : slot_of v' t ≡ s
  pub others : (j : ℕ) → t ≢ j → slot_of v' j ≡ slot_of v j

-- `OwnWrites` with those of a cache's two fields behind them are `OwnWrites` again: the part of t has that cache.
pub with-cache : {v : View} (v' : View) {area : List ℕ} {t : ℕ} {s : Slot} {b : Contents} (c u n : ℕ) → c < CLASSES
    → OwnWrites v v' area t s b → OwnWrites v (with_cache t c u n v') area t (to_cache c u n s) b
with-cache v' {t = t} c u n l h = record {
  shared = ap (with_slots (slot_of (with_cache t c u n v'))) h.shared;
  own = cache-own v' t c u n l ∙ ap (to_cache c u n) h.own;
  others = λ j d. cache-others v' t c u n l j d ∙ h.others j d;
}

module _ {regions : ℕ} {v : View} {area : List ℕ} {m : Mem} {t : ℕ} {p : Place} {k : ℕ → List ℕ}
    (w : At regions v area m t p k) (v' : View) (s : Slot) (T : Task) where
  -- the relation after writes that change the task's own part alone
  pub own-written : OwnWrites v v' area t s (contents_of v area)
      → SlotRelated regions (set_slot t s (contents_of v area)) (set_task t T m) s T
      → Related regions (contents_of v' area) (set_task t T m)
  own-written c h =
      rw (becomes v v' area t s (contents_of v area) c.shared refl c.own c.others) (quiet w.pair s T h)

  -- the relation after writes that change the task's own part and the link of a block of the task
  pub link-written : (u x : ℕ) → OwnWrites v v' (with_link area u x) t s (set_link u x (contents_of v area))
      → 1 ≤ block_weight u t (task_of p k)
      → SlotRelated regions (set_slot t s (set_link u x (contents_of v area))) (set_task t T m) s T
      → Related regions (contents_of v' (with_link area u x)) (set_task t T m)
  link-written u x c o h =
      rw (becomes v v' (with_link area u x) t s (set_link u x (contents_of v area)) c.shared refl c.own c.others)
      (linking w.pair u x s T o h)

  -- the relation after writes that change the task's own part and an anchor
  pub anchor-exchanged : (d word : ℕ) (E : Descriptor)
      → OwnWrites v v' area t s (set_anchor d (anchor_of word) (contents_of v area))
      → d < DESCRIPTORS → (anchor_of word).state ≡ state_number E.state → E.region ≡ (m.descriptor d).region
      → E.class ≡ (m.descriptor d).class → IfOpen E.state (ChainRelated (link area) (anchor_of word) E)
      → (anchor_of word).avail ≤ MOST_BLOCKS → (anchor_of word).count ≤ MOST_BLOCKS
      → SlotRelated regions (set_slot t s (set_anchor d (anchor_of word) (contents_of v area)))
      (set_task t T (set_descriptor d E m)) s T
      → Related regions (contents_of v' area) (set_task t T (set_descriptor d E m))
  anchor-exchanged d word E c l e f g i a n h =
      rw (becomes v v' area t s (set_anchor d (anchor_of word) (contents_of v area)) c.shared refl c.own c.others)
      (anchoring w.pair d (anchor_of word) E s T l e f g i a n h)

  -- the relation after writes that change the task's own part and clear a map entry
  pub entry-cleared : (r : ℕ) → OwnWrites v v' area t s (set_map r 0 (contents_of v area))
      → SlotRelated regions (set_slot t s (set_map r 0 (contents_of v area))) (set_task t T (State.set_map r 0 m)) s T
      → Related regions (contents_of v' area) (set_task t T (State.set_map r 0 m))
  entry-cleared r c h =
      rw (becomes v v' area t s (set_map r 0 (contents_of v area)) c.shared refl c.own c.others)
      (clearing w.pair r 0 s T h)

  -- the relation after writes that change the task's own part, the tree of free pieces and the bytes of the slots
  pub strips-written : (tree : Tree) (byte : ℕ → ℕ) (q : Pieces WHOLE_ORDER)
      → OwnWrites v v' area t s (with_strips tree byte (contents_of v area)) → Follows tree byte q
      → SlotRelated regions (set_slot t s (with_strips tree byte (contents_of v area)))
      (set_task t T (set_strips q m)) s T
      → Related regions (contents_of v' area) (set_task t T (set_strips q m))
  strips-written tree byte q c F h =
      rw (becomes v v' area t s (with_strips tree byte (contents_of v area)) c.shared refl c.own c.others)
      (stripping w.pair tree byte q s T F h)
