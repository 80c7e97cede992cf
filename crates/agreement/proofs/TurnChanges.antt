-- The relation after a turn that changes what the tasks share: heads, nexts, descriptors, the map, the marks.
use mathlib.Core.Path.{◌≡◌, refl, ap}
use mathlib.Core.Logic.{◌≢◌}
use mathlib.Core.List.{List}
use Prim.Native.Nat.{ℕ, suc, ◌+◌, ◌≤◌, ◌<◌}
use native.Mathlib.Omega.{arith}
use Rattle.limits.specs.Limits.{TASKS, DESCRIPTORS, MOST_BLOCKS, SPARE_REGIONS, DESCRIPTOR_LISTS}
use Rattle.words.specs.declared.anchor.Anchor.{Anchor}
use Rattle.words.specs.declared.head.Head.{Head}
use Rattle.rows.specs.Counting.{count}
use Rattle.rows.specs.Linked.{Linked}
use Rattle.rows.specs.Update.{update}
use Rattle.rows.specs.Totals.{total}
use Rattle.rows.proofs.Totals.{total-one}
use Rattle.rows.proofs.Update.{update_all, update-all₂, update_other}
use Rattle.rows.proofs.Weights.{below-max}
use Rattle.links.specs.Link.{link}
use Rattle.plain.specs.State
use Rattle.plain.specs.State.{Descriptor, Mem, Place, Task, state_number, set_descriptor, set_hands, set_row}
use Rattle.plain.specs.State.{set_task}
use Rattle.plain.specs.Held.{holds_descriptor, holds_region}
use Rattle.plain.specs.ByState.{IfOpen}
use Rattle.plain.specs.HolderWeights.{descriptor_weight, region_weight, row_weight}
use Rattle.plain.proofs.PlaceAlone.{task_of}
use Rattle.agreement.specs.Contents.{Contents, Lists, Slot}
use Rattle.agreement.specs.Relation.{ChainRelated, Core, ListsRelated, Related, SlotRelated, wrap}
use Rattle.agreement.proofs.TurnInBoth.{Pair, descriptor-apart, region-apart}
use Rattle.agreement.proofs.Frames.{KeptLists, after, lists-kept}
use Rattle.agreement.proofs.RelatedParts.{anchor-related, descriptor_next-related, head-related, map-related}
use Rattle.agreement.proofs.RelatedParts.{mark-related, region_next-related, core-lists, core-descriptors}
use Rattle.agreement.proofs.RelatedParts.{core-entries}
use Rattle.agreement.proofs.RelatedParts.{plain_with}
use Rattle.agreement.proofs.Sets.{set_anchor, set_descriptor_next, set_head, set_map, set_mark, set_region_next}
use Rattle.agreement.proofs.Sets.{set_slot}
use Rattle.agreement.proofs.Sets.{on_lists}
use Rattle.limits.specs.Limits.{WHOLE_ORDER}
use Rattle.pieces.specs.Pieces.{Pieces}
use Rattle.strip_tree.specs.declared.tree.Tree.{Tree}
use Rattle.strips_agreement.specs.TreeFollows.{Follows}
use Rattle.plain.specs.State.{set_strips}
use Rattle.agreement.proofs.RelatedParts.{core-strips}
use Rattle.agreement.proofs.Sets.{with_strips}

-- a won exchange of the list ℓ: what others noted of it is past
wins : (m : Mem) (ℓ j : ℕ) → m.won j ≤ update m.won ℓ (m.won ℓ + 1) j
wins m ℓ = update_all (λ j x. m.won j ≤ x) m.won ℓ (m.won ℓ + 1) (omega arith) (λ j d. omega arith)

still : (m : Mem) (ℓ : ℕ) (q : List ℕ) (j : ℕ) → update m.won ℓ (m.won ℓ + 1) j ≡ m.won j
    → update m.row ℓ q j ≡ m.row j
still m ℓ q =
    update-all₂ (λ j x r. x ≡ m.won j → r ≡ m.row j) m.won m.row ℓ (m.won ℓ + 1) q (λ e. absurd (omega arith))
    (λ j d e. refl)

module _ {regions : ℕ} {a : Contents} {m : Mem} {t : ℕ} {p : Place} {k : ℕ → List ℕ} (w : Pair regions a m t p k) where
  abbrev C : Core regions a m
  C = w.rel.core

  -- ---- the lists alone: their relation, and what other tasks keep of them
  relisting : {l : Lists} {won : ℕ → ℕ} {row : ℕ → List ℕ} (s : Slot) (T : Task) → ListsRelated regions l won row
      → ((j : ℕ) → j < TASKS → j ≢ t → KeptLists a.lists l m.won won m.row row (m.task j).place)
      → SlotRelated regions (set_slot t s (on_lists (λ x. l) a))
      (plain_with won row m.descriptor m.map m.hands (update m.task t T) m.strips) s T
      → Related regions (set_slot t s (on_lists (λ x. l) a))
      (plain_with won row m.descriptor m.map m.hands (update m.task t T) m.strips)
  relisting s T L kept own = after {a = a} {m = m} t s T refl refl (core-lists C L) own
      (λ j i d. record { lists = kept j i d; links = λ v h. refl; regions = λ x h. refl })
      w.rel.slots

  -- ---- a head
  pub heading : (ℓ : ℕ) (h : Head) (q : List ℕ) (s : Slot) (T : Task) → h.tag ≡ wrap (m.won ℓ + 1)
      → (ℓ < DESCRIPTOR_LISTS → Linked a.lists.descriptor_next suc 0 h.item q)
      → (ℓ ≡ SPARE_REGIONS → Linked a.lists.region_next suc 0 h.item q)
      → SlotRelated regions (set_slot t s (set_head ℓ h a)) (set_task t T (set_row ℓ q m)) s T
      → Related regions (set_slot t s (set_head ℓ h a)) (set_task t T (set_row ℓ q m))
  heading ℓ h q s T e f g =
      relisting s T (head-related C.lists ℓ h (m.won ℓ + 1) q e f g) (λ j l d.
      record { wins = wins m ℓ; still = still m ℓ q; descriptor_nexts = λ x h. refl; region_nexts = λ x h. refl })

  -- ---- the next of an item in hand

  -- what the task holds is on no list: n counts it on a list, and lists and tasks together have it at most once
  off : (f : ℕ → Task → ℕ) (n : ℕ) → n + total TASKS f m.task ≤ 1 → 1 ≤ f t (task_of p k)
      → n ≡ 0
  off f n once h = omega (arith, once, total-one TASKS f m.task t w.turn.fits, ap (f t) w.turn.is)

  off-lists : (x ℓ : ℕ) → ℓ < DESCRIPTOR_LISTS → 1 ≤ holds_descriptor x p → count x (m.row ℓ) ≡ 0
  off-lists x ℓ l =
      off (descriptor_weight x) (count x (m.row ℓ)) (omega (
        arith,
        w.turn.inv.descriptors x,
        below-max x DESCRIPTORS,
        total-one DESCRIPTOR_LISTS (row_weight x) m.row ℓ l,
      ))

  off-regions : (x : ℕ) → 1 ≤ holds_region x p → count x (m.row SPARE_REGIONS) ≡ 0
  off-regions x =
      off (region_weight x) (count x (m.row SPARE_REGIONS))
      (omega (arith, w.turn.inv.regions x, below-max x regions))

  pub descriptor-nexting : (x n : ℕ) (s : Slot) (T : Task) → 1 ≤ holds_descriptor x p → n ≤ DESCRIPTORS
      → SlotRelated regions (set_slot t s (set_descriptor_next x n a)) (set_task t T m) s T
      → Related regions (set_slot t s (set_descriptor_next x n a)) (set_task t T m)
  descriptor-nexting x n s T h b =
      relisting s T (descriptor_next-related C.lists x n (λ ℓ l. off-lists x ℓ l h) b) (λ j l d. record {
        wins = λ ℓ. omega arith;
        still = λ ℓ e. refl;
        descriptor_nexts = λ y g. update_other a.lists.descriptor_next x n y (λ f. absurd (omega
            (arith, descriptor-apart w x j l d h, ap (λ (z : ℕ). holds_descriptor z (m.task j).place) f)));
        region_nexts = λ y g. refl;
      })

  pub region-nexting : (x n : ℕ) (s : Slot) (T : Task) → 1 ≤ holds_region x p → n ≤ regions
      → SlotRelated regions (set_slot t s (set_region_next x n a)) (set_task t T m) s T
      → Related regions (set_slot t s (set_region_next x n a)) (set_task t T m)
  region-nexting x n s T h b =
      relisting s T (region_next-related C.lists x n (off-regions x h) b) (λ j l d. record {
        wins = λ ℓ. omega arith;
        still = λ ℓ e. refl;
        descriptor_nexts = λ y g. refl;
        region_nexts = λ y g. update_other a.lists.region_next x n y (λ f. absurd (omega
            (arith, region-apart w x j l d h, ap (λ (z : ℕ). holds_region z (m.task j).place) f)));
      })

  -- ---- an anchor: the region and the class stay
  pub anchoring : (d : ℕ) (b : Anchor) (E : Descriptor) (s : Slot) (T : Task) → d < DESCRIPTORS
      → b.state ≡ state_number E.state
      → E.region ≡ (m.descriptor d).region → E.class ≡ (m.descriptor d).class
      → IfOpen E.state (ChainRelated (link a.area) b E) → b.avail ≤ MOST_BLOCKS → b.count ≤ MOST_BLOCKS
      → SlotRelated regions (set_slot t s (set_anchor d b a)) (set_task t T (set_descriptor d E m)) s T
      → Related regions (set_slot t s (set_anchor d b a)) (set_task t T (set_descriptor d E m))
  anchoring d b E s T l e f g c i₁ i₂ own = after {a = a} {m = m} t s T refl refl
      (core-descriptors C (anchor-related C.descriptors d b E l e f g c i₁ i₂))
      own
      (λ j i n. record {
        lists = lists-kept;
        links = λ v h. refl;
        regions = λ y h. update_all (λ z F. F.region ≡ (m.descriptor z).region) m.descriptor d E f (λ z n. refl) y;
      })
      w.rel.slots

  -- ---- the map's entry is cleared
  pub clearing : (r z : ℕ) (s : Slot) (T : Task)
      → SlotRelated regions (set_slot t s (set_map r z a)) (set_task t T (State.set_map r z m)) s T
      → Related regions (set_slot t s (set_map r z a)) (set_task t T (State.set_map r z m))
  clearing r z s T own = after {a = a} {m = m} t s T refl refl
      (core-entries C (map-related C.entries r z z refl))
      own
      (λ j l d. record { lists = lists-kept; links = λ v h. refl; regions = λ x h. refl })
      w.rel.slots

  -- ---- the strips
  pub stripping : (tree : Tree) (byte : ℕ → ℕ) (q : Pieces WHOLE_ORDER) (s : Slot) (T : Task) → Follows tree byte q
      → SlotRelated regions (set_slot t s (with_strips tree byte a)) (set_task t T (set_strips q m)) s T
      → Related regions (set_slot t s (with_strips tree byte a)) (set_task t T (set_strips q m))
  stripping tree byte q s T F own = after {a = a} {m = m} t s T refl refl (core-strips C F) own
      (λ j l d. record { lists = lists-kept; links = λ v h. refl; regions = λ x h. refl })
      w.rel.slots

  -- ---- a mark
  pub marking : (u b : ℕ) (s : Slot) (T : Task)
      → SlotRelated regions (set_slot t s (set_mark u b a)) (set_task t T (set_hands u b m)) s T
      → Related regions (set_slot t s (set_mark u b a)) (set_task t T (set_hands u b m))
  marking u b s T own = after {a = a} {m = m} t s T refl refl
      (core-entries C (mark-related C.entries u b))
      own
      (λ j l d. record { lists = lists-kept; links = λ v h. refl; regions = λ x h. refl })
      w.rel.slots
