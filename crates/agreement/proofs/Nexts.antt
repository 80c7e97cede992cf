-- The next of an item that a task holds, which a push writes, for both kinds of list.
use mathlib.Core.Path.{◌≡◌, refl}
use mathlib.Core.List.{List, [], ◌∷◌}
use Prim.Native.Nat.{ℕ, ◌≤◌, ◌<◌}
use native.Mathlib.Omega.{arith}
use borrow.Author.Tests.{eq-eqb, ne_eqb}
use Rattle.rows.proofs.Update.{update_same}
use Rattle.fields.specs.Columns.{View, ◌:=◌, assigned}
use Rattle.plain.specs.State.{Place, Mem}
use Rattle.plain.specs.Moves.{nothing, going}
use Rattle.plain.specs.Steps.{at_place}
use Rattle.plain.proofs.PlaceAlone.{task_of}
use Rattle.control.specs.Layout.{DescriptorNext, RegionNext, TaskPlace}
use Rattle.stepped.specs.Outcome.{accept}
use Rattle.stepped.specs.Lists.{Items, descriptor_items, region_items, how_many, next_field}
use Rattle.agreement.proofs.TurnInBoth.{mine}
use Rattle.agreement.specs.Contents.{Slot, Contents, slot_of, contents_of}
use Rattle.agreement.specs.Relation.{nexts, PlaceRelated}
use Rattle.agreement.proofs.HeldItems.{HoldsItem}
use Rattle.agreement.proofs.Slots.{to_place}
use Rattle.agreement.proofs.Sets.{set_slot, set_descriptor_next, set_region_next}
use Rattle.agreement.proofs.AssignedContents.{descriptor_next-written, region_next-written}
use Rattle.agreement.proofs.ListTops.{descriptor-in-hand, region-in-hand}
use Rattle.agreement.proofs.TurnChanges.{descriptor-nexting, region-nexting}
use Rattle.agreement.proofs.Both.{Both}
use Rattle.agreement.proofs.Turns.{At}
use Rattle.agreement.proofs.Sharing.{shares}

-- the memories with another next of the item x
abbrev pub set_next : Items → ℕ → ℕ → Contents → Contents
set_next descriptor_items = set_descriptor_next
set_next region_items = set_region_next

pub next-set : (items : Items) (t : ℕ) (s : Slot) (x n : ℕ) (a : Contents)
    → nexts items (set_slot t s (set_next items x n a)) x ≡ n
next-set descriptor_items t s x n a = update_same a.lists.descriptor_next x n
next-set region_items t s x n a = update_same a.lists.region_next x n

module _ {regions : ℕ} {v : View} {area : List ℕ} {m : Mem} {t : ℕ} {p : Place} {k : ℕ → List ℕ}
    (w : At regions v area m t p k) where
  pub held_below : (items : Items) (x : ℕ) → HoldsItem items x p → x < how_many items regions
  held_below descriptor_items x h = descriptor-in-hand w.pair.turn x h
  held_below region_items x h = region-in-hand w.pair.turn x h

  -- the next of the item x is written, and the task goes to the place p', whose number is b
  pub writes-next : (items : Items) (x n b : ℕ) (p' : Place) → HoldsItem items x p → n ≤ how_many items regions
      → b < 256
      → PlaceRelated regions (set_slot t (to_place b (slot_of v t)) (set_next items x n (contents_of v area)))
      (at_place t k p' m) (to_place b (slot_of v t)) p'
      → Both regions v area m (accept nothing (TaskPlace t := b ∷ next_field items x := n ∷ []) [])
      (at_place t k p' m, going nothing)
  writes-next descriptor_items x n b p' h i j pl =
      let ws = TaskPlace t := b ∷ DescriptorNext x := n ∷ [] in
      let s = to_place b (slot_of v t) in
      record {
        says = refl;
        keeps = (refl, refl);
        rel =
            shares w ws s p' (set_descriptor_next x n (contents_of v area)) m
            (descriptor-nexting w.pair x n s (task_of p' k) h i)
            (descriptor_next-written v (slot_of (assigned ws v)) area x n) refl refl
            (rw (eq-eqb t t refl)) (λ j n. rw (ne_eqb t j n)) (mine w.pair).fits refl pl;
        sound = omega (arith, w.pair.turn.fits, descriptor-in-hand w.pair.turn x h);
        apart = tt;
      }
  writes-next region_items x n b p' h i j pl =
      let ws = TaskPlace t := b ∷ RegionNext x := n ∷ [] in
      let s = to_place b (slot_of v t) in
      record {
        says = refl;
        keeps = (refl, refl);
        rel = shares w ws s p' (set_region_next x n (contents_of v area)) m
            (region-nexting w.pair x n s (task_of p' k) h i)
            (region_next-written v (slot_of (assigned ws v)) area x n) refl refl
            (rw (eq-eqb t t refl)) (λ j n. rw (ne_eqb t j n)) (mine w.pair).fits refl pl;
        sound = omega (arith, w.pair.turn.fits, w.pair.small, region-in-hand w.pair.turn x h);
        apart = tt;
      }
