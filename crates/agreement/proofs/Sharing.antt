-- A task's turn that writes what is shared, too: from the writes to the relation after it.
use mathlib.Core.Path.{◌≡◌, sym, subst}
use mathlib.Core.Logic.{◌≢◌}
use mathlib.Core.List.{List}
use Prim.Native.Nat.{ℕ, ◌<◌}
use Rattle.limits.specs.Limits.{CLASSES}
use Rattle.fields.specs.Columns.{View, Write, assigned}
use Rattle.plain.specs.State.{Place, Mem}
use Rattle.plain.specs.Steps.{at_place}
use Rattle.plain.proofs.PlaceAlone.{task_of}
use Rattle.agreement.specs.Contents.{Slot, Contents, slot_of, contents_of}
use Rattle.agreement.specs.Relation.{PlaceRelated, SlotRelated, Related}
use Rattle.agreement.proofs.Sets.{with_slots, set_slot}
use Rattle.agreement.proofs.AssignedContents.{becomes}
use Rattle.agreement.proofs.TaskBlocks.{re-slot}
use Rattle.agreement.proofs.Turns.{At}

module _ {regions : ℕ} {v : View} {area : List ℕ} {m : Mem} {t : ℕ} {p : Place} {k : ℕ → List ℕ}
    (w : At regions v area m t p k) where
  -- The writes ws make s of the task's own part, but not of its caches, and b of what is shared, as the plain pool's
  -- m₁; the task goes to the place p'. `change` is the law of the kind of change, such as that of a head, an anchor
  -- or a map entry.
  pub shares : (ws : List Write) (s : Slot) (p' : Place) (b : Contents) (m₁ : Mem)
      → (SlotRelated regions (set_slot t s b) (at_place t k p' m₁) s (task_of p' k)
      → Related regions (set_slot t s b) (at_place t k p' m₁))
      → contents_of (assigned ws v) area ≡ with_slots (slot_of (assigned ws v)) b → b.slot ≡ slot_of v → b.area ≡ area
      → slot_of (assigned ws v) t ≡ s → ((j : ℕ) → t ≢ j → slot_of (assigned ws v) j ≡ slot_of v j)
      → s.class < CLASSES → s.caches ≡ (slot_of v t).caches
      → PlaceRelated regions (set_slot t s b) (at_place t k p' m₁) s p'
      → Related regions (contents_of (assigned ws v) area) (at_place t k p' m₁)
  shares ws s p' b m₁ change e f i own others g h pl =
      subst (λ (z : Contents). Related regions z (at_place t k p' m₁))
      (sym (becomes v (assigned ws v) area t s b e f own others))
      (change (re-slot w.pair (set_slot t s b) (at_place t k p' m₁) s p' i g h pl))
