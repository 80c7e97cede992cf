-- A step that changes the task's place alone.
use mathlib.Core.Path.{◌≡◌}
use mathlib.Core.List.{List, []}
use Prim.Native.Nat.{ℕ, ◌≤◌, ◌<◌}
use native.Mathlib.Omega.{arith}
use lib.ListN.{length}
use Rattle.limits.specs.Limits.{TASKS}
use Rattle.classes.specs.Classes.{per_region}
use Rattle.plain.specs.State.{Place, Task, Mem}
use Rattle.plain.specs.Steps.{at_place}
use Rattle.plain.specs.Held.{hold, held}
use Rattle.plain.specs.TaskHolds.{NoteHolds, PlaceHolds}
use Rattle.plain.specs.Invariant.{Invariant}
use Rattle.plain.proofs.Held.{Alike, alike, nothing-held}
use Rattle.plain.proofs.Turn.{Turn, task_holds, within}

-- a task at the place p, with the caches k
abbrev pub task_of : Place → (ℕ → List ℕ) → Task
task_of p k = record { place = p; cache = k }

-- The turn of a task at a known place.
pub turn_at : {area : ℕ} {m : Mem} {t : ℕ} {p : Place} → Invariant area m → t < TASKS → (m.task t).place ≡ p
    → Turn area m t (task_of p (m.task t).cache)
turn_at {m = m} {t = t} I l e =
    record { inv = I; fits = l; is = λ i. record { place = e i; cache = (m.task t).cache } }

-- ---- the task at its place

module _ {area : ℕ} {m : Mem} {t : ℕ} {p : Place} {k : ℕ → List ℕ} (w : Turn area m t (task_of p k)) where
  -- What holds at the place.
  pub place_holds : PlaceHolds k p
  place_holds = (task_holds w).place

  -- What holds of the task's note.
  pub note_holds : NoteHolds m.row m.won m.map p
  note_holds = (task_holds w).note

  -- A cache has at most n blocks.
  pub lengths : (c : ℕ) → length (k c) ≤ per_region c
  lengths = (task_holds w).lengths

  -- A step to a place that holds what weighs the same keeps the invariant.
  pub placed_alike : (p' : Place) → Alike (held p') (held p) → PlaceHolds k p'
      → NoteHolds m.row m.won m.map p' → Invariant area (at_place t k p' m)
  placed_alike p' e h n = within w (task_of p' k) (record {
    blocks = λ v. omega (arith, e.blocks v);
    block_classes = λ c v. omega (arith, e.block_classes c v);
    descriptors = λ x. e.descriptors x;
    classes = λ c x. omega (arith, e.classes c x);
    spares = λ x. omega (arith, e.spares x);
    regions = λ r. e.regions r;
    unmapped = λ r. omega (arith, e.unmapped r);
  }) (record { lengths = lengths; place = h; note = n })

  -- A step to a place that holds the same keeps the invariant.
  pub placed : (p' : Place) → held p' ≡ held p → PlaceHolds k p' → NoteHolds m.row m.won m.map p'
      → Invariant area (at_place t k p' m)
  placed p' e h n = placed_alike p' (alike e) h n

  -- A step between places that hold nothing, of whatever class, keeps the invariant.
  pub placed-empty : {c e : ℕ} (p' : Place) → held p ≡ hold c [] [] [] [] → held p' ≡ hold e [] [] [] []
      → PlaceHolds k p' → NoteHolds m.row m.won m.map p' → Invariant area (at_place t k p' m)
  placed-empty {c} {e} p' a b h n = placed_alike p' (rw (a, b) (nothing-held e c)) h n
