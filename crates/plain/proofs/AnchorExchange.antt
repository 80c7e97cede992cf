-- The exchange of an anchor: a descriptor's state and chain change, its region and class stay.
use mathlib.Core.Path.{◌≡◌, refl, ap, ◌∙◌}
use mathlib.Core.List.{List}
use Prim.Native.Nat.{ℕ, suc, ◌+◌, ◌≤◌, ◌<◌}
use native.Mathlib.Omega.{arith}
use Rattle.limits.specs.Limits.{TASKS, CLASSES, DESCRIPTORS}
use Rattle.rows.specs.Comparisons.{same, other, same?}
use Rattle.rows.specs.Update.{update}
use Rattle.rows.specs.Weights.{when, one}
use Rattle.rows.specs.Counting.{count}
use Rattle.rows.specs.Totals.{total}
use Rattle.rows.proofs.Update.{update_all}
use Rattle.rows.proofs.Weights.{when-same, when-other, when-zero, when-is, below-max, below-is, weight-update}
use Rattle.rows.proofs.Totals.{total-one, total-update}
use Rattle.plain.specs.State.{EMPTY, Descriptor, Place, Task, Mem, set_descriptor}
use Rattle.plain.specs.Steps.{at_place}
use Rattle.plain.specs.ByState.{IsOpen, IfOpen, IfEmpty, one_if_full, one_if_empty}
use Rattle.plain.specs.Held.{Held, held, block_in, class_block_in, descriptor_in, spare_in, listed_in, region_in}
use Rattle.plain.specs.Held.{unmapped_in}
use Rattle.plain.specs.HolderWeights.{inside_weight, inside_class_weight, chain_weight, chain_class_weight, open_weight}
use Rattle.plain.specs.HolderWeights.{full_weight, descriptor_weight, descriptor_class_weight, spare_weight}
use Rattle.plain.specs.TaskHolds.{NoteHolds, PlaceHolds}
use Rattle.plain.specs.Invariant.{OpenDescriptor, ClosedDescriptor, Invariant}
use Rattle.plain.proofs.ByState.{open-holds, open-asks, open-not-empty, empty-is}
use Rattle.plain.proofs.NotesKept.{as_before}
use Rattle.plain.proofs.Held.{Alike}
use Rattle.plain.proofs.Turn.{Turn, Bounded, fewer, enough, as-mapped, turn-inv}
use Rattle.plain.proofs.PlaceAlone.{task_of, lengths}

-- ---- a descriptor that a task holds

module _ {area : ℕ} {m : Mem} {t : ℕ} {T : Task} (w : Turn area m t T) where
  -- A descriptor that a task holds is one of the 64, and not FULL.
  pub in-hand : (d : ℕ) → 1 ≤ descriptor_weight d t T → (d < DESCRIPTORS) × (one_if_full (m.descriptor d).state ≡ 0)
  in-hand d h =
      let s = w.inv.descriptors d in
      let a = total-one TASKS (descriptor_weight d) m.task t w.fits in
      let b = ap (descriptor_weight d t) w.is in
      let l : d < DESCRIPTORS = below-is d DESCRIPTORS (omega arith) in (
        l,
        omega (
          arith,
          below-max d DESCRIPTORS,
          total-one DESCRIPTORS (full_weight d) m.descriptor d l,
          when-same d (one_if_full (m.descriptor d).state),
        ),
      )

  -- A descriptor that a task holds as spare is EMPTY.
  pub spare-empty : (d : ℕ) → 1 ≤ spare_weight d t T → (m.descriptor d).state ≡ EMPTY
  spare-empty d h = empty-is (m.descriptor d).state (omega (
    arith,
    w.inv.spares d,
    total-one TASKS (spare_weight d) m.task t w.fits,
    ap (spare_weight d t) w.is,
  ))

  -- A descriptor that a task holds for a class is of that class.
  pub class_of : (c d : ℕ) → c < CLASSES → 1 ≤ descriptor_class_weight c d t T → c ≡ (m.descriptor d).class
  class_of c d l h = (when-is c (m.descriptor d).class 1 (omega (
    arith,
    w.inv.classes c d l,
    total-one TASKS (descriptor_class_weight c d) m.task t w.fits,
    ap (descriptor_class_weight c d t) w.is,
  ))).0

-- ---- the exchange

-- what an exchange of the anchor of d, which becomes E, has to show; the task has h under way, and then h'
pub record Anchored (m : Mem) (d : ℕ) (E : Descriptor) (h h' : Held) : Type 0 where
  pub fits : d < DESCRIPTORS
  pub counts : IsOpen (m.descriptor d).state
  pub class : E.class ≡ (m.descriptor d).class
  pub region : E.region ≡ (m.descriptor d).region
  pub descriptors : (x : ℕ)
      → descriptor_in x h' + when x d (one_if_full E.state)
      ≡ descriptor_in x h + when x d (one_if_full (m.descriptor d).state)
  pub regions : (r : ℕ) → region_in r h' + open_weight r d E ≡ region_in r h + open_weight r d (m.descriptor d)
  pub unmapped : (r : ℕ) → unmapped_in r h' ≤ unmapped_in r h
  pub classes : (c x : ℕ) → listed_in c x h' ≤ listed_in c x h + when c (m.descriptor d).class (one x d)
  pub spares : (x : ℕ) → spare_in x h' ≤ spare_in x h
  pub blocks : (v : ℕ)
      → block_in v h' + chain_weight v d E + inside_weight v d (m.descriptor d)
      ≡ block_in v h + chain_weight v d (m.descriptor d) + inside_weight v d E
  pub block_classes : (c v : ℕ)
      → class_block_in c v h' + chain_class_weight c v d E + inside_class_weight c v d (m.descriptor d)
      ≤ class_block_in c v h + chain_class_weight c v d (m.descriptor d) + inside_class_weight c v d E
  pub chain : IfOpen E.state (OpenDescriptor E)
  pub closed : IfEmpty E.state (ClosedDescriptor E)

module _ {area : ℕ} {m : Mem} {t : ℕ} {p : Place} {k : ℕ → List ℕ} (w : Turn area m t (task_of p k)) where
  -- An exchange of an anchor that shows what it has to show keeps the invariant.
  pub anchored : {h' : Held} (p' : Place) (d : ℕ) (E : Descriptor) → Alike (held p') h' → Anchored m d E (held p) h'
      → PlaceHolds k p' → NoteHolds m.row m.won m.map p'
      → Invariant area (at_place t k p' (set_descriptor d E m))
  anchored p' d E e a o n = turn-inv w _ (task_of p' k) refl (record {
    descriptors = λ x. omega (
      arith,
      a.descriptors x,
      e.descriptors x,
      total-update DESCRIPTORS (full_weight x) m.descriptor d E a.fits,
    );
    regions = λ r. omega (
      arith,
      a.regions r,
      e.regions r,
      total-update DESCRIPTORS (open_weight r) m.descriptor d E a.fits,
    );
    classes = classes;
    spares = λ x. fewer (omega (
      arith,
      a.spares x,
      e.spares x,
      weight-update (λ (F : Descriptor). one_if_empty F.state) m.descriptor d E x,
      ap (when x d) (open-not-empty (m.descriptor d).state a.counts),
      when-zero x d,
    ));
    blocks = λ v. omega (
      arith,
      a.blocks v,
      e.blocks v,
      total-update DESCRIPTORS (chain_weight v) m.descriptor d E a.fits,
      total-update DESCRIPTORS (inside_weight v) m.descriptor d E a.fits,
    );
    block_classes = λ c v. omega (
      arith,
      w.inv.block_classes c v,
      a.block_classes c v,
      e.block_classes c v,
      total-update DESCRIPTORS (chain_class_weight c v) m.descriptor d E a.fits,
      total-update DESCRIPTORS (inside_class_weight c v) m.descriptor d E a.fits,
    );
    chains = update_all (λ j F. j < DESCRIPTORS → IfOpen F.state (OpenDescriptor F)) m.descriptor d E
        (λ l. a.chain) (λ j n. w.inv.chains j);
    closed = update_all (λ j F. j < DESCRIPTORS → IfEmpty F.state (ClosedDescriptor F)) m.descriptor d E
        (λ l. a.closed) (λ j n. w.inv.closed j);
    maps = update_all (λ j F. j < DESCRIPTORS → IfOpen F.state (m.map F.region ≡ suc j)) m.descriptor d E
        (λ l. open-asks E.state (still-named l)) (λ j n. w.inv.maps j);
    entries = w.inv.entries;
    unmapped = λ r. as-mapped (omega (arith, a.unmapped r, e.unmapped r)) refl;
    own = record { lengths = lengths w; place = o; note = n };
    kept = λ r h. refl;
    exchanges = λ ℓ. as_before refl refl;
  })
    where
      still-named : d < DESCRIPTORS → m.map E.region ≡ suc d
      still-named l =
          ap m.map a.region ∙ open-holds (m.descriptor d).state a.counts (w.inv.maps d l)

      -- no descriptor's class has changed
      same_class : (c x : ℕ) → one c (update m.descriptor d E x).class ≡ one c (m.descriptor x).class
      same_class c x = omega (
        arith,
        weight-update (λ (F : Descriptor). one c F.class) m.descriptor d E x,
        ap (λ (z : ℕ). when x d (one c z)) a.class,
      )

      classes : (c x : ℕ) → c < CLASSES → Bounded
          (count x (m.row c) + descriptor_class_weight c x t (task_of p k))
          (count x (m.row c) + descriptor_class_weight c x t (task_of p' k))
          (one c (m.descriptor x).class) (one c (update m.descriptor d E x).class)
          (total DESCRIPTORS (full_weight x) (update m.descriptor d E))
      classes c x l = elim (same? x d) [
        | same f ↦ elim (same? c (m.descriptor d).class) [
          | same g ↦ (
              let i : one c (m.descriptor x).class ≡ 1 = rw (f, g) (when-same (m.descriptor d).class 1) in
              enough (omega (arith, same_class c x))
              )
          | other g ↦ fewer (omega (
            arith,
            same_class c x,
            a.classes c x,
            e.classes c x,
            when-other c (m.descriptor d).class (one x d) g,
          ))
        ]
        | other f ↦ fewer (omega (
          arith,
          same_class c x,
          a.classes c x,
          e.classes c x,
          ap (when c (m.descriptor d).class) (when-other x d 1 f),
          when-zero c (m.descriptor d).class,
        ))
      ]
