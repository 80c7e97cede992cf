-- A won exchange of a list: an item moves between its row and what the task has under way.
use mathlib.Core.Path.{◌≡◌, refl, ap}
use mathlib.Core.List.{List}
use Prim.Native.Nat.{ℕ, ◌+◌, ◌≤◌, ◌<◌}
use native.Mathlib.Omega.{arith}
use Rattle.limits.specs.Limits.{CLASSES, SPARE_DESCRIPTORS, SPARE_REGIONS, DESCRIPTOR_LISTS}
use Rattle.rows.specs.Update.{update}
use Rattle.rows.specs.Weights.{when}
use Rattle.rows.specs.Counting.{count}
use Rattle.rows.proofs.Update.{update_same, update_other, update-all₂}
use Rattle.rows.proofs.Weights.{weight-update}
use Rattle.rows.proofs.Totals.{total-out, total-update}
use Rattle.plain.specs.State.{Place, Mem, set_row}
use Rattle.plain.specs.Steps.{at_place}
use Rattle.plain.specs.Held.{Held, held, block_in, class_block_in, descriptor_in, spare_in, listed_in, region_in}
use Rattle.plain.specs.Held.{unmapped_in}
use Rattle.plain.specs.HolderWeights.{row_weight}
use Rattle.plain.specs.TaskHolds.{NoteHolds, PlaceHolds}
use Rattle.plain.specs.Invariant.{Invariant}
use Rattle.plain.proofs.NotesKept.{Exchanges, as_before, one_more}
use Rattle.plain.proofs.Held.{Alike}
use Rattle.plain.proofs.Turn.{Turn, fewer, as-mapped, turn-inv}
use Rattle.plain.proofs.PlaceAlone.{task_of, lengths}

-- A won exchange is one more of its list, and of no other.
exchanged : (m : Mem) (ℓ : ℕ) (q : List ℕ) (j : ℕ)
    → Exchanges (m.won j) (m.row j) (update m.won ℓ (m.won ℓ + 1) j) (update m.row ℓ q j)
exchanged m ℓ q =
    update-all₂ (λ j n r. Exchanges (m.won j) (m.row j) n r) m.won m.row ℓ (m.won ℓ + 1) q
    (one_more (omega arith)) (λ j d. as_before refl refl)

-- what an exchange of a list of descriptors, from the row r to q, has to show of what the task has under way
pub record DescriptorsExchanged (ℓ : ℕ) (r q : List ℕ) (h h' : Held) : Type 0 where
  pub blocks : (v : ℕ) → block_in v h' ≡ block_in v h
  pub block_classes : (c v : ℕ) → class_block_in c v h' ≤ class_block_in c v h
  pub descriptors : (x : ℕ) → count x q + descriptor_in x h' ≡ count x r + descriptor_in x h
  pub classes : (c x : ℕ) → c < CLASSES
      → when c ℓ (count x q) + listed_in c x h' ≤ when c ℓ (count x r) + listed_in c x h
  pub spares : (x : ℕ)
      → when SPARE_DESCRIPTORS ℓ (count x q) + spare_in x h' ≤ when SPARE_DESCRIPTORS ℓ (count x r) + spare_in x h
  pub regions : (x : ℕ) → region_in x h' ≡ region_in x h
  pub unmapped : (x : ℕ) → unmapped_in x h' ≤ unmapped_in x h

-- what an exchange of the list of spare regions, from the row r to q, has to show of what the task has under way
pub record RegionsExchanged (r q : List ℕ) (h h' : Held) : Type 0 where
  pub blocks : (v : ℕ) → block_in v h' ≡ block_in v h
  pub block_classes : (c v : ℕ) → class_block_in c v h' ≤ class_block_in c v h
  pub descriptors : (x : ℕ) → descriptor_in x h' ≡ descriptor_in x h
  pub classes : (c x : ℕ) → listed_in c x h' ≤ listed_in c x h
  pub spares : (x : ℕ) → spare_in x h' ≤ spare_in x h
  pub regions : (x : ℕ) → count x q + region_in x h' ≡ count x r + region_in x h
  pub unmapped : (x : ℕ) → count x q + unmapped_in x h' ≤ count x r + unmapped_in x h

module _ {area : ℕ} {m : Mem} {t : ℕ} {p : Place} {k : ℕ → List ℕ} (w : Turn area m t (task_of p k)) where
  -- An exchange of a list of descriptors keeps the invariant.
  pub relisted : {h' : Held} (p' : Place) (ℓ : ℕ) (q : List ℕ) → Alike (held p') h' → ℓ < DESCRIPTOR_LISTS
      → DescriptorsExchanged ℓ (m.row ℓ) q (held p) h' → PlaceHolds k p'
      → NoteHolds (update m.row ℓ q) (update m.won ℓ (m.won ℓ + 1)) m.map p'
      → Invariant area (at_place t k p' (set_row ℓ q m))
  relisted p' ℓ q e l s o n = turn-inv w _ (task_of p' k) refl (record {
    descriptors = λ x.
        omega (
          arith,
          s.descriptors x,
          e.descriptors x,
          total-update DESCRIPTOR_LISTS (row_weight x) m.row ℓ q l,
        );
    regions = λ x.
        omega (
          arith,
          s.regions x,
          e.regions x,
          ap (count x) (update_other m.row ℓ q SPARE_REGIONS (omega arith)),
        );
    classes = λ c x h.
        fewer (omega (arith, s.classes c x h, e.classes c x, weight-update (count x) m.row ℓ q c));
    spares = λ x.
        fewer (omega (arith, s.spares x, e.spares x, weight-update (count x) m.row ℓ q SPARE_DESCRIPTORS));
    blocks = λ v. omega (arith, s.blocks v, e.blocks v);
    block_classes = λ c v. omega (arith, w.inv.block_classes c v, s.block_classes c v, e.block_classes c v);
    chains = w.inv.chains;
    closed = w.inv.closed;
    maps = w.inv.maps;
    entries = w.inv.entries;
    unmapped = λ x. as-mapped (omega (
      arith,
      s.unmapped x,
      e.unmapped x,
      ap (count x) (update_other m.row ℓ q SPARE_REGIONS (omega arith)),
    )) refl;
    own = record { lengths = lengths w; place = o; note = n };
    kept = λ r h. refl;
    exchanges = exchanged m ℓ q;
  })

  -- An exchange of the list of spare regions keeps the invariant.
  pub released : {h' : Held} (p' : Place) (q : List ℕ) → Alike (held p') h'
      → RegionsExchanged (m.row SPARE_REGIONS) q (held p) h'
      → PlaceHolds k p'
      → NoteHolds (update m.row SPARE_REGIONS q)
      (update m.won SPARE_REGIONS (m.won SPARE_REGIONS + 1)) m.map p'
      → Invariant area (at_place t k p' (set_row SPARE_REGIONS q m))
  released p' q e s o n = turn-inv w _ (task_of p' k) refl (record {
    descriptors = λ x. omega (
      arith,
      s.descriptors x,
      e.descriptors x,
      total-out DESCRIPTOR_LISTS (row_weight x) m.row SPARE_REGIONS q (omega arith),
    );
    regions = λ x. omega (arith, s.regions x, e.regions x, ap (count x) (update_same m.row SPARE_REGIONS q));
    classes = λ c x l. fewer (omega (
      arith,
      s.classes c x,
      e.classes c x,
      ap (count x) (update_other m.row SPARE_REGIONS q c (omega arith)),
    ));
    spares = λ x. fewer (omega (
      arith,
      s.spares x,
      e.spares x,
      ap (count x) (update_other m.row SPARE_REGIONS q SPARE_DESCRIPTORS (omega arith)),
    ));
    blocks = λ v. omega (arith, s.blocks v, e.blocks v);
    block_classes = λ c v. omega (arith, w.inv.block_classes c v, s.block_classes c v, e.block_classes c v);
    chains = w.inv.chains;
    closed = w.inv.closed;
    maps = w.inv.maps;
    entries = w.inv.entries;
    unmapped = λ x. as-mapped (omega (
      arith,
      s.unmapped x,
      e.unmapped x,
      ap (count x) (update_same m.row SPARE_REGIONS q),
    )) refl;
    own = record { lengths = lengths w; place = o; note = n };
    kept = λ r h. refl;
    exchanges = exchanged m SPARE_REGIONS q;
  })
