-- Step 7 of an allocate opens a region, step 4 of a free clears its entry in the map.
use mathlib.Core.Path.{◌≡◌, refl, sym, ap, ◌∙◌}
use mathlib.Core.Logic.{◌≢◌}
use mathlib.Core.List.{List, []}
use Prim.Native.Nat.{ℕ, suc, ◌+◌, ◌-◌, ◌≤◌, ◌<◌}
use native.Mathlib.Omega.{arith}
use native.Mathlib.Nat.{sub-zero}
use Rattle.limits.specs.Limits.{TASKS, DESCRIPTORS}
use Rattle.rows.specs.Comparisons.{same, other, same?}
use Rattle.rows.specs.Update.{update}
use Rattle.rows.specs.Weights.{when, one}
use Rattle.rows.specs.Counting.{count}
use Rattle.rows.specs.Totals.{total}
use Rattle.rows.proofs.Update.{update_same, update_other, update_all}
use Rattle.rows.proofs.Weights.{when-same, when-other, when-zero, below-max, weight-update}
use Rattle.rows.proofs.Totals.{total-one, total-update}
use Rattle.classes.specs.Classes.{per_region}
use Rattle.classes.proofs.Tables.{per_region-low}
use Rattle.plain.specs.State.{State, EMPTY, FULL, Descriptor, read, release, pushing, a7, a8, f4-clear, Task, Mem}
use Rattle.plain.specs.State.{working, Purpose}
use Rattle.plain.specs.Steps.{a7_step, step_at}
use Rattle.plain.specs.Blocks.{blocks_from, count_block}
use Rattle.plain.specs.ByState.{if_open, IsOpen, IfOpen, IfEmpty, one_if_full, one_if_empty}
use Rattle.plain.specs.HolderWeights.{inside_weight, inside_class_weight, chain_weight, chain_class_weight, open_weight}
use Rattle.plain.specs.HolderWeights.{full_weight, descriptor_class_weight, region_weight}
use Rattle.plain.specs.Invariant.{OpenDescriptor, ClosedDescriptor, Invariant}
use Rattle.plain.proofs.CallTests.{KeepsInvariant}
use Rattle.plain.proofs.Blocks.{is_block-row}
use Rattle.plain.proofs.ByState.{open-map}
use Rattle.plain.proofs.NotesKept.{as_before}
use Rattle.plain.proofs.Turn.{Turn, Bounded, fewer, enough, as-mapped, no-entry, opens, turn-inv}
use Rattle.plain.proofs.PlaceAlone.{task_of, place_holds, lengths}
use Rattle.plain.proofs.AnchorExchange.{in-hand, spare-empty}

-- ---- a region that a task holds

-- A region that a task holds is not open.
pub no-open : {area : ℕ} {m : Mem} {t : ℕ} {T : Task} (w : Turn area m t T) (r : ℕ) → 1 ≤ region_weight r t T
    → total DESCRIPTORS (open_weight r) m.descriptor ≡ 0
no-open {area} {m} {t} w r h = omega (
  arith,
  w.inv.regions r,
  below-max r area,
  total-one TASKS (region_weight r) m.task t w.fits,
  ap (region_weight r t) w.is,
)

-- The entry of a region that is not open may be written: the entries of open regions still name their descriptors.
maps-kept : {area : ℕ} {m : Mem} (I : Invariant area m) (r z : ℕ) → total DESCRIPTORS (open_weight r) m.descriptor ≡ 0
    → (j : ℕ) → j < DESCRIPTORS
    → IfOpen (m.descriptor j).state (update m.map r z (m.descriptor j).region ≡ suc j)
maps-kept {m = m} I r z h j l =
    open-map (m.descriptor j).state
    (λ g e. update_other m.map r z (m.descriptor j).region (other-region g) ∙ e) (I.maps j l)
  where
    other-region : IsOpen (m.descriptor j).state → (m.descriptor j).region ≢ r
    other-region g f = absurd (omega (
      arith,
      total-one DESCRIPTORS (open_weight r) m.descriptor j l,
      g (one r (m.descriptor j).region),
      ap (one r) f,
      when-same r 1,
    ))

-- The entry of a region that is not open may be written: the entries of open regions are as they were.
entries-kept : (m : Mem) (r z : ℕ) → total DESCRIPTORS (open_weight r) m.descriptor ≡ 0
    → (x : ℕ) → 1 ≤ total DESCRIPTORS (open_weight x) m.descriptor → update m.map r z x ≡ m.map x
entries-kept m r z h x g =
    update_other m.map r z x
    (λ e. absurd (omega (arith, ap (λ (y : ℕ). total DESCRIPTORS (open_weight y) m.descriptor) e)))

-- ---- the two steps

module _ {area : ℕ} {m : Mem} {t : ℕ} {k : ℕ → List ℕ} where
  -- Step 4 of a free clears the entry.
  pub clear-inv : (c : ℕ) (z : Purpose) (d : ℕ) (s : State) (r : ℕ)
      → Turn area m t (task_of (working (f4-clear c z d s r)) k)
      → KeepsInvariant area (step_at t k (f4-clear c z d s r) m)
  clear-inv c z d s r w =
      let shut = no-open w r (omega (arith, when-same r 1)) in
      turn-inv w _ (task_of (working (pushing (release c z d s r) read)) k) refl (record {
        descriptors = λ x. omega arith;
        regions = λ x. omega arith;
        classes = λ f x l. fewer (omega arith);
        spares = λ x. fewer (omega arith);
        blocks = λ v. omega arith;
        block_classes = λ f v. omega (arith, w.inv.block_classes f v);
        chains = w.inv.chains;
        closed = w.inv.closed;
        maps = maps-kept w.inv r 0 shut;
        entries = update_all (λ j x. x ≤ DESCRIPTORS) m.map r 0 (omega arith) (λ j n. w.inv.entries j);
        unmapped = λ x. elim (same? x r) [
          | same e ↦ no-entry (rw e (update_same m.map r 0))
          | other e ↦ as-mapped (omega (arith, when-other x r 1 e)) (update_other m.map r 0 x e)
        ];
        own = record { lengths = lengths w; place = place_holds w; note = tt };
        kept = entries-kept m r 0 shut;
        exchanges = λ ℓ. as_before refl refl;
      })

  -- Step 7 of an allocate: the descriptor, which is EMPTY, opens the region for the class, and all its blocks are
  -- to be carved.
  pub open-inv : (c d r : ℕ) → Turn area m t (task_of (working (a7 c d r)) k)
      → KeepsInvariant area (a7_step t k c d r m)
  open-inv c d r w =
      let D = m.descriptor d in
      let F = m.descriptor in
      let o = place_holds w in
      let z = no-open w r (omega (arith, when-same r 1)) in
      turn-inv w _ (task_of (working (a8 c r 0)) k) refl (record {
        descriptors = λ x. omega (
          arith,
          total-update DESCRIPTORS (full_weight x) F d E fits,
          ap (λ (s : State). when x d (one_if_full s)) empty,
          when-zero x d,
        );
        regions = λ x. omega (arith, total-update DESCRIPTORS (open_weight x) F d E fits, shut (one x D.region));
        classes = λ f x h. classes f x;
        spares = λ x. fewer (omega (
          arith,
          weight-update (λ (G : Descriptor). one_if_empty G.state) F d E x,
          ap (λ (s : State). when x d (one_if_empty s)) empty,
          when-zero x d,
        ));
        blocks = λ v. omega (
          arith,
          total-update DESCRIPTORS (chain_weight v) F d E fits,
          total-update DESCRIPTORS (inside_weight v) F d E fits,
          to-carve v,
          shut (count v D.chain),
          shut (count_block v D.region D.class),
        );
        block_classes = λ f v. omega (
          arith,
          w.inv.block_classes f v,
          total-update DESCRIPTORS (chain_class_weight f v) F d E fits,
          total-update DESCRIPTORS (inside_class_weight f v) F d E fits,
          ap (when f c) (to-carve v),
          shut (when f D.class (count v D.chain)),
          shut (when f D.class (count_block v D.region D.class)),
          when-zero f c,
        );
        chains = update_all (λ j G. j < DESCRIPTORS → IfOpen G.state (OpenDescriptor G)) F d E
            (λ h. record { fits = o.0; inside = λ v. omega arith; sized = refl }) (λ j n. w.inv.chains j);
        closed = update_all (λ j G. j < DESCRIPTORS → IfEmpty G.state (ClosedDescriptor G)) F d E
            (λ h. tt) (λ j n. w.inv.closed j);
        maps = update_all
            (λ j G. j < DESCRIPTORS → IfOpen G.state (update m.map r (suc d) G.region ≡ suc j)) F d E
            (λ h. update_same m.map r (suc d)) (λ j n. maps-kept w.inv r (suc d) z j);
        entries = update_all (λ j x. x ≤ DESCRIPTORS) m.map r (suc d) fits (λ j n. w.inv.entries j);
        unmapped = λ x. elim (same? x r) [
          | same e ↦ opens (rw e (omega (
            arith,
            total-update DESCRIPTORS (open_weight r) F d E fits,
            shut (one r D.region),
            when-same r 1,
          )))
          | other e ↦ as-mapped (omega arith) (update_other m.map r (suc d) x e)
        ];
        own = record { lengths = lengths w; place = (o.0, o.1, omega (arith, per_region-low c)); note = tt };
        kept = entries-kept m r (suc d) z;
        exchanges = λ ℓ. as_before refl refl;
      })
    where
      E : Descriptor
      E = record { state = FULL; region = r; class = c; chain = [] }

      fits : d < DESCRIPTORS
      fits = (in-hand w d (omega (arith, when-same d 1))).0

      empty : (m.descriptor d).state ≡ EMPTY
      empty = spare-empty w d (omega (arith, when-same d 1))

      -- the descriptor, which was EMPTY, counted for nothing
      shut : (i : ℕ) → if_open (m.descriptor d).state i ≡ 0
      shut i = ap (λ (s : State). if_open s i) empty

      -- the blocks to be carved are those of the region
      to-carve : (v : ℕ) → count v (blocks_from r c 0 (per_region c - 0)) ≡ count_block v r c
      to-carve v =
          ap (λ (n : ℕ). count v (blocks_from r c 0 n)) (sub-zero (per_region c)) ∙ sym (is_block-row v r c)

      -- the descriptor is FULL now, and so on no list and in no hand; the others are as they were
      classes : (f x : ℕ) → Bounded
          (count x (m.row f) + descriptor_class_weight f x t (task_of (working (a7 c d r)) k))
          (count x (m.row f) + descriptor_class_weight f x t (task_of (working (a8 c r 0)) k))
          (one f (m.descriptor x).class) (one f (update m.descriptor d E x).class)
          (total DESCRIPTORS (full_weight x) (update m.descriptor d E))
      classes f x = elim (same? x d) [
        | same h ↦ rw h (enough (omega (
          arith,
          total-one DESCRIPTORS (full_weight d) (update m.descriptor d E) d fits,
          ap (λ (G : Descriptor). when d d (one_if_full G.state)) (update_same m.descriptor d E),
          when-same d 1,
        )))
        | other h ↦
            fewer (omega (arith, ap (λ (G : Descriptor). one f G.class) (update_other m.descriptor d E x h)))
      ]
