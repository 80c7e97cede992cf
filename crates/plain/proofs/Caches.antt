-- The steps that move blocks between the task's own cache and what it has under way.
use mathlib.Core.Path.{◌≡◌, refl, sym, ap, ◌∙◌}
use mathlib.Core.List.{List, ◌∷◌, ◌++◌, []}
use Prim.Native.Nat.{ℕ, suc, ◌+◌, ◌-◌, ◌≤◌, ◌<◌}
use native.Mathlib.Omega.{arith}
use native.Mathlib.Decide.{ℕ_discrete, dec_lt}
use lib.ListN.{length, length-append}
use Rattle.limits.specs.Limits.{TASKS, CLASSES}
use Rattle.rows.specs.Comparisons.{same, other, same?}
use Rattle.rows.specs.Branch.{if}
use Rattle.rows.specs.Update.{update}
use Rattle.rows.specs.Weights.{when, one}
use Rattle.rows.specs.Counting.{count}
use Rattle.rows.specs.Totals.{total}
use Rattle.rows.proofs.Update.{update_same, update_all}
use Rattle.rows.proofs.Weights.{when-same, when-other, when-add, when-le, when-zero, weight-update}
use Rattle.rows.proofs.Counting.{count-append}
use Rattle.rows.proofs.Totals.{total-one, total-update}
use Rattle.classes.specs.Classes.{per_region}
use Rattle.classes.specs.Geometry.{unit_of, region_of}
use Rattle.classes.proofs.Tables.{per_region-low}
use Rattle.plain.specs.State.{Place, idle, a1, a4, a8, f1, f2, Task, Mem, working, Purpose}
use Rattle.plain.specs.Steps.{cached, a1_step, a8_step, f1_step, f2_step, step_at}
use Rattle.plain.specs.Blocks.{blocks_from}
use Rattle.plain.specs.Held.{hold, held, block_in, class_block_in, descriptor_in, spare_in, listed_in, region_in}
use Rattle.plain.specs.Held.{unmapped_in, under_way, own_blocks}
use Rattle.plain.specs.HolderWeights.{row_weight, block_weight}
use Rattle.plain.specs.TaskHolds.{Together, NoteHolds, PlaceHolds}
use Rattle.plain.specs.Invariant.{Invariant}
use Rattle.plain.proofs.CallTests.{either, KeepsInvariant}
use Rattle.plain.proofs.Homes.{inside-open}
use Rattle.plain.proofs.NotesKept.{as_before}
use Rattle.plain.proofs.Turn.{Turn, fewer, as-mapped, turn-inv, within}
use Rattle.plain.proofs.PlaceAlone.{task_of, place_holds, lengths, placed}

-- the place p has the blocks b under way, of the class c, and nothing else
abbrev pub HoldsBlocks : ℕ → List ℕ → Place → Type 0
HoldsBlocks c b p = held p ≡ hold c b [] [] []

module _ {area : ℕ} {m : Mem} {t : ℕ} {p : Place} {k : ℕ → List ℕ} (w : Turn area m t (task_of p k)) where
  -- A changed cache is no longer than n, if its new row is not.
  pub lengths-update : (c : ℕ) (q : List ℕ) → length q ≤ per_region c
      → (e : ℕ) → length (update k c q e) ≤ per_region e
  lengths-update c q l = update_all (λ e r. length r ≤ per_region e) k c q l (λ e d. lengths w e)

  -- A step that makes the cache of the class c the row q, and leaves the blocks b' under way, where b were, keeps
  -- the invariant if each block is as often in both together as before.
  pub recached : {b b' : List ℕ} (p' : Place) (c : ℕ) (q : List ℕ) → HoldsBlocks c b p → HoldsBlocks c b' p'
      → c < CLASSES → ((v : ℕ) → count v q + count v b' ≡ count v (k c) + count v b) → length q ≤ per_region c
      → PlaceHolds (update k c q) p' → NoteHolds m.row m.won m.map p'
      → Invariant area (cached t k c q p' m)
  recached {b} {b'} p' c q e e' l h n o z = within w (task_of p' (update k c q)) (record {
    blocks = λ v. omega (arith, total-update CLASSES (row_weight v) k c q l, h v, blocks v);
    block_classes = λ f v. omega (
      arith,
      weight-update (count v) k c q f,
      ap (class_block_in f v) e,
      ap (class_block_in f v) e',
      when-add f c (count v q) (count v b'),
      when-add f c (count v (k c)) (count v b),
      ap (when f c) (h v),
    );
    descriptors = λ x. ap (descriptor_in x) e'
        ∙ sym (ap (descriptor_in x) e);
    classes = λ f x. omega (
      arith,
      ap (listed_in f x) e',
      when-zero f c,
    );
    spares = λ x. omega (arith, ap (spare_in x) e');
    regions = λ r. ap (region_in r) e' ∙ sym (ap (region_in r) e);
    unmapped = λ r. omega (arith, ap (unmapped_in r) e');
  }) (record { lengths = lengths-update c q n; place = o; note = z })
    where
      blocks : (v : ℕ) → (count v (under_way p) ≡ count v b) × (count v (under_way p') ≡ count v b')
      blocks v = (ap (block_in v) e, ap (block_in v) e')

-- What a task has is in no user's hands.
pub not-in-hands : {area : ℕ} {m : Mem} {t : ℕ} {T : Task} (v : ℕ) → Turn area m t T → 1 ≤ block_weight v t T
    → m.hands v ≡ 0
not-in-hands {m = m} {t = t} v w h = omega (
  arith,
  w.inv.blocks v,
  inside-open w.inv v,
  total-one TASKS (block_weight v) m.task t w.fits,
  ap (block_weight v t) w.is,
)

-- the length of the changed cache
length-update : (k : ℕ → List ℕ) (c : ℕ) (q : List ℕ) → length (update k c q c) ≡ length q
length-update k c q = ap length (update_same k c q)

module _ {area : ℕ} {m : Mem} {t : ℕ} {k : ℕ → List ℕ} where
  -- ---- allocate

  -- Step 1: the top of the cache goes to a user's hands, or the cache is empty.
  pub a1-inv : (c : ℕ) (q : List ℕ) → k c ≡ q → Turn area m t (task_of (working (a1 c)) k)
      → KeepsInvariant area (a1_step t k c q m)
  a1-inv c [] e w = placed w _ refl (place_holds w, ap length e) tt
  a1-inv c (x ∷ q) e w = turn-inv w _ (task_of idle (update k c q)) refl (record {
    descriptors = λ y. omega arith;
    regions = λ r. omega arith;
    classes = λ f y l. fewer (omega (arith, when-zero f c, when-zero f 0));
    spares = λ y. fewer (omega arith);
    blocks = λ v. omega (
      arith,
      cached-out v,
      weight-update (λ n. n) m.hands x 1 v,
      ap (when v x) (not-in-hands x w (omega (arith, cached-out x, when-same x 1))),
      when-zero v x,
    );
    block_classes = λ f v. omega (
      arith,
      w.inv.block_classes f v,
      weight-update (count v) k c q f,
      when-le f c (count v q) (count v (k c)) (omega (arith, ap (count v) e)),
      when-zero f 0,
    );
    chains = w.inv.chains;
    closed = w.inv.closed;
    maps = w.inv.maps;
    entries = w.inv.entries;
    unmapped = λ r. as-mapped (omega arith) refl;
    own = record {
      lengths = lengths-update w c q (omega (arith, ap length e, lengths w c));
      place = tt;
      note = tt;
    };
    kept = λ r h. refl;
    exchanges = λ ℓ. as_before refl refl;
  })
    where
      -- the caches have lost the block
      cached-out : (v : ℕ) → total CLASSES (row_weight v) (update k c q) + one v x ≡ total CLASSES (row_weight v) k
      cached-out v = omega (arith, total-update CLASSES (row_weight v) k c q (place_holds w), ap (count v) e)

  -- Step 4: a block of the taken chain goes to the cache.
  pub a4-inv : (c x : ℕ) (q : List ℕ) → Turn area m t (task_of (working (a4 c x q)) k)
      → KeepsInvariant area (step_at t k (a4 c x q) m)
  a4-inv c x [] w =
      let o = place_holds w in
      recached w _ c _ refl refl o.0 (λ v. omega arith) (omega arith) o.0 tt
  a4-inv c x (y ∷ q) w =
      let o = place_holds w in
      recached w _ c _ refl refl o.0 (λ v. omega arith) (omega arith)
      (o.0, omega (arith, length-update k c (x ∷ k c))) tt

  -- Step 8: block i of the region is carved into the cache, which becomes q.
  carve-inv : (c r i : ℕ) (q : List ℕ) → ((v : ℕ) → count v q ≡ one v (unit_of r c i) + count v (k c))
      → length q ≡ suc (length (k c)) → Turn area m t (task_of (working (a8 c r i)) k)
      → (d : Dec (suc i ≡ per_region c))
      → Invariant area (cached t k c q (working (if d (a1 c) (a8 c r (suc i)))) m)
  carve-inv c r i q h n w (yes e) =
      let o = place_holds w in
      let f : per_region c - i ≡ 1 = omega arith in
      recached w (working (a1 c)) c q refl refl o.0
      (λ v. omega (arith, h v, ap (λ n. count v (blocks_from r c i n)) f)) (omega arith) o.0 tt
  carve-inv c r i q h n w (no e) =
      let o = place_holds w in
      let f : per_region c - i ≡ suc (per_region c - suc i) = omega arith in
      recached w (working (a8 c r (suc i))) c q refl refl o.0
      (λ v. omega (arith, h v, ap (λ n. count v (blocks_from r c i n)) f)) (omega arith)
      (o.0, omega (arith, length-update k c q), omega arith) tt

  -- The step itself.
  pub a8-inv : (c r i : ℕ) → Turn area m t (task_of (working (a8 c r i)) k) → KeepsInvariant area (a8_step t k c r i m)
  a8-inv c r i w = carve-inv c r i _ (λ v. omega arith) (omega arith) w (ℕ_discrete (suc i) (per_region c))

  -- ---- free

  -- Step 1: the block goes to the cache, or the cache is full.
  pub f1-inv : (c u : ℕ) → Turn area m t (task_of (working (f1 c u)) k) → KeepsInvariant area (f1_step t k c u m)
  f1-inv c u w = either (KeepsInvariant area) (dec_lt (length (k c)) (per_region c)) _ _
      (λ e. within w (task_of idle (update k c (u ∷ k c))) (record {
        blocks = λ v. omega (arith, total-update CLASSES (row_weight v) k c (u ∷ k c) (place_holds w));
        block_classes = λ f v. omega (
          arith,
          weight-update (count v) k c (u ∷ k c) f,
          when-add f c (one v u) (count v (k c)),
          when-add f c (one v u) 0,
          when-zero f c,
          when-zero f 0,
        );
        descriptors = λ x. refl;
        classes = λ f x. omega (arith, when-zero f 0);
        spares = λ x. omega arith;
        regions = λ x. refl;
        unmapped = λ x. omega arith;
      }) (record { lengths = lengths-update w c (u ∷ k c) (omega arith); place = tt; note = tt }))
      (λ e. placed w _ refl (place_holds w, omega (arith, per_region-low c), omega (arith, lengths w c), tt) tt)

  -- Step 2: the top of the cache joins the group, or the group is closed.
  pub f2-inv : (c : ℕ) (z : Purpose) (q g : List ℕ) → k c ≡ q → Turn area m t (task_of (working (f2 c z g)) k)
      → KeepsInvariant area (f2_step t k c z q g m)
  f2-inv c z [] [] e w = absurd (omega (arith, (place_holds w).1, ap length e))
  f2-inv c z [] (y ∷ g) e w =
      let o = place_holds w in
      placed w _ refl (o.0, omega (arith, ap length e), o.3) tt
  f2-inv c z (x ∷ q) [] e w =
      let o = place_holds w in
      recached w {b = own_blocks z ++ []} {b' = own_blocks z ++ (x ∷ [])} _ c _ refl refl o.0
      (λ v. omega (arith, ap (count v) e, count-append v (own_blocks z) [], count-append v (own_blocks z) (x ∷ [])))
      (omega (arith, ap length e))
      (o.0, omega arith, omega (arith, length-update k c q, ap length e), λ v h. absurd (omega arith)) tt
  f2-inv c z (x ∷ q) (y ∷ g) e w =
      let o = place_holds w in
      either (KeepsInvariant area) (ℕ_discrete (region_of x) (region_of y)) _ _
      (λ f. recached w _ c _ refl refl o.0 joined
      (omega (arith, ap length e, lengths w c))
      (o.0, omega arith, longer, grown f) tt)
      (λ f. placed w _ refl (o.0, omega (arith, o.2), o.3) tt)
    where
      joined : (v : ℕ)
          → count v q + count v (own_blocks z ++ (y ∷ (g ++ (x ∷ []))))
          ≡ count v (k c) + count v (own_blocks z ++ (y ∷ g))
      joined v = omega (
        arith,
        ap (count v) e,
        count-append v g (x ∷ []),
        count-append v (own_blocks z) (y ∷ (g ++ (x ∷ []))),
        count-append v (own_blocks z) (y ∷ g),
      )

      longer : length (update k c q c) + length (y ∷ (g ++ (x ∷ []))) ≤ per_region c
      longer =
          omega (arith, length-update k c q, ap length e, length-append g (x ∷ []), (place_holds w).2)

      grown : region_of x ≡ region_of y → Together y (g ++ (x ∷ []))
      grown f v h = elim (same? v x) [
        | same d ↦ rw d f
        | other d ↦ (place_holds w).3 v (omega (arith, count-append v g (x ∷ []), when-other v x 1 d))
      ]
