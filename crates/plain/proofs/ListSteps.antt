-- The steps of the pops and pushes.
use mathlib.Core.Path.{◌≡◌, refl, ap}
use mathlib.Core.List.{List, ◌∷◌, []}
use Prim.Native.Nat.{ℕ, ◌+◌}
use native.Mathlib.Omega.{arith}
use native.Mathlib.Decide.{ℕ_discrete}
use lib.ListN.{length}
use Rattle.limits.specs.Limits.{SPARE_REGIONS, SPARE_DESCRIPTORS}
use Rattle.rows.specs.Update.{update}
use Rattle.rows.specs.Weights.{one}
use Rattle.rows.specs.Counting.{count}
use Rattle.rows.proofs.Weights.{when-same, when-other, when-add, when-zero}
use Rattle.plain.specs.State.{Phase, read, next, exchange, Pop, partial, spare, region, Push, retire, back}
use Rattle.plain.specs.State.{release, offer, popping, pushing, Mem, working}
use Rattle.plain.specs.Steps.{pop_list, push_list, pop_read, pop_lost, pop_take, pop_step, push_put, push_step}
use Rattle.plain.proofs.CallTests.{either, KeepsInvariant}
use Rattle.plain.proofs.Turn.{Turn}
use Rattle.plain.proofs.PlaceAlone.{task_of, place_holds, note_holds, lengths, placed, placed-empty}
use Rattle.plain.proofs.Held.{alike}
use Rattle.plain.proofs.Exchanged.{relisted, released}
use Rattle.plain.proofs.Continues.{f6-held, f5-held, f6-holds, f5-holds, f6-note, f5-note}

module _ {area : ℕ} {m : Mem} {t : ℕ} {k : ℕ → List ℕ} where
  -- ---- pops

  -- A pop that finds its list empty.
  empty-inv : (p : Pop) → Turn area m t (task_of (working (popping p read)) k)
      → KeepsInvariant area (pop_read t k p [] m)
  empty-inv (partial c) w = placed w _ refl (place_holds w) tt
  empty-inv (spare c) w = placed-empty w _ refl refl tt tt
  empty-inv (region c d) w = placed w _ refl (place_holds w) tt

  -- A lost exchange, and an exchange of an empty row, go back to the read.
  lost-inv : (p : Pop) (φ : Phase) → Turn area m t (task_of (working (popping p φ)) k)
      → KeepsInvariant area (pop_lost t k p m)
  lost-inv p φ w = placed w _ refl (place_holds w) tt

  -- A won exchange takes the top item.
  take-inv : (p : Pop) (φ : Phase) (q : List ℕ) → m.row (pop_list p) ≡ q
      → Turn area m t (task_of (working (popping p φ)) k)
      → KeepsInvariant area (pop_take t k p q m)
  take-inv p φ [] e w = lost-inv p φ w
  take-inv (partial c) φ (y ∷ q) e w =
      relisted w _ _ _ (alike refl) (omega (arith, place_holds w)) (rw e (record {
        blocks = λ v. refl;
        block_classes = λ f v. omega arith;
        descriptors = λ x. omega arith;
        classes = λ f x l. omega (arith, when-add f c (one x y) (count x q), when-add f c (one x y) 0);
        spares = λ x. omega (arith, when-add SPARE_DESCRIPTORS c (one x y) (count x q));
        regions = λ x. refl;
        unmapped = λ x. omega arith;
      })) (place_holds w) tt
  take-inv (spare c) φ (y ∷ q) e w =
      relisted w _ _ _ (alike refl) (omega arith) (rw e (record {
        blocks = λ v. refl;
        block_classes = λ f v. omega arith;
        descriptors = λ x. omega arith;
        classes = λ f x l. omega (arith, when-add f SPARE_DESCRIPTORS (one x y) (count x q));
        spares = λ x.
            omega (arith, when-same SPARE_DESCRIPTORS (one x y + count x q), when-same SPARE_DESCRIPTORS (count x q));
        regions = λ x. refl;
        unmapped = λ x. omega arith;
      })) (place_holds w) tt
  take-inv (region c d) φ (y ∷ q) e w =
      released w _ _ (alike refl) (rw e (record {
        blocks = λ v. refl;
        block_classes = λ f v. omega arith;
        descriptors = λ x. refl;
        classes = λ f x. omega arith;
        spares = λ x. omega arith;
        regions = λ x. omega arith;
        unmapped = λ x. omega arith;
      })) (place_holds w) tt

  -- The three steps of a pop.
  pub pop-inv : (p : Pop) (φ : Phase) → Turn area m t (task_of (working (popping p φ)) k)
      → KeepsInvariant area (pop_step t k p φ m)
  pop-inv p read w = by (m.row (pop_list p)) refl
    where
      by : (q : List ℕ) → m.row (pop_list p) ≡ q → KeepsInvariant area (pop_read t k p q m)
      by [] e = empty-inv p w
      by (x ∷ q) e =
          placed w _ refl (place_holds w) (omega arith, λ f. omega (arith, ap length e))
  pop-inv p (next n) w = placed w _ refl (place_holds w) (note_holds w)
  pop-inv p (exchange n) w = either (KeepsInvariant area) (ℕ_discrete (m.won (pop_list p)) n) _ _
      (λ e. take-inv p (exchange n) (m.row (pop_list p)) refl w) (λ e. lost-inv p (exchange n) w)

  -- ---- pushes

  -- A won exchange puts the item on top.
  put_inv : (p : Push) (φ : Phase) → Turn area m t (task_of (working (pushing p φ)) k)
      → KeepsInvariant area (push_put t k p m)
  put_inv (retire c d) φ w =
      let q = m.row SPARE_DESCRIPTORS in
      relisted w _ _ _ (alike refl) (omega arith) (record {
        blocks = λ v. refl;
        block_classes = λ f v. omega arith;
        descriptors = λ x. omega arith;
        classes = λ f x l. omega (arith, when-other f SPARE_DESCRIPTORS (one x d + count x q) (omega arith));
        spares = λ x.
            omega (arith, when-same SPARE_DESCRIPTORS (one x d + count x q), when-same SPARE_DESCRIPTORS (count x q));
        regions = λ x. refl;
        unmapped = λ x. omega arith;
      }) (place_holds w) tt
  put_inv (back c d) φ w =
      let q = m.row SPARE_DESCRIPTORS in
      relisted w _ _ _ (alike refl) (omega arith) (record {
        blocks = λ v. refl;
        block_classes = λ f v. omega (arith, when-zero f 0);
        descriptors = λ x. omega arith;
        classes = λ f x l.
            omega (arith, when-other f SPARE_DESCRIPTORS (one x d + count x q) (omega arith), when-zero f 0);
        spares = λ x.
            omega (arith, when-same SPARE_DESCRIPTORS (one x d + count x q), when-same SPARE_DESCRIPTORS (count x q));
        regions = λ x. refl;
        unmapped = λ x. omega arith;
      }) tt tt
  put_inv (release c z d s r) φ w =
      released w _ _ (f5-held k s c z d) (record {
        blocks = λ v. refl;
        block_classes = λ f v. omega arith;
        descriptors = λ x. refl;
        classes = λ f x. omega arith;
        spares = λ x. omega arith;
        regions = λ x. omega arith;
        unmapped = λ x. omega arith;
      }) (f5-holds k (lengths w) s c z d (place_holds w).0 (place_holds w).1)
      (f5-note (update m.row SPARE_REGIONS (r ∷ m.row SPARE_REGIONS))
      (update m.won SPARE_REGIONS (m.won SPARE_REGIONS + 1)) m.map k s c z d)
  put_inv (offer c z d) φ w =
      let o = place_holds w in
      let q = m.row c in
      relisted w _ _ _ (f6-held k c z) (omega (arith, o)) (record {
        blocks = λ v. refl;
        block_classes = λ f v. omega arith;
        descriptors = λ x. omega arith;
        classes = λ f x l.
            omega (arith, when-add f c (one x d) (count x q), when-add f c (one x d) 0, when-zero f c);
        spares = λ x. omega (arith, when-other SPARE_DESCRIPTORS c (one x d + count x q) (omega (arith, o)));
        regions = λ x. refl;
        unmapped = λ x. omega arith;
      }) (f6-holds k (lengths w) c z o.0)
      (f6-note (update m.row c (d ∷ m.row c)) (update m.won c (m.won c + 1)) m.map k c z)

  -- The three steps of a push.
  pub push-inv : (p : Push) (φ : Phase) → Turn area m t (task_of (working (pushing p φ)) k)
      → KeepsInvariant area (push_step t k p φ m)
  push-inv p read w = placed w _ refl (place_holds w) (omega arith)
  push-inv p (next n) w = placed w _ refl (place_holds w) (note_holds w)
  push-inv p (exchange n) w = either (KeepsInvariant area) (ℕ_discrete (m.won (push_list p)) n) _ _
      (λ e. put_inv p (exchange n) w) (λ e. placed w _ refl (place_holds w) tt)
