-- Steps 4 and 8 of allocate, in both pools: a block of a taken chain, or of a new region, goes to the cache.
use mathlib.Core.Path.{◌≡◌, refl, sym, ap, subst, ◌∙◌}
use mathlib.Core.Bool.{◌&&◌}
use mathlib.Core.List.{List, [], ◌∷◌}
use Prim.Native.Nat.{ℕ, suc, ◌+◌, ◌-◌, ◌≤◌, ◌<◌}
use native.Mathlib.Omega.{arith}
use native.Mathlib.Numerals.{add-one}
use native.Mathlib.Decide.{ℕ_discrete}
use borrow.Author.Tests.{eq-eqb, ne_eqb, le-leb, lt-ltb}
use lib.Dec.{eqb, ltb}
use lib.ListN.{length}
use Rattle.rows.specs.Branch.{if}
use Rattle.rows.specs.Counting.{count}
use Rattle.rows.specs.Linked.{Linked}
use Rattle.rows.proofs.Linked.{linked-frame}
use Rattle.rows.proofs.Weights.{when-same}
use Rattle.fields.specs.Columns.{View, ◌:=◌}
use Rattle.classes.specs.Classes.{per_region}
use Rattle.classes.specs.Geometry.{unit_of, index_of, BlockOf}
use Rattle.classes.proofs.BlockUnits.{block_at, index_below, region-is, unit-again}
use Rattle.classes.proofs.Tables.{per_region-high}
use Rattle.links.specs.Link.{link}
use Rattle.plain.specs.State.{Place, a1, a4, a8, Mem, working}
use Rattle.plain.specs.Moves.{nothing, going}
use Rattle.plain.specs.Steps as Steps
use Rattle.plain.specs.Blocks.{blocks_from, count_block}
use Rattle.plain.specs.Held.{under_way}
use Rattle.plain.proofs.Blocks.{counts-block}
use Rattle.plain.proofs.Owners.{home_of}
use Rattle.plain.proofs.PlaceAlone.{place_holds}
use Rattle.control.specs.Layout.{TaskPlace, TaskClass, TaskRegion, TaskIndex, TaskLeft, CacheTop, CacheCount}
use Rattle.control.specs.Places.{A1, A4, A8}
use Rattle.control.specs.Answers.{Accepted}
use Rattle.stepped.specs.Ranges.{one_to, is_top}
use Rattle.stepped.specs.Allocate as Allocate
use Rattle.agreement.specs.Contents.{slot_of}
use Rattle.agreement.specs.Relation.{r_a1, r_a4, r_a8, r_working}
use Rattle.agreement.proofs.BothPass.{both_true}
use Rattle.agreement.proofs.Slots.{to_place, to_chain}
use Rattle.agreement.proofs.ListTops.{first_of, rest_of}
use Rattle.agreement.proofs.TaskBlocks.{home_below, mine-under, row-agrees}
use Rattle.agreement.proofs.Both.{Both, pass, meet, miss}
use Rattle.agreement.proofs.Turns.{At, cache-count}
use Rattle.agreement.proofs.Caching.{top-tested, push-both}

-- a block of a region r that is under way is in the area
under-region : {regions : ℕ} {v : View} {area : List ℕ} {m : Mem} {t : ℕ} {p : Place} {k : ℕ → List ℕ} {r c u : ℕ}
    → At regions v area m t p k → BlockOf r c u → 1 ≤ count u (under_way p) → r < regions
under-region {u = u} w b o = rw (← (region-is b)) (home_below w.pair (home_of w.pair.turn u o))

module _ {regions : ℕ} {v : View} {area : List ℕ} {m : Mem} {t : ℕ} {k : ℕ → List ℕ} where
  -- ---- step 8

  -- block i is among those that are still to be carved
  pub carved-here : At regions v area m t (working (a8 (v (TaskClass t)) (v (TaskRegion t)) (v (TaskIndex t)))) k
      → 1 ≤ count (unit_of (v (TaskRegion t)) (v (TaskClass t)) (v (TaskIndex t)))
      (blocks_from (v (TaskRegion t)) (v (TaskClass t)) (v (TaskIndex t))
      (per_region (v (TaskClass t)) - v (TaskIndex t)))
  carved-here w =
      let c = v (TaskClass t) in
      let r = v (TaskRegion t) in
      let i = v (TaskIndex t) in
      let f : per_region c - i ≡ suc (per_region c - suc i) = omega (arith, place_holds w.pair.turn) in
      omega (arith, ap (λ (n : ℕ). count (unit_of r c i) (blocks_from r c i n)) f, when-same (unit_of r c i) 1)

  put_both : At regions v area m t (working (a8 (v (TaskClass t)) (v (TaskRegion t)) (v (TaskIndex t)))) k
      → v (TaskPlace t) ≡ A8
      → (d : Dec (suc (v (TaskIndex t)) ≡ per_region (v (TaskClass t))))
      → Both regions v area m
      (Allocate.a8_put v (link area) regions t (v (TaskClass t))
      (unit_of (v (TaskRegion t)) (v (TaskClass t)) (v (TaskIndex t)))
      (v (TaskIndex t)) (v (CacheCount t (v (TaskClass t)))) (v (CacheTop t (v (TaskClass t))))) (
        Steps.cached t k (v (TaskClass t))
            (unit_of (v (TaskRegion t)) (v (TaskClass t)) (v (TaskIndex t)) ∷ k (v (TaskClass t)))
            (working (if d (a1 (v (TaskClass t))) (a8 (v (TaskClass t)) (v (TaskRegion t)) (suc (v (TaskIndex t)))))) m,
        going nothing,
      )
  unfolding Allocate.a8_put
  put_both w e (yes f) =
      let c = v (TaskClass t) in
      let i = v (TaskIndex t) in
      meet _ (eqb (i + 1) (per_region c)) (eq-eqb (i + 1) (per_region c) (omega arith))
      (push-both w Accepted nothing (TaskPlace t := A1 ∷ []) (unit_of (v (TaskRegion t)) c i)
      (to_place A1 (slot_of v t))
      (working (a1 c))
      (carved-here w) (omega (arith, place_holds w.pair.turn)) (omega (arith, w.pair.turn.fits)) (refl, refl)
      refl (rw (eq-eqb t t refl)) (λ j d. rw (ne_eqb t j d)) refl refl (r_working (r_a1 refl)))
  put_both w e (no f) =
      let c = v (TaskClass t) in
      let r = v (TaskRegion t) in
      let i = v (TaskIndex t) in
      miss _ (eqb (i + 1) (per_region c)) (ne_eqb (i + 1) (per_region c) (λ g. f (omega arith)))
      (push-both w Accepted nothing (TaskIndex t := (i + 1) ∷ []) (unit_of r c i)
      (to_chain r (suc i) (v (TaskLeft t)) (slot_of v t))
      (working (a8 c r (suc i))) (carved-here w) (omega (arith, place_holds w.pair.turn))
      (omega (arith, w.pair.turn.fits, place_holds w.pair.turn, per_region-high c)) (refl, refl)
      refl (rw (eq-eqb t t refl, add-one i)) (λ j d. rw (ne_eqb t j d)) refl refl (r_working (r_a8 e)))

  pub a8-both : At regions v area m t (working (a8 (v (TaskClass t)) (v (TaskRegion t)) (v (TaskIndex t)))) k
      → v (TaskPlace t) ≡ A8
      → Both regions v area m (Allocate.a8 v (link area) regions t (v (TaskClass t)))
      (Steps.step_at t k (a8 (v (TaskClass t)) (v (TaskRegion t)) (v (TaskIndex t))) m)
  unfolding Allocate.a8
  a8-both w e =
      let c = v (TaskClass t) in
      let r = v (TaskRegion t) in
      let i = v (TaskIndex t) in
      let n = v (CacheCount t c) in
      let x = v (CacheTop t c) in
      let h : i < per_region c = (place_holds w.pair.turn).2 in
      pass (ltb r regions && ltb i (per_region c) && ltb n (per_region c) && is_top regions c n x)
      (both_true (both_true (both_true
      (lt-ltb r regions (under-region w (block_at r c i h) (carved-here w)))
      (lt-ltb i (per_region c) h))
      (lt-ltb n (per_region c) (omega (arith, cache-count w, place_holds w.pair.turn))))
      (top-tested w))
      (put_both w e (ℕ_discrete (suc i) (per_region c)))

  -- ---- step 4: the chain's first block is where the index says

  -- the block x moves, and q is left
  move-both : (x : ℕ) (q : List ℕ) → At regions v area m t (working (a4 (v (TaskClass t)) x q)) k → v (TaskPlace t) ≡ A4
      → Linked (link area) (index_of (v (TaskClass t))) (per_region (v (TaskClass t))) (link area x) q
      → v (TaskLeft t) ≡ suc (length q)
      → ((y : ℕ) → count y (x ∷ q) ≤ count_block y (v (TaskRegion t)) (v (TaskClass t)))
      → Both regions v area m
      (Allocate.a4_move v (link area) regions t (v (TaskClass t)) x (v (TaskLeft t))
      (v (CacheCount t (v (TaskClass t))))
      (v (CacheTop t (v (TaskClass t)))))
      (Steps.step_at t k (a4 (v (TaskClass t)) x q) m)
  unfolding Allocate.a4_move
  move-both x [] w e l f h =
      let c = v (TaskClass t) in
      meet _ (eqb (v (TaskLeft t)) 1) (eq-eqb (v (TaskLeft t)) 1 f)
      (push-both w Accepted nothing (TaskPlace t := A1 ∷ []) x (to_place A1 (slot_of v t)) (working (a1 c))
      (omega (arith, when-same x 1)) (omega (arith, place_holds w.pair.turn)) (omega (arith, w.pair.turn.fits))
      (refl, refl)
      refl (rw (eq-eqb t t refl)) (λ j d. rw (ne_eqb t j d)) refl refl (r_working (r_a1 refl)))
  move-both x (y ∷ q) w e l f h =
      let c = v (TaskClass t) in
      let r = v (TaskRegion t) in
      let left = v (TaskLeft t) in
      let next = link area x in
      let o : 1 ≤ count x (x ∷ y ∷ q) = omega (arith, when-same x 1) in
      let b : BlockOf r c y = counts-block r c y (omega (arith, h y, when-same y 1)) in
      let i : next < per_region c = omega (arith, first_of l, index_below b) in
      let once : count x (y ∷ q) ≡ 0 = omega (arith, (mine-under w.pair x o).2, when-same x 1) in
      miss _ (eqb left 1) (ne_eqb left 1 (omega arith)) (pass (ltb next (per_region c)) (lt-ltb next (per_region c) i)
      (push-both w Accepted nothing (TaskIndex t := next ∷ TaskLeft t := (left - 1) ∷ []) x
      (to_chain r next (left - 1) (slot_of v t))
      (working (a4 c y q)) o (omega (arith, place_holds w.pair.turn))
      (omega (arith, w.pair.turn.fits, i, place_holds w.pair.turn, per_region-high c)) (refl, refl)
      refl (rw (eq-eqb t t refl)) (λ j d. rw (ne_eqb t j d)) refl refl
      (r_working
      (r_a4 e (linked-frame (row-agrees w.pair x (v (CacheTop t c)) (y ∷ q) o (λ z. omega arith) once) l)
      (omega arith)
      (λ z. omega (arith, h z))))))

  pub a4-both : {x : ℕ} {q : List ℕ} → At regions v area m t (working (a4 (v (TaskClass t)) x q)) k
      → v (TaskPlace t) ≡ A4
      → Linked (link area) (index_of (v (TaskClass t))) (per_region (v (TaskClass t))) (v (TaskIndex t)) (x ∷ q)
      → v (TaskLeft t) ≡ suc (length q)
      → ((y : ℕ) → count y (x ∷ q) ≤ count_block y (v (TaskRegion t)) (v (TaskClass t)))
      → Both regions v area m (Allocate.a4 v (link area) regions t (v (TaskClass t)))
      (Steps.step_at t k (a4 (v (TaskClass t)) x q) m)
  unfolding Allocate.a4
  a4-both {x} {q} w e l f h =
      let c = v (TaskClass t) in
      let r = v (TaskRegion t) in
      let i = v (TaskIndex t) in
      let left = v (TaskLeft t) in
      let n = v (CacheCount t c) in
      let top = v (CacheTop t c) in
      let o : 1 ≤ count x (x ∷ q) = omega (arith, when-same x 1) in
      let b : BlockOf r c x = counts-block r c x (omega (arith, h x)) in
      let z : unit_of r c i ≡ x = ap (unit_of r c) (first_of l) ∙ unit-again b in
      let p = (place_holds w.pair.turn).1 in
      pass (ltb r regions && ltb i (per_region c) && one_to (per_region c) left && ltb n (per_region c)
      && is_top regions c n top)
      (both_true (both_true (both_true (both_true
      (lt-ltb r regions (under-region w b o))
      (lt-ltb i (per_region c) (omega (arith, first_of l, index_below b))))
      (both_true (le-leb 1 left (omega arith)) (le-leb left (per_region c) (omega arith))))
      (lt-ltb n (per_region c) (omega (arith, cache-count w))))
      (top-tested w))
      (subst (λ (u : ℕ). Both regions v area m (Allocate.a4_move v (link area) regions t c u left n top)
      (Steps.step_at t k (a4 c x q) m))
      (sym z) (move-both x q w e (rest_of l) f h))
