-- Step 1 of a free, in both pools: the block goes on the cache, or the cache is full.
use mathlib.Core.Path.{refl}
use mathlib.Core.List.{List, [], ◌∷◌}
use Prim.Native.Nat.{ℕ, ◌≤◌, ◌<◌}
use native.Mathlib.Omega.{arith}
use native.Mathlib.Decide.{dec_lt}
use borrow.Author.Tests.{eq-eqb, ne_eqb, le-leb, lt-ltb, ltb-true}
use lib.Dec.{ltb}
use lib.ListN.{length}
use Rattle.rows.specs.Counting.{count}
use Rattle.rows.proofs.Weights.{when-same}
use Rattle.fields.specs.Columns.{View, ◌:=◌}
use Rattle.links.specs.Link.{link}
use Rattle.classes.specs.Classes.{per_region}
use Rattle.classes.proofs.Tables.{per_region-high}
use Rattle.plain.specs.State.{Mem, f1, f2, idle, working, to_free}
use Rattle.plain.specs.Moves.{finished}
use Rattle.plain.specs.Steps as Steps
use Rattle.plain.proofs.PlaceAlone.{lengths}
use Rattle.control.specs.Layout.{CacheCount, CacheTop, GroupCount, TaskClass, TaskPlace, TaskUnit}
use Rattle.control.specs.Places.{IDLE, F2}
use Rattle.stepped.specs.Free as Free
use Rattle.agreement.proofs.Purposes.{is-freeing}
use Rattle.agreement.specs.Contents.{slot_of}
use Rattle.agreement.specs.Relation.{r_f2, r_idle, r_working}
use Rattle.agreement.proofs.BothPass.{both_true}
use Rattle.agreement.proofs.Slots.{to_grouped, to_place}
use Rattle.agreement.proofs.TurnInBoth.{mine}
use Rattle.agreement.proofs.TaskBlocks.{mine-apart, mine-under, under-unit}
use Rattle.agreement.proofs.Both.{Both, decide, pass}
use Rattle.agreement.proofs.Turns.{At, cache-count, goes}
use Rattle.agreement.proofs.Caching.{cache-push, top-tested, under-max}

module _ {regions : ℕ} {v : View} {area : List ℕ} {m : Mem} {t : ℕ} {k : ℕ → List ℕ}
    (w : At regions v area m t (working (f1 (v (TaskClass t)) (v (TaskUnit t)))) k) where
  -- the block that is freed is under way
  under : 1 ≤ count (v (TaskUnit t)) (v (TaskUnit t) ∷ [])
  under = omega (arith, when-same (v (TaskUnit t)) 1)

  put_both : v (CacheCount t (v (TaskClass t))) < per_region (v (TaskClass t))
      → Both regions v area m
      (Free.f1_put v (link area) regions t (v (TaskClass t)) (v (TaskUnit t)) (v (CacheCount t (v (TaskClass t))))
      (v (CacheTop t (v (TaskClass t)))))
      (Steps.cached t k (v (TaskClass t)) (v (TaskUnit t) ∷ k (v (TaskClass t))) idle m, finished 0)
  unfolding Free.f1_put
  put_both l =
      let c = v (TaskClass t) in
      let u = v (TaskUnit t) in
      pass _ (both_true (under-unit w.pair u under) (top-tested w)) (record {
        says = refl;
        keeps = (refl, refl);
        rel = cache-push w (TaskPlace t := IDLE ∷ []) u (to_place IDLE (slot_of v t)) idle under
            refl (rw (eq-eqb t t refl)) (λ j n. rw (ne_eqb t j n)) refl refl (r_idle refl);
        sound = omega (arith, w.pair.turn.fits, (mine w.pair).fits, under-max w u under, per_region-high c);
        apart = (mine-apart w.pair u (mine-under w.pair u under).0, tt);
      })

  pub f1-both : Both regions v area m (Free.f1 v (link area) regions t (v (TaskClass t)))
      (Steps.step_at t k (f1 (v (TaskClass t)) (v (TaskUnit t))) m)
  unfolding Free.f1
  f1-both =
      let c = v (TaskClass t) in
      let n = v (CacheCount t c) in
      let e = cache-count w in
      pass _ (le-leb n (per_region c) (omega (arith, lengths w.pair.turn c)))
      (decide (ltb n (per_region c)) (dec_lt (length (k c)) (per_region c))
      (λ h. omega (arith, ltb-true n (per_region c) h)) (λ h. lt-ltb n (per_region c) (omega arith))
      (λ h l. put_both (omega arith))
      (λ h l. record {
        says = refl;
        keeps = (refl, refl);
        rel = goes w (TaskPlace t := F2 ∷ GroupCount t := 0 ∷ []) (to_place F2 (to_grouped 0 (slot_of v t)))
            (working (f2 c (to_free (v (TaskUnit t))) [])) refl (rw (eq-eqb t t refl)) (λ j n. rw (ne_eqb t j n)) refl
            refl
            (rw (← (is-freeing {u = v (TaskUnit t)} (λ i. omega (arith, under-max w (v (TaskUnit t)) under))))
            (r_working (r_f2 refl refl)));
        sound = omega (arith, w.pair.turn.fits);
        apart = tt;
      }))
