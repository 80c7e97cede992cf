-- Step 2 of a free, in both pools: a cache's top goes into the group, or the group is closed.
use mathlib.Core.Path.{◌≡◌, refl, sym, ap, ◌∙◌}
use mathlib.Core.Bool.{false, ◌&&◌}
use mathlib.Core.List.{List, [], ◌∷◌, ◌++◌}
use Prim.Native.Nat.{ℕ, ◌+◌, ◌-◌, ◌<◌}
use native.Mathlib.Omega.{arith}
use native.Mathlib.Decide.{ℕ_discrete}
use borrow.Author.Tests.{eq-eqb, ne_eqb, lt-ltb, le-leb, eqb-true}
use lib.Dec.{eqb, leb, ltb}
use lib.ListN.{length, length-append}
use Rattle.rows.specs.Counting.{count}
use Rattle.rows.specs.Linked.{ends}
use Rattle.rows.specs.Update.{update}
use Rattle.rows.proofs.Linked.{linked-frame, linked-append-one}
use Rattle.fields.specs.Columns.{View, ◌:=◌, assigned}
use Rattle.links.specs.Link.{link}
use Rattle.classes.specs.Classes.{per_region}
use Rattle.classes.specs.Geometry.{index_of, region_of}
use Rattle.classes.proofs.Tables.{per_region-high}
use Rattle.plain.specs.State.{Mem, f2, f3-read, working}
use Rattle.plain.specs.Moves.{going, nothing}
use Rattle.plain.specs.Steps as Steps
use Rattle.plain.proofs.PlaceAlone.{lengths, place_holds, task_of}
use Rattle.control.specs.Layout.{CacheTop, CacheCount, GroupCount, GroupFirst, GroupLast, TaskRegion, TaskClass}
use Rattle.control.specs.Layout.{TaskPlace, TaskUnit}
use Rattle.control.specs.Places.{F2, F3_READ}
use Rattle.stepped.specs.Free as Free
use Rattle.agreement.proofs.Purposes.{group-in}
use Rattle.agreement.specs.Contents.{slot_of, contents_of, purpose_of}
use Rattle.agreement.specs.Relation.{GroupRelated, r_f2_more, r_f3_read, r_working}
use Rattle.agreement.proofs.BothPass.{both_true}
use Rattle.agreement.proofs.Slots.{to_place, to_group, to_cache}
use Rattle.agreement.proofs.TurnInBoth.{mine}
use Rattle.agreement.proofs.TaskBlocks.{cache-agrees, mine-apart, mine-under, re-cache, row-agrees, wrote}
use Rattle.agreement.proofs.Both.{Both, pass, meet, miss, decide, by_row, has-top}
use Rattle.agreement.proofs.Turns.{At, goes, cache-count}
use Rattle.agreement.proofs.CacheTop.{topped}
use Rattle.agreement.proofs.TurnWrites.{with-cache, own-written, link-written}
use Rattle.agreement.proofs.GroupBlocks.{same-group, last-at, last-below, last_under, front_out, front-sub}
use Rattle.agreement.proofs.GroupBlocks.{region-below}

module _ {regions : ℕ} {v : View} {area : List ℕ} {m : Mem} {t : ℕ} {k : ℕ → List ℕ} where
  -- the first block of a group
  first-both : At regions v area m t (working (f2 (v (TaskClass t)) (purpose_of (v (TaskUnit t))) [])) k
      → v (TaskPlace t) ≡ F2
      → (x : ℕ) (q : List ℕ) → k (v (TaskClass t)) ≡ x ∷ q
      → Both regions v area m
      (Free.f2_first v (link area) regions t (v (TaskClass t)) (v (CacheCount t (v (TaskClass t))))
      (v (CacheTop t (v (TaskClass t)))))
      (Steps.f2_step t k (v (TaskClass t)) (purpose_of (v (TaskUnit t))) (x ∷ q) [] m)
  unfolding Free.f2_first
  first-both w e x q f =
      let c = v (TaskClass t) in
      let u = v (CacheTop t c) in
      let n = v (CacheCount t c) in
      let T = topped w x q f in
      let i = index_of c u in
      let s = to_group (region_of u) i i 1 (to_cache c (link area u) (n - 1) (slot_of v t)) in
      let p = working (f2 c (purpose_of (v (TaskUnit t))) (u ∷ [])) in
      let v₁ =
      assigned (TaskRegion t := region_of u ∷ GroupFirst t := i ∷ GroupLast t := i ∷ GroupCount t := 1 ∷ []) v in
      pass _ T.below (record {
        says = refl;
        keeps = (refl, refl);
        rel = rw (← T.is) (own-written w _ s (task_of p (update k c q))
            (with-cache v₁ c (link area u) (n - 1) (mine w.pair).fits
            (record { shared = refl; own = rw (eq-eqb t t refl); others = λ j d. rw (ne_eqb t j d) }))
            (re-cache w.pair _ _ s p c (link area u) (n - 1) q (λ e l v h. refl) refl refl T.linked T.rest
            (r_working (r_f2_more e (record {
              front = [];
              last = u;
              is = refl;
              linked = ends refl;
              last_is = refl;
              counts = refl;
              region = refl;
            })))));
        sound = omega (
          arith,
          w.pair.turn.fits,
          (mine w.pair).fits,
          w.fitting (CacheCount t c) (omega (arith, w.pair.turn.fits, (mine w.pair).fits)),
          T.unit,
          T.link-max,
          T.index,
          per_region-high c,
        );
        apart = tt;
      })

  module _ {y : ℕ} {g : List ℕ}
      (w : At regions v area m t (working (f2 (v (TaskClass t)) (purpose_of (v (TaskUnit t))) (y ∷ g))) k)
      (G : GroupRelated (contents_of v area) (slot_of v t) y g) where
    -- a further block, linked behind the last
    more-both : v (TaskPlace t) ≡ F2 → (x : ℕ) (q : List ℕ) → k (v (TaskClass t)) ≡ x ∷ q
        → Both regions v area m
        (Free.f2_more v (link area) regions t (v (TaskClass t)) (v (CacheCount t (v (TaskClass t))))
        (v (CacheTop t (v (TaskClass t)))) (v (GroupCount t)) (v (TaskRegion t))) (
          Steps.cached t k (v (TaskClass t)) q
              (working (f2 (v (TaskClass t)) (purpose_of (v (TaskUnit t))) (y ∷ (g ++ (x ∷ [])))))
              m,
          going nothing,
        )
    unfolding Free.f2_more
    more-both e x q f =
        let c = v (TaskClass t) in
        let u = v (CacheTop t c) in
        let n = v (CacheCount t c) in
        let h = v (GroupCount t) in
        let i = index_of c u in
        let l = G.last in
        let o = place_holds w.pair.turn in
        let T = topped w x q f in
        let L = last-at w.pair G (group-in (purpose_of (v (TaskUnit t))) (y ∷ g)) refl o.3 in
        let lu = last_under w.pair G (group-in (purpose_of (v (TaskUnit t))) (y ∷ g)) refl o.3 in
        let fo = front_out w.pair G (group-in (purpose_of (v (TaskUnit t))) (y ∷ g)) refl o.3 in
        let fs = front-sub w.pair G (group-in (purpose_of (v (TaskUnit t))) (y ∷ g)) refl o.3 in
        let room : h < per_region c = omega (arith, G.counts, o.2, ap length f) in
        let wr = wrote w.pair l i lu (omega (arith, T.index, per_region-high c)) in
        let kept = cache-agrees w.pair l i lu in
        let s =
        to_group (v (TaskRegion t)) (v (GroupFirst t)) i (h + 1) (to_cache c (link area u) (n - 1) (slot_of v t)) in
        let p = working (f2 c (purpose_of (v (TaskUnit t))) (y ∷ (g ++ (u ∷ [])))) in
        let v₁ = assigned (GroupLast t := i ∷ GroupCount t := (h + 1) ∷ []) v in
        pass _ (both_true (both_true (lt-ltb h (per_region c) room)
        (lt-ltb (v (GroupLast t)) (per_region c)
        (last-below w.pair G (group-in (purpose_of (v (TaskUnit t))) (y ∷ g)) refl o.3))) T.below)
        (record {
          says = refl;
          keeps = (refl, refl);
          rel = rw (← T.is, L.at) (link-written w _ s (task_of p (update k c q)) l i
              (with-cache v₁ c (link area u) (n - 1) (mine w.pair).fits
              (record { shared = refl; own = rw (eq-eqb t t refl); others = λ j d. rw (ne_eqb t j d) }))
              (mine-under w.pair l lu).0
              (re-cache w.pair _ _ s p c (link area u) (n - 1) q kept refl refl
              (linked-frame (λ z b. kept c (mine w.pair).fits z (omega (arith, ap (count z) f))) T.linked)
              T.rest
              (r_working (r_f2_more e (record {
                front = G.front ++ (l ∷ []);
                last = u;
                is = ap (λ (z : List ℕ). z ++ (u ∷ [])) G.is;
                linked = linked-append-one (linked-frame (row-agrees w.pair l i G.front lu fs fo) G.linked) wr;
                last_is = refl;
                counts = omega (arith, G.counts, length-append g (u ∷ []));
                region = G.region;
              })))));
          sound = omega (
            arith,
            w.pair.turn.fits,
            (mine w.pair).fits,
            w.fitting (CacheCount t c) (omega (arith, w.pair.turn.fits, (mine w.pair).fits)),
            T.link-max,
            T.index,
            per_region-high c,
          );
          apart = (rw L.at (mine-apart w.pair l (mine-under w.pair l lu).0), tt);
        })

    -- the group is closed
    close-both : Both regions v area m (Free.f2_close v (link area) regions t (v (TaskClass t)))
        (Steps.at_place t k (working (f3-read (v (TaskClass t)) (purpose_of (v (TaskUnit t))) y g)) m, going nothing)
    close-both = record {
      says = refl;
      keeps = (refl, refl);
      rel =
          goes w (TaskPlace t := F3_READ ∷ []) (to_place F3_READ (slot_of v t))
          (working (f3-read (v (TaskClass t)) (purpose_of (v (TaskUnit t))) y g))
          refl (rw (eq-eqb t t refl)) (λ j n. rw (ne_eqb t j n)) refl refl
          (r_working (r_f3_read refl (same-group refl refl refl refl G)));
      sound = omega (arith, w.pair.turn.fits);
      apart = tt;
    }

  -- step 2 with an empty group: the cache has a block
  pub f2-both : At regions v area m t (working (f2 (v (TaskClass t)) (purpose_of (v (TaskUnit t))) [])) k
      → v (TaskPlace t) ≡ F2
      → v (GroupCount t) ≡ 0
      → Both regions v area m (Free.f2 v (link area) regions t (v (TaskClass t)))
      (Steps.step_at t k (f2 (v (TaskClass t)) (purpose_of (v (TaskUnit t))) []) m)
  unfolding Free.f2 Free.f2_top
  f2-both w e z =
      let c = v (TaskClass t) in
      let n = v (CacheCount t c) in
      let h = v (GroupCount t) in
      let o = place_holds w.pair.turn in
      pass (leb n (per_region c) && leb h (per_region c)) (both_true
      (le-leb n (per_region c) (omega (arith, cache-count w, lengths w.pair.turn c)))
      (le-leb h (per_region c) (omega arith)))
      (miss _ (eqb n 0) (ne_eqb n 0 (λ i. absurd (omega (arith, cache-count w, o.1))))
      (has-top (λ q. Steps.f2_step t k c (purpose_of (v (TaskUnit t))) q [] m) (k c)
      (λ f. omega (arith, ap length f, o.1)) (λ x q f.
      pass _ (topped w x q f).block (meet _ (eqb h 0) (eq-eqb h 0 z) (first-both w e x q f)))))

  -- step 2 with a group that has blocks: the cache may be empty
  pub f2-more-both : {y : ℕ} {g : List ℕ} → At regions v area m t
      (working (f2 (v (TaskClass t)) (purpose_of (v (TaskUnit t))) (y ∷ g))) k
      → v (TaskPlace t) ≡ F2 → GroupRelated (contents_of v area) (slot_of v t) y g
      → Both regions v area m (Free.f2 v (link area) regions t (v (TaskClass t)))
      (Steps.step_at t k (f2 (v (TaskClass t)) (purpose_of (v (TaskUnit t))) (y ∷ g)) m)
  unfolding Free.f2 Free.f2_top
  f2-more-both {y} {g} w e G =
      let c = v (TaskClass t) in
      let u = v (CacheTop t c) in
      let n = v (CacheCount t c) in
      let h = v (GroupCount t) in
      let r = v (TaskRegion t) in
      let o = place_holds w.pair.turn in
      let some : eqb h 0 ≡ false = ne_eqb h 0 (λ i. absurd (omega (arith, G.counts))) in
      pass (leb n (per_region c) && leb h (per_region c)) (both_true
      (le-leb n (per_region c) (omega (arith, cache-count w, lengths w.pair.turn c)))
      (le-leb h (per_region c) (omega (arith, G.counts, o.2))))
      (by_row (eqb n 0) (λ q. Steps.f2_step t k c (purpose_of (v (TaskUnit t))) q (y ∷ g) m) (k c)
      (λ f. eq-eqb n 0 (cache-count w ∙ ap length f))
      (λ x q f. ne_eqb n 0 (λ i. absurd (omega (arith, (topped w x q f).counts))))
      (λ f. close-both w G)
      (λ x q f.
      let T = topped w x q f in
      let i : region_of u ≡ region_of x = ap region_of T.is in
      pass _ T.block (miss _ (eqb h 0) some
      (pass (ltb r regions)
      (lt-ltb r regions (region-below w.pair G (group-in (purpose_of (v (TaskUnit t))) (y ∷ g)) refl o.3))
      (decide (eqb (region_of u) r) (ℕ_discrete (region_of x) (region_of y))
      (λ b. sym i ∙ eqb-true (region_of u) r b ∙ G.region) (λ b. eq-eqb (region_of u) r (i ∙ b ∙ sym G.region))
      (λ a b. more-both w G e x q f) (λ a b. close-both w G))))))
