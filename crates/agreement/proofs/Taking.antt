-- Step 1 of allocate, in both pools.
use mathlib.Core.Path.{◌≡◌, refl, sym, ap, subst}
use mathlib.Core.Bool.{◌&&◌}
use mathlib.Core.List.{List, [], ◌∷◌}
use Prim.Native.Nat.{ℕ, ◌-◌, ◌/◌, ◌%◌, ◌≤◌, ◌<◌}
use native.Mathlib.Omega.{arith}
use borrow.Author.Tests.{eq-eqb, ne_eqb, le-leb}
use lib.Dec.{eqb, leb}
use lib.ListN.{length}
use Rattle.limits.specs.Limits.{UNITS, WORD_MARKS}
use Rattle.rows.specs.Counting.{count}
use Rattle.rows.specs.Linked.{Linked}
use Rattle.rows.specs.Update.{update}
use Rattle.rows.specs.Weights.{one}
use Rattle.rows.proofs.Weights.{when-same}
use Rattle.fields.specs.Columns.{View, ◌:=◌, assigned}
use Rattle.words.specs.Mark.{with_set}
use Rattle.words.proofs.Marks.{set_below, set_here, set-others}
use Rattle.classes.specs.Classes.{per_region}
use Rattle.links.specs.Link.{link}
use Rattle.plain.specs.State.{read, partial, popping, idle, a1, Mem, set_hands, working}
use Rattle.plain.specs.Moves.{nothing}
use Rattle.plain.specs.Steps as Steps
use Rattle.plain.proofs.PlaceAlone.{task_of, lengths}
use Rattle.control.specs.Layout.{TaskPlace, TaskClass, CacheTop, CacheCount, Marks}
use Rattle.control.specs.Places.{IDLE, POP_PARTIAL}
use Rattle.control.specs.Answers.{Allocated}
use Rattle.stepped.specs.Outcome.{over}
use Rattle.stepped.specs.Ranges
use Rattle.stepped.specs.Ranges.{is_top}
use Rattle.stepped.specs.Allocate as Allocate
use Rattle.agreement.specs.Contents.{Contents, slot_of, contents_of}
use Rattle.control.specs.declared.moves.Pop.TheVariants.{Partial}
use Rattle.agreement.specs.Relation.{at_read, r_popping, r_idle, r_working, Related}
use Rattle.agreement.proofs.BothPass.{both_true}
use Rattle.agreement.proofs.Slots.{to_place, to_cache}
use Rattle.agreement.proofs.Sets.{set_mark}
use Rattle.agreement.proofs.AssignedContents.{mark-written}
use Rattle.agreement.proofs.ListTops.{first_of, rest_of}
use Rattle.agreement.proofs.TurnInBoth.{mine}
use Rattle.agreement.proofs.TurnChanges.{marking}
use Rattle.agreement.proofs.TaskBlocks.{cached-home, cached-unit, home_below, top-max, re-cache, below-tested}
use Rattle.agreement.proofs.Both.{Both, pass, by_row}
use Rattle.agreement.proofs.Turns.{At, goes, cache-top, cache-count}
use Rattle.agreement.proofs.Caching.{cache-becomes}

module _ {regions : ℕ} {v : View} {area : List ℕ} {m : Mem} {t : ℕ} {k : ℕ → List ℕ} where
  -- the cache has the block x on top, and q below
  take-both : At regions v area m t (working (a1 (v (TaskClass t)))) k → (x : ℕ) (q : List ℕ)
      → k (v (TaskClass t)) ≡ x ∷ q
      → Both regions v area m
      (Allocate.a1_take v (link area) regions t (v (TaskClass t)) (v (CacheCount t (v (TaskClass t))))
      (v (CacheTop t (v (TaskClass t)))))
      (Steps.a1_step t k (v (TaskClass t)) (x ∷ q) m)
  unfolding Allocate.a1_take
  take-both w x q e =
      let c = v (TaskClass t) in
      let l = (mine w.pair).fits in
      let u = v (CacheTop t c) in
      let b = link area u in
      let n = v (CacheCount t c) in
      let lk : Linked (link area) (λ u. u) UNITS u (x ∷ q) =
      subst (Linked (link area) (λ u. u) UNITS u) e
      (subst (λ (z : ℕ). Linked (link area) (λ u. u) UNITS z (k c)) (cache-top w) ((mine w.pair).caches.tops c l)) in
      let i : u ≡ x = first_of lk in
      let below : Linked (link area) (λ u. u) UNITS b q =
      subst (λ (z : ℕ). Linked (link area) (λ u. u) UNITS (link area z) q) (sym i) (rest_of lk) in
      let n' : n - 1 ≡ length q = omega (arith, cache-count w, ap length e) in
      let sub : (y : ℕ) → count y q ≤ count y (k c) = λ y. omega (arith, ap (count y) e) in
      let in-cache : 1 ≤ count u (k c) = omega (arith, ap (count u) e, ap (one u) i, when-same u 1) in
      let low : u < UNITS = omega (arith, w.pair.small, home_below w.pair (cached-home w.pair c u in-cache)) in
      let word = v (Marks (u / WORD_MARKS)) in
      pass (Ranges.is_block regions c u && is_top regions c (n - 1) b)
      (both_true (cached-unit w.pair c u in-cache) (rw n' (below-tested w.pair c b q sub below)))
      (subst (λ (z : ℕ). Both regions v area m
      (over (Allocated u) nothing
      (TaskPlace t := IDLE ∷ CacheTop t c := b ∷ CacheCount t c := (n - 1)
      ∷ Marks (u / WORD_MARKS) := with_set word (u % WORD_MARKS)
      ∷ []) [])
      (Steps.a1_step t k c (z ∷ q) m)) i
      (record {
        says = refl;
        keeps = (refl, refl);
        rel = subst (λ (z : Contents). Related regions z (Steps.cached t k c q idle (set_hands u 1 m)))
            (sym (cache-becomes v (assigned (TaskPlace t := IDLE
            ∷ Marks (u / WORD_MARKS) := with_set word (u % WORD_MARKS) ∷ []) v)
            area t c b (n - 1) (to_place IDLE (slot_of v t)) (set_mark u 1 (contents_of v area)) l
            (mark-written v (slot_of (assigned (TaskPlace t := IDLE ∷ []) v)) area u 1 _
            (set_here word (u % WORD_MARKS)) (set-others word (u % WORD_MARKS))) refl
            (rw (eq-eqb t t refl)) (λ j d. rw (ne_eqb t j d))))
            (marking w.pair u 1 (to_cache c b (n - 1) (to_place IDLE (slot_of v t))) (task_of idle (update k c q))
            (re-cache w.pair _ _ (to_cache c b (n - 1) (to_place IDLE (slot_of v t))) idle c b (n - 1) q
            (λ e l y h. refl)
            refl refl below n' (r_idle refl)));
        sound = omega (
          arith,
          w.pair.turn.fits,
          l,
          low,
          top-max w.pair c b q below sub,
          w.fitting (CacheCount t c) (omega (arith, w.pair.turn.fits, l)),
          set_below word (u % WORD_MARKS) WORD_MARKS
              (w.fitting (Marks (u / WORD_MARKS)) (omega (arith, low))) (omega arith),
        );
        apart = tt;
      }))

  pub a1-both : At regions v area m t (working (a1 (v (TaskClass t)))) k
      → Both regions v area m (Allocate.a1 v (link area) regions t (v (TaskClass t)))
      (Steps.step_at t k (a1 (v (TaskClass t))) m)
  unfolding Allocate.a1
  a1-both w =
      let c = v (TaskClass t) in
      let n = v (CacheCount t c) in
      by_row (eqb n 0) (λ q. Steps.a1_step t k c q m) (k c)
      (λ e. eq-eqb n 0 (omega (arith, cache-count w, ap length e)))
      (λ x q e. ne_eqb n 0 (omega (arith, cache-count w, ap length e)))
      (λ e. record {
        says = refl;
        keeps = (refl, refl);
        rel =
            goes w (TaskPlace t := POP_PARTIAL ∷ []) (to_place POP_PARTIAL (slot_of v t))
            (working (popping (partial c) read)) refl
            (rw (eq-eqb t t refl)) (λ j d. rw (ne_eqb t j d)) refl refl
            (r_working (r_popping Partial (at_read refl)));
        sound = omega (arith, w.pair.turn.fits);
        apart = tt;
      })
      (λ x q e. pass (leb n (per_region c))
      (le-leb n (per_region c) (omega (arith, cache-count w, lengths w.pair.turn c)))
      (take-both w x q e))
