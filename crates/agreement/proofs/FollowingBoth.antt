-- Steps 5 and 6 of a return, which are no steps of their own: where a returned group leads, for a free and for leaving.
use mathlib.Core.Path.{◌≡◌, refl, subst}
use mathlib.Core.Bool.{cond}
use mathlib.Core.List.{List, [], ◌∷◌}
use Prim.Native.Nat.{ℕ, ◌+◌, ◌-◌, ◌≤◌, ◌<◌}
use native.Mathlib.Omega.{arith}
use borrow.Author.Tests.{eq-eqb, ne_eqb, le-leb}
use lib.Dec.{eqb, leb}
use lib.ListN.{length}
use Rattle.limits.specs.Limits.{CLASSES}
use Rattle.rows.specs.Comparisons.{Equality, same, other, same?}
use Rattle.fields.specs.Columns.{View, Write, ◌:=◌, assigned, Sound}
use Rattle.classes.specs.Classes.{per_region}
use Rattle.words.specs.Anchor as Words
use Rattle.plain.specs.State.{State, EMPTY, PARTIAL, FULL, state_number, read, offer, Place, pushing, f1, f2, Mem}
use Rattle.plain.specs.State.{leave-end, to_leave, working}
use Rattle.plain.specs.Moves.{Decided, going}
use Rattle.plain.specs.Steps as Steps
use Rattle.plain.proofs.PlaceAlone.{lengths}
use Rattle.control.specs.Layout.{layout, Tasks, Regions, CacheCount, GroupCount, TaskPlace, TaskClass, TaskUnit}
use Rattle.control.specs.Layout.{LEAVING}
use Rattle.control.specs.Places.{PUSH_OFFER, F1, F2, LEAVE_END}
use Rattle.stepped.specs.Outcome.{accept}
use Rattle.stepped.specs.Leaving.{leave_from}
use Rattle.stepped.specs.Lists as Lists
use Rattle.agreement.specs.Contents.{contents_of, purpose_of}
use Rattle.agreement.specs.Relation.{Related}
use Rattle.agreement.proofs.TurnInBoth.{mine}
use Rattle.agreement.proofs.Both.{Both, pass}
use Rattle.agreement.proofs.Turns.{At, cache-count}
use Rattle.agreement.proofs.LeavingBoth.{keeps-after, leaves-both}

-- After the writes ws, which leave the plain pool's memory m₁, the relation holds at each place that may follow.
pub record Onward (regions : ℕ) (v : View) (area : List ℕ) (t : ℕ) (k : ℕ → List ℕ) (ws : List Write) (m₁ : Mem)
    : Type 0 where
  -- step 1 of the free, and a new group of the class
  pub at-f1 : Related regions (contents_of (assigned (TaskPlace t := F1 ∷ ws) v) area)
      (Steps.at_place t k (working (f1 (v (TaskClass t)) (v (TaskUnit t)))) m₁)
  pub at-f2 : Related regions (contents_of (assigned (TaskPlace t := F2 ∷ GroupCount t := 0 ∷ ws) v) area)
      (Steps.at_place t k (working (f2 (v (TaskClass t)) (purpose_of (v (TaskUnit t))) [])) m₁)
  -- leaving: a new group of the class j, and the last step
  pub at-cache : v (TaskUnit t) ≡ LEAVING → (j : ℕ) → j < CLASSES
      → Related regions
      (contents_of (assigned (TaskPlace t := F2 ∷ TaskClass t := j ∷ GroupCount t := 0 ∷ ws) v) area)
      (Steps.at_place t k (working (f2 j to_leave [])) m₁)
  pub at-end : Related regions (contents_of (assigned (TaskPlace t := LEAVE_END ∷ ws) v) area)
      (Steps.at_place t k (working leave-end) m₁)

module _ {regions : ℕ} {v : View} {area : List ℕ} {m : Mem} {t : ℕ} {p : Place} {k : ℕ → List ℕ}
    (w : At regions v area m t p k) (e : Decided) (ws : List Write) (m₁ : Mem) (unit : v (TaskUnit t) ≤ LEAVING)
    (sound : Sound layout ws)
    (keeps : (assigned ws v Tasks ≡ v Tasks) × (assigned ws v Regions ≡ v Regions))
    (O : Onward regions v area t k ws m₁) where
  -- the request's class, its unit and what it returns for
  abbrev c : ℕ
  c = v (TaskClass t)

  abbrev u : ℕ
  u = v (TaskUnit t)

  -- the cache is empty: free's step 1, or on with leaving
  by-unit : Equality u LEAVING
      → Both regions v area m (Lists.when_returned v regions t c e ws)
      (Steps.at_work t k (Steps.when_returned k c (purpose_of u)) m₁, going e)
  unfolding Lists.when_returned
  by-unit (same i) =
      rw (le-leb u LEAVING unit, eq-eqb u LEAVING i)
      (subst
      (λ (d : ℕ). Both regions v area m (leave_from v t (c + 1) e ws)
      (Steps.at_work t k (Steps.leave_from k d (CLASSES - d)) m₁, going e)) (omega arith)
      (leaves-both w e ws m₁ sound keeps (O.at-cache i) O.at-end (c + 1) (omega (arith, (mine w.pair).fits))))
  by-unit (other n) =
      rw (le-leb u LEAVING unit, ne_eqb u LEAVING n)
      (record {
        says = refl;
        keeps = keeps-after v (assigned (TaskPlace t := F1 ∷ []) v) ws keeps refl refl;
        rel = O.at-f1;
        sound = (omega (arith, w.pair.turn.fits), sound);
        apart = tt;
      })

  by-cache : (n : ℕ) (q : List ℕ) → n ≡ length q
      → Both regions v area m
      (cond (eqb n 0) (Lists.when_returned v regions t c e ws)
      (accept e (TaskPlace t := F2 ∷ GroupCount t := 0 ∷ ws) [])) (
        Steps.at_work t k (Steps.if_none q (Steps.when_returned k c (purpose_of u)) (f2 c (purpose_of u) [])) m₁,
        going e,
      )
  by-cache n [] i = rw (eq-eqb n 0 i) (by-unit (same? u LEAVING))
  by-cache n (x ∷ q) i =
      rw (ne_eqb n 0 (omega arith))
      (record {
        says = refl;
        keeps = keeps-after v (assigned (TaskPlace t := F2 ∷ GroupCount t := 0 ∷ []) v) ws keeps refl refl;
        rel = O.at-f2;
        sound = (omega (arith, w.pair.turn.fits), (omega (arith, w.pair.turn.fits), sound));
        apart = tt;
      })

  -- step 6: "Cache not empty: 2. Else 1."
  pub six : Both regions v area m (Lists.f6 v regions t c e ws)
      (Steps.at_work t k (Steps.f6 k c (purpose_of u)) m₁, going e)
  unfolding Lists.f6
  six =
      pass (leb (v (CacheCount t c)) (per_region c))
      (le-leb (v (CacheCount t c)) (per_region c) (omega (arith, cache-count w, lengths w.pair.turn c)))
      (by-cache (v (CacheCount t c)) (k c) (cache-count w))

  -- step 5: "If it was FULL: push the descriptor on the partial list"
  pub five : (was : ℕ) (z : State) (d : ℕ) → was ≡ state_number z
      → Related regions (contents_of (assigned (TaskPlace t := PUSH_OFFER ∷ ws) v) area)
      (Steps.at_place t k (working (pushing (offer c (purpose_of u) d) read)) m₁)
      → Both regions v area m (Lists.f5 v regions t c was e ws)
      (Steps.at_work t k (Steps.f5 z k c (purpose_of u) d) m₁, going e)
  unfolding Lists.f5
  five was EMPTY d i r = rw (ne_eqb was Words.FULL (omega arith)) six
  five was PARTIAL d i r = rw (ne_eqb was Words.FULL (omega arith)) six
  five was FULL d i r =
      rw (eq-eqb was Words.FULL i)
      (record {
        says = refl;
        keeps = keeps-after v (assigned (TaskPlace t := PUSH_OFFER ∷ []) v) ws keeps refl refl;
        rel = r;
        sound = (omega (arith, w.pair.turn.fits), sound);
        apart = tt;
      })
