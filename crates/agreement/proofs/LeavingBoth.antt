-- Where leaving goes on, in both pools: the search for the next cache that is not empty.
use mathlib.Core.Path.{◌≡◌, refl, sym, ap, subst, ◌∙◌}
use mathlib.Core.Bool.{cond}
use mathlib.Core.List.{List, [], ◌∷◌}
use Prim.Native.Nat.{ℕ, zero, suc, ◌+◌, ◌-◌, ◌≤◌, ◌<◌}
use native.Mathlib.Omega.{arith}
use native.Mathlib.Decide.{dec_lt}
use borrow.Author.Tests.{eq-eqb, ne_eqb, le-leb}
use lib.Dec.{eqb}
use lib.ListN.{length}
use Rattle.limits.specs.Limits.{CLASSES}
use Rattle.rows.proofs.Branch.{if_yes}
use Rattle.fields.specs.Columns.{View, Write, ◌:=◌, assigned, Sound}
use Rattle.fields.proofs.Layouts.{assigned-same}
use Rattle.classes.specs.Classes.{per_region}
use Rattle.plain.specs.State.{Place, Work, f2, leave-end, to_leave, working, Mem}
use Rattle.plain.specs.Moves.{Decided, going}
use Rattle.plain.specs.Steps as Steps
use Rattle.plain.proofs.PlaceAlone.{lengths}
use Rattle.control.specs.Layout.{layout, Tasks, Regions, CacheCount, GroupCount, TaskPlace, TaskClass}
use Rattle.control.specs.Places.{F2, LEAVE_END}
use Rattle.stepped.specs.Outcome.{bad, accept}
use Rattle.stepped.specs.Leaving.{first_cached, count_fits, leave_writes, leave_from}
use Rattle.agreement.specs.Contents.{contents_of}
use Rattle.agreement.specs.Relation.{Related}
use Rattle.agreement.proofs.TurnInBoth.{mine}
use Rattle.agreement.proofs.Both.{Both}
use Rattle.agreement.proofs.Turns.{At}

-- a write before ws to a field of a task leaves the numbers of tasks and regions
pub keeps-after : (v v' : View) (ws : List Write)
    → (assigned ws v Tasks ≡ v Tasks) × (assigned ws v Regions ≡ v Regions)
    → v' Tasks ≡ v Tasks → v' Regions ≡ v Regions
    → (assigned ws v' Tasks ≡ v Tasks) × (assigned ws v' Regions ≡ v Regions)
keeps-after v v' ws keeps e f =
    (assigned-same ws v' v Tasks e ∙ keeps.0, assigned-same ws v' v Regions f ∙ keeps.1)

-- ---- the search

module _ {regions : ℕ} {v : View} {area : List ℕ} {m : Mem} {t : ℕ} {p : Place} {k : ℕ → List ℕ}
    (w : At regions v area m t p k) where
  -- how many blocks each cache has, as its field says
  counted : (c : ℕ) → c < CLASSES → v (CacheCount t c) ≡ length (k c)
  counted c l = sym (if_yes (dec_lt c CLASSES) (v (CacheCount t c)) 0 l) ∙ (mine w.pair).caches.counts c l

  -- what the search finds in the fields and in the rows
  data Found : ℕ → Work → Type 0 where
    none : {j : ℕ} → j ≡ CLASSES → Found j leave-end
    some : {j : ℕ} → j < CLASSES → Found j (f2 j to_leave [])

  found : (n c : ℕ) → c + n ≡ CLASSES → Found (first_cached v t c n) (Steps.leave_from k c n)
  unfolding first_cached Steps.leave_from
  found zero c e = none {j = c} (omega arith)
  found (suc n) c e = by (k c) refl (found n (c + 1) (omega arith))
    where
      by : (q : List ℕ) → k c ≡ q → Found (first_cached v t (c + 1) n) (Steps.leave_from k (c + 1) n)
          → Found (cond (eqb (v (CacheCount t c)) 0) (first_cached v t (c + 1) n) c)
          (Steps.if_none q (Steps.leave_from k (suc c) n) (f2 c to_leave []))
      by [] i above =
          rw (eq-eqb (v (CacheCount t c)) 0 (counted c (omega arith) ∙ ap length i))
          (subst (λ (d : ℕ). Found (first_cached v t (c + 1) n) (Steps.leave_from k d n)) (omega arith) above)
      by (x ∷ q) i above =
          rw (ne_eqb (v (CacheCount t c)) 0 (λ z. omega (arith, counted c (omega arith), ap length i)))
          (some {j = c} (omega arith))

-- ---- what follows it

-- After the writes ws of the move e, which leave the plain pool's memory m₁, the relation holds at each place where
-- leaving may go on.
module _ {regions : ℕ} {v : View} {area : List ℕ} {m : Mem} {t : ℕ} {p : Place} {k : ℕ → List ℕ}
    (w : At regions v area m t p k) (e : Decided) (ws : List Write) (m₁ : Mem) (sound : Sound layout ws)
    (keeps : (assigned ws v Tasks ≡ v Tasks) × (assigned ws v Regions ≡ v Regions))
    (at-cache : (j : ℕ) → j < CLASSES
    → Related regions
    (contents_of (assigned (TaskPlace t := F2 ∷ TaskClass t := j ∷ GroupCount t := 0 ∷ ws) v) area)
    (Steps.at_place t k (working (f2 j to_leave [])) m₁))
    (at-end : Related regions (contents_of (assigned (TaskPlace t := LEAVE_END ∷ ws) v) area)
    (Steps.at_place t k (working leave-end) m₁)) where
  goes_on : {j : ℕ} {x : Work} → Found w j x
      → Both regions v area m (cond (count_fits v t j) (accept e (leave_writes v t j ws) []) bad)
      (Steps.at_work t k x m₁, going e)
  goes_on {j} (none i) =
      rw (eq-eqb j CLASSES i)
      (record {
        says = refl;
        keeps = keeps-after v (assigned (TaskPlace t := LEAVE_END ∷ []) v) ws keeps refl refl;
        rel = at-end;
        sound = (omega (arith, w.pair.turn.fits), sound);
        apart = tt;
      })
  goes_on {j} (some l) =
      rw (
        ne_eqb j CLASSES (λ i. omega arith),
        le-leb (v (CacheCount t j)) (per_region j) (omega (arith, counted w j l, lengths w.pair.turn j)),
      )
      (record {
        says = refl;
        keeps = keeps-after v (assigned (TaskPlace t := F2 ∷ TaskClass t := j ∷ GroupCount t := 0 ∷ []) v) ws keeps
            refl refl;
        rel = at-cache j l;
        sound = (
          omega (arith, w.pair.turn.fits),
          (omega (arith, w.pair.turn.fits), (omega (arith, w.pair.turn.fits), sound)),
        );
        apart = tt;
      })

  -- leaving goes on with the classes from c on
  pub leaves-both : (c : ℕ) → c ≤ CLASSES
      → Both regions v area m (leave_from v t c e ws)
      (Steps.at_work t k (Steps.leave_from k c (CLASSES - c)) m₁, going e)
  unfolding leave_from
  leaves-both c l = goes_on (found w (CLASSES - c) c (omega arith))
