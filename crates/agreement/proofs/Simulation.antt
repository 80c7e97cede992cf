-- How one call keeps the bytes of the stepped run tied to the plain pool.
use mathlib.Core.Path.{◌≡◌, refl, sym, subst, ◌∙◌}
use Prim.Native.Nat.{ℕ, ◌≤◌}
use native.Mathlib.Omega.{arith}
use native.Mathlib.Decide.{ℕ_discrete, dec_lt}
use Rattle.limits.specs.Limits.{CONTROL_BYTES}
use Rattle.rows.proofs.Branch.{if_yes, if_no}
use Rattle.fields.specs.Columns.{Field, View, Has, assigned}
use Rattle.fields.proofs.Layouts.{length-written, bytes-written}
use Rattle.links.specs.Link.{with_links}
use Rattle.plain.specs.Moves.{Answer}
use Rattle.plain.specs.Steps.{Result}
use Rattle.plain.specs.Calls.{Pool, Lengths}
use Rattle.plain.specs.Calls as Plain
use Rattle.plain.proofs.CallTests.{passed}
use Rattle.plain.specs.Invariant.{Good}
use Rattle.control.specs.Layout.{layout, Tasks, Regions, seen, changed}
use Rattle.control.proofs.Fields.{seen-changed}
use Rattle.stepped.specs.Outcome.{Outcome, effect, refuse, Memories}
use Rattle.stepped.specs.Calls.{Tested, FirstFails, control_fails, tasks_fail, not_started, regions_fail, lengths_fail}
use Rattle.stepped.specs.Calls.{task_fails}
use Rattle.stepped.specs.Calls as Stepped
use Rattle.agreement.specs.Events.{ran}
use Rattle.agreement.specs.Tied.{Tied}
use Rattle.agreement.specs.Agreement.{HandsKept}
use Rattle.agreement.proofs.Both.{Both}
use Rattle.agreement.proofs.Views.{views-related}
use Rattle.agreement.proofs.UserWrites.{byte-kept}
use Rattle.agreement.proofs.Ways.{tests}

-- a call in both runs: the same answer, the two tied after it, and what else is shown of the memories after it
pub record Alike (Further : Memories → Type 0) (x : Memories × Answer) (y : Pool × Answer) : Type 0 where
  pub says : x.1 ≡ y.1
  pub tied : Tied x.0 y.0
  pub shows : Further x.0

module _ {s₁ : Memories} {s : Pool} (S : Tied s₁ s) where
  abbrev v : View
  v = seen s₁.control

  -- a refused call
  pub stays : (Further : Memories → Type 0) → Further s₁ → (n : ℕ)
      → Alike Further (ran (effect (refuse n) s₁)) (Plain.refuse n s)
  stays Further h n = record {
    says = refl;
    shows = h;
    tied =
        record {
          length = S.length;
          bytes = S.bytes;
          tasks = S.tasks;
          good = S.good;
          some = S.some;
          regions = S.regions;
          related = S.related;
          strips = S.strips;
        };
  }

  -- an outcome whose writes are done on the bytes
  pub moves : (o : Outcome) (y : Result) → 1 ≤ s.tasks → Good (Plain.became s y).0
      → Both s.regions v s₁.area s.mem o y
      → Alike (HandsKept s₁ s) (ran (effect o s₁)) (Plain.became s y)
  moves o y h g B = record {
    says = B.says;
    shows = record {
      blocks =
          λ at k. byte-kept (S.good.inv h) k.unit at k.held k.from k.to o.links s₁.area B.apart;
      strips = refl;
    };
    tied = record {
      length = length-written layout o.writes s₁.control ∙ S.length;
      bytes = bytes-written layout o.writes s₁.control S.bytes;
      tasks = view Tasks (omega arith) ∙ B.keeps.0 ∙ S.tasks;
      good = g;
      some = S.some;
      regions = λ k. view Regions (omega arith) ∙ B.keeps.1 ∙ S.regions k;
      related = λ k. views-related view (with_links o.links s₁.area) (S.good.small k) (g.inv k) B.rel;
      strips = S.strips;
    };
  }
    where
      view : (f : Field) → Has layout f → seen (changed o.writes s₁.control) f ≡ assigned o.writes v f
      view f k = seen-changed o.writes s₁.control f S.length B.sound k

  -- ---- tests 1, 4, 2, 5

  -- tests that pass in the stepped pool pass in the plain pool
  tested-too : {lent : Lengths} {t : ℕ} → Tested lent v t → Plain.Tested t lent s
  tested-too T =
      let q : 1 ≤ s.tasks = omega (arith, T.started, S.tasks) in
      record {
        control_is = T.control_is;
        started = q;
        lengths = (omega (arith, T.lengths_are.0, S.regions q), T.lengths_are.1);
        below = omega (arith, T.below, S.tasks);
      }

  -- a test that fails in the stepped pool fails in the plain pool; what is stored is in its range
  failed-too : {lent : Lengths} {t n : ℕ} (y : Result) → FirstFails lent v t n
      → Plain.tested t lent s y ≡ Plain.refuse n s
  failed-too {lent} y (control_fails h) = if_no (ℕ_discrete lent.control CONTROL_BYTES) _ _ h
  failed-too y (tasks_fail c h) = absurd (omega (arith, h, S.tasks, S.good.few))
  failed-too {lent} y (not_started c h) =
      if_yes (ℕ_discrete lent.control CONTROL_BYTES) _ _ c
      ∙ if_yes (ℕ_discrete s.tasks 0) _ _ (sym S.tasks ∙ h)
  failed-too y (regions_fail T h) =
      let q : 1 ≤ s.tasks = omega (arith, T.1, S.tasks) in
      absurd (h (omega (arith, S.regions q, S.some q, S.good.small q)))
  failed-too {lent} y (lengths_fail T R h) =
      let q : 1 ≤ s.tasks = omega (arith, T.1, S.tasks) in
      if_yes (ℕ_discrete lent.control CONTROL_BYTES) _ _ T.0
      ∙ if_no (ℕ_discrete s.tasks 0) _ _ (λ e. absurd (omega (arith, q, e)))
      ∙ if_no (Plain.started_lengths? lent s.regions) _ _ (λ e. h (omega (arith, e.0, S.regions q), e.1))
  failed-too {lent} {t} y (task_fails T R a h) =
      let q : 1 ≤ s.tasks = omega (arith, T.1, S.tasks) in
      if_yes (ℕ_discrete lent.control CONTROL_BYTES) _ _ T.0
      ∙ if_no (ℕ_discrete s.tasks 0) _ _ (λ e. absurd (omega (arith, q, e)))
      ∙ if_yes (Plain.started_lengths? lent s.regions) _ _ (omega (arith, a.0, S.regions q), a.1)
      ∙ if_no (dec_lt t s.tasks) _ _ (λ l. absurd (omega (arith, l, h, S.tasks)))

  -- a call that is no start: refused by the same number, or done in both
  pub tested-alike : (lent : Lengths) (t : ℕ) (x : Outcome) (y : Result)
      → (Plain.Tested t lent s → Good (Plain.became s y).0)
      → (Plain.Tested t lent s → Both s.regions v s₁.area s.mem x y)
      → Alike (HandsKept s₁ s) (ran (effect (Stepped.tested lent v t x) s₁)) (Plain.tested t lent s y)
  tested-alike lent t x y g both =
      let Same : Outcome → Pool × Answer → Type 0 = λ o. Alike (HandsKept s₁ s) (ran (effect o s₁)) in
      tests lent v t (λ o. Same o (Plain.tested t lent s y)) x
      (λ n F. subst (Same (refuse n)) (sym (failed-too y F))
      (stays (HandsKept s₁ s) (record { blocks = λ at k. refl; strips = refl }) n))
      (λ T. let T' = tested-too T in
      subst (Same x) (sym (passed y T')) (moves x y T'.started (g T') (both T')))
