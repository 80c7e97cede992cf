-- From the tests, and what follows them, to what an exported call ensures.
use mathlib.Core.Path.{◌≡◌, refl, sym, ap, subst, ◌∙◌}
use mathlib.Core.Logic.{◌≢◌}
use Rattle.std.specs.Prelude.{Ok, Err, IfOk}
use Rattle.std.specs.declared.result.Result.{Result}
use mathlib.Core.Bool.{Bool, cond}
use mathlib.Core.List.{List}
use Prim.Native.Nat.{ℕ, ◌*◌, ◌≤◌, ◌<◌}
use native.Mathlib.Omega.{arith}
use borrow.Author.Tests.{eq-eqb, ne_eqb}
use lib.Dec.{eqb}
use lib.ListN.{length}
use Rattle.limits.specs.Limits.{CONTROL_BYTES, REGION_BYTES, TASKS, REGIONS}
use Rattle.fields.specs.Columns.{View}
use Rattle.links.specs.Link.{link}
use Rattle.plain.specs.Calls.{allocate, free, leave, step, Lengths}
use Rattle.control.specs.Layout.{Regions, TaskLost, seen}
use Rattle.control.specs.Answers.{answer_of, refusal_number, number_of, number_with}
use Rattle.control.specs.declared.answer.Answer.{Answer}
use Rattle.limits.specs.declared.refusal.Refusal.{Refusal}
use Rattle.limits.specs.declared.refusal.Refusal.TheVariants as refusal
use Rattle.stepped.specs.Outcome.{Outcome, refuse, Memories, Effect, effect, step_effect}
use Rattle.stepped.specs.Steps as Steps
use Rattle.stepped.specs.Calls.{tested, Tested, when_idle, begin_allocate, begin_free, allocate_outcome, free_outcome}
use Rattle.stepped.specs.Calls.{leave_outcome}
use Rattle.stepped.specs.Calls.{step_outcome}
use Rattle.stepped.specs.Leaving.{begin_leave}
use Rattle.stepped.specs.Done.{Done, NumberIn}
use Rattle.stepped.proofs.Doing.{lends, done-in, numbers, numbers-in}
use Rattle.begins.proofs.Refusals.{goes, stops}
use Rattle.begins.specs.TestNumber.{TestsAre, Finds}
use Rattle.begins.specs.declared.tests.Started.{Started}
use Rattle.pool.specs.Call.{EffectIs, lengths_of}

-- a call whose outcome o is x; f is the effect of an outcome
by-outcome : (f : Outcome → Effect) {o x : Outcome} {c a z : List ℕ} {r : ℕ} → o ≡ x → EffectIs (f x) c a z r
    → EffectIs (f o) c a z r
by-outcome f {c = c} {a = a} {z = z} {r = r} e d = subst (λ (w : Outcome). EffectIs (f w) c a z r) (sym e) d

module _ (c a z : List ℕ) where
  abbrev pub lengths : Lengths
  lengths = record { control = length c; area = length a; strips = length z }

  abbrev pub lent : Memories
  lent = record { control = c; area = a; strips = z }

  -- a call that the number r refuses
  pub refused-is : (r : ℕ) → EffectIs (effect (refuse r) lent) c a z r
  refused-is r = record { number = omega arith; control_is = refl; area_is = refl; strips_is = refl }

  -- a call that is no step, does the outcome x and answers the number of s
  does-is : {x : Outcome} {c' : List ℕ} {s : Result Answer Refusal} {r : ℕ} → Done x c c' s → r ≡ number_of (answer_of s)
      → EffectIs (effect x lent) c' a z r
  does-is d n = record {
    number = omega (arith, n ∙ ap number_of d.answer);
    control_is = d.control;
    area_is = (lends {a = a} d).area;
    strips_is = refl;
  }

  -- a step of the task t that does the outcome x
  steps-is : {x : Outcome} {t : ℕ} {c' a' : List ℕ} {r : ℕ} → NumberIn x t c a c' a' r
      → EffectIs (step_effect t x lent) c' a' z r
  steps-is {x} {t} d = record {
    number = d.number ∙ ap (λ (m : List ℕ). number_with x.answer (seen m (TaskLost t))) d.control;
    control_is = d.control;
    area_is = d.area;
    strips_is = refl;
  }

-- ---- what follows the tests

module _ {L : Lengths} {v : View} {t : ℕ} {r : Result Started Refusal} (T : TestsAre L v t r) where
  -- what tests that pass find
  pub found : {s : Started} → r ≡ Ok s → Finds L v t s
  found e = subst (λ (x : Result Started Refusal). IfOk x (Finds L v t)) e T.passed

  -- they pass, and what follows them is of the task that they find
  pub follows : (f : ℕ → Outcome) {s : Started} → r ≡ Ok s → tested L v t (f t) ≡ f s.task
  follows f e = goes r (λ s. f t) (T.is (f t)) e ∙ ap f (sym (found e).task)

  -- one of them refuses
  pub stopped : (x : Outcome) {e : Refusal} → r ≡ Err e → tested L v t x ≡ refuse (refusal_number e)
  stopped x e = stops r (λ s. x) (T.is x) e

  -- a step of the task that they find, in the regions that they find
  pub step-goes : (link : ℕ → ℕ) {s : Started} {c a c' a' : List ℕ} {n : ℕ} → r ≡ Ok s
      → NumberIn (Steps.step_of v link s.regions s.task) s.task c a c' a' n
      → NumberIn (step_outcome L v link t) t c a c' a' n
  unfolding step_outcome
  step-goes link {s} {c} {a} {c'} {a'} {n} e d =
      numbers-in (goes r (λ s. Steps.step_of v link (v Regions) t) (T.is _) e)
      (subst (λ (k : ℕ). NumberIn (Steps.step_of v link (v Regions) k) k c a c' a' n) (found e).task
      (subst (λ (k : ℕ). NumberIn (Steps.step_of v link k s.task) s.task c a c' a' n) (found e).regions d))

  -- a step that they refuse
  pub step-stops : (link : ℕ → ℕ) {e : Refusal} {c a : List ℕ} {n : ℕ} → r ≡ Err e
      → n ≡ number_of (answer_of (Err e)) → NumberIn (step_outcome L v link t) t c a c a n
  unfolding step_outcome
  step-stops link {e} h m = numbers {r = Err e} (done-in (stopped _ h) refl refl refl) (omega (arith, m))

-- ---- a call of the lent memories c, a and z

module _ (c a z : List ℕ) where
  -- a control memory of another length fails the first test
  pub other : (t : ℕ) → length c ≢ CONTROL_BYTES → (x : Outcome) → tested (lengths c a z) (seen c) t x ≡ refuse 1
  unfolding tested
  other t h x = rw (ne_eqb (length c) CONTROL_BYTES h) refl

  pub short : (f : Outcome → Effect) {o : Outcome} {n : ℕ} → EffectIs (f (refuse 1)) c a z 1 → o ≡ refuse 1 → n ≡ 1
      → EffectIs (f o) c a z n
  short f {o} R e h = rw h (by-outcome f e R)

  -- another call did it, on a control memory that has its length
  module _ {c₁ : List ℕ} (l : length c ≡ CONTROL_BYTES) (i : c₁ ≡ c) where
    pub call-does : (f : Lengths → View → Outcome) {c' : List ℕ} {s : Result Answer Refusal} {n : ℕ}
        → Done (f (lengths_of (length a) (length z)) (seen c₁)) c₁ c' s → n ≡ number_of (answer_of s)
        → EffectIs (effect (f (lengths c a z) (seen c)) (lent c a z)) c' a z n
    call-does f {c'} {s} d m =
        by-outcome (λ o. effect o (lent c a z))
        (ap (λ (k : ℕ). f (record { control = k; area = length a; strips = length z }) (seen c)) l)
        (does-is c a z
        (subst (λ (b : List ℕ). Done (f (lengths_of (length a) (length z)) (seen b)) b c' s) i d) m)

    pub step-does : (t : ℕ) {c' a' : List ℕ} {n : ℕ}
        → NumberIn (step_outcome (lengths_of (length a) (length z)) (seen c₁) (link a) t) t c₁ a c' a' n
        → EffectIs (step_effect t (step_outcome (lengths c a z) (seen c) (link a) t) (lent c a z)) c' a' z n
    step-does t {c'} {a'} {n} d =
        by-outcome (λ o. step_effect t o (lent c a z))
        (ap (λ (k : ℕ). step_outcome (record { control = k; area = length a; strips = length z }) (seen c) (link a) t) l)
        (steps-is c a z
        (subst (λ (b : List ℕ). NumberIn (step_outcome (lengths_of (length a) (length z)) (seen b) (link a) t) t b a c' a' n)
        i d))
