-- From an outcome that the tests lead to, to what a function ensures.
use mathlib.Core.Path.{◌≡◌, refl, ap, subst⁻¹, ◌∙◌}
use Rattle.std.specs.Prelude.{Ok}
use Rattle.std.specs.Result.{IsErrAnd}
use Rattle.std.proofs.lemmas.Result.{err_from_is_err_and}
use Rattle.std.specs.declared.result.Result.{Result}
use mathlib.Core.List.{List, [], ◌∷◌}
use Prim.Native.Nat.{ℕ, ◌<◌}
use native.Mathlib.Omega.{arith}
use Rattle.limits.specs.Limits.{CONTROL_BYTES, TASKS}
use Rattle.fields.specs.Columns.{◌:=◌}
use Rattle.fields.proofs.Layouts.{view-other}
use Rattle.links.specs.Link.{with_links}
use Rattle.plain.specs.Moves.{Decided}
use Rattle.control.specs.Layout.{layout, TaskPlace, TaskLost, seen, changed}
use Rattle.control.specs.Losts.{one_more}
use Rattle.control.specs.Answers.{answer_of, number_with}
use Rattle.control.specs.Answers as Answers
use Rattle.control.specs.declared.answer.Answer.{Answer}
use Rattle.control.specs.declared.answer.Answer.TheVariants.{Accepted}
use Rattle.limits.specs.declared.refusal.Refusal.{Refusal}
use Rattle.limits.specs.declared.refusal.Refusal.TheVariants.{OutOfRange}
use Rattle.control.proofs.Fields.{in-order}
use Rattle.stepped.specs.Outcome.{Outcome, bad, lose}
use Rattle.stepped.specs.Done.{Done, DoneIn, NumberIn}

-- the definition's outcome is o', whose answer, writes and links are those of the code
pub done : {o o' : Outcome} {before after : List ℕ} {r : Result Answer Refusal} → o ≡ o' → answer_of r ≡ o'.answer
    → after ≡ changed o'.writes before
    → o'.links ≡ [] → Done o before after r
done {before = b} {after = a} {r = r} e p q l =
    subst⁻¹ (λ (x : Outcome). Done x b a r) e (record { answer = p; control = q; links = l })

pub done-in : {o o' : Outcome} {c a c' a' : List ℕ} {r : Result Answer Refusal} → o ≡ o' → answer_of r ≡ o'.answer → c' ≡ changed o'.writes c
    → a' ≡ with_links o'.links a → DoneIn o c a c' a' r
done-in {c = c} {a = a} {c' = c'} {a' = a'} {r = r} e p q l =
    subst⁻¹ (λ (x : Outcome). DoneIn x c a c' a' r) e (record { answer = p; control = q; area = l })

-- the exit of a `?` where a value is out of its range: nothing has been written
pub refused : {o : Outcome} {before : List ℕ} {r : Result Answer Refusal} → o ≡ bad → IsErrAnd r (λ e. e ≡ OutOfRange)
    → Done o before before r
refused {r = r} e h = let p = err_from_is_err_and r h in done e (rw (p.1, p.2) refl) refl refl

pub refused-in : {o : Outcome} {c a : List ℕ} {r : Result Answer Refusal} → o ≡ bad → IsErrAnd r (λ e. e ≡ OutOfRange)
    → DoneIn o c a c a r
refused-in {r = r} e h = let p = err_from_is_err_and r h in done-in e (rw (p.1, p.2) refl) refl refl

-- another function did the whole outcome
pub does : {o o' : Outcome} {before after : List ℕ} {r : Result Answer Refusal} → o ≡ o' → Done o' before after r
    → Done o before after r
does {before = b} {after = a} {r = r} e d = subst⁻¹ (λ (x : Outcome). Done x b a r) e d

pub does-in : {o o' : Outcome} {c a c' a' : List ℕ} {r : Result Answer Refusal} → o ≡ o' → DoneIn o' c a c' a' r → DoneIn o c a c' a' r
does-in {c = c} {a = a} {c' = c'} {a' = a'} {r = r} e d = subst⁻¹ (λ (x : Outcome). DoneIn x c a c' a' r) e d

-- The stores of a lost exchange: a is the place that the task t goes back to. The count is read behind the store of the
-- place, which leaves it as it was.
pub loses : {o : Outcome} {e : Decided} {t a : ℕ} {before placed after : List ℕ} → o ≡ lose (seen before) t e a
    → t < TASKS → placed ≡ changed (TaskPlace t := a ∷ []) before
    → after ≡ changed (TaskLost t := one_more (seen placed (TaskLost t)) ∷ []) placed → Done o before after (Ok Accepted)
loses {t = t} {a = a} {before = before} o l p q =
    let kept =
    view-other CONTROL_BYTES layout in-order before (TaskPlace t) (TaskLost t) a (record { index = l })
    (record { index = l }) (λ f. omega arith)
    in
    done o refl (rw (p, kept) at q) refl

-- a function of the control memory alone leaves the area
pub lends : {o : Outcome} {c a c' : List ℕ} {r : Result Answer Refusal} → Done o c c' r → DoneIn o c a c' a r
lends {o} {c} {a} {c'} {r} d =
    record { answer = d.answer; control = d.control; area = subst⁻¹ (λ ls. a ≡ with_links ls a) d.links refl }

-- the number of what a function did and answered, at a step of the task t
pub numbers : {o : Outcome} {t : ℕ} {c a c' a' : List ℕ} {r : Result Answer Refusal} {n : ℕ} → DoneIn o c a c' a' r
    → n ≡ number_with (answer_of r) (seen c' (TaskLost t)) → NumberIn o t c a c' a' n
numbers {t = t} {c' = c'} d e = record {
  number = e ∙ ap (λ (x : Answers.Answer). number_with x (seen c' (TaskLost t))) d.answer;
  control = d.control;
  area = d.area;
}

-- another function did the whole outcome, and answered its number
pub numbers-in : {o o' : Outcome} {t : ℕ} {c a c' a' : List ℕ} {n : ℕ} → o ≡ o' → NumberIn o' t c a c' a' n
    → NumberIn o t c a c' a' n
numbers-in {t = t} {c = c} {a = a} {c' = c'} {a' = a'} {n = n} e d =
    subst⁻¹ (λ (x : Outcome). NumberIn x t c a c' a' n) e d
