-- What a `?` makes of a refusal, and of tests that pass.
use Rattle.std.proofs.Common.{◌≡◌, ◌∙◌, ap, refl, Ok, Err, List, ℕ}
use Rattle.std.specs.Result.{IsErrAnd}
use Rattle.std.proofs.lemmas.Result.{err_from_is_err_and}
use Rattle.std.specs.declared.result.Result.{Result}
use Rattle.limits.specs.declared.refusal.Refusal.{Refusal}
use Rattle.control.specs.Answers.{refusal_number}
use Rattle.control.specs.declared.answer.Answer.{Answer}
use Rattle.stepped.specs.Outcome.{Outcome, refuse}
use Rattle.stepped.specs.Done.{Done}
use Rattle.stepped.proofs.Doing.{done}
use Rattle.begins.specs.TestNumber.{unless_refused}

module _ {A : Type 0} {o : Outcome} (r : Result A Refusal) (f : A → Outcome) where
  -- the tests pass, and what follows is the outcome
  pub goes : {a : A} → o ≡ unless_refused r f → r ≡ Ok a → o ≡ f a
  goes h e = h ∙ ap (λ (x : Result A Refusal). unless_refused x f) e

  -- one of them refuses
  pub stops : {e : Refusal} → o ≡ unless_refused r f → r ≡ Err e → o ≡ refuse (refusal_number e)
  stops h e = h ∙ ap (λ (x : Result A Refusal). unless_refused x f) e

  -- the exit of a `?` hands the refusal on
  pub told : (e : Refusal) → o ≡ refuse (refusal_number e) → IsErrAnd r (λ x. x ≡ e) → o ≡ unless_refused r f
  told e h i = let p = err_from_is_err_and r i in h ∙ rw (p.1, p.2) refl

-- so it does where that is the whole outcome
pub refused-by : {o : Outcome} {before : List ℕ} {r : Result Answer Refusal} (e : Refusal)
    → o ≡ refuse (refusal_number e) → IsErrAnd r (λ x. x ≡ e) → Done o before before r
refused-by {r = r} e h i = let p = err_from_is_err_and r i in done h (rw (p.1, p.2) refl) refl refl
