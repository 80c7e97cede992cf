-- The first of the tests 1, 4, 2, 5 that fails, or what they find where all pass.
use Rattle.std.proofs.Common.{◌≡◌, ℕ, ◌≤◌, ◌∙◌, refl, arith, eq-eqb, ne_eqb, Ok, Err}
use Rattle.std.specs.declared.result.Result.{Result}
use mathlib.Core.List.{List}
use mathlib.Core.Path.{sym, subst}
use lib.ListN.{length}
use mathlib.Core.Logic.{◌≢◌}
use native.Mathlib.Decide.{dec_le}
use Rattle.limits.specs.Limits.{CONTROL_BYTES}
use Rattle.limits.specs.declared.refusal.Refusal.{Refusal}
use Rattle.limits.specs.declared.refusal.Refusal.TheVariants.{NotStarted}
use Rattle.fields.specs.Columns.{View}
use Rattle.plain.specs.Calls.{Lengths}
use Rattle.control.specs.Layout.{seen, Tasks, Regions}
use Rattle.control.specs.Answers.{refusal_number}
use Rattle.stepped.specs.Calls.{Tested, FirstFails}
use Rattle.stepped.specs.Calls.{control_fails, tasks_fail, not_started, regions_fail, lengths_fail, task_fails}
use Rattle.stepped.proofs.CallTests.{failed, passed}
use Rattle.begins.specs.declared.tests.Started.{Started}
use Rattle.begins.specs.TestNumber.{first_failed, TestsAre}

module _ {lent : Lengths} {v : View} {t : ℕ} where
  -- the number of a test that fails is not 0, which tells that all pass
  pub not-zero : {n : ℕ} → FirstFails lent v t n → n ≢ 0
  not-zero (control_fails h) e = omega arith
  not-zero (tasks_fail c h) e = omega arith
  not-zero (not_started c h) e = omega arith
  not-zero (regions_fail T h) e = omega arith
  not-zero (lengths_fail T R h) e = omega arith
  not-zero (task_fails T R a h) e = omega arith

  -- the first test that fails is told
  pub fails : {r : Result Started Refusal} (e : Refusal) → r ≡ Err e → FirstFails lent v t (refusal_number e)
      → TestsAre lent v t r
  fails e d F = rw d (record { is = λ x. failed x F; passed = tt })

  -- a test behind 4 fails by e where the pool is started; where it is not, 4 does
  pub behind : {k : ℕ} {r : Result Started Refusal} (e : Refusal) → r ≡ Err (first_failed k e) → k ≡ v Tasks
      → lent.control ≡ CONTROL_BYTES
      → (1 ≤ v Tasks → FirstFails lent v t (refusal_number e)) → TestsAre lent v t r
  behind {k} {r} e d i c F = elim (dec_le 1 k) [
    | yes some ↦ (let f : r ≡ Err e = d ∙ rw (ne_eqb k 0 (λ j. omega arith)) refl in fails e f (F (omega arith)))
    | no none ↦ (let f : r ≡ Err NotStarted = d ∙ rw (eq-eqb k 0 (omega arith)) refl in
        fails NotStarted f (not_started c (omega arith)))
  ]

  -- all pass
  pub all-pass : {s : Started} → Tested lent v t → s.regions ≡ v Regions → s.task ≡ t → TestsAre lent v t (Ok s)
  all-pass T r k = record { is = λ x. passed x T; passed = record { tests = T; regions = r; task = k } }

-- what the tests behind test 1 tell of a memory is what all tests tell of the same bytes, where they have its length
pub of-length : {c c₁ : List ℕ} {a z t : ℕ} {r : Result Started Refusal} → length c ≡ CONTROL_BYTES → c₁ ≡ c
    → TestsAre (record { control = CONTROL_BYTES; area = a; strips = z }) (seen c₁) t r
    → TestsAre (record { control = length c; area = a; strips = z }) (seen c) t r
of-length {c} {c₁} {a} {z} {t} {r} l i T =
    subst (λ (k : ℕ). TestsAre (record { control = k; area = a; strips = z }) (seen c) t r) (sym l)
    (subst (λ (b : List ℕ). TestsAre (record { control = CONTROL_BYTES; area = a; strips = z }) (seen b) t r) i T)
