-- docs/POOL.md, "Calls and refusals"
-- What the tests of a call tell.
use Rattle.std.specs.Prelude.{◌≡◌, ℕ, cond, ◌==◌, Ok, Err, IfOk}
use Rattle.std.specs.declared.result.Result.{Result}
use Rattle.limits.specs.declared.refusal.Refusal.{Refusal}
use Rattle.limits.specs.declared.refusal.Refusal.TheVariants.{NotStarted}
use Rattle.fields.specs.Columns.{View}
use Rattle.plain.specs.Calls.{Lengths}
use Rattle.control.specs.Layout.{Regions}
use Rattle.control.specs.Answers.{refusal_number}
use Rattle.stepped.specs.Outcome.{Outcome, refuse}
use Rattle.stepped.specs.Calls.{tested, Tested}
use Rattle.begins.specs.declared.tests.Started.{Started}

-- "4 pool not started": the first that fails of this test, by the number of tasks, and of one behind it that fails by e
abbrev pub first_failed : ℕ → Refusal → Refusal
first_failed tasks e = cond (tasks == 0) NotStarted e

-- the outcome of a call whose tests tell r: the first that fails refuses it; where all pass, f follows, by what they
-- find
abbrev pub unless_refused : {A : Type 0} → Result A Refusal → (A → Outcome) → Outcome
unless_refused (Ok a) f = f a
unless_refused (Err e) f = refuse (refusal_number e)

-- what tests that pass find: the started number of regions, and the task that calls
pub record Finds (lent : Lengths) (v : View) (t : ℕ) (s : Started) : Type 0 where
  pub tests : Tested lent v t
  pub regions : s.regions ≡ v Regions
  pub task : s.task ≡ t

-- The result r has the first of the tests 1, 4, 2, 5 that fails, whatever follows them; or else what they find.
pub record TestsAre (lent : Lengths) (v : View) (t : ℕ) (r : Result Started Refusal) : Type 0 where
  pub is : (x : Outcome) → tested lent v t x ≡ unless_refused r (λ s. x)
  pub passed : IfOk r (Finds lent v t)
