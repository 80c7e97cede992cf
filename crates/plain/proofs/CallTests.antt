-- Tests that a step or a call makes: what holds of each result holds after the tests.
use mathlib.Core.Path.{◌≡◌, sym, subst, ◌∙◌}
use mathlib.Core.Logic.{◌⊎◌, ⊎_elim, inl, inr}
use Prim.Native.Nat.{ℕ, ◌/◌, ◌≤◌, ◌<◌}
use native.Mathlib.Omega.{arith}
use native.Mathlib.Decide.{ℕ_discrete, dec_lt}
use Rattle.limits.specs.Limits.{CONTROL_BYTES, REGION_BYTES}
use Rattle.rows.specs.Branch.{if}
use Rattle.rows.proofs.Branch.{if_yes, if_no}
use Rattle.plain.specs.Moves.{Answer, nothing, going}
use Rattle.plain.specs.Steps.{Result}
use Rattle.plain.specs.Calls.{Pool, Start, Lengths, StartLengths, StartTasks, start_lengths?, start_tasks?}
use Rattle.plain.specs.Calls.{start_mem}
use Rattle.plain.specs.Calls.{refuse, became, tested, Tested, start_call, StartTested, StartFails, start_control}
use Rattle.plain.specs.Calls.{start_lengths, start_tasks, started_lengths?}
use Rattle.plain.specs.Invariant.{Invariant}

-- a test: what holds of both of its results holds of its result
pub either : {P X : Type 0} (Q : X → Type 0) (d : Dec P) (x y : X) → (P → Q x) → (¬ P → Q y) → Q (if d x y)
either Q (yes p) x y a b = a p
either Q (no n) x y a b = b n

-- tests 1, 4, 2, 5 of a call that is no start: it is refused, or does what follows them
pub by_tests : (Q : Pool × Answer → Type 0) (t : ℕ) (lent : Lengths) (s : Pool) (x : Result)
    → ((n : ℕ) → 1 ≤ n → n ≤ 5 → Q (refuse n s)) → (t < s.tasks → Q (became s x))
    → Q (tested t lent s x)
by_tests Q t lent s x no_more h =
    either Q (ℕ_discrete lent.control CONTROL_BYTES) _ _
    (λ a. either Q (ℕ_discrete s.tasks 0) _ _ (λ b. no_more 4 (omega arith) (omega arith))
    (λ b. either Q (started_lengths? lent s.regions) _ _
    (λ c. either Q (dec_lt t s.tasks) _ _ h (λ d. no_more 5 (omega arith) (omega arith)))
    (λ c. no_more 2 (omega arith) (omega arith))))
    (λ a. no_more 1 (omega arith) (omega arith))

-- a call that passes the tests 1, 4, 2, 5 does what follows them
pub passed : {t : ℕ} {lent : Lengths} {s : Pool} (x : Result) → Tested t lent s → tested t lent s x ≡ became s x
passed {t} {lent} {s} x T =
    if_yes (ℕ_discrete lent.control CONTROL_BYTES) _ _ T.control_is
    ∙ if_no (ℕ_discrete s.tasks 0) _ _ (λ e. absurd (omega (arith, T.started)))
    ∙ if_yes (started_lengths? lent s.regions) _ _ T.lengths
    ∙ if_yes (dec_lt t s.tasks) _ _ T.below

-- the pool after an accepted start
abbrev pub started : Start → Lengths → Pool × Answer
started b lent =
    let regions = lent.area / REGION_BYTES in
    (record { tasks = b.tasks; regions = regions; mem = start_mem regions }, going nothing)

-- a start passes its tests, or one of them is the first to fail
pub start-tested : (b : Start) (lent : Lengths) → ((n : ℕ) × StartFails b lent n) ⊎ StartTested b lent
start-tested b lent =
    by (ℕ_discrete lent.control CONTROL_BYTES) (start_lengths? lent) (start_tasks? b.tasks)
  where
    by : Dec (lent.control ≡ CONTROL_BYTES) → Dec (StartLengths lent) → Dec (StartTasks b.tasks)
        → ((n : ℕ) × StartFails b lent n) ⊎ StartTested b lent
    by (no c) a t = inl (1, start_control c)
    by (yes c) (no a) t = inl (2, start_lengths c a)
    by (yes c) (yes a) (no t) = inl (3, start_tasks c a t)
    by (yes c) (yes a) (yes t) = inr (record { control_is = c; lengths = a; tasks = t })

module _ {b : Start} {lent : Lengths} where
  -- a start that fails one of its tests is refused
  pub start-failed : (s : Pool) {n : ℕ} → StartFails b lent n → start_call b lent s ≡ refuse n s
  start-failed s (start_control h) = if_no (ℕ_discrete lent.control CONTROL_BYTES) _ _ h
  start-failed s (start_lengths c h) =
      if_yes (ℕ_discrete lent.control CONTROL_BYTES) _ _ c ∙ if_no (start_lengths? lent) _ _ h
  start-failed s (start_tasks c a h) =
      if_yes (ℕ_discrete lent.control CONTROL_BYTES) _ _ c ∙ if_yes (start_lengths? lent) _ _ a
      ∙ if_no (start_tasks? b.tasks) _ _ h

  -- a start that passes its tests begins a new run
  pub start-passed : (s : Pool) → StartTested b lent → start_call b lent s ≡ started b lent
  start-passed s T =
      if_yes (ℕ_discrete lent.control CONTROL_BYTES) _ _ T.control_is
      ∙ if_yes (start_lengths? lent) _ _ T.lengths ∙ if_yes (start_tasks? b.tasks) _ _ T.tasks

  -- the numbers by which a start is refused
  pub start-numbers : {n : ℕ} → StartFails b lent n → (1 ≤ n) × (n ≤ 3)
  start-numbers (start_control h) = (omega arith, omega arith)
  start-numbers (start_lengths c h) = (omega arith, omega arith)
  start-numbers (start_tasks c a h) = (omega arith, omega arith)

-- what holds of a refused start, and of one that begins a new run, holds of a start
pub by-start-tests : (Q : Pool × Answer → Type 0) (b : Start) (lent : Lengths) (s : Pool)
    → ((n : ℕ) → StartFails b lent n → Q (refuse n s)) → (StartTested b lent → Q (started b lent))
    → Q (start_call b lent s)
by-start-tests Q b lent s no_more h =
    ⊎_elim (λ F. subst Q (sym (start-failed s F.1)) (no_more F.0 F.1))
    (λ T. subst Q (sym (start-passed s T)) (h T)) (start-tested b lent)

-- the memory after a step or a beginning has the invariant
abbrev pub KeepsInvariant : ℕ → Result → Type 0
KeepsInvariant area x = Invariant area x.0
