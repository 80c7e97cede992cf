-- The region's keepers, of the exported function: what it answers, and what its row tells, in every pool that a run has
-- reached, and so right after a request has ended with 13.
use mathlib.Core.Path.{◌≡◌, sym, ap, subst, ◌∙◌}
use mathlib.Core.List.{List, ◌∷◌}
use Prim.Native.Nat.{ℕ, ◌*◌, ◌≤◌, ◌<◌}
use native.Mathlib.Omega.{arith}
use lib.ListN.{length}
use Rattle.plain.specs.Moves.{Answer}
use Rattle.plain.specs.Calls.{Pool, Call, start, allocate, free, leave, step, Lengths, plain_call}
use Rattle.plain.proofs.CallTests.{by_tests, by-start-tests, start-passed, start-numbers}
use Rattle.stepped.specs.Outcome.{Memories}
use Rattle.stepped.specs.Calls.{lengths}
use Rattle.agreement.specs.Events.{Event, call, write, write_strip, whole}
use Rattle.agreement.specs.Reached.{Happened, History, Reached, from_start, by_event}
use Rattle.agreement.proofs.OneEvent.{alike}
use Rattle.agreement.proofs.Reaching.{reached-tied}
use Rattle.reports.proofs.ReportAnswers.{answers-tell, answers-are}
use Rattle.keepers.specs.Keepers.{KEEPER_BYTES}
use Rattle.report_agreement.specs.KeepersTell.{KeepersTell}
use Rattle.report_agreement.proofs.KeepersOfRuns.{keepers-tell, keepers-short}
use Rattle.pool.specs.ReportCall.{KeepersEnsures}

module _ {past : History} {s₁ : Memories} {s : Pool} (R : Reached past s₁ s) (started : 1 ≤ s.tasks)
    (row row' : List ℕ) (r : ℕ) (E : KeepersEnsures s₁.control s₁.area s₁.strips row row' r) where
  -- "Under the premises of the two runs one always applies, and it is proved to be true of the pool": a row that is
  -- long enough is filled, so that the answer is never 14, and it tells the plain pool
  pub keepers-told : KEEPER_BYTES * s.regions ≤ length row → (r ≡ 20) × KeepersTell row' s
  keepers-told long = answers-tell (λ (q : List ℕ). KeepersTell q s) E (keepers-tell R started row long)

  -- a row that is too short is refused with 23, and left as it is
  pub keepers-refused : length row < KEEPER_BYTES * s.regions → (r ≡ 23) × (row' ≡ row)
  keepers-refused short = answers-are E (keepers-short R started row short)

-- ---- right after a 13

-- the answer is not 13, or the pool that is left is started
abbrev StartedBy13 : Pool × Answer → Type 0
StartedBy13 y = y.1.code ≡ 13 → 1 ≤ y.0.tasks

-- so it is of every call
after_call : (k : Call) (lent : Lengths) (s : Pool) → StartedBy13 (plain_call k lent s)
unfolding plain_call
after_call (start b) lent s =
    by-start-tests StartedBy13 b lent s (λ n F e. absurd (omega (arith, start-numbers F))) (λ T e. T.tasks.0)
after_call (allocate t size) lent s =
    by_tests StartedBy13 t lent s _ (λ n l h e. absurd (omega arith)) (λ l e. omega (arith, l))
after_call (free t u) lent s =
    by_tests StartedBy13 t lent s _ (λ n l h e. absurd (omega arith)) (λ l e. omega (arith, l))
after_call (leave t) lent s =
    by_tests StartedBy13 t lent s _ (λ n l h e. absurd (omega arith)) (λ l e. omega (arith, l))
after_call (step t) lent s =
    by_tests StartedBy13 t lent s _ (λ n l h e. absurd (omega arith)) (λ l e. omega (arith, l))

-- and of every event
after-event : (e : Event) (s : Pool) → StartedBy13 (whole e s)
after-event (call k lent) s h = after_call k (lengths lent) s h
after-event (write at b) s h = absurd (omega arith)
after-event (write_strip at b) s h = absurd (omega arith)

-- a pool whose last event answered 13 is started
started-by-13 : {x : Happened} {past : History} {s₁ : Memories} {s : Pool} → Reached (x ∷ past) s₁ s
    → x.answer.code ≡ 13 → 1 ≤ s.tasks
unfolding plain_call
started-by-13 (from_start s₁ s b lent T) h =
    subst (λ (y : Pool × Answer). 1 ≤ y.0.tasks) (sym (start-passed s T)) T.tasks.0
started-by-13 (by_event {s₁ = s₁} {s = s} R e p) h =
    after-event e s (sym (ap (λ (a : Answer). a.code) (alike e s₁ s (reached-tied R) p).says) ∙ h)

-- "The tool takes the memories right after that step": where the last event answered 13, nothing else is asked
pub keepers-after-13 : {x : Happened} {past : History} {s₁ : Memories} {s : Pool} → Reached (x ∷ past) s₁ s
    → x.answer.code ≡ 13 → (row row' : List ℕ) (r : ℕ)
    → KeepersEnsures s₁.control s₁.area s₁.strips row row' r → KEEPER_BYTES * s.regions ≤ length row
    → (r ≡ 20) × KeepersTell row' s
keepers-after-13 R h row row' r E long = keepers-told R (started-by-13 R h) row row' r E long
