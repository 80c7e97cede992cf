-- The stock sheet, of the exported function: what it answers, and what its row tells, in every pool that a run has
-- reached. Whatever the memories hold, its contract says both; here the memories are those of a run.
use mathlib.Core.Path.{◌≡◌}
use mathlib.Core.List.{List}
use Prim.Native.Nat.{ℕ, ◌≤◌, ◌<◌}
use lib.ListN.{length}
use Rattle.plain.specs.Calls.{Pool}
use Rattle.stepped.specs.Outcome.{Memories}
use Rattle.agreement.specs.Reached.{History, Reached}
use Rattle.reports.proofs.ReportAnswers.{answers-tell, answers-are}
use Rattle.sheet.specs.Sheet.{SHEET_BYTES}
use Rattle.report_agreement.specs.SheetTells.{SheetTells}
use Rattle.report_agreement.proofs.SheetOfRuns.{sheet-tells, sheet-short}
use Rattle.pool.specs.ReportCall.{SheetEnsures}

module _ {past : History} {s₁ : Memories} {s : Pool} (R : Reached past s₁ s) (started : 1 ≤ s.tasks)
    (row row' : List ℕ) (r : ℕ) (E : SheetEnsures s₁.control s₁.area s₁.strips row row' r) where
  -- "In any pool reached by calls under the third demand's premises": a row that is long enough is filled, so that the
  -- answer is never 14, and it tells the plain pool
  pub sheet-told : SHEET_BYTES ≤ length row → (r ≡ 20) × SheetTells row' s
  sheet-told long = answers-tell (λ (q : List ℕ). SheetTells q s) E (sheet-tells R started row long)

  -- a row that is too short is refused with 23, and left as it is
  pub sheet-refused : length row < SHEET_BYTES → (r ≡ 23) × (row' ≡ row)
  sheet-refused short = answers-are E (sheet-short R started row short)
