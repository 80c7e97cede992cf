-- The form by holder, of the exported function: what it answers, and what its row tells, in every pool that a run has
-- reached; and how it adds up the stock sheet, whatever the memories hold.
use mathlib.Core.Path.{◌≡◌, sym, subst, ◌∙◌}
use mathlib.Core.List.{List}
use Prim.Native.Nat.{ℕ, ◌≤◌, ◌<◌}
use lib.ListN.{length}
use Rattle.plain.specs.Calls.{Pool}
use Rattle.stepped.specs.Outcome.{Memories}
use Rattle.agreement.specs.Reached.{History, Reached}
use Rattle.reports.proofs.ReportAnswers.{answers-tell, answers-are}
use Rattle.reports.proofs.ReportFilled.{same-answers}
use Rattle.sheet.specs.Sheet.{SHEET_NUMBERS, SHEET_BYTES, sheet_number, sheet_in_range, sheet_of}
use Rattle.holders.specs.Form.{FORM_NUMBERS, FORM_BYTES, form_number}
use Rattle.report_agreement.specs.FormTells.{FormTells, SameTotals}
use Rattle.report_agreement.proofs.FormOfRuns.{form-tells, form-short}
use Rattle.report_agreement.proofs.FormAddsUp.{same-totals}
use Rattle.pool.specs.ReportCall.{SheetEnsures, HoldersEnsures}

module _ {past : History} {s₁ : Memories} {s : Pool} (R : Reached past s₁ s) (started : 1 ≤ s.tasks)
    (row row' : List ℕ) (r : ℕ) (E : HoldersEnsures s₁.control s₁.area s₁.strips row row' r) where
  -- "On any pool that the stock sheet's statement covers, each is the number of the class's blocks there": a row that
  -- is long enough is filled, so that the answer is never 14, and it tells the plain pool
  pub form-told : FORM_BYTES ≤ length row → (r ≡ 20) × FormTells row' s
  form-told long = answers-tell (λ (q : List ℕ). FormTells q s) E (form-tells R started row long)

  -- a row that is too short is refused with 23, and left as it is
  pub form-refused : length row < FORM_BYTES → (r ≡ 23) × (row' ≡ row)
  form-refused short = answers-are E (form-short R started row short)

-- both reports of the same memories, which may hold anything
module _ (s : Memories) (row row' : List ℕ) (r : ℕ) (S : SheetEnsures s.control s.area s.strips row row' r)
    (form form' : List ℕ) (k : ℕ) (F : HoldersEnsures s.control s.area s.strips form form' k) where
  -- "every class total equals that of the sheet by region", where both are given
  pub totals-same : r ≡ 20 → k ≡ 20 → SameTotals row' form'
  totals-same e f =
      let T = same-totals s row form (sym S.number ∙ e) (sym F.number ∙ f) in
      subst (λ (q : List ℕ). SameTotals q form') (sym S.row_is)
      (subst (λ (q : List ℕ). SameTotals (sheet_of s row).1 q) (sym F.row_is) T)

  -- the form is refused as the sheet is, and given where it is, where both rows are long enough
  pub answers-same : SHEET_BYTES ≤ length row → FORM_BYTES ≤ length form → r ≡ k
  answers-same l h =
      S.number
      ∙ same-answers sheet_in_range SHEET_NUMBERS FORM_NUMBERS sheet_number form_number s row form l h
      ∙ sym F.number
