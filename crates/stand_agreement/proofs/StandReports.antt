-- The reports of the stand tell the plain pool fed the same records.
use mathlib.Core.Path.{◌≡◌, subst}
use mathlib.Core.List.{List}
use Prim.Native.Nat.{ℕ, ◌*◌, ◌≤◌}
use native.Mathlib.Omega.{arith}
use borrow.Author.Tests.{ne_eqb}
use lib.ListN.{length}
use Rattle.fields.specs.Little.{Bytes}
use Rattle.stepped.specs.Outcome.{Memories}
use Rattle.reports.specs.Reports.{Answers}
use Rattle.reports.proofs.ReportAnswers.{answers-tell}
use Rattle.sheet.specs.Sheet.{SHEET_NUMBERS, SHEET_BYTES, sheet_number, sheet_in_range, sheet_of}
use Rattle.holders.specs.Form.{FORM_NUMBERS, FORM_BYTES, form_number, form_of}
use Rattle.keepers.specs.Keepers.{KEEPER_BYTES, keeper_number, are_kept, keepers_of}
use Rattle.report_agreement.specs.SheetTells.{SheetTells}
use Rattle.report_agreement.specs.FormTells.{FormTells}
use Rattle.report_agreement.specs.KeepersTell.{KeepersTell}
use Rattle.report_agreement.proofs.SheetOfRuns.{sheet-tells}
use Rattle.report_agreement.proofs.FormOfRuns.{form-tells}
use Rattle.report_agreement.proofs.KeepersOfRuns.{keepers-tell}
use Rattle.schedule.specs.Records.{INPUT_BYTES}
use Rattle.schedule.specs.Stand.{STAND_REGIONS}
use Rattle.schedule.specs.Bytes.{started_part, after_all}
use Rattle.schedule.specs.Plain.{regions_fed}
use Rattle.stand_agreement.proofs.AfterAll.{plain_after_all, after-all, lent_is, not_started}

module _ (input : List ℕ) (bytes : Bytes input) (long : length input ≤ INPUT_BYTES) (row row' : List ℕ) (r : ℕ) where
  -- What `./stand --sheet` puts into its row, said of the plain pool: once a start is accepted the answer is 20, and the
  -- sheet tells the plain pool fed the same records. What is given of the row is what `report_after_all` of
  -- crates/stand_reports/src/lib.rt ensures, word for word, with the report of crates/stand_sheet. The input is any
  -- bytes, at most 65,536, and there is no other premise.
  module _ (A : Answers (sheet_of (started_part (after_all input)) row) row' r) where
    pub sheet-is-plain : 1 ≤ (plain_after_all input).tasks → SHEET_BYTES ≤ length row
        → (r ≡ 20) × SheetTells row' (plain_after_all input)
    sheet-is-plain started fits =
        answers-tell (λ (q : List ℕ). SheetTells q (plain_after_all input))
        (subst (λ (s : Memories). Answers (sheet_of s row) row' r) (lent_is input bytes long) A)
        (sheet-tells (after-all input bytes long).1.reached started row fits)

    -- before any start is accepted it is refused with 4, and the row is left as it is
    pub sheet-not-started : (plain_after_all input).tasks ≡ 0 → (r ≡ 4) × (row' ≡ row)
    sheet-not-started none = not_started input bytes long sheet_in_range SHEET_NUMBERS sheet_number row row' r A none

  -- The same of `./stand --holders`.
  module _ (A : Answers (form_of (started_part (after_all input)) row) row' r) where
    pub form-is-plain : 1 ≤ (plain_after_all input).tasks → FORM_BYTES ≤ length row
        → (r ≡ 20) × FormTells row' (plain_after_all input)
    form-is-plain started fits =
        answers-tell (λ (q : List ℕ). FormTells q (plain_after_all input))
        (subst (λ (s : Memories). Answers (form_of s row) row' r) (lent_is input bytes long) A)
        (form-tells (after-all input bytes long).1.reached started row fits)

    pub form-not-started : (plain_after_all input).tasks ≡ 0 → (r ≡ 4) × (row' ≡ row)
    form-not-started none = not_started input bytes long sheet_in_range FORM_NUMBERS form_number row row' r A none

  -- The same of `./stand --keepers`, which tells also how the last record ended: that is the plain pool's answer
  -- (`last-is-plain` of AfterAll.antt).
  module _ (A : Answers (keepers_of (started_part (after_all input)) row) row' r) where
    pub keepers-are-plain : 1 ≤ (plain_after_all input).tasks → KEEPER_BYTES * STAND_REGIONS ≤ length row
        → (r ≡ 20) × KeepersTell row' (plain_after_all input)
    keepers-are-plain started fits =
        let B = (after-all input bytes long).1 in
        let p = plain_after_all input in
        let fed : regions_fed p ≡ p.regions = rw (ne_eqb p.tasks 0 (λ e. absurd (omega (arith, started)))) in
        answers-tell (λ (q : List ℕ). KeepersTell q (plain_after_all input))
        (subst (λ (s : Memories). Answers (keepers_of s row) row' r) (lent_is input bytes long) A)
        (keepers-tell B.reached started row (omega (arith, fits, fed, B.few)))

    pub keepers-not-started : (plain_after_all input).tasks ≡ 0 → (r ≡ 4) × (row' ≡ row)
    keepers-not-started none = not_started input bytes long are_kept _ keeper_number row row' r A none
