-- docs/POOL.md, "The stand"
-- A report on what a schedule leaves.
use Rattle.std.specs.Prelude.{◌≡◌, ℕ, List, length}
use Rattle.control.specs.Answers.{code_in}
use Rattle.stepped.specs.Outcome.{Memories}
use Rattle.schedule.specs.Stand.{played, last_answer}
use Rattle.schedule.specs.Bytes.{on_bytes, started_part}
use Rattle.stand_reports.specs.declared.Codes.{Codes}

-- What a function ensures that plays an input on the memories s and reports: the row holds the report on what the
-- records leave, and the codes are those of the last record's answer and of the report's.
pub record Reports (report : Memories → List ℕ → ℕ × List ℕ) (input : List ℕ) (s : Memories) (row row' : List ℕ)
    (codes : Codes) : Type 0 where
  pub last : codes.last ≡ code_in (last_answer on_bytes (length input) input 0 0 s)
  pub code : codes.report ≡ code_in (report (started_part (played on_bytes (length input) input 0 s)) row).0
  pub row_is : row' ≡ (report (started_part (played on_bytes (length input) input 0 s)) row).1
