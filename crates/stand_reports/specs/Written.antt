-- docs/POOL.md, "The stand"
-- What the programs of the reports write.
use Rattle.std.specs.Prelude.{ℕ, List, [], ◌∷◌, ◌++◌, Option, IfSome, length, take}
use Rattle.std.specs.Io.KnownBytes.{Appends}
use Rattle.control.specs.Answers.{code_in}
use Rattle.stepped.specs.Outcome.{Memories}
use Rattle.schedule.specs.Records.{INPUT_BYTES}
use Rattle.schedule.specs.Stand.{played, last_answer}
use Rattle.schedule.specs.Bytes.{on_bytes}
use Rattle.stand_reports.specs.declared.LastCode.{LastCode}
use Rattle.stand_reports.specs.declared.LastCode.TheVariants.{Hidden, Shown}

-- the code of the report's answer, and in front of it that of the last record's answer or nothing
abbrev pub codes_text : LastCode → ℕ → ℕ → List ℕ
codes_text Hidden last report = report ∷ []
codes_text Shown last report = last ∷ report ∷ []

-- the output for an input that is played on the memories s: the codes, and then the row that the report leaves
abbrev pub output : (Memories → List ℕ → ℕ × List ℕ) → LastCode → Memories → List ℕ → List ℕ → List ℕ
output report last s row input =
    let x = report (played on_bytes (length input) input 0 s) row in
    codes_text last (code_in (last_answer on_bytes (length input) input 0 0 s)) (code_in x.0) ++ x.1

-- What a program of a report ensures, where the bytes that are ahead of the reader are known, and those that the writer
-- holds before and after: these have grown by the output for the first bytes of the input. "Input past 65,536 bytes is
-- not read".
abbrev pub Writes : (Memories → List ℕ → ℕ × List ℕ) → LastCode → Memories → (row : List ℕ)
    → (ahead before after : Option (List ℕ)) → Type 0
Writes report last s row ahead before after =
    IfSome ahead (λ all. Appends before after (output report last s row (take INPUT_BYTES all)))
