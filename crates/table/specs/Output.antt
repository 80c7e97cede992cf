-- docs/POOL.md, "The stand"
-- What the stand writes: the text of the table of its input.
use Rattle.std.specs.Prelude.{ℕ, List, [], ◌∷◌, ◌++◌, Option, IfSome, length, take}
use Rattle.std.specs.Io.KnownBytes.{Appends}
use Rattle.plain.specs.Calls.{unstarted}
use Rattle.stepped.specs.Outcome.{Memories}
use Rattle.schedule.specs.declared.tally.Tally.{Tally}
use Rattle.schedule.specs.declared.treat.Line.{Line}
use Rattle.schedule.specs.Records.{INPUT_BYTES}
use Rattle.schedule.specs.Tally.{none_counted}
use Rattle.schedule.specs.Stand.{table}
use Rattle.schedule.specs.Bytes.{on_bytes}
use Rattle.schedule.specs.Plain.{on_plain}
use Rattle.text.specs.declared.LostColumn.{LostColumn}
use Rattle.text.specs.declared.LostColumn.TheVariants.{Hidden}
use Rattle.text.specs.Texts.{Appended}
use Rattle.text.specs.Lines.{columns_text, line_text, total_text}

-- room for the longest table: 65,536 lines of at most LINE_BYTES bytes, the first line and the last
abbrev pub TABLE_BYTES : ℕ
TABLE_BYTES = 2228480

-- "each line, in decimal: record from 0, kind byte, code, value", with the lost exchanges where they are shown, and the
-- last line, which "counts codes 20, codes 0 and the others"
unfoldable pub rows_text : LostColumn → List Line → Tally → List ℕ
rows_text lost [] y = total_text y
rows_text lost (l ∷ ls) y = line_text lost l ++ rows_text lost ls y

-- "After a line of column names, each line .."
unfoldable pub table_text : LostColumn → List Line × Tally → List ℕ
table_text lost t = columns_text lost ++ rows_text lost t.0 t.1

-- the whole output for an input, with the lost exchanges or without them, and with three memories before the first
-- record
unfoldable pub output : LostColumn → List ℕ → Memories → List ℕ
output lost input s = table_text lost (table on_bytes (length input) input 0 0 none_counted s)

-- What a function ensures of its buffer, which is `out` before and `out'` after: the first r bytes of `out'` are the
-- output for an input on three memories s. Those of the stand's program are zero at first. "The stand prints what it
-- printed" (the request for lost exchanges): there they are hidden.
abbrev pub Plays : LostColumn → (input : List ℕ) → Memories → (out out' : List ℕ) → ℕ → Type 0
Plays lost input s out out' r = Appended out out' 0 (output lost input s) r

-- What a function ensures that reads and writes, where the bytes that are ahead of the reader are known, and those that
-- the writer holds before and after: these have grown by the output for the first bytes of the input. "Input past
-- 65,536 bytes is not read".
abbrev pub Writes : LostColumn → Memories → (ahead before after : Option (List ℕ)) → Type 0
Writes lost s ahead before after = IfSome ahead (λ input. Appends before after (output lost (take INPUT_BYTES input) s))

-- the whole output of the plain pool, which is not started before the first record, and tells no lost exchanges
unfoldable pub plain_output : List ℕ → List ℕ
plain_output input = table_text Hidden (table on_plain (length input) input 0 0 none_counted unstarted)

-- The same, said of the plain pool: these bytes are its output for that input.
abbrev pub PlaysPlain : (input out out' : List ℕ) → ℕ → Type 0
PlaysPlain input out out' r = Appended out out' 0 (plain_output input) r

-- The same of what a function ensures that reads and writes.
abbrev pub WritesPlain : (ahead before after : Option (List ℕ)) → Type 0
WritesPlain ahead before after = IfSome ahead (λ input. Appends before after (plain_output (take INPUT_BYTES input)))
