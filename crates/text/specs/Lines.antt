-- docs/POOL.md, "The stand"
-- The lines of the stand's table. The character 32 is a space, 10 the end of a line.
use Rattle.std.specs.Prelude.{ℕ, ◌*◌, List, [], ◌∷◌, ◌++◌}
use Rattle.schedule.specs.declared.tally.Tally.{Tally}
use Rattle.schedule.specs.declared.treat.Line.{Line}
use Rattle.text.specs.declared.LostColumn.{LostColumn}
use Rattle.text.specs.declared.LostColumn.TheVariants.{Hidden, Shown}
use Rattle.text.specs.Texts.{decimal}

-- the most bytes of a number of 64 bits, 20 digits, with the character behind it
abbrev pub FIELD_BYTES : ℕ
FIELD_BYTES = 21

-- what a line is written into has so many bytes at least: room for five numbers with what is behind them
abbrev pub LINE_ROOM : ℕ
LINE_ROOM = 5 * FIELD_BYTES

-- the most bytes of the line of column names
abbrev pub COLUMNS_BYTES : ℕ
COLUMNS_BYTES = 28

-- the most bytes of a record's line: its five numbers have 5, 3, 3, 8 and 10 digits at most, each with a character
-- behind it
abbrev pub LINE_BYTES : ℕ
LINE_BYTES = 34

-- a number and the character behind it
abbrev pub field_text : ℕ → ℕ → List ℕ
field_text n behind = decimal n ++ (behind ∷ [])

-- the characters of `record kind code value`
abbrev pub column_names : List ℕ
column_names =
    114 ∷ 101 ∷ 99 ∷ 111 ∷ 114 ∷ 100 ∷ 32
    ∷ 107 ∷ 105 ∷ 110 ∷ 100 ∷ 32
    ∷ 99 ∷ 111 ∷ 100 ∷ 101 ∷ 32
    ∷ 118 ∷ 97 ∷ 108 ∷ 117 ∷ 101
    ∷ []

-- the characters of a space and `lost`
abbrev pub lost_name : List ℕ
lost_name = 32 ∷ 108 ∷ 111 ∷ 115 ∷ 116 ∷ []

-- the end of the line of column names
abbrev pub columns_end : LostColumn → List ℕ
columns_end Hidden = 10 ∷ []
columns_end Shown = lost_name ++ 10 ∷ []

-- "After a line of column names", which has the column of the lost exchanges or not
abbrev pub columns_text : LostColumn → List ℕ
columns_text lost = column_names ++ columns_end lost

-- the value, and behind it the lost exchanges or nothing
abbrev pub line_end : LostColumn → Line → List ℕ
line_end Hidden l = field_text l.value 10
line_end Shown l = field_text l.value 32 ++ field_text l.lost 10

-- "each line, in decimal: record from 0, kind byte, code, value", and behind the value the lost exchanges or nothing
unfoldable pub line_text : LostColumn → Line → List ℕ
line_text lost l = field_text l.number 32 ++ field_text l.kind 32 ++ field_text l.code 32 ++ line_end lost l

-- the characters of `total` and a space
abbrev pub total_word : List ℕ
total_word = 116 ∷ 111 ∷ 116 ∷ 97 ∷ 108 ∷ 32 ∷ []

-- "The last line counts codes 20, codes 0 and the others."
unfoldable pub total_text : Tally → List ℕ
total_text y = total_word ++ field_text y.finished 32 ++ field_text y.accepted 32 ++ field_text y.others 10
