-- docs/POOL.md, "Reports"
-- What each exported report ensures.
use Rattle.std.specs.Prelude.{List, ℕ}
use Rattle.reports.specs.Reports.{Answers}
use Rattle.sheet.specs.Sheet.{sheet_of}
use Rattle.holders.specs.Form.{form_of}
use Rattle.keepers.specs.Keepers.{keepers_of}

-- What pool_sheet ensures: lent the bytes `control`, `area` and `strips`, and the row `sheet`, it answers r and leaves
-- `sheet'`, as the definition of the sheet says. The three memories are lent to be read, so that it cannot change them.
abbrev pub SheetEnsures : (control area strips sheet sheet' : List ℕ) → ℕ → Type 0
SheetEnsures control area strips sheet sheet' r =
    Answers (sheet_of (record { control = control; area = area; strips = strips }) sheet) sheet' r

-- What pool_holders ensures, lent the same and the row `form`: it answers r and leaves `form'`, as the definition of
-- the form by holder says.
abbrev pub HoldersEnsures : (control area strips form form' : List ℕ) → ℕ → Type 0
HoldersEnsures control area strips form form' r =
    Answers (form_of (record { control = control; area = area; strips = strips }) form) form' r

-- What pool_keepers ensures, lent the same and the row `keepers`: it answers r and leaves `keepers'`, as the definition
-- of the region's keepers says.
abbrev pub KeepersEnsures : (control area strips keepers keepers' : List ℕ) → ℕ → Type 0
KeepersEnsures control area strips keepers keepers' r =
    Answers (keepers_of (record { control = control; area = area; strips = strips }) keepers) keepers' r
