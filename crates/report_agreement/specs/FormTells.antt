-- docs/POOL.md, "Reports"
-- What the form by holder tells of the plain pool, and of the sheet: "On any pool that the stock sheet's statement
-- covers, each is the number of the class's blocks there, and every class total equals that of the sheet by region"
-- (the request for the sheet added up by holder). The places in a line are written as numbers: 0 the marks, 1 to 8 the
-- caches, 9 to 16 the requests, 17 the chains.
use Rattle.std.specs.Prelude.{◌≡◌, List, ℕ, suc, ◌+◌, ◌*◌, ◌<◌, length}
use Rattle.limits.specs.Limits.{REGIONS, TASKS, CLASSES}
use Rattle.rows.specs.Weights.{when}
use Rattle.rows.specs.Totals.{total}
use Rattle.fields.specs.Little.{get_le}
use Rattle.plain.specs.Calls.{Pool}
use Rattle.plain.specs.Held.{class_at, under_way}
use Rattle.agreement.specs.Observe.{plain_class}
use Rattle.reports.specs.Rows.{BYTES_OF_NUMBER}
use Rattle.sheet.specs.Sheet.{COLUMNS}
use Rattle.holders.specs.Form.{HOLDERS}
use Rattle.report_agreement.specs.Sums.{sum}
use Rattle.report_agreement.specs.Whereabouts.{times_in_hand, times_cached_by, times_running_by, times_chained}
use Rattle.report_agreement.specs.Whereabouts.{blocks_there}
use Rattle.report_agreement.specs.SheetTells.{number_at}

-- the number of the holder h in the line of the class c, which begins at the byte 36 × c
abbrev pub form_at : List ℕ → ℕ → ℕ → ℕ
form_at form c h = get_le form (BYTES_OF_NUMBER * (HOLDERS * c + h)) BYTES_OF_NUMBER

-- ---- of the plain pool

-- "the number of the class's blocks there": over all regions that are open in the class c; `often r` tells how often a
-- block of the region r stands there
abbrev pub blocks_of_class : Pool → ℕ → (ℕ → ℕ → ℕ) → ℕ
blocks_of_class s c often =
    total s.regions (λ r class. when (suc c) class (blocks_there (often r) r c)) (plain_class s.mem)

-- The line of the class c: the blocks in hand, then those of each task's caches, then those of each task's request,
-- then those of the chains. None that a task has is left out: its numbers are the length of its cache for the class,
-- and, if its request is of the class, of what that has under way.
pub record HoldersTell (form : List ℕ) (s : Pool) (c : ℕ) : Type 0 where
  pub hands : form_at form c 0 ≡ blocks_of_class s c (λ r. times_in_hand s.mem)
  pub caches : (t : ℕ) → t < TASKS → form_at form c (1 + t) ≡ blocks_of_class s c (λ r. times_cached_by (s.mem.task t))
  pub requests : (t : ℕ) → t < TASKS
      → form_at form c (9 + t) ≡ blocks_of_class s c (λ r. times_running_by (s.mem.task t))
  pub chains : form_at form c 17 ≡ blocks_of_class s c (times_chained s.mem)
  pub all_cached : (t : ℕ) → t < TASKS → form_at form c (1 + t) ≡ length ((s.mem.task t).cache c)
  pub all_running : (t : ℕ) → t < TASKS
      → form_at form c (9 + t)
      ≡ when c (class_at (s.mem.task t).place) (length (under_way (s.mem.task t).place))

-- the form tells the plain pool: the lines of all classes
abbrev pub FormTells : List ℕ → Pool → Type 0
FormTells form s = (c : ℕ) → c < CLASSES → HoldersTell form s c

-- ---- of the sheet

-- the column j of the class c in a sheet, all regions added up
abbrev pub column_sum : List ℕ → ℕ → ℕ → ℕ
column_sum sheet c j = sum REGIONS (λ r. number_at sheet c r j)

-- The line of the class c in a form adds up the class's lines in a sheet: the number for the marks is the column in
-- hand, the caches of all tasks are the second column, their requests the third, and the chains the fourth; and "every
-- class total equals that of the sheet by region".
pub record AddsUpTo (sheet form : List ℕ) (c : ℕ) : Type 0 where
  pub hands : form_at form c 0 ≡ column_sum sheet c 0
  pub caches : sum TASKS (λ t. form_at form c (1 + t)) ≡ column_sum sheet c 1
  pub requests : sum TASKS (λ t. form_at form c (9 + t)) ≡ column_sum sheet c 2
  pub chains : form_at form c 17 ≡ column_sum sheet c 3
  pub totals : sum HOLDERS (form_at form c) ≡ sum REGIONS (λ r. sum COLUMNS (number_at sheet c r))

-- the same of all classes
abbrev pub SameTotals : List ℕ → List ℕ → Type 0
SameTotals sheet form = (c : ℕ) → c < CLASSES → AddsUpTo sheet form c
