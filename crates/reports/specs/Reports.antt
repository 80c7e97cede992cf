-- docs/POOL.md, "Reports"
-- How a report ends: its tests in their order, its answer, and the row that it leaves.
use Rattle.std.specs.Prelude.{◌≡◌, Bool, true, false, cond, List, ℕ, ◌*◌, leb, eqb, length, Ok, Err, OnOk, OnErr}
use Rattle.std.specs.declared.result.Result.{Result}
use Rattle.limits.specs.Limits.{CONTROL_BYTES, TASKS, REGIONS}
use Rattle.limits.specs.declared.index.OutOfRange.{OutOfRange}
use Rattle.limits.specs.declared.refusal.Refusal.{Refusal}
use Rattle.fields.specs.Columns.{View}
use Rattle.links.specs.Link.{link}
use Rattle.plain.specs.Calls.{Lengths}
use Rattle.control.specs.Layout.{Tasks, Regions, seen}
use Rattle.control.specs.Answers.{refusal_number}
use Rattle.stepped.specs.Outcome.{Memories}
use Rattle.stepped.specs.Ranges.{one_to}
use Rattle.stepped.specs.Calls.{is_started_lengths, lengths, lending}
use Rattle.reports.specs.Rows.{BYTES_OF_NUMBER, with_numbers, numbers_to}

-- the tests 1, 4, 2 of a report, which are those of every call but a start, without the task's: the number of the first
-- that fails, 14 where a stored number that they read is out of its range; 0 where all pass
unfoldable pub report_refusal : Lengths → View → ℕ
report_refusal lent v =
    cond (eqb lent.control CONTROL_BYTES)
    (cond (leb (v Tasks) TASKS)
    (cond (eqb (v Tasks) 0) 4 (cond (one_to REGIONS (v Regions)) (cond (is_started_lengths lent (v Regions)) 0 2) 14))
    14)
    1

-- The answer of a report that has passed these tests, and the row that it leaves. `in_range` tells whether all that it
-- reads is in its range, and of the keepers also whether each region has one; `numbers` are those that it writes.
-- "Memory that is out of range is answered with 14" (the request for the stock sheet); then comes 23, where the row is
-- too short for the numbers; else 20, with the numbers at the row's start. A refused report leaves the row.
unfoldable pub answered : (in_range : Bool) (numbers row : List ℕ) → ℕ × List ℕ
answered in_range numbers row =
    cond in_range
    (cond (leb (BYTES_OF_NUMBER * length numbers) (length row)) (20, with_numbers 0 numbers row) (23, row))
    (14, row)

-- a report by the lengths that it is lent, the fields, and its row: its answer, and the row that it leaves
unfoldable pub report_of : Lengths → View → (in_range : Bool) (numbers row : List ℕ) → ℕ × List ℕ
report_of lent v in_range numbers row =
    cond (eqb (report_refusal lent v) 0) (answered in_range numbers row) (report_refusal lent v, row)

-- A report of n numbers, lent the memories s and a row: its answer, and the row that it leaves. Whether it is refused
-- by 14, and the number i, go by what stands in the fields, by each block's link, and by the started number of regions.
-- Nothing else is written.
unfoldable pub report_on : (in_range : View → (ℕ → ℕ) → ℕ → Bool) (n : ℕ) (number : View → (ℕ → ℕ) → ℕ → ℕ → ℕ)
    → Memories → List ℕ → ℕ × List ℕ
report_on in_range n number s row =
    let v = seen s.control in
    let links = link s.area in
    let regions = v Regions in
    report_of (lengths (lending s)) v (in_range v links regions) (numbers_to n (number v links regions)) row

-- the number of a report's answer, by what its function returns: "20 finished", or that of its refusal
abbrev pub report_number : {A : Type 0} → Result A Refusal → ℕ
report_number (Ok _) = 20
report_number (Err e) = refusal_number e

-- What a report's function ensures: it answers r and leaves the row, as x says.
pub record Answers (x : ℕ × List ℕ) (row : List ℕ) (r : ℕ) : Type 0 where
  pub number : r ≡ x.0
  pub row_is : row ≡ x.1

-- What is ensured by the function that gathers the numbers of a report: it ends well exactly where all that it read is
-- in its range; then they are the report's.
pub record Gathered {A : Type 0} (in_range : Bool) (numbers after : List ℕ) (ended : Result A OutOfRange) : Type 0 where
  pub numbers_are : OnOk ended (after ≡ numbers)
  pub in_range_is : OnOk ended (in_range ≡ true)
  pub out_of_range : OnErr ended (in_range ≡ false)
