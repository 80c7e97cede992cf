-- "In any pool reached by calls under the third demand's premises": the sheet is filled, and tells the plain pool.
use mathlib.Core.Path.{◌≡◌, ap, ◌∙◌}
use mathlib.Core.List.{List}
use Prim.Native.Nat.{ℕ, ◌≤◌, ◌<◌}
use native.Mathlib.Omega.{arith}
use lib.ListN.{length, get_or}
use Rattle.limits.specs.Limits.{CLASSES}
use Rattle.plain.specs.Calls.{Pool}
use Rattle.control.specs.Layout.{Regions, seen}
use Rattle.stepped.specs.Outcome.{Memories}
use Rattle.agreement.specs.Reached.{History, Reached}
use Rattle.agreement.specs.Tied.{Tied}
use Rattle.agreement.proofs.Reaching.{reached-tied}
use Rattle.reports.proofs.ReportFilled.{left-short, given}
use Rattle.sheet.specs.Sheet.{COLUMNS, SHEET_NUMBERS, SHEET_BYTES, sheet_number, sheet_in_range, sheet_of}
use Rattle.sheet.proofs.FourNumbers.{zero-there}
use Rattle.report_agreement.specs.SheetTells.{number_at, OpenIn, LineTells, SheetTells}
use Rattle.report_agreement.proofs.SheetAddsUp.{adds_up}
use Rattle.report_agreement.proofs.SheetNumbers.{plain_row, open_row, closed-row}
use Rattle.report_agreement.proofs.ReportCells.{sheet-cell}
use Rattle.report_agreement.proofs.TiedReports.{small, related, invariant, same-observed, passes}

-- ---- the sheet of tied memories

module _ {s₁ : Memories} {s : Pool} (T : Tied s₁ s) (h : 1 ≤ s.tasks) (row : List ℕ) (long : SHEET_BYTES ≤ length row)
  where
    -- the line of a region that is open in the class
    line-tells : (c r : ℕ) → c < CLASSES → OpenIn s r c → LineTells (sheet_of s₁ row).1 s.mem c r
    line-tells c r class o =
        let n : r < seen s₁.control Regions = omega (arith, T.regions h, o.0) in
        let cell : (j : ℕ) → j < COLUMNS → number_at (sheet_of s₁ row).1 c r j ≡ get_or (plain_row s.mem c r) j 0 =
        λ j column.
        sheet-cell (passes T h) row long c r j class (omega (arith, small T h)) column
        ∙ ap (λ (q : List ℕ). get_or q j 0) (open_row (seen s₁.control) s₁.area (small T h) (related T h)
        (invariant T h) (T.good.strips h) c r class n o.1) in
        let hand = cell 0 (omega arith) in
        let caches = cell 1 (omega arith) in
        let requests = cell 2 (omega arith) in
        let chain = cell 3 (omega arith) in
        record {
          hand = hand;
          caches = caches;
          requests = requests;
          chain = chain;
          adds_up =
              omega (
                arith,
                hand,
                caches,
                requests,
                chain,
                adds_up (same-observed T h) (invariant T h) r c n class o.1,
              );
        }

    -- "each is the number of blocks with that holder", and zeros where the region is not open in the class
    tells : SheetTells (sheet_of s₁ row).1 s
    tells = record {
      opened = line-tells;
      closed = λ c r class region not-open j column.
          sheet-cell (passes T h) row long c r j class region column
          ∙ ap (λ (q : List ℕ). get_or q j 0) (closed-row (seen s₁.control) s₁.area (small T h) (related T h)
          (invariant T h) (T.good.strips h) c r (λ o. not-open (omega (arith, T.regions h, o.0), o.1)))
          ∙ zero-there j;
    }

-- ---- the sheet of a pool that a run has reached

-- "In any pool reached by calls under the third demand's premises, the four numbers of an open region add up to its n,
-- and each is the number of blocks with that holder": a row that is long enough gets them, and the answer is 20
pub sheet-tells : {past : History} {s₁ : Memories} {s : Pool} → Reached past s₁ s → 1 ≤ s.tasks → (row : List ℕ)
    → SHEET_BYTES ≤ length row → ((sheet_of s₁ row).0 ≡ 20) × SheetTells (sheet_of s₁ row).1 s
sheet-tells R h row long =
    let T = reached-tied R in (
      ap (λ (x : ℕ × List ℕ). x.0) (given sheet_in_range SHEET_NUMBERS sheet_number _ row (passes T h) long),
      tells T h row long,
    )

-- a row that is too short is refused with 23, and left as it is
pub sheet-short : {past : History} {s₁ : Memories} {s : Pool} → Reached past s₁ s → 1 ≤ s.tasks → (row : List ℕ)
    → length row < SHEET_BYTES → sheet_of s₁ row ≡ (23, row)
sheet-short R h row short = left-short sheet_in_range SHEET_NUMBERS sheet_number _ row (passes (reached-tied R) h) short
