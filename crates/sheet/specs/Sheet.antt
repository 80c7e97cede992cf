-- docs/POOL.md, "Reports"
-- The stock sheet, read off the memories, for every content of them: "For each class and region the sheet gives blocks
-- in hand, in caches, with running requests .., and in the chain."
use Rattle.std.specs.Prelude.{Bool, cond, ◌&&◌, List, [], ◌∷◌, ℕ, ◌*◌, ◌/◌, ◌%◌, ltb, eqb, get_or}
use Rattle.limits.specs.Limits.{REGIONS, CLASSES}
use Rattle.fields.specs.Columns.{View}
use Rattle.stepped.specs.Outcome.{Memories}
use Rattle.reports.specs.Passing.{all_pass}
use Rattle.reports.specs.Rows.{BYTES_OF_NUMBER}
use Rattle.reports.specs.Reports.{report_on}
use Rattle.report_marks.specs.InHand.{blocks_in_hand}
use Rattle.report_caches.specs.CacheRows.{caches_in_range, blocks_in_caches}
use Rattle.report_requests.specs.UnderWay.{requests_in_range, blocks_in_requests}
use Rattle.report_regions.specs.Opened.{Opened, Closed, Open, Outside, opened_of, regions_in_range}

-- "four numbers": the columns of the sheet
abbrev pub COLUMNS : ℕ
COLUMNS = 4

-- how many numbers the sheet has, class by class, and in each class region by region
abbrev pub SHEET_NUMBERS : ℕ
SHEET_NUMBERS = CLASSES * REGIONS * COLUMNS

-- how many bytes: 1,664
abbrev pub SHEET_BYTES : ℕ
SHEET_BYTES = BYTES_OF_NUMBER * SHEET_NUMBERS

-- "A region that is not open in the class shows four zeros" (the request for the stock sheet)
abbrev pub four_zeros : List ℕ
four_zeros = 0 ∷ 0 ∷ 0 ∷ 0 ∷ []

-- the numbers of a region for the class c, by what is read of the region, where so many blocks are in hand, in caches
-- and with requests; the fourth is the chain's
abbrev pub four_by : (hand caches requests c : ℕ) → Opened → List ℕ
four_by hand caches requests c Closed = four_zeros
four_by hand caches requests c (Open class chain) =
    cond (eqb class c) (hand ∷ caches ∷ requests ∷ chain ∷ []) four_zeros
four_by hand caches requests c Outside = four_zeros

-- the numbers of the region r for the class c, where so many blocks are in caches and with requests; a region that is
-- not in the area shows zeros, too
unfoldable pub four_with : View → (regions caches requests c r : ℕ) → List ℕ
four_with v regions caches requests c r =
    cond (ltb r regions) (four_by (blocks_in_hand v r c) caches requests c (opened_of v regions r)) four_zeros

-- v: what stands in the fields; link: each block's link; regions: the started number of them
module _ (v : View) (link : ℕ → ℕ) (regions : ℕ) where
  -- the four numbers of the class c and the region r: in hand, in caches, with running requests, and in the chain
  abbrev pub four_of : ℕ → ℕ → List ℕ
  four_of c r = four_with v regions (blocks_in_caches v link c r) (blocks_in_requests v regions c r) c r

  -- the number i of the sheet: the four numbers of the class c and the region r begin at the byte 8 × (16 × c + r)
  unfoldable pub sheet_number : ℕ → ℕ
  sheet_number i = get_or (four_of (i / COLUMNS / REGIONS) (i / COLUMNS % REGIONS)) (i % COLUMNS) 0

  -- whether all that is read for the sheet is in its range: the caches of every class, the requests, the regions
  unfoldable pub sheet_in_range : Bool
  sheet_in_range =
      all_pass CLASSES (λ c. caches_in_range v link regions c)
      && (requests_in_range v regions && regions_in_range v regions)

-- The sheet, lent the memories and a row: its answer, and the row that it leaves.
abbrev pub sheet_of : Memories → List ℕ → ℕ × List ℕ
sheet_of = report_on sheet_in_range SHEET_NUMBERS sheet_number
