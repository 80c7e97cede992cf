-- docs/POOL.md, "Reports"
-- The form by holder, read off the memories, for every content of them: "for each class, one number for the marks, then
-- one for each task's caches, then one for each task's request, then one for the chains of open regions" (the request
-- for the sheet added up by holder).
use Rattle.std.specs.Prelude.{List, [], ◌∷◌, ◌++◌, ℕ, ◌+◌, ◌*◌, ◌/◌, ◌%◌, get_or}
use Rattle.limits.specs.Limits.{TASKS, CLASSES}
use Rattle.rows.specs.Weights.{when}
use Rattle.rows.specs.Totals.{total}
use Rattle.fields.specs.Columns.{View}
use Rattle.stepped.specs.Outcome.{Memories}
use Rattle.reports.specs.ByRegion.{in_region}
use Rattle.reports.specs.Rows.{BYTES_OF_NUMBER, numbers_to}
use Rattle.reports.specs.Reports.{report_on}
use Rattle.report_marks.specs.InHand.{blocks_in_hand}
use Rattle.report_caches.specs.CacheRows.{cache_row}
use Rattle.report_requests.specs.UnderWay.{request_blocks, in_request}
use Rattle.report_regions.specs.OpenClasses.{open_class, open_chain}
use Rattle.sheet.specs.Sheet.{sheet_in_range}

-- where the caches of the tasks begin in the line of a class, behind the one number for the marks
abbrev pub FIRST_CACHE : ℕ
FIRST_CACHE = 1

-- where the requests of the tasks begin
abbrev pub FIRST_REQUEST : ℕ
FIRST_REQUEST = FIRST_CACHE + TASKS

-- where the one number for the chains stands
abbrev pub CHAINS : ℕ
CHAINS = FIRST_REQUEST + TASKS

-- how many numbers a class has: 18
abbrev pub HOLDERS : ℕ
HOLDERS = CHAINS + 1

-- how many numbers the form has, class by class: 234
abbrev pub FORM_NUMBERS : ℕ
FORM_NUMBERS = CLASSES * HOLDERS

-- how many bytes: 468
abbrev pub FORM_BYTES : ℕ
FORM_BYTES = BYTES_OF_NUMBER * FORM_NUMBERS

-- "Sheet added up": the numbers of all regions of the area that are open in the class c, added up; `classes` tells in
-- which class each region is open. As on the sheet, a region that is not open in the class adds nothing.
unfoldable pub added_up : (regions : ℕ) (classes : ℕ → ℕ) (c : ℕ) (number : ℕ → ℕ) → ℕ
added_up regions classes c number = total regions (λ r class. when c class (number r)) classes

-- v: what stands in the fields; link: each block's link; regions: the started number of them
module _ (v : View) (link : ℕ → ℕ) (regions : ℕ) where
  -- "one number for the marks": the blocks in hand, in the regions that are open in the class c
  abbrev pub in_hands : ℕ → ℕ
  in_hands c = added_up regions (open_class v regions) c (λ r. blocks_in_hand v r c)

  -- "one for each task's caches": the blocks in the cache of the task t for the class c, in those regions
  abbrev pub in_cache_of : ℕ → ℕ → ℕ
  in_cache_of c t = added_up regions (open_class v regions) c (λ r. in_region r (cache_row v link t c))

  -- "one for each task's request": the blocks of the class c that the request of the task t has under way there
  abbrev pub in_request_of : ℕ → ℕ → ℕ
  in_request_of c t = added_up regions (open_class v regions) c (λ r. in_request c r (request_blocks v regions t))

  -- "one for the chains of open regions"
  abbrev pub in_chains : ℕ → ℕ
  in_chains c = added_up regions (open_class v regions) c (open_chain v regions)

  -- the line of the class c: the marks, then the eight caches, then the eight requests, then the chains
  abbrev pub class_line : ℕ → List ℕ
  class_line c =
      in_hands c ∷ (numbers_to TASKS (in_cache_of c) ++ (numbers_to TASKS (in_request_of c) ++ (in_chains c ∷ [])))

  -- the number i of the form: the line of the class c begins at the byte 36 × c
  unfoldable pub form_number : ℕ → ℕ
  form_number i = get_or (class_line (i / HOLDERS)) (i % HOLDERS) 0

-- The form, lent the memories and a row: its answer, and the row that it leaves. It reads what the sheet reads, so that
-- 14 comes exactly where it comes for the sheet.
abbrev pub form_of : Memories → List ℕ → ℕ × List ℕ
form_of = report_on sheet_in_range FORM_NUMBERS form_number
