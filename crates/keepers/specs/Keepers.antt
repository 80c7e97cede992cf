-- docs/POOL.md, "Reports"
-- The region's keepers, read off the memories, for every content of them: "For each region it names one: the lowest
-- block in hand; a cached block with its task; the task whose running request has blocks of the region, or has the
-- region itself, off every list and not open; or the spare list .. . The first of these that applies is named, among
-- equals the lowest task and unit" (the request for the region's keepers).
use Rattle.std.specs.Prelude.{Bool, cond, ◌&&◌, List, ℕ, ◌+◌, ◌*◌, ◌/◌, ◌%◌, ltb, leb, eqb}
use Rattle.limits.specs.Limits.{UNITS, TASKS}
use Rattle.fields.specs.Columns.{View}
use Rattle.control.specs.Layout.{Regions, seen}
use Rattle.stepped.specs.Outcome.{Memories}
use Rattle.reports.specs.Passing.{first_passing, all_pass}
use Rattle.reports.specs.Rows.{BYTES_OF_NUMBER}
use Rattle.reports.specs.Reports.{report_on}
use Rattle.report_marks.specs.InHand.{lowest_in_hand}
use Rattle.report_caches.specs.CacheRows.{lowest_cached}
use Rattle.report_requests.specs.OneRegion.{has_blocks, has_region, held_regions_in_range}
use Rattle.report_regions.specs.Opened.{Opened, Closed, Open, Outside, opened_of}
use Rattle.report_regions.specs.SpareList.{is_spare, is_spare_list}
use Rattle.sheet.specs.Sheet.{sheet_in_range}

-- the kinds of keepers: a block in hand
abbrev pub IN_HAND : ℕ
IN_HAND = 1

-- a cached block
abbrev pub IN_CACHE : ℕ
IN_CACHE = 2

-- a running request
abbrev pub IN_REQUEST : ℕ
IN_REQUEST = 3

-- the list of spare regions
abbrev pub SPARE : ℕ
SPARE = 4

-- who keeps a region: the kind, 0 for nobody, the task and the unit
pub record Keeper : Type 0 where
  pub kind : ℕ
  pub task : ℕ
  pub unit : ℕ

-- a keeper by its kind, its task and its unit
abbrev pub kept_by : ℕ → ℕ → ℕ → Keeper
kept_by kind task unit = record { kind = kind; task = task; unit = unit }

-- none of the four applies
abbrev pub nobody : Keeper
nobody = kept_by 0 0 0

-- the first of the eight tasks that passes the test, by its request, with the unit 0; where none does, the next that
-- applies
unfoldable pub first_request : (ℕ → Bool) → Keeper → Keeper
first_request f next = let t = first_passing TASKS f in cond (ltb t TASKS) (kept_by IN_REQUEST t 0) next

-- v: what stands in the fields; regions: the started number of them; r: the region
module _ (v : View) (regions r : ℕ) where
  -- the list of spare regions, if it has the region, else the next that applies
  unfoldable pub spare_or : Keeper → Keeper
  spare_or next = cond (is_spare v regions r) (kept_by SPARE 0 0) next

  -- "the task whose running request has blocks of the region .. ; or the spare list", of a region that is open in the
  -- class c
  unfoldable pub request_keeper : ℕ → Keeper
  request_keeper c = first_request (has_blocks v regions c r) (spare_or nobody)

  -- "the task whose running request .. has the region itself, off every list and not open; or the spare list", of a
  -- region that is not open: on the list it is kept by that
  unfoldable pub closed_keeper : Keeper
  closed_keeper = spare_or (first_request (has_region v r) nobody)

-- the same, and link: each block's link
module _ (v : View) (link : ℕ → ℕ) (regions r : ℕ) where
  -- "a cached block with its task", of a region that is open in the class c: the first task that has one, and of its
  -- cached blocks there the lowest
  unfoldable pub cache_keeper : ℕ → Keeper
  cache_keeper c =
      let t = first_passing TASKS (λ t. ltb (lowest_cached v link t c r) UNITS) in
      cond (ltb t TASKS) (kept_by IN_CACHE t (lowest_cached v link t c r)) (request_keeper v regions r c)

  -- "the lowest block in hand", with the task 0, of a region that is open in the class c
  unfoldable pub hand_keeper : ℕ → Keeper
  hand_keeper c = let u = lowest_in_hand v r c in cond (ltb u UNITS) (kept_by IN_HAND 0 u) (cache_keeper c)

  -- by what is read of the region; of one that is not open no block is asked for, as on the sheet
  abbrev pub keeper_by : Opened → Keeper
  keeper_by Closed = closed_keeper v regions r
  keeper_by (Open c k) = hand_keeper c
  keeper_by Outside = nobody

  -- the keeper of the region r
  unfoldable pub keeper_of : Keeper
  keeper_of = keeper_by (opened_of v regions r)

-- how many numbers of two bytes a keeper has: the kind with the task behind it, and the unit
abbrev pub KEEPER_NUMBERS : ℕ
KEEPER_NUMBERS = 2

-- how many bytes: "kind, task, unit in two bytes"
abbrev pub KEEPER_BYTES : ℕ
KEEPER_BYTES = BYTES_OF_NUMBER * KEEPER_NUMBERS

-- what the task weighs in the first number: it stands in the second byte
abbrev pub TASK_WEIGHT : ℕ
TASK_WEIGHT = 256

-- the two numbers of a keeper
abbrev pub number_of : Keeper → ℕ → ℕ
number_of k j = cond (eqb j 0) (k.kind + TASK_WEIGHT * k.task) k.unit

module _ (v : View) (link : ℕ → ℕ) (regions : ℕ) where
  -- the number i of the row: the keeper of the region r begins at the byte 4 × r
  unfoldable pub keeper_number : ℕ → ℕ
  keeper_number i = number_of (keeper_of v link regions (i / KEEPER_NUMBERS)) (i % KEEPER_NUMBERS)

  -- whether all that is read is in its range: what the sheet reads, the regions that requests have themselves, and the
  -- list of spare regions
  unfoldable pub read_in_range : Bool
  read_in_range = sheet_in_range v link regions && (held_regions_in_range v regions && is_spare_list v regions)

  -- "on other memory the answer is 14 where none does": all that is read is in its range, and each region has a keeper
  unfoldable pub are_kept : Bool
  are_kept = read_in_range && all_pass regions (λ r. leb 1 (keeper_of v link regions r).kind)

-- The keepers, lent the memories and a row: the answer, and the row that is left. There are as many as the area has
-- regions.
abbrev pub keepers_of : Memories → List ℕ → ℕ × List ℕ
keepers_of s = report_on are_kept (KEEPER_NUMBERS * seen s.control Regions) keeper_number s
