-- docs/POOL.md, "Reports"
-- The classes in which the regions of the area are open, and the lengths of their chains, region by region.
use Rattle.std.specs.Prelude.{◌≡◌, true, false, List, ℕ, ◌<◌, get_or, Ok, None, IfOk, OnOk, OnErr}
use Rattle.std.specs.declared.option.Option.{Option}
use Rattle.std.specs.declared.result.Result.{Result}
use Rattle.limits.specs.Limits.{CLASSES}
use Rattle.fields.specs.Columns.{View}
use Rattle.limits.specs.declared.index.OutOfRange.{OutOfRange}
use Rattle.report_regions.specs.declared.OpenRegion.{OpenRegion}
use Rattle.report_regions.specs.Opened.{Opened, Closed, Open, Outside, opened_in, opened_of, regions_in_range}

-- the class of a region that is open; 13, which is no class, of one that is not
abbrev pub class_in : Opened → ℕ
class_in Closed = CLASSES
class_in (Open c k) = c
class_in Outside = CLASSES

-- how many blocks its chain has; none, of a region that is not open
abbrev pub chain_in : Opened → ℕ
chain_in Closed = 0
chain_in (Open c k) = k
chain_in Outside = 0

-- "which regions are open and in which class": the class in which the region r is open, 13 where it is not
unfoldable pub open_class : View → ℕ → ℕ → ℕ
open_class v regions r = class_in (opened_of v regions r)

-- the length of the chain of the region r, 0 where it is not open
unfoldable pub open_chain : View → ℕ → ℕ → ℕ
open_chain v regions r = chain_in (opened_of v regions r)

-- What is ensured by the function that reads all regions of the area: it goes on where all that it reads is in its
-- range, and then tells of each region what is read of it.
pub record RegionsRead (v : View) (regions : ℕ) (x : Result (List (Option OpenRegion)) OutOfRange) : Type 0 where
  pub passed : OnOk x (regions_in_range v regions ≡ true)
  pub failed : OnErr x (regions_in_range v regions ≡ false)
  pub told : IfOk x (λ rs. (r : ℕ) → r < regions → opened_in (Ok (get_or rs r None)) ≡ opened_of v regions r)
