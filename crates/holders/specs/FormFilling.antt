-- docs/POOL.md, "Reports"
-- What the functions of the form ask and ensure.
use Rattle.std.specs.Prelude.{◌≡◌, Bool, true, false, cond, List, ℕ, ◌-◌, ◌/◌, ◌%◌, ◌<◌, ltb, get_or, None}
use Rattle.std.specs.Prelude.{Ok, IfOk, OnOk, OnErr, is_ok}
use Rattle.std.specs.declared.option.Option.{Option}
use Rattle.std.specs.declared.result.Result.{Result}
use Rattle.limits.specs.declared.index.OutOfRange.{OutOfRange}
use Rattle.fields.specs.Columns.{View}
use Rattle.report_caches.specs.CacheRows.{is_cache}
use Rattle.report_requests.specs.UnderWay.{request_blocks}
use Rattle.report_regions.specs.declared.OpenRegion.{OpenRegion}
use Rattle.report_regions.specs.Opened.{opened_in}
use Rattle.report_regions.specs.OpenClasses.{class_in, chain_in, open_class, open_chain}
use Rattle.holders.specs.Form.{FIRST_CACHE, FIRST_REQUEST, CHAINS, HOLDERS}

-- the class in which a region was found to be open, 13 where it is not
abbrev pub class_read : Option OpenRegion → ℕ
class_read found = class_in (opened_in (Ok found))

-- the length of its chain, 0 where it is not open
abbrev pub chain_read : Option OpenRegion → ℕ
chain_read found = chain_in (opened_in (Ok found))

-- What is ensured by the function that tells what was read of the regions as numbers: the class and the chain of each.
pub record NumbersOf (regions : ℕ) (found : List (Option OpenRegion)) (classes chains : List ℕ) : Type 0 where
  pub classes_are : (r : ℕ) → r < regions → get_or classes r 0 ≡ class_read (get_or found r None)
  pub chains_are : (r : ℕ) → r < regions → get_or chains r 0 ≡ chain_read (get_or found r None)

-- What is asked of these numbers: they are the classes in which the regions of the area are open, and their chains.
pub record AsRead (v : View) (regions : ℕ) (classes chains : List ℕ) : Type 0 where
  pub classes_are : (r : ℕ) → r < regions → get_or classes r 0 ≡ open_class v regions r
  pub chains_are : (r : ℕ) → r < regions → get_or chains r 0 ≡ open_chain v regions r

-- What is ensured by a function that finds a number of the form: it finds it where all that it reads is in its range.
pub record NumberIs (in_range : Bool) (number : ℕ) (found : Result ℕ OutOfRange) : Type 0 where
  pub passed : OnOk found (in_range ≡ true)
  pub failed : OnErr found (in_range ≡ false)
  pub is : IfOk found (λ blocks. blocks ≡ number)

-- whether what is read for the number i is in its range: the cache or the request of a task. The regions are read and
-- tested before, and any value of the marks is in range.
unfoldable pub form_fits : View → (ℕ → ℕ) → ℕ → ℕ → Bool
form_fits v link regions i =
    let c = i / HOLDERS in
    let h = i % HOLDERS in
    cond (ltb h FIRST_CACHE) true
    (cond (ltb h FIRST_REQUEST) (is_cache v link regions (h - FIRST_CACHE) c)
    (cond (ltb h CHAINS) (is_ok (request_blocks v regions (h - FIRST_REQUEST))) true))
