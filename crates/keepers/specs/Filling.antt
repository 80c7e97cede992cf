-- docs/POOL.md, "Reports"
-- What the functions of the keepers ask and ensure.
use Rattle.std.specs.Prelude.{◌≡◌, true, false, List, [], ◌∷◌, ℕ, ◌*◌, ◌<◌, leb, length, get_or}
use Rattle.std.specs.Prelude.{None, Some, OnOk, OnErr}
use Rattle.std.specs.declared.option.Option.{Option}
use Rattle.std.specs.declared.result.Result.{Result}
use Rattle.limits.specs.Limits.{REGIONS}
use Rattle.limits.specs.declared.index.OutOfRange.{OutOfRange}
use Rattle.fields.specs.Columns.{View}
use Rattle.links.specs.Link.{link}
use Rattle.control.specs.Layout.{seen}
use Rattle.stepped.specs.Done.{AreaOf}
use Rattle.reports.specs.Passing.{all_pass}
use Rattle.keepers.specs.declared.Keeper.{Keeper as Found}
use Rattle.keepers.specs.declared.Keeper.TheVariants as found
use Rattle.keepers.specs.Keepers.{Keeper, IN_HAND, IN_CACHE, IN_REQUEST, SPARE, kept_by, nobody, number_of}
use Rattle.keepers.specs.Keepers.{keeper_of, KEEPER_NUMBERS, keeper_number, read_in_range}

-- the keeper that was found
abbrev pub keeper_is : Found → Keeper
keeper_is (found.InHand u) = kept_by IN_HAND 0 u
keeper_is (found.InCache t u) = kept_by IN_CACHE t u
keeper_is (found.InRequest t) = kept_by IN_REQUEST t 0
keeper_is found.Spare = kept_by SPARE 0 0

-- what a function has found, by what it returns
abbrev pub keeper_told : Option Found → Keeper
keeper_told None = nobody
keeper_told (Some k) = keeper_is k

-- the two numbers of the keeper that was found
abbrev pub numbers_told : Found → List ℕ
numbers_told k = number_of (keeper_is k) 0 ∷ number_of (keeper_is k) 1 ∷ []

-- a control memory, the started regions and their area, of which all that is read is in its range
pub record GivenRead (control area : List ℕ) (regions : ℕ) : Type 0 where
  pub area_is : AreaOf regions area
  pub fits : read_in_range (seen control) (link area) regions ≡ true

-- What is ensured by the function that fills in the keepers: it ends well exactly where each region has one; then the
-- first numbers are theirs.
pub record KeepersFilled {A : Type 0} (v : View) (link : ℕ → ℕ) (regions : ℕ) (numbers : List ℕ)
    (ended : Result A OutOfRange) : Type 0 where
  pub long : length numbers ≡ KEEPER_NUMBERS * REGIONS
  pub passed : OnOk ended (all_pass regions (λ r. leb 1 (keeper_of v link regions r).kind) ≡ true)
  pub failed : OnErr ended (all_pass regions (λ r. leb 1 (keeper_of v link regions r).kind) ≡ false)
  pub are : OnOk ended ((i : ℕ) → i < KEEPER_NUMBERS * regions → get_or numbers i 0 ≡ keeper_number v link regions i)
