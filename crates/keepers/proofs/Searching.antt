-- The keepers that the code finds, task by task, are those of the definitions.
use mathlib.Core.Path.{◌≡◌}
use mathlib.Core.Bool.{Bool, true, false}
use Prim.Native.Nat.{ℕ, ◌<◌}
use native.Mathlib.Omega.{arith}
use borrow.Author.Tests.{lt-ltb, le-ltb}
use lib.Dec.{ltb}
use Rattle.limits.specs.Limits.{UNITS, TASKS}
use Rattle.fields.specs.Columns.{View}
use Rattle.reports.proofs.FirstPassing.{NonePass, first_found, first-none}
use Rattle.report_marks.specs.InHand.{lowest_in_hand}
use Rattle.report_caches.specs.CacheRows.{lowest_cached}
use Rattle.report_regions.specs.Opened.{Closed, Open, Outside, opened_of}
use Rattle.report_regions.specs.SpareList.{is_spare}
use Rattle.keepers.specs.Keepers.{Keeper, IN_HAND, IN_CACHE, IN_REQUEST, SPARE, kept_by, first_request, spare_or}
use Rattle.keepers.specs.Keepers.{nobody, request_keeper, cache_keeper, hand_keeper, closed_keeper, keeper_of}

-- ---- a request

-- the first task that passes is found
pub request-found : (f : ℕ → Bool) (next : Keeper) (t : ℕ) → NonePass t f → t < TASKS → f t ≡ true
    → kept_by IN_REQUEST t 0 ≡ first_request f next
unfolding first_request
request-found f next t none l e = rw (first_found {n = TASKS} f none l e, lt-ltb t TASKS l)

-- none passes
pub request-none : (f : ℕ → Bool) (next : Keeper) → NonePass TASKS f → next ≡ first_request f next
unfolding first_request
request-none f next none = rw (first-none {n = TASKS} f none)

-- ---- the list of spare regions

module _ (v : View) (regions r : ℕ) (next : Keeper) where
  -- the region is on it
  pub spare-there : is_spare v regions r ≡ true → kept_by SPARE 0 0 ≡ spare_or v regions r next
  unfolding spare_or
  spare-there e = rw e

  -- it is not
  pub spare-not : is_spare v regions r ≡ false → next ≡ spare_or v regions r next
  unfolding spare_or
  spare-not e = rw e

-- ---- a cached block, and one in hand

module _ (v : View) (link : ℕ → ℕ) (regions r c : ℕ) where
  -- the task has a cached block of the region
  abbrev pub HasCached : ℕ → Bool
  HasCached t = ltb (lowest_cached v link t c r) UNITS

  -- the first task that has one is found
  pub cache-found : (t : ℕ) {u : ℕ} → NonePass t HasCached → t < TASKS → u ≡ lowest_cached v link t c r → u < UNITS
      → kept_by IN_CACHE t u ≡ cache_keeper v link regions r c
  unfolding cache_keeper
  cache-found t {u} none l e h =
      rw (
        first_found {n = TASKS} HasCached none l (lt-ltb (lowest_cached v link t c r) UNITS (omega arith)),
        lt-ltb t TASKS l,
        ← e,
      )

  -- a task has none
  pub cache-not : (t : ℕ) → lowest_cached v link t c r ≡ UNITS → HasCached t ≡ false
  cache-not t e = le-ltb (lowest_cached v link t c r) UNITS (omega arith)

  -- no task has one
  pub cache-none : NonePass TASKS HasCached → request_keeper v regions r c ≡ cache_keeper v link regions r c
  unfolding cache_keeper
  cache-none none = rw (first-none {n = TASKS} HasCached none)

  -- a block is in hand
  pub hand-found : {u : ℕ} → u ≡ lowest_in_hand v r c → u < UNITS → kept_by IN_HAND 0 u ≡ hand_keeper v link regions r c
  unfolding hand_keeper
  hand-found {u} e h = rw (← e, lt-ltb u UNITS h)

  -- none is
  pub hand-none : lowest_in_hand v r c ≡ UNITS → cache_keeper v link regions r c ≡ hand_keeper v link regions r c
  unfolding hand_keeper
  hand-none e = rw (le-ltb (lowest_in_hand v r c) UNITS (omega arith))

-- ---- by what is read of the region

module _ (v : View) (link : ℕ → ℕ) (regions r : ℕ) where
  -- it is not open
  pub keeper-closed : Closed ≡ opened_of v regions r → closed_keeper v regions r ≡ keeper_of v link regions r
  unfolding keeper_of
  keeper-closed e = rw (← e)

  -- it is open in the class c
  pub keeper-open : (c k : ℕ) → Open c k ≡ opened_of v regions r
      → hand_keeper v link regions r c ≡ keeper_of v link regions r
  unfolding keeper_of
  keeper-open c k e = rw (← e)

  -- a value that was read is out of its range
  pub keeper-outside : Outside ≡ opened_of v regions r → nobody ≡ keeper_of v link regions r
  unfolding keeper_of
  keeper-outside e = rw (← e)
