-- The number of a task's cache or request: what is counted by region, from nothing on, and then added up.
use mathlib.Core.Path.{◌≡◌, refl, ◌∙◌}
use mathlib.Core.Bool.{Bool, true}
use Prim.Native.Nat.{ℕ, ◌+◌, ◌≤◌, ◌<◌}
use native.Mathlib.Omega.{arith}
use lib.ListN.{get_or, replicate, get_or-replicate}
use mathlib.Core.List.{List}
use Rattle.std.specs.Prelude.{Ok, Err}
use Rattle.limits.specs.declared.index.OutOfRange.{OutOfRange}
use Rattle.limits.specs.Limits.{REGIONS}
use Rattle.reports.specs.ByRegion.{Counted, CanGrow}
use Rattle.reports.proofs.TasksCounted.{tasks-begin, tasks-room}
use Rattle.holders.specs.Form.{added_up}
use Rattle.holders.specs.FormFilling.{NumberIs}
use Rattle.holders.proofs.AddingUp.{added-alike}

-- counts of 0 can grow
pub none-grows : CanGrow (replicate REGIONS 0)
none-grows =
    let T = tasks-begin (λ t. true) (λ r (x : ℕ). 0) (λ t. 0) in
    tasks-room (λ t. true) (λ r (x : ℕ). 0) (λ t. 0) T (omega arith)

-- the count of a region is what the task has there
module _ {in_range : Bool} (weight : ℕ → ℕ) {counts : List ℕ}
    (K : Counted in_range (λ r. get_or (replicate REGIONS 0) r 0 + weight r) (Ok counts)) where
  pub count-is : (r : ℕ) → r < REGIONS → get_or counts r 0 ≡ weight r
  count-is r l = omega (arith, K.counts r l, get_or-replicate {A = ℕ} REGIONS r 0 0 l)

  -- so what is added up is the task's number
  pub task-number : (regions : ℕ) (classes : ℕ → ℕ) (c : ℕ) {x : ℕ} → regions ≤ REGIONS
      → x ≡ added_up regions classes c (λ r. get_or counts r 0)
      → NumberIs in_range (added_up regions classes c weight) (Ok x)
  task-number regions classes c small e = record {
    passed = K.in_range_is;
    failed = tt;
    is = e ∙ added-alike regions classes classes c (λ r. get_or counts r 0) weight (λ r l. refl)
        (λ r l. count-is r (omega arith));
  }

-- a task that is out of range has none
pub task-fails : {in_range : Bool} {number : ℕ → ℕ} {n : ℕ} {e : OutOfRange} → Counted in_range number (Err e)
    → NumberIs in_range n (Err e)
task-fails K = record { passed = tt; failed = K.out_of_range; is = tt }
