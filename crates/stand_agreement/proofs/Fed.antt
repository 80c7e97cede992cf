-- What a call leaves of the numbers that the plain pool was started with.
use Prim.Native.Nat.{ℕ, ◌*◌, ◌≤◌}
use mathlib.Core.Path.{◌≡◌, refl}
use mathlib.Core.Logic.{◌≢◌}
use native.Mathlib.Omega.{arith}
use Rattle.limits.specs.Limits.{CONTROL_BYTES, REGION_BYTES, STRIPS_BYTES}
use Rattle.plain.specs.Moves.{Answer}
use Rattle.plain.specs.Steps.{Result}
use Rattle.plain.specs.Calls.{Pool, Start, Lengths}
use Rattle.plain.specs.Calls as Calls
use Rattle.plain.proofs.CallTests.{by_tests, start-numbers, by-start-tests}
use Rattle.schedule.specs.Plain.{answer_number, regions_fed}

-- the lengths of what the stand lends with so many regions
abbrev pub stand_lengths : ℕ → Lengths
stand_lengths regions = record { control = CONTROL_BYTES; area = REGION_BYTES * regions; strips = STRIPS_BYTES }

-- the two pools were started with the same numbers of tasks and regions
abbrev pub SameStart : Pool → Pool → Type 0
SameStart p p' = (p'.tasks ≡ p.tasks) × (p'.regions ≡ p.regions)

-- a call that is no start leaves these numbers
tested-keeps : (t : ℕ) (lent : Lengths) (p : Pool) (x : Result) → SameStart p (Calls.tested t lent p x).0
tested-keeps t lent p x = by_tests (λ z. SameStart p z.0) t lent p x (λ n k l. (refl, refl)) (λ l. (refl, refl))

module _ (lent : Lengths) (t : ℕ) (p : Pool) where
  pub allocate-keeps : (size : ℕ) → SameStart p (Calls.plain_call (Calls.allocate t size) lent p).0
  unfolding Calls.plain_call
  allocate-keeps size = tested-keeps t lent p _

  pub free-keeps : (u : ℕ) → SameStart p (Calls.plain_call (Calls.free t u) lent p).0
  unfolding Calls.plain_call
  free-keeps u = tested-keeps t lent p _

  pub leave-keeps : SameStart p (Calls.plain_call (Calls.leave t) lent p).0
  unfolding Calls.plain_call
  leave-keeps = tested-keeps t lent p _

  pub step_keeps : SameStart p (Calls.plain_call (Calls.step t) lent p).0
  unfolding Calls.plain_call
  step_keeps = tested-keeps t lent p _

pub same-regions : (p p' : Pool) → SameStart p p' → regions_fed p' ≡ regions_fed p
same-regions p p' h = rw (h.0, h.1) refl

-- ---- a start

-- a start is accepted, and has at least one task and so many regions; or it is refused, and leaves the pool
pub data StartIs (regions : ℕ) (p : Pool) (x : Pool × Answer) : Type 0 where
  accepted : answer_number x.1 ≡ 0 → 1 ≤ x.0.tasks → x.0.regions ≡ regions → StartIs regions p x
  refused : x.1.code ≢ 0 → x.0 ≡ p → StartIs regions p x

pub start_is : (b : Start) (regions : ℕ) (p : Pool)
    → StartIs regions p (Calls.plain_call (Calls.start b) (stand_lengths regions) p)
unfolding Calls.plain_call
start_is b regions p =
    by-start-tests (StartIs regions p) b (stand_lengths regions) p
    (λ n F. refused (λ e. absurd (omega (arith, start-numbers F, e))) refl)
    (λ T. accepted refl T.tasks.0 (omega arith))
