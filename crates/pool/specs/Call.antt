-- docs/POOL.md, "Calls and refusals"
-- What each exported call ensures.
use Rattle.std.specs.Prelude.{◌≡◌, List, ℕ}
use Rattle.limits.specs.Limits.{CONTROL_BYTES}
use Rattle.plain.specs.Calls.{Call, Lengths}
use Rattle.control.specs.Answers.{number_telling}
use Rattle.stepped.specs.Outcome.{Effect}
use Rattle.stepped.specs.Calls.{effect_of}

-- the lengths that a call is lent whose control memory has its length
abbrev pub lengths_of : ℕ → ℕ → Lengths
lengths_of area strips = record { control = CONTROL_BYTES; area = area; strips = strips }

-- "For every input, the answer and each byte of both memories afterwards", and of the strips' memory: the answer as one
-- number, with the lost exchanges in its high half, and the three memories are those of the definition's effect.
pub record EffectIs (e : Effect) (control area strips : List ℕ) (r : ℕ) : Type 0 where
  pub number : r ≡ number_telling e.answer e.lost
  pub control_is : control ≡ e.control
  pub area_is : area ≡ e.area
  pub strips_is : strips ≡ e.strips

-- What each exported function ensures: the call k, lent the bytes `control`, `area` and `strips`, leaves control',
-- area' and strips' and answers r, as the definitions of the stepped pool say. "exported start, begin and step
-- functions on numbers and byte slices": pool_start, pool_begin_allocate, pool_begin_free, pool_begin_leave, pool_step.
abbrev pub Ensures : Call → List ℕ → List ℕ → List ℕ → List ℕ → List ℕ → List ℕ → ℕ → Type 0
Ensures k control area strips control' area' strips' r =
    EffectIs (effect_of k (record { control = control; area = area; strips = strips })) control' area' strips' r
