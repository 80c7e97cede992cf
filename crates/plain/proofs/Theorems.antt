-- The theorems about the plain pool, for every list of calls.
-- What needs no invariant, and so holds in every state, stands in two other modules. `step-facts` of Steps: the codes
-- of a step, where 12 and 13 come from, the way to the push back, at most one more won exchange. Of CallAnswers, for
-- a call: `never_14`, `only-12`, `only-13`, `always-12`, `always-13`, `always-back`, `most`.
use mathlib.Core.Path.{◌≡◌}
use mathlib.Core.List.{List}
use Prim.Native.Nat.{ℕ, ◌≤◌, ◌<◌}
use Rattle.limits.specs.Limits.{TASKS}
use Rattle.plain.specs.Calls.{Pool, Call, Lengths}
use Rattle.plain.specs.Invariant.{Good, run}
use Rattle.plain.specs.Never.{NeverHappens}
use Rattle.plain.specs.OnePlace.{OnePlace, OnceListed}
use Rattle.plain.proofs.Always.{not_started, always}
use Rattle.plain.proofs.Never.{never}
use Rattle.plain.proofs.OnePlace.{one_place, once-listed}

-- After every list of calls, from a pool that is not started, the pool has its invariant.
pub always-good : (cs : List (Call × Lengths)) (s : Pool) → s.tasks ≡ 0 → Good (run cs s)
always-good cs s e = always cs s (not_started s e)

module _ {s : Pool} (g : Good s) (h : 1 ≤ s.tasks) where
  -- What never happens at a task's step.
  pub never-happens : (t : ℕ) → t < TASKS → NeverHappens s.mem t
  never-happens t l = never (g.inv h) l

  -- Each block of an open region has one place: a user's hands, a task, or its region's chain. No other unit has
  -- any.
  pub unit-place : (v : ℕ) → OnePlace s.mem v
  unit-place v = one_place (g.inv h) v

  -- Each item of a list stands there once, and is one of the 64 descriptors, or one of the area's regions.
  pub items-once : OnceListed s.regions s.mem
  items-once = once-listed (g.inv h)
