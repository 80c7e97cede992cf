-- The bench table's rows about first allocations: computed on the plain pool, as one statement.
use mathlib.Core.Path.{◌≡◌, refl}
use mathlib.Core.List.{List, ◌∷◌, map, []}
use Prim.Native.Nat.{ℕ, zero, suc}
use native.Mathlib.Decide.{ℕ_discrete, dec_lt, dec_le}
use Rattle.limits.specs.Limits.{CONTROL_BYTES, REGION_BYTES, STRIPS_BYTES}
use Rattle.rows.specs.Branch.{both}
use Rattle.rows.specs.Update.{update}
use Rattle.classes.specs.Classes.{units, per_region}
use Rattle.classes.specs.Sizes.{class_of}
use Rattle.plain.specs.Moves.{Answer, going, finished, nothing}
use Rattle.plain.specs.Steps.{step_of}
use Rattle.plain.specs.Calls.{Pool, start, allocate, start_mem, rising, unstarted, plain_call, Lengths, step}

-- the control memory, an area of one region, and the strips' memory
abbrev lent : Lengths
lent = record { control = CONTROL_BYTES; area = REGION_BYTES; strips = STRIPS_BYTES }

-- the answer of the last of n steps of task 0, in a pool of one region
abbrev last : ℕ → Pool → Answer
last zero s = going nothing
last (suc zero) s = (plain_call (step 0) lent s).1
last (suc (suc n)) s = last (suc n) (plain_call (step 0) lent s).0

-- "in a fresh pool": one task, one region, and an allocation of the size begun
unfoldable pub fresh : ℕ → Pool
fresh size = (plain_call (allocate 0 size) lent (plain_call (start (record { tasks = 1 })) lent unstarted).0).0

-- the rows: a size, the step at which its first allocation finishes, and the unit
abbrev pub firsts : List (ℕ × ℕ × ℕ)
firsts = (256, 26, 480) ∷ (8, 522, 511) ∷ []

-- at that step the allocation finishes with that unit
pub firsts-hold : map (λ r. last r.1 (fresh r.0)) firsts ≡ map (λ r. finished r.2) firsts
unfolding plain_call step_of start_mem rising units per_region update ℕ_discrete dec_lt dec_le both fresh unstarted
    class_of
firsts-hold = refl

-- the first allocation of 256 bytes is still under way at step 25
pub not-before : map (λ r. last r (fresh 256)) (25 ∷ []) ≡ going nothing ∷ []
unfolding plain_call step_of start_mem rising units per_region update ℕ_discrete dec_lt dec_le both fresh unstarted
    class_of
not-before = refl
