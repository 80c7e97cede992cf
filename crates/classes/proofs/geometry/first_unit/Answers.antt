-- `classes::geometry::first_unit` meets its contract: the block lies in its region, so no number is too large.
use mathlib.Core.Path.{◌≡◌}
use Prim.Native.Nat.{ℕ, ◌+◌, ◌*◌, ◌<◌}
use native.Mathlib.Omega.{arith}
use Rattle.limits.specs.Limits.{REGION_UNITS, REGIONS, UNITS}
use Rattle.classes.specs.Classes.{units, per_region}
use Rattle.classes.proofs.BlockUnits.{block_at, unit-below}
use Rattle.classes.proofs.geometry.first_unit.Goals as goal

-- a block's first unit is one of the area's
small : {u : ℕ} (r c i : ℕ) → u ≡ units c → r < REGIONS → i < per_region c → REGION_UNITS * r + u * i < UNITS
small r c i e k h = rw e (unit-below (block_at r c i h) k)

pub overflow_mul-result-2 : goal.overflow_mul-result-2
overflow_mul-result-2 c = omega (arith, small c.get.result c.args.class c.args.index c.units.ensures c.get.ensures.inside c.requires)

pub overflow_add-result : goal.overflow_add-result
overflow_add-result c = omega (arith, small c.get.result c.args.class c.args.index c.units.ensures c.get.ensures.inside c.requires)
