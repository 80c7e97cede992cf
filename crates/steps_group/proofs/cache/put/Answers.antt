-- No cache has more blocks than a region.
use native.Mathlib.Omega.{arith}
use Rattle.classes.proofs.Tables.{per_region-high}
use Rattle.steps_group.proofs.cache.put.Goals as goal

pub overflow_add-count : goal.overflow_add-count
overflow_add-count c = omega (arith, per_region-high c.args.request.class)
