-- `classes::geometry::index_of` meets its contract: a block has at least one unit, so the division is safe.
use native.Mathlib.Omega.{arith}
use Rattle.classes.proofs.Tables.{units-low}
use Rattle.classes.proofs.geometry.index_of.Goals as goal

pub nonzero_div-result : goal.nonzero_div-result
nonzero_div-result c = omega (arith, units-low c.args.class)
