-- No class has more blocks than fit.
use native.Mathlib.Omega.{arith}
use Rattle.classes.proofs.Tables.{per_region-high}
use Rattle.report_requests.proofs.at.Goals as goal

pub overflow_cast-n : goal.overflow_cast-n
overflow_cast-n c = omega (arith, c.per_region-n.ensures, per_region-high c.args.request.class)
