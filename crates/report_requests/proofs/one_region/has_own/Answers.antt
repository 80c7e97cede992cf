-- One law for each way out.
use native.Mathlib.Omega.{arith}
use borrow.Author.Tests.{eq-eqb}
use Rattle.limits.specs.Limits.{UNITS}
use Rattle.report_requests.proofs.OneRegionTests.{own-tells}
use Rattle.report_requests.proofs.one_region.has_own.Goals as goal

pub returns-then-unit-ne-NONE : goal.returns-then-unit-ne-NONE
returns-then-unit-ne-NONE c =
    rw c.in-Some.is (own-tells _ _ c.if-unit-ne-NONE.true c.region_of.ensures (omega arith))

pub returns-else-unit-ne-NONE : goal.returns-else-unit-ne-NONE
returns-else-unit-ne-NONE c = rw (c.in-Some.is, eq-eqb c.in-Some.unit UNITS c.if-unit-ne-NONE.false)
