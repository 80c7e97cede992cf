-- A control memory of another length fails test 1; one of its length has the tests behind it.
use mathlib.Core.Path.{refl}
use Rattle.limits.specs.declared.refusal.Refusal.TheVariants.{ControlLength}
use Rattle.stepped.specs.Calls.{control_fails}
use Rattle.begins.proofs.Testing.{fails, of-length}
use Rattle.begins.proofs.tests.tests.Goals as goal

pub returns-in_default : goal.returns-in_default
returns-in_default c = fails ControlLength refl (control_fails c.in_default.ensures.cases)

pub returns : goal.returns
returns c =
    let kept = c.in-Some.ensures.cases in
    of-length kept.long kept.same c.later_tests.ensures
