-- The tests, then the step.
use Rattle.pool.proofs.Calling.{step-goes, step-stops}
use Rattle.pool.proofs.step_of.Goals as goal

pub returns-in-Ok : goal.returns-in-Ok
returns-in-Ok c = step-goes c.later_tests.ensures _ c.in-Ok.is (rw c.count.ensures at c.step.ensures)

pub returns-in-Err : goal.returns-in-Err
returns-in-Err c = step-stops c.later_tests.ensures _ c.in-Err.is c.number.ensures
