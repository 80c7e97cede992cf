-- The tests, then the beginning.
use Rattle.control.specs.Layout.{seen}
use Rattle.stepped.specs.Calls.{leave_outcome, when_idle}
use Rattle.stepped.specs.Leaving.{begin_leave}
use Rattle.stepped.proofs.Doing.{does}
use Rattle.begins.proofs.Refusals.{refused-by}
use Rattle.pool.proofs.Calling.{stopped, follows, found}
use Rattle.pool.proofs.begin_leave.Goals as goal

pub returns-in_err-started : goal.returns-in_err-started
unfolding leave_outcome
returns-in_err-started c = refused-by _ (stopped c.later_tests.ensures _ c.in_err-started.was) c.from_residual.ensures.1

pub returns : goal.returns
unfolding leave_outcome
returns c =
    does
    (follows c.later_tests.ensures (λ k. when_idle (seen c.args.control.now) k (begin_leave (seen c.args.control.now) k)) c.in_ok-started.was)
    c.begin.ensures
