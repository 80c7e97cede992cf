-- The tests, then the beginning.
use Rattle.control.specs.Layout.{seen}
use Rattle.stepped.specs.Calls.{allocate_outcome, when_idle, begin_allocate}
use Rattle.stepped.proofs.Doing.{does}
use Rattle.begins.proofs.Refusals.{refused-by}
use Rattle.pool.proofs.Calling.{stopped, follows, found}
use Rattle.pool.proofs.begin_allocate.Goals as goal

pub returns-in_err-started : goal.returns-in_err-started
unfolding allocate_outcome
returns-in_err-started c = refused-by _ (stopped c.later_tests.ensures _ c.in_err-started.was) c.from_residual.ensures.1

pub returns : goal.returns
unfolding allocate_outcome
returns c =
    does
    (follows c.later_tests.ensures (λ k. when_idle (seen c.args.control.now) k (begin_allocate k c.args.size)) c.in_ok-started.was)
    c.begin.ensures
