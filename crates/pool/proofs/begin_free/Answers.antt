-- The tests, then the beginning.
use Rattle.control.specs.Layout.{seen}
use Prim.Native.Nat.{ℕ}
use mathlib.Core.Path.{ap, sym, ◌∙◌}
use Rattle.control.specs.Layout.{Regions}
use Rattle.stepped.specs.Calls.{free_outcome, when_idle, begin_free}
use Rattle.stepped.proofs.Doing.{does}
use Rattle.begins.proofs.Refusals.{refused-by}
use Rattle.pool.proofs.Calling.{stopped, follows, found}
use Rattle.pool.proofs.begin_free.Goals as goal

pub returns-in_err-started : goal.returns-in_err-started
unfolding free_outcome
returns-in_err-started c = refused-by _ (stopped c.later_tests.ensures _ c.in_err-started.was) c.from_residual.ensures.1

pub returns : goal.returns
unfolding free_outcome
returns c =
    does
    (follows c.later_tests.ensures
    (λ k. when_idle (seen c.args.control.now) k (begin_free (seen c.args.control.now) (seen c.args.control.now Regions) k c.args.unit))
    c.in_ok-started.was
    ∙ ap (λ (z : ℕ). when_idle (seen c.args.control.now) c.in_ok-started.started.task
    (begin_free (seen c.args.control.now) z c.in_ok-started.started.task c.args.unit))
    (sym (found c.later_tests.ensures c.in_ok-started.was).regions))
    (rw c.count.ensures at c.begin.ensures)
