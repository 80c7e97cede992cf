-- The requests of the tasks before `task` are counted.
use native.Mathlib.Omega.{arith}
use borrow.Author.Rules.{rules}
use Rattle.std.proofs.lemmas.Result.{err_from_is_err_and}
use Rattle.reports.proofs.TasksCounted.{tasks-begin, tasks-room, tasks-next, tasks-stop, tasks-end}
use Rattle.report_requests.specs.UnderWay.{requests_in_range, blocks_in_requests}
use Rattle.report_requests.proofs.RequestBounds.{request-bounded, request-max}
use Rattle.report_requests.proofs.of_class.Goals as goal

pub loop-task-init : goal.loop-task-init
loop-task-init c = tasks-begin _ _ _

pub with_request-requires : goal.with_request-requires
with_request-requires c = tasks-room _ _ _ c.loop-task.invariant (omega arith)

pub returns-in_err-counts : goal.returns-in_err-counts
unfolding requests_in_range blocks_in_requests
returns-in_err-counts c =
    let p = err_from_is_err_and c.from_residual.result c.from_residual.ensures.1 in
    rw p.1 (tasks-stop _ _ _ c.loop-task.invariant (omega arith) (rw c.new.ensures at c.in_err-counts.ensures))

pub loop-task-preserved : goal.loop-task-preserved
loop-task-preserved c =
    tasks-next _ _ _ c.loop-task.invariant (rw c.new.ensures at c.in_ok-counts.ensures)
    (λ r e. request-max _ r _ (request-bounded _ _ _ (omega arith))) (search rules)

pub returns : goal.returns
unfolding requests_in_range blocks_in_requests
returns c = tasks-end _ _ _ c.loop-task.invariant (omega arith)
