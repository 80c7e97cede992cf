-- The caches of the tasks before `task` are counted.
use native.Mathlib.Omega.{arith}
use borrow.Author.Rules.{rules}
use Rattle.std.proofs.lemmas.Result.{err_from_is_err_and}
use Rattle.reports.proofs.TasksCounted.{tasks-begin, tasks-room, tasks-next, tasks-stop, tasks-end}
use Rattle.report_caches.specs.CacheRows.{caches_in_range, blocks_in_caches}
use Rattle.report_caches.proofs.Walking.{cache-max}
use Rattle.report_caches.proofs.of_class.Goals as goal

pub loop-task-init : goal.loop-task-init
loop-task-init c = tasks-begin _ _ _

pub cache-requires : goal.cache-requires
cache-requires c = (c.requires, tasks-room _ _ _ c.loop-task.invariant (omega arith))

pub returns-in_err-counts : goal.returns-in_err-counts
unfolding caches_in_range blocks_in_caches
returns-in_err-counts c =
    let p = err_from_is_err_and c.from_residual.result c.from_residual.ensures.1 in
    rw p.1 (tasks-stop _ _ _ c.loop-task.invariant (omega arith) (rw c.new.ensures at c.in_err-counts.ensures))

pub loop-task-preserved : goal.loop-task-preserved
loop-task-preserved c =
    tasks-next _ _ _ c.loop-task.invariant (rw c.new.ensures at c.in_ok-counts.ensures)
    (λ r e. cache-max _ _ _ _ _ r e) (search rules)

pub returns : goal.returns
unfolding caches_in_range blocks_in_caches
returns c = tasks-end _ _ _ c.loop-task.invariant (omega arith)
