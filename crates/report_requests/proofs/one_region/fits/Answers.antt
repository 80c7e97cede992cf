-- The tasks before `task` are in their ranges.
use mathlib.Core.Path.{◌≡◌, refl, sym, ◌∙◌}
use native.Mathlib.Omega.{arith}
use Rattle.std.proofs.lemmas.Result.{err_from_is_err_and}
use Rattle.limits.specs.Limits.{TASKS}
use Rattle.reports.specs.Passing.{all_pass}
use Rattle.reports.proofs.Passing.{one_more, one-fails}
use Rattle.report_requests.specs.OneRegion.{held_regions_in_range}
use Rattle.report_requests.proofs.one_region.fits.Goals as goal

pub loop-task-init : goal.loop-task-init
unfolding all_pass
loop-task-init c = refl

pub returns-in_err-in_range-clause-failed : goal.returns-in_err-in_range-clause-failed
unfolding held_regions_in_range
returns-in_err-in_range-clause-failed c =
    let p = err_from_is_err_and c.from_residual.result c.from_residual.ensures.1 in
    rw p.1
    (one-fails TASKS _ c.loop-task.task (omega arith)
    (rw c.new.ensures at (sym c.region_fits.ensures ∙ c.in_err-in_range.ensures.failed)))

pub loop-task-preserved : goal.loop-task-preserved
loop-task-preserved c =
    one_more _ _ c.loop-task.invariant
    (rw c.new.ensures at (sym c.region_fits.ensures ∙ c.in_ok-in_range.ensures.passed))

pub returns-clause-passed : goal.returns-clause-passed
unfolding held_regions_in_range
returns-clause-passed c =
    let e : c.loop-task.task ≡ TASKS = omega arith in
    rw e at c.loop-task.invariant
