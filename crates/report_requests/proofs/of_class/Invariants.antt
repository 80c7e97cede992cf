-- The requests of the tasks before `task` are counted.
use Rattle.std.specs.Prelude.{is_ok}
use Rattle.control.specs.Layout.{seen}
use Rattle.reports.proofs.TasksCounted.{TasksCounted}
use Rattle.report_requests.specs.UnderWay.{request_blocks, in_request}
use Rattle.report_requests.proofs.of_class.Given as goal

abbrev pub invariant-loop-task : goal.invariant-loop-task
invariant-loop-task l =
    TasksCounted (λ t. is_ok (request_blocks (seen l.control) l.regions t)) (in_request l.class)
    (request_blocks (seen l.control) l.regions) l.task l.counts
