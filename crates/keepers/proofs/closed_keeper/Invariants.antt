-- No task before `number` has the region itself.
use Rattle.control.specs.Layout.{seen}
use Rattle.reports.proofs.FirstPassing.{NonePass}
use Rattle.report_requests.specs.OneRegion.{has_region}
use Rattle.keepers.proofs.closed_keeper.Given as goal

abbrev pub invariant-loop-number : goal.invariant-loop-number
invariant-loop-number l = NonePass l.number (has_region (seen l.control) l.region)
