-- No request of the tasks before `number` has blocks of the region.
use Rattle.control.specs.Layout.{seen}
use Rattle.reports.proofs.FirstPassing.{NonePass}
use Rattle.report_requests.specs.OneRegion.{has_blocks}
use Rattle.keepers.proofs.request_keeper.Given as goal

abbrev pub invariant-loop-number : goal.invariant-loop-number
invariant-loop-number l = NonePass l.number (has_blocks (seen l.control) l.regions l.class l.region)
