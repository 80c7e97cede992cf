-- The tasks before `task` are in their ranges.
use mathlib.Core.Path.{◌≡◌}
use mathlib.Core.Bool.{true}
use Rattle.control.specs.Layout.{seen}
use Rattle.reports.specs.Passing.{all_pass}
use Rattle.report_requests.specs.OneRegion.{held_region_fits}
use Rattle.report_requests.proofs.one_region.fits.Given as goal

abbrev pub invariant-loop-task : goal.invariant-loop-task
invariant-loop-task l = all_pass l.task (held_region_fits (seen l.control) l.regions) ≡ true
