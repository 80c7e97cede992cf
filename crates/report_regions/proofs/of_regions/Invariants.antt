-- The regions before `region` are read.
use Rattle.control.specs.Layout.{seen}
use Rattle.report_regions.proofs.ReadRegions.{RegionsTo}
use Rattle.report_regions.proofs.of_regions.Given as goal

abbrev pub invariant-loop-region : goal.invariant-loop-region
invariant-loop-region l = RegionsTo (seen l.control) l.regions l.region l.opened
