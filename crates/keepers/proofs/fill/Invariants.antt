-- The keepers of the regions before `region` are filled in.
use Rattle.links.specs.Link.{link}
use Rattle.control.specs.Layout.{seen}
use Rattle.keepers.proofs.KeepersFound.{KeepersTo}
use Rattle.keepers.proofs.fill.Given as goal

abbrev pub invariant-loop-region : goal.invariant-loop-region
invariant-loop-region l = KeepersTo (seen l.control) (link l.area) l.regions l.region l.numbers
