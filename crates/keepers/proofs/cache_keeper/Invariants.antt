-- No task before `number` has a cached block of the region.
use Rattle.links.specs.Link.{link}
use Rattle.control.specs.Layout.{seen}
use Rattle.reports.proofs.FirstPassing.{NonePass}
use Rattle.keepers.proofs.Searching.{HasCached}
use Rattle.keepers.proofs.cache_keeper.Given as goal

abbrev pub invariant-loop-number : goal.invariant-loop-number
invariant-loop-number l =
    NonePass l.number (HasCached (seen l.control) (link l.area) l.regions l.region l.class)
