-- The caches of the classes before `class` are in their ranges.
use mathlib.Core.Path.{◌≡◌}
use mathlib.Core.Bool.{true}
use Rattle.links.specs.Link.{link}
use Rattle.control.specs.Layout.{seen}
use Rattle.reports.specs.Passing.{all_pass}
use Rattle.report_caches.specs.CacheRows.{caches_in_range}
use Rattle.keepers.proofs.caches_fit.Given as goal

abbrev pub invariant-loop-class : goal.invariant-loop-class
invariant-loop-class l = all_pass l.class (caches_in_range (seen l.control) (link l.area) l.regions) ≡ true
