-- The caches of the tasks before `task` are counted.
use Rattle.links.specs.Link.{link}
use Rattle.control.specs.Layout.{seen}
use Rattle.reports.specs.ByRegion.{in_region}
use Rattle.reports.proofs.TasksCounted.{TasksCounted}
use Rattle.report_caches.specs.CacheRows.{cache_row, is_cache}
use Rattle.report_caches.proofs.of_class.Given as goal

abbrev pub invariant-loop-task : goal.invariant-loop-task
invariant-loop-task l =
    TasksCounted (λ t. is_cache (seen l.control) (link l.area) l.regions t l.class) in_region
    (λ t. cache_row (seen l.control) (link l.area) t l.class) l.task l.counts
