-- The blocks before `unit` are passed: what is left of the cache gives the whole's answer.
use Rattle.links.specs.Link.{link}
use Rattle.report_caches.proofs.Walking.{Walking}
use Rattle.report_caches.proofs.walk.Given as goal

abbrev pub invariant-loop : goal.invariant-loop
invariant-loop l = Walking (link l.area) l.regions l.class l.top l.count l.fn.from l.unit l.counter l.counts
