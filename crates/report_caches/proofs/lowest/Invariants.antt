-- What is left of the cache gives the lowest of the whole.
use Prim.Native.Nat.{◌-◌}
use Rattle.links.specs.Link.{link}
use Rattle.control.specs.Layout.{seen}
use Rattle.report_caches.proofs.LowestBlocks.{LowestTo}
use Rattle.report_caches.proofs.lowest.Given as goal

abbrev pub invariant-loop : goal.invariant-loop
invariant-loop l =
    LowestTo (seen l.control) (link l.area) l.fn.regions l.fn.task l.fn.class l.fn.region l.unit (l.end - l.counter) l.low
