-- No task before `number` has a cached block of the region.
use mathlib.Core.Path.{◌∙◌}
use native.Mathlib.Omega.{arith}
use Rattle.keepers.proofs.ReadTests.{list-fits, cache-fits}
use Rattle.keepers.proofs.Searching.{cache-found, cache-none}
use Rattle.keepers.proofs.cache_keeper.Goals as goal

pub lowest-requires : goal.lowest-requires
lowest-requires c = (c.requires.area_is, cache-fits _ _ _ c.requires.fits _ _ (omega arith) (omega arith))

pub returns-in-Some : goal.returns-in-Some
returns-in-Some c =
    rw c.new-task.ensures
    (cache-found _ _ _ _ _ c.loop-number.number c.loop-number.invariant (omega arith)
    (rw (c.new-task.ensures, c.get.ensures.same) at c.in-Some.ensures.found) c.in-Some.ensures.below)

pub request_keeper-requires : goal.request_keeper-requires
request_keeper-requires c = list-fits _ _ _ c.requires.fits

pub returns : goal.returns
returns c =
    c.request_keeper.ensures ∙ cache-none _ _ _ _ _ (λ i l. c.loop-number.invariant i (omega arith))
