-- One law for each way out.
use mathlib.Core.Path.{◌∙◌}
use Rattle.keepers.proofs.Searching.{hand-found, hand-none}
use Rattle.keepers.proofs.hand_keeper.Goals as goal

pub returns-in-Some : goal.returns-in-Some
returns-in-Some c = hand-found _ _ _ _ _ c.in-Some.ensures.found c.in-Some.ensures.below

pub returns-in-None : goal.returns-in-None
returns-in-None c = c.cache_keeper.ensures ∙ hand-none _ _ _ _ _ c.in-None.ensures.none
