-- One law for each way out.
use mathlib.Core.Path.{◌∙◌}
use Rattle.keepers.proofs.ReadTests.{list-fits}
use Rattle.keepers.proofs.Searching.{keeper-closed, keeper-open, keeper-outside}
use Rattle.keepers.proofs.keeper_of.Goals as goal

pub closed_keeper-requires : goal.closed_keeper-requires
closed_keeper-requires c = list-fits _ _ _ c.requires.fits

pub returns-in-Ok-None : goal.returns-in-Ok-None
returns-in-Ok-None c =
    c.closed_keeper.ensures ∙ keeper-closed _ _ _ _ (rw c.in-Ok-None.field-0-is at c.in-Ok-None.ensures)

pub returns-in-Ok-Some : goal.returns-in-Ok-Some
returns-in-Ok-Some c =
    c.hand_keeper.ensures ∙ keeper-open _ _ _ _ _ _ (rw c.in-Ok-Some.field-0-is at c.in-Ok-Some.ensures)

pub returns-in-Err : goal.returns-in-Err
returns-in-Err c = keeper-outside _ _ _ _ c.in-Err.ensures
