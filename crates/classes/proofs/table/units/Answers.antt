-- `classes::table::units` meets its contract: each entry of the row is the number of the definition.
use mathlib.Core.List.{[], ◌∷◌}
use Rattle.classes.specs.Classes.{units}
use Rattle.classes.proofs.Tables.{entry-is}
use Rattle.classes.proofs.table.units.Goals as goal

pub returns : goal.returns
unfolding units
returns c =
    entry-is (1 ∷ 2 ∷ 4 ∷ 6 ∷ 8 ∷ 10 ∷ 12 ∷ 14 ∷ 16 ∷ 20 ∷ 24 ∷ 28 ∷ 32 ∷ []) units tt _ _
    c.get.ensures.inside c.get.ensures.same
