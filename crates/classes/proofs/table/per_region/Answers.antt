-- `classes::table::per_region` meets its contract: each entry of the row is the number of the definition.
use mathlib.Core.List.{[], ◌∷◌}
use Rattle.classes.specs.Classes.{per_region}
use Rattle.classes.proofs.Tables.{entry-is}
use Rattle.classes.proofs.table.per_region.Goals as goal

pub returns : goal.returns
unfolding per_region
returns c =
    entry-is (512 ∷ 256 ∷ 128 ∷ 85 ∷ 64 ∷ 51 ∷ 42 ∷ 36 ∷ 32 ∷ 25 ∷ 21 ∷ 18 ∷ 16 ∷ []) per_region tt _ _
    c.get.ensures.inside c.get.ensures.same
