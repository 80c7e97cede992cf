-- `classes::table::factor` meets its contract: each entry of the row passes the test of its class.
use mathlib.Core.List.{[], ◌∷◌}
use Rattle.classes.specs.Classes.{units, per_region}
use Rattle.classes.specs.Geometry.{is_first}
use Rattle.classes.proofs.Factors.{factor-in}
use Rattle.classes.proofs.table.factor.Goals as goal

pub returns : goal.returns
unfolding is_first units per_region
returns c =
    factor-in
    (128 ∷ 2147483776 ∷ 1073741953 ∷ 3579139543 ∷ 536871042 ∷ 3006477238 ∷ 357914074 ∷ 306783512 ∷ 268435588
    ∷ 1503238690 ∷ 178957107 ∷ 460175205 ∷ 134217864 ∷ []) tt _ _ c.get.ensures.inside c.get.ensures.same
