-- `classes::geometry::is_first` meets its contract: the product does not overflow, and the factor tells a first unit by
-- it.
use Rattle.classes.proofs.Factors.{told}
use Rattle.classes.proofs.geometry.is_first.Goals as goal

pub returns : goal.returns
returns c = told _ _ _ c.factor.ensures
