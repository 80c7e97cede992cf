-- A stand without a strips' memory has zeros.
use mathlib.Core.Path.{refl}
use Rattle.schedule.proofs.stand.Stand.lent_strips.Goals as goal

pub returns-in-None : goal.returns-in-None
returns-in-None c = rw c.in-None.is refl
