-- The search goes on or refuses; then the unit and the count of lost exchanges are written.
use Rattle.plain.specs.Moves.{nothing}
use Rattle.steps_leave.proofs.Going.{gone, not-gone}
use Rattle.steps_leave.proofs.begin.begin.Goals as goal

pub returns-in_err-go : goal.returns-in_err-go
returns-in_err-go c =
    not-gone _ _ _ nothing _ _ _ _ c.in_err-go.ensures.outside c.in_err-go.ensures.kept c.from_residual.ensures.1

pub returns : goal.returns
returns c = gone nothing _ c.in_ok-go.ensures.goes (rw c.set.ensures at c.set-2.ensures)
