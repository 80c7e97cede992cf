-- In each case the stores are the writes of that place's outcome.
use mathlib.Core.Path.{refl}
use Rattle.stepped.proofs.Doing.{done}
use Rattle.steps_leave.proofs.Going.{gone, not-gone}
use Rattle.steps_pushes.proofs.pushes.go_on.Goals as goal
use Rattle.steps_pushes.proofs.pushes.go_on.Goals.{in-One, in-Leave+in_ok-go-in-Leave, in-Two, in-Offer}

pub returns-in_err-go-in-Leave : goal.returns-in_err-go-in-Leave
returns-in_err-go-in-Leave c =
    λ e. rw c.in-Leave.is
    (not-gone _ _ _ e _ _ _ _ (rw c.get.ensures.same at c.in_err-go-in-Leave.ensures.outside)
    c.in_err-go-in-Leave.ensures.kept c.from_residual.ensures.1)

pub returns : goal.returns
returns c = λ e. elim c.match-follow.branch [
  | in-One w ↦ rw w.in-One.is (done refl refl (rw (w.control-is, w.set.ensures) at c.set-2.ensures) refl)
  | in-Leave+in_ok-go-in-Leave w ↦ rw w.in-Leave.is
      (gone e _ (rw w.get.ensures.same at w.in_ok-go-in-Leave.ensures.goes) (rw w.control-is at c.set-2.ensures))
  | in-Two w ↦ rw w.in-Two.is
      (done refl refl (rw (w.control-is, w.set-in-Two-2.ensures, w.set-in-Two.ensures) at c.set-2.ensures) refl)
  | in-Offer w ↦ rw w.in-Offer.is (done refl refl (rw (w.control-is, w.set-in-Offer.ensures) at c.set-2.ensures) refl)
]
