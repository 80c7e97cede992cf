-- Each case is the outcome of the place that steps 5 and 6 go on to.
use mathlib.Core.Path.{refl, sym, ap, ◌∙◌}
use Rattle.std.specs.Prelude.{Ok, Err}
use Rattle.plain.specs.Moves.{gave}
use Rattle.stepped.proofs.Doing.{done, does, refused}
use Rattle.steps_leave.proofs.Going.{gone, not-gone}
use Rattle.steps_lists.specs.declared.follow.Follow.TheVariants.{One, Leave, Two, Offer}
use Rattle.steps_lists.proofs.Following.{f5-at}
use Rattle.steps_return.proofs.exchange.go_on.Goals as goal
use Rattle.steps_return.proofs.exchange.go_on.Goals.{in-One, in-Leave+in_ok-go-in-Leave, in-Two, in-Offer}

pub returns-in_err-f5 : goal.returns-in_err-f5
returns-in_err-f5 c =
    refused (f5-at _ _ _ _ _ _ _ (Err _) (sym c.in_err-f5.was ∙ c.f5.ensures)) c.from_residual.ensures.1

pub returns-in_err-go-in-Leave : goal.returns-in_err-go-in-Leave
returns-in_err-go-in-Leave c =
    does (f5-at _ _ _ _ _ _ _ (Ok Leave) (ap Ok (sym c.in-Leave.is) ∙ sym c.in_ok-f5.was ∙ c.f5.ensures))
    (not-gone _ _ _ (gave _) _ _ _ _ (rw c.get.ensures.same at c.in_err-go-in-Leave.ensures.outside)
    c.in_err-go-in-Leave.ensures.kept c.from_residual-in_err-go-in-Leave.ensures.1)

pub returns : goal.returns
returns c =
    let found = sym c.in_ok-f5.was ∙ c.f5.ensures in
    let stored = rw c.set-2.ensures at c.set-3.ensures in
    elim c.match-branch-2.branch [
      | in-One w ↦
          done (f5-at _ _ _ _ _ _ _ (Ok One) (ap Ok (sym w.in-One.is) ∙ found)) refl
          (rw (w.control-is, w.set.ensures) at stored) refl
      | in-Leave+in_ok-go-in-Leave w ↦
          does (f5-at _ _ _ _ _ _ _ (Ok Leave) (ap Ok (sym w.in-Leave.is) ∙ found))
          (gone (gave _) _ (rw w.get.ensures.same at w.in_ok-go-in-Leave.ensures.goes) (rw w.control-is at stored))
      | in-Two w ↦
          done (f5-at _ _ _ _ _ _ _ (Ok Two) (ap Ok (sym w.in-Two.is) ∙ found)) refl
          (rw (w.control-is, w.begin.ensures) at stored) refl
      | in-Offer w ↦
          done (f5-at _ _ _ _ _ _ _ (Ok Offer) (ap Ok (sym w.in-Offer.is) ∙ found)) refl
          (rw (w.control-is, w.set-in-Offer.ensures) at stored) refl
    ]
