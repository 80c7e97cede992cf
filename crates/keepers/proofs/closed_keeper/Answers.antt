-- No task before `number` has the region itself.
use mathlib.Core.Path.{sym, ◌∙◌}
use native.Mathlib.Omega.{arith}
use Rattle.keepers.specs.Keepers.{closed_keeper}
use Rattle.keepers.proofs.Searching.{request-found, request-none, spare-there, spare-not}
use Rattle.keepers.proofs.closed_keeper.Goals as goal

pub returns-then-has : goal.returns-then-has
unfolding closed_keeper
returns-then-has c = spare-there _ _ _ _ (rw c.get.ensures.same at (sym c.has.ensures ∙ c.if-has.true))

pub returns-then-has_region : goal.returns-then-has_region
unfolding closed_keeper
returns-then-has_region c =
    rw c.new-task.ensures
    (request-found _ _ c.loop-number.number c.loop-number.invariant (omega arith)
    (rw (c.new-task.ensures, c.get-in-loop-number.ensures.same) at (sym c.has_region.ensures ∙ c.if-has_region.true))
    ∙ spare-not _ _ _ _ (rw c.get.ensures.same at (sym c.has.ensures ∙ c.if-has.false)))

pub returns : goal.returns
unfolding closed_keeper
returns c =
    request-none _ _ (λ i l. c.loop-number.invariant i (omega arith))
    ∙ spare-not _ _ _ _ (rw c.get.ensures.same at (sym c.has.ensures ∙ c.if-has.false))
