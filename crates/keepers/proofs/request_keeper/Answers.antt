-- No request of the tasks before `number` has blocks of the region.
use mathlib.Core.Path.{sym, ◌∙◌}
use native.Mathlib.Omega.{arith}
use Rattle.keepers.specs.Keepers.{request_keeper}
use Rattle.keepers.proofs.Searching.{request-found, request-none, spare-there, spare-not}
use Rattle.keepers.proofs.request_keeper.Goals as goal

pub returns-then-has_blocks : goal.returns-then-has_blocks
unfolding request_keeper
returns-then-has_blocks c =
    rw c.new-task.ensures
    (request-found _ _ c.loop-number.number c.loop-number.invariant (omega arith)
    (rw (
      c.new-task.ensures,
      c.get.ensures.same,
      c.get-in-loop-number.ensures.same,
      c.get-in-loop-number-2.ensures.same,
    ) at (sym c.has_blocks.ensures ∙ c.if-has_blocks.true)))

pub returns-then-has : goal.returns-then-has
unfolding request_keeper
returns-then-has c =
    spare-there _ _ _ _ (rw c.get-2.ensures.same at (sym c.has.ensures ∙ c.if-has.true))
    ∙ request-none _ _ (λ i l. c.loop-number.invariant i (omega arith))

pub returns : goal.returns
unfolding request_keeper
returns c =
    spare-not _ _ _ _ (rw c.get-2.ensures.same at (sym c.has.ensures ∙ c.if-has.false))
    ∙ request-none _ _ (λ i l. c.loop-number.invariant i (omega arith))
