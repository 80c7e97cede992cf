-- The tests are those of the definition, in their order.
use native.Mathlib.Omega.{arith}
use mathlib.Core.Path.{refl, ◌∙◌}
use Rattle.stepped.proofs.Doing.{done}
use Rattle.steps_allocate.proofs.AllocateWays.{shown, refuses, a3_read-none, a3_read-some, a3_read_of-none}
use Rattle.steps_allocate.proofs.AllocateWays.{a3_read_of-empty, a3_read_of-chain, a3_read_of-noted}
use Rattle.steps_allocate.proofs.anchor.read.Goals as goal

pub returns-in_err-descriptor : goal.returns-in_err-descriptor
returns-in_err-descriptor c regions link =
    refuses _ (a3_read-none _ _ _ _ _ c.get.ensures c.in_err-descriptor.ensures.outside) c.from_residual.ensures.1

pub returns-in_err-in_range : goal.returns-in_err-in_range
returns-in_err-in_range c regions link =
    let d = c.in_ok-descriptor.ensures in
    refuses _ (a3_read-some _ _ _ _ _ (d.found ∙ c.get.ensures) (omega (arith, d))
    ∙ a3_read_of-none _ _ _ _ _ _ c.get-word.ensures (shown c.is_anchor.ensures c.in_err-in_range.ensures.failed))
    c.from_residual-in_err-in_range.ensures.1

pub returns-then-of-eq-EMPTY : goal.returns-then-of-eq-EMPTY
returns-then-of-eq-EMPTY c regions link =
    let d = c.in_ok-descriptor.ensures in
    done (a3_read-some _ _ _ _ _ (d.found ∙ c.get.ensures) (omega (arith, d))
    ∙ a3_read_of-empty _ _ _ _ _ _ c.get-word.ensures (shown c.is_anchor.ensures c.in_ok-in_range.ensures.passed)
    c.of-2.ensures c.if-of-eq-EMPTY.true)
    refl c.set.ensures refl

pub returns-in_err-in_range-2 : goal.returns-in_err-in_range-2
returns-in_err-in_range-2 c regions link =
    let d = c.in_ok-descriptor.ensures in
    refuses _ (a3_read-some _ _ _ _ _ (d.found ∙ c.get.ensures) (omega (arith, d))
    ∙ a3_read_of-chain _ _ _ _ _ _ c.get-word.ensures (shown c.is_anchor.ensures c.in_ok-in_range.ensures.passed)
    c.of-2.ensures c.per_region.ensures c.if-of-eq-EMPTY.false
    (shown c.has_chain.ensures c.in_err-in_range-2.ensures.failed))
    c.from_residual-in_err-in_range-2.ensures.1

pub returns : goal.returns
returns c regions link =
    let d = c.in_ok-descriptor.ensures in
    done (a3_read-some _ _ _ _ _ (d.found ∙ c.get.ensures) (omega (arith, d))
    ∙ a3_read_of-noted _ _ _ _ _ _ c.get-word.ensures (shown c.is_anchor.ensures c.in_ok-in_range.ensures.passed)
    c.of-2.ensures c.per_region.ensures c.if-of-eq-EMPTY.false
    (shown c.has_chain.ensures c.in_ok-in_range-2.ensures.passed))
    refl (rw c.set-2.ensures at c.set-3.ensures) refl
