-- The code makes the tests of the definition, in their order.
use native.Mathlib.Omega.{arith}
use mathlib.Core.Path.{refl, ◌∙◌}
use Rattle.stepped.proofs.Doing.{done, does}
use Rattle.steps_allocate.proofs.AllocateWays.{shown, refuses, a1-empty, a1-many, a1-some, a1_take-block}
use Rattle.steps_allocate.proofs.AllocateWays.{a1_take-below, a1_take-taken}
use Rattle.steps_allocate.proofs.cache.take.Goals as goal

pub returns-in_default : goal.returns-in_default
returns-in_default c =
    done (a1-empty _ _ _ _ _ c.get_of-count.ensures (omega (arith, c.in_default.ensures))) refl c.set.ensures refl

pub returns-in_err-in_range : goal.returns-in_err-in_range
returns-in_err-in_range c =
    refuses _ (a1-many _ _ _ _ _ c.get_of-count.ensures c.per_region.ensures (omega (arith, c.in-Some.ensures))
    c.in_err-in_range.ensures.failed)
    c.from_residual.ensures.1

pub returns-in_err-in_range-2 : goal.returns-in_err-in_range-2
returns-in_err-in_range-2 c =
    refuses _ (a1-some _ _ _ _ _ c.get_of-count.ensures c.per_region.ensures (omega (arith, c.in-Some.ensures))
    c.get_of-unit.ensures c.in_ok-in_range.ensures.passed
    ∙ a1_take-block _ _ _ _ _ _ _ (shown c.has_block.ensures c.in_err-in_range-2.ensures.failed))
    c.from_residual-in_err-in_range-2.ensures.1

pub returns-in_err-in_range-3 : goal.returns-in_err-in_range-3
returns-in_err-in_range-3 c =
    refuses _ (a1-some _ _ _ _ _ c.get_of-count.ensures c.per_region.ensures (omega (arith, c.in-Some.ensures))
    c.get_of-unit.ensures c.in_ok-in_range.ensures.passed
    ∙ a1_take-below _ _ _ _ _ _ _ c.read-below.ensures c.in-Some.ensures.1
    (shown c.has_block.ensures c.in_ok-in_range-2.ensures.passed)
    (shown c.has_top.ensures c.in_err-in_range-3.ensures.failed))
    c.from_residual-in_err-in_range-3.ensures.1

pub returns : goal.returns
returns c =
    does (a1-some _ _ _ _ _ c.get_of-count.ensures c.per_region.ensures (omega (arith, c.in-Some.ensures))
    c.get_of-unit.ensures c.in_ok-in_range.ensures.passed
    ∙ a1_take-taken _ _ _ _ _ _ _ c.read-below.ensures c.in-Some.ensures.1
    (shown c.has_block.ensures c.in_ok-in_range-2.ensures.passed)
    (shown c.has_top.ensures c.in_ok-in_range-3.ensures.passed)) c.finish.ensures
