-- The tests are those of the definition, in their order.
use borrow.Author.Rules.{rules}
use native.Mathlib.Omega.{arith}
use mathlib.Core.Path.{refl, ◌∙◌}
use Rattle.stepped.proofs.Doing.{done, loses}
use Rattle.steps_allocate.proofs.AllocateWays.{shown, refuses, a3_exchange-none, a3_exchange-chain, a3_exchange-some}
use Rattle.steps_allocate.proofs.AllocateWays.{a3_exchange_of-none, a3_exchange_of-lost, a3_exchange_of-region}
use Rattle.steps_allocate.proofs.AllocateWays.{a3_exchange_of-won}
use Rattle.steps_allocate.proofs.anchor.exchange.Goals as goal

pub returns-in_err-descriptor : goal.returns-in_err-descriptor
returns-in_err-descriptor c link =
    refuses _ (a3_exchange-none _ _ _ _ _ c.get.ensures c.in_err-descriptor.ensures.outside) c.from_residual.ensures.1

pub returns-in_err-in_range : goal.returns-in_err-in_range
returns-in_err-in_range c link =
    let d = c.in_ok-descriptor.ensures in
    refuses _ (a3_exchange-chain _ _ _ _ _ (d.found ∙ c.get.ensures) (omega (arith, d)) c.get-noted.ensures
    c.per_region.ensures (shown c.has_chain.ensures c.in_err-in_range.ensures.failed))
    c.from_residual-in_err-in_range.ensures.1

pub returns-in_err-in_range-2 : goal.returns-in_err-in_range-2
returns-in_err-in_range-2 c link =
    let d = c.in_ok-descriptor.ensures in
    refuses _ (a3_exchange-some _ _ _ _ _ (d.found ∙ c.get.ensures) (omega (arith, d)) c.get-noted.ensures
    c.per_region.ensures (shown c.has_chain.ensures c.in_ok-in_range.ensures.passed)
    ∙ a3_exchange_of-none _ _ _ _ _ _ _ c.get-found.ensures
    (shown c.is_anchor.ensures c.in_err-in_range-2.ensures.failed))
    c.from_residual-in_err-in_range-2.ensures.1

pub returns-then-found-noted : goal.returns-then-found-noted
returns-then-found-noted c link =
    let d = c.in_ok-descriptor.ensures in
    loses (a3_exchange-some _ _ _ _ _ (d.found ∙ c.get.ensures) (omega (arith, d)) c.get-noted.ensures
    c.per_region.ensures (shown c.has_chain.ensures c.in_ok-in_range.ensures.passed)
    ∙ a3_exchange_of-lost _ _ _ _ _ _ _ c.get-found.ensures
    (shown c.is_anchor.ensures c.in_ok-in_range-2.ensures.passed)
    c.if-found-noted.true)
    (search rules) c.set.ensures c.count.ensures

pub returns-in_err-region : goal.returns-in_err-region
returns-in_err-region c link =
    let d = c.in_ok-descriptor.ensures in
    refuses _ (a3_exchange-some _ _ _ _ _ (d.found ∙ c.get.ensures) (omega (arith, d)) c.get-noted.ensures
    c.per_region.ensures (shown c.has_chain.ensures c.in_ok-in_range.ensures.passed)
    ∙ a3_exchange_of-region _ _ _ _ _ _ _ c.get-found.ensures
    (shown c.is_anchor.ensures c.in_ok-in_range-2.ensures.passed) c.if-found-noted.false c.get-region.ensures
    c.in_err-region.ensures.outside)
    c.from_residual-in_err-region.ensures.1

pub returns : goal.returns
returns c link =
    let d = c.in_ok-descriptor.ensures in
    done (a3_exchange-some _ _ _ _ _ (d.found ∙ c.get.ensures) (omega (arith, d)) c.get-noted.ensures
    c.per_region.ensures (shown c.has_chain.ensures c.in_ok-in_range.ensures.passed)
    ∙ a3_exchange_of-won _ _ _ _ _ _ _ c.get-found.ensures
    (shown c.is_anchor.ensures c.in_ok-in_range-2.ensures.passed) c.if-found-noted.false c.get-region.ensures
    c.full_word.ensures c.of-chain.ensures c.in_ok-region.ensures.inside)
    refl
    (rw (rw (rw (rw c.set-2.ensures at c.set-3.ensures) at c.set-4.ensures) at c.set-5.ensures) at c.set-6.ensures)
    refl
