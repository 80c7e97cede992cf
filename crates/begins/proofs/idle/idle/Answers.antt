-- One way out for each test.
use Rattle.std.proofs.Common.{arith, sym, ◌∙◌}
use borrow.Author.Tests.{ltb-true, ltb-false}
use Rattle.limits.specs.declared.refusal.Refusal.TheVariants.{OutOfRange}
use Rattle.begins.proofs.Refusals.{told}
use Rattle.begins.proofs.Beginning.{no_place, in-hand, idle-is}
use Rattle.begins.proofs.idle.idle.Goals as goal

pub returns-then-place-eq-IDLE : goal.returns-then-place-eq-IDLE
returns-then-place-eq-IDLE c x = idle-is _ _ x (sym c.get-place.ensures ∙ c.if-place-eq-IDLE.true)

pub returns-in_err-in_range : goal.returns-in_err-in_range
returns-in_err-in_range c x =
    told _ (λ _. x) OutOfRange
    (no_place _ _ x (omega (arith, c.get-place.ensures, ltb-false _ _ c.in_err-in_range.ensures.failed)))
    c.from_residual.ensures.1

pub returns : goal.returns
returns c x =
    in-hand _ _ x (omega (arith, c.get-place.ensures, ltb-true _ _ c.in_ok-in_range.ensures.passed))
    (λ e. c.if-place-eq-IDLE.false (c.get-place.ensures ∙ e))
