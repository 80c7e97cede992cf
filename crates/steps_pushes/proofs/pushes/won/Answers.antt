-- The place that a return goes on to is that of the definition, or one is refused.
use borrow.Author.Tests.{leb-true}
use Rattle.words.specs.Anchor.{FULL}
use Rattle.steps_pushes.proofs.Pushing.{refused, released, offered}
use Rattle.steps_pushes.proofs.pushes.won.Goals as goal

pub returns-in_err-follow-in-Release : goal.returns-in_err-follow-in-Release
returns-in_err-follow-in-Release c =
    λ e. rw c.in-Release.is
    (released _ _ _ _ e _ _ (refused c.from_residual-in_err-follow-in-Release.ensures.1)
    (leb-true c.get-state.result FULL c.in_ok-in_range-in-Release.ensures.passed) c.get-state.ensures
    c.in_err-follow-in-Release.ensures)

pub returns-in_err-follow-in-Offer : goal.returns-in_err-follow-in-Offer
returns-in_err-follow-in-Offer c =
    λ e. rw c.in-Offer.is
    (offered _ _ _ _ e _ _ (refused c.from_residual-in_err-follow-in-Offer.ensures.1) c.in_err-follow-in-Offer.ensures)

pub returns-in_ok-follow-in-Release : goal.returns-in_ok-follow-in-Release
returns-in_ok-follow-in-Release c =
    λ e. rw c.in-Release.is
    (released _ _ _ _ e _ _ (c.go_on.ensures e)
    (leb-true c.get-state.result FULL c.in_ok-in_range-in-Release.ensures.passed) c.get-state.ensures
    c.in_ok-follow-in-Release.ensures)

pub returns-in_ok-follow-in-Offer : goal.returns-in_ok-follow-in-Offer
returns-in_ok-follow-in-Offer c =
    λ e. rw c.in-Offer.is (offered _ _ _ _ e _ _ (c.go_on-in-Offer.ensures e) c.in_ok-follow-in-Offer.ensures)
