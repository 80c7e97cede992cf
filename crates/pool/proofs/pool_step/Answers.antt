-- A control memory of another length is refused; on one of its length another function makes the step.
use Rattle.stepped.specs.Outcome.{step_effect}
use Rattle.stepped.specs.Calls.{step_outcome}
use Rattle.pool.proofs.Calling.{lent, refused-is, other, short, step-does}
use Rattle.pool.proofs.pool_step.Goals as goal

pub returns-in_default : goal.returns-in_default
unfolding step_outcome
returns-in_default c =
    let m = c.args.control.now in
    let a = c.args.area.now in
    let z = c.args.strips.now in
    short m a z (λ o. step_effect c.args.task o (lent m a z)) (refused-is m a z 1) (other m a z _ c.in_default.ensures.cases _)
    c.number.ensures

pub returns : goal.returns
returns c =
    let kept = c.in-Some.ensures.cases in
    step-does _ _ _ kept.long kept.same c.args.task c.step_of.ensures
