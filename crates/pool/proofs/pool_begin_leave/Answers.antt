-- A control memory of another length is refused; on one of its length another function does the call.
use Rattle.stepped.specs.Outcome.{effect}
use Rattle.stepped.specs.Calls.{leave_outcome}
use Rattle.pool.proofs.Calling.{lent, refused-is, other, short, call-does}
use Rattle.pool.proofs.pool_begin_leave.Goals as goal

pub returns-in_default : goal.returns-in_default
unfolding leave_outcome
returns-in_default c =
    let m = c.args.control.now in
    let a = c.args.area.now in
    let z = c.args.strips.now in
    short m a z (λ o. effect o (lent m a z)) (refused-is m a z 1) (other m a z _ c.in_default.ensures.cases _) c.number.ensures

pub returns : goal.returns
returns c =
    let kept = c.in-Some.ensures.cases in
    call-does _ _ _ kept.long kept.same (λ l v. leave_outcome l v c.args.task) c.begin_leave.ensures c.number-2.ensures
