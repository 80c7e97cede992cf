-- One way out for each test that fails, and one for all that pass.
use Rattle.std.proofs.Common.{◌≡◌, arith, refl, ap, ◌∙◌, Err}
use borrow.Author.Tests.{eqb-true, eqb-false, ltb-true, ltb-false, leb-true, leb-false}
use Rattle.std.proofs.lemmas.Result.{err_from_is_err_and}
use Rattle.limits.specs.declared.refusal.Refusal.TheVariants.{OutOfRange, AreaLength, NoTask}
use Rattle.stepped.specs.Calls.{tasks_fail, regions_fail, lengths_fail, task_fails}
use Rattle.begins.proofs.Testing.{fails, behind, all-pass}
use Rattle.begins.proofs.tests.later_tests.Goals as goal

pub returns-in_err-in_range : goal.returns-in_err-in_range
returns-in_err-in_range c =
    let p = err_from_is_err_and c.from_residual.result c.from_residual.ensures.1 in
    fails OutOfRange (rw p.2 at p.1)
    (tasks_fail refl (omega (arith, leb-false _ _ c.in_err-in_range.ensures.failed, c.get_only-tasks.ensures)))

pub returns-in_default : goal.returns-in_default
returns-in_default c =
    let m = leb-true _ _ c.in_ok-in_range.ensures.passed in
    behind OutOfRange (ap Err c.first_failed.ensures) c.get_only-tasks.ensures refl
    (λ some. regions_fail (refl, some, omega (arith, m, c.get_only-tasks.ensures))
    (λ R. omega (arith, R.0, R.1, c.in_default.ensures.outside, c.get_only.ensures)))

pub returns-in_err-follows : goal.returns-in_err-follows
returns-in_err-follows c =
    let m = leb-true _ _ c.in_ok-in_range.ensures.passed in
    let R = c.in-Ok.ensures in
    let same : c.in-Ok.regions ≡ c.get_only.result = R.found in
    let p = err_from_is_err_and c.from_residual-in_err-follows.result c.from_residual-in_err-follows.ensures.1 in
    behind AreaLength (p.1 ∙ ap Err (p.2 ∙ c.in_err-follows.ensures.told)) c.get_only-tasks.ensures refl
    (λ some. lengths_fail (refl, some, omega (arith, m, c.get_only-tasks.ensures)) (omega (arith, R, c.get_only.ensures), omega (arith, R, c.get_only.ensures))
    (λ e. eqb-false _ _ c.in_err-follows.ensures.failed (omega (arith, e.0, same, c.get.ensures.same, c.get_only.ensures))))

pub returns-in_err-follows-2 : goal.returns-in_err-follows-2
returns-in_err-follows-2 c =
    let m = leb-true _ _ c.in_ok-in_range.ensures.passed in
    let R = c.in-Ok.ensures in
    let same : c.in-Ok.regions ≡ c.get_only.result = R.found in
    let p = err_from_is_err_and c.from_residual-in_err-follows-2.result c.from_residual-in_err-follows-2.ensures.1 in
    behind AreaLength (p.1 ∙ ap Err (p.2 ∙ c.in_err-follows-2.ensures.told)) c.get_only-tasks.ensures refl
    (λ some. lengths_fail (refl, some, omega (arith, m, c.get_only-tasks.ensures)) (omega (arith, R, c.get_only.ensures), omega (arith, R, c.get_only.ensures)) (λ e. eqb-false _ _ c.in_err-follows-2.ensures.failed e.1))

pub returns-in_err-follows-3 : goal.returns-in_err-follows-3
returns-in_err-follows-3 c =
    let m = leb-true _ _ c.in_ok-in_range.ensures.passed in
    let R = c.in-Ok.ensures in
    let same : c.in-Ok.regions ≡ c.get_only.result = R.found in
    let p = err_from_is_err_and c.from_residual-in_err-follows-3.result c.from_residual-in_err-follows-3.ensures.1 in
    let a = eqb-true _ _ c.in_ok-follows.ensures.passed in
    let b = eqb-true _ _ c.in_ok-follows-2.ensures.passed in
    behind NoTask (p.1 ∙ ap Err (p.2 ∙ c.in_err-follows-3.ensures.told)) c.get_only-tasks.ensures refl
    (λ some. task_fails (refl, some, omega (arith, m, c.get_only-tasks.ensures)) (omega (arith, R, c.get_only.ensures), omega (arith, R, c.get_only.ensures)) (omega (arith, a, same, c.get.ensures.same, c.get_only.ensures), b)
    (omega (arith, ltb-false _ _ c.in_err-follows-3.ensures.failed, c.get_only-tasks.ensures)))

pub returns : goal.returns
returns c =
    let m = leb-true _ _ c.in_ok-in_range.ensures.passed in
    let R = c.in-Ok.ensures in
    let same : c.in-Ok.regions ≡ c.get_only.result = R.found in
    let a = eqb-true _ _ c.in_ok-follows.ensures.passed in
    let b = eqb-true _ _ c.in_ok-follows-2.ensures.passed in
    let l = ltb-true _ _ c.in_ok-follows-3.ensures.passed in
    all-pass (record {
      control_is = refl;
      started = omega (arith, l, c.get_only-tasks.ensures);
      tasks = omega (arith, m, c.get_only-tasks.ensures);
      some = omega (arith, R, c.get_only.ensures);
      regions = omega (arith, R, c.get_only.ensures);
      lengths_are = (omega (arith, a, same, c.get.ensures.same, c.get_only.ensures), b);
      below = omega (arith, l, c.get_only-tasks.ensures);
    })
    (same ∙ c.get_only.ensures) c.new.ensures
