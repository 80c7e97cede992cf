-- The caches of the classes before `class` are in their ranges.
use mathlib.Core.Path.{refl}
use native.Mathlib.Omega.{arith}
use Rattle.std.proofs.lemmas.Result.{err_from_is_err_and}
use Rattle.limits.specs.Limits.{CLASSES}
use Rattle.reports.specs.Passing.{all_pass}
use Rattle.reports.proofs.Passing.{one_more, one-fails}
use Rattle.keepers.proofs.caches_fit.Goals as goal

pub loop-class-init : goal.loop-class-init
unfolding all_pass
loop-class-init c = refl

pub returns-in_err-of_class-clause-failed : goal.returns-in_err-of_class-clause-failed
returns-in_err-of_class-clause-failed c =
    let p = err_from_is_err_and c.from_residual.result c.from_residual.ensures.1 in
    rw p.1
    (one-fails CLASSES _ c.loop-class.class (omega arith) (rw c.new.ensures at c.in_err-of_class.ensures.out_of_range))

pub loop-class-preserved : goal.loop-class-preserved
loop-class-preserved c =
    one_more _ _ c.loop-class.invariant (rw c.new.ensures at c.in_ok-of_class.ensures.in_range_is)
