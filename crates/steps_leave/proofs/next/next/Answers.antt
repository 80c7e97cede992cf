-- The classes before the one that is looked at have empty caches.
use native.Mathlib.Omega.{arith}
use mathlib.Core.Path.{sym, ◌∙◌}
use Rattle.steps_leave.proofs.Going.{next-none, next_here, next-further}
use Rattle.steps_leave.proofs.next.next.Goals as goal

pub loop-number-preserved : goal.loop-number-preserved
loop-number-preserved c = next-further _ _ _ _ c.new-class.ensures (omega arith) (omega arith) ∙ c.loop-number.invariant

pub returns-then-get_of-ne0 : goal.returns-then-get_of-ne0
returns-then-get_of-ne0 c = next_here _ _ _ _ c.new-class.ensures (omega arith) (λ e. omega arith) ∙ c.loop-number.invariant

pub returns : goal.returns
returns c = sym c.loop-number.invariant ∙ next-none _ _ _ (omega arith)
