-- The classes before the one that is looked at have empty caches.
use mathlib.Core.Path.{◌≡◌}
use Rattle.control.specs.Layout.{seen}
use Rattle.stepped.specs.Leaving.{next_cached}
use Rattle.steps_leave.proofs.next.next.Given as goal

abbrev pub invariant-loop-number : goal.invariant-loop-number
invariant-loop-number l = next_cached (seen l.control) l.task l.number ≡ next_cached (seen l.control) l.task l.from
