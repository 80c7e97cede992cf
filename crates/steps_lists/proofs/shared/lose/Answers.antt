-- The count is read behind the store of the place, which leaves it as it was.
use borrow.Author.Rules.{rules}
use mathlib.Core.Path.{sym, ap}
use Rattle.plain.specs.Moves.{nothing}
use Rattle.control.specs.Layout.{seen}
use Rattle.stepped.specs.Outcome.{lose}
use Rattle.stepped.proofs.Doing.{loses}
use Rattle.steps_lists.proofs.shared.lose.Goals as goal

pub returns : goal.returns
returns g c =
    (loses (ap (lose (seen c.args.control.now) c.args.task nothing) (sym c.place.ensures.same)) (search rules)
    c.set.ensures c.count.ensures).control
