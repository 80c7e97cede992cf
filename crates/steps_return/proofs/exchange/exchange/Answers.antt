-- The noted anchor has been tested.
use mathlib.Core.Path.{sym, ◌∙◌}
use Rattle.steps_return.proofs.Fitting.{has-room}
use Rattle.steps_return.proofs.exchange.exchange.Goals as goal

pub exchange_of-requires : goal.exchange_of-requires
exchange_of-requires c = (
  has-room _ _ _ c.per_region-n.ensures (sym c.has_room.ensures ∙ c.in_ok-in_range-4.ensures.passed),
  sym c.is_anchor.ensures ∙ c.in_ok-in_range-3.ensures.passed,
)
