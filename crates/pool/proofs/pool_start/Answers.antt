-- A control memory of another length is refused, then the other tests are made, then the start.
use mathlib.Core.Path.{ap, ◌∙◌}
use Rattle.plain.specs.Calls.{start_control}
use Rattle.stepped.specs.Start.{start_image}
use Rattle.pool.proofs.Started.{refused, refused-by, starts}
use Rattle.pool.proofs.pool_start.Goals as goal

pub returns-in_default : goal.returns-in_default
returns-in_default c = refused _ _ _ _ c.number.ensures (start_control c.in_default.ensures.cases)

pub returns-in-Ok : goal.returns-in-Ok
returns-in-Ok c =
    let kept = c.in-Some.ensures.cases in
    starts _ _ _ _ kept.long c.in-Ok.ensures.started (c.image.ensures ∙ ap (start_image _) c.count.ensures)

pub returns-in-Err : goal.returns-in-Err
returns-in-Err c =
    let kept = c.in-Some.ensures.cases in
    refused-by _ _ _ _ kept.long kept.same c.in-Err.ensures.refused c.number-in-Err.ensures
