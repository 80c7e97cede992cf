-- Behind the tests the whole outcome is that of a won push.
use native.Mathlib.Omega.{arith}
use Rattle.steps_pushes.proofs.Pushing.{leads}
use Rattle.steps_pushes.proofs.pushes.exchange.Goals as goal

pub returns : goal.returns
returns c =
    let k = c.items-items.ensures in
    leads _ _ _ _ _ _ _ (c.won.ensures _)
    (rw k at c.in_ok-item.ensures.inside)
    (rw (k, c.get-noted.ensures) at c.in_ok-on_top.ensures.inside)
    (rw (k, c.get-word.ensures, c.list-list.ensures) at c.in_ok-on_top-2.ensures.inside)
    (omega (arith, c.get-noted.ensures, rw c.list-list.ensures at c.get-word.ensures))
    c.list-list.ensures
    (rw (c.get-noted.ensures, c.in_ok-item.ensures.found, k) at c.advanced.ensures)
