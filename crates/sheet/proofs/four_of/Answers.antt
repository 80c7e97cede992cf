-- One law for each way out.
use native.Mathlib.Omega.{arith}
use Rattle.std.proofs.lemmas.Result.{err_from_is_err_and}
use Rattle.sheet.proofs.FourWays.{four-beyond, four-closed, four-other, four-open, four-outside}
use Rattle.sheet.proofs.four_of.Goals as goal

pub returns-then-get : goal.returns-then-get
returns-then-get c = four-beyond _ _ _ _ _ _ (omega arith)

pub returns-in_err-open : goal.returns-in_err-open
returns-in_err-open c =
    let p = err_from_is_err_and c.from_residual.result c.from_residual.ensures.1 in
    rw p.1 (four-outside _ _ _ _ _ _ (omega arith) _ c.in_err-open.ensures)

pub returns-in-Some : goal.returns-in-Some
returns-in-Some c =
    four-open _ _ _ _ _ _ (omega arith) (rw c.in-Some.is at c.in_ok-open.ensures) (omega arith)
    c.in_hand-hand.ensures

pub returns-in-Some-2 : goal.returns-in-Some-2
returns-in-Some-2 c =
    four-other _ _ _ _ _ _ (omega arith) (rw c.in-Some.is at c.in_ok-open.ensures) (λ e. omega arith)

pub returns-in-None : goal.returns-in-None
returns-in-None c = four-closed _ _ _ _ _ _ (omega arith) (rw c.in-None.is at c.in_ok-open.ensures)
