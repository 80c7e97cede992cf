-- The numbers before `i` are filled in.
use mathlib.Core.Path.{◌≡◌}
use native.Mathlib.Omega.{arith}
use Rattle.std.proofs.lemmas.Result.{err_from_is_err_and}
use Rattle.reports.proofs.ReportAnswers.{not-gathered}
use Rattle.sheet.proofs.SheetFilled.{regions_fail}
use Rattle.holders.specs.Form.{FORM_NUMBERS}
use Rattle.holders.proofs.FormColumns.{numbers-as-read}
use Rattle.holders.proofs.FormFilled.{form-begin, form-next, form-fails, form-end}
use Rattle.holders.proofs.fill.Goals as goal

pub returns-in_err-found : goal.returns-in_err-found
returns-in_err-found c =
    let p = err_from_is_err_and c.from_residual.result c.from_residual.ensures.1 in
    rw p.1 (not-gathered _ _ _ (regions_fail _ _ _ c.in_err-found.ensures.failed))

pub of_holder-requires : goal.of_holder-requires
of_holder-requires c =
    (c.requires.0, omega arith, numbers-as-read c.in_ok-found.ensures c.numbers_of-opened.ensures)

pub loop-i-init : goal.loop-i-init
loop-i-init c = form-begin _ _ _ c.requires.1

pub returns-in_err-numbers : goal.returns-in_err-numbers
returns-in_err-numbers c =
    let p = err_from_is_err_and c.from_residual-in_err-numbers.result c.from_residual-in_err-numbers.ensures.1 in
    rw p.1 (not-gathered _ _ _ (form-fails _ _ _ _ (omega arith) (rw c.new-class.ensures at c.in_err-numbers.ensures)))

pub loop-i-preserved : goal.loop-i-preserved
loop-i-preserved c =
    form-next _ _ _ (omega arith) (rw c.new-class.ensures at c.in_ok-numbers.ensures) c.loop-i.invariant

pub returns : goal.returns
returns c =
    let e : c.loop-i.i ≡ FORM_NUMBERS = omega arith in
    form-end _ _ _ c.in_ok-found.ensures.passed (rw e at c.loop-i.invariant)
