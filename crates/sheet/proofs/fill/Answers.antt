-- The numbers of the classes before `number` are filled in.
use mathlib.Core.Path.{◌≡◌}
use native.Mathlib.Omega.{arith}
use Rattle.std.proofs.lemmas.Result.{err_from_is_err_and}
use Rattle.limits.specs.Limits.{CLASSES}
use Rattle.reports.proofs.ReportAnswers.{not-gathered}
use Rattle.sheet.proofs.SheetFilled.{sheet-begin, sheet-next, sheet-end}
use Rattle.sheet.proofs.SheetFilled.{caches-fail, requests-fail, regions_fail}
use Rattle.sheet.proofs.fill.Goals as goal

pub loop-number-init : goal.loop-number-init
loop-number-init c = sheet-begin _ _ _ _ c.requires.1

pub returns : goal.returns
returns c =
    let e : c.loop-number.number ≡ CLASSES = omega arith in
    sheet-end _ _ _ _ (rw e at c.loop-number.invariant)

pub returns-in_err-caches : goal.returns-in_err-caches
returns-in_err-caches c =
    let p = err_from_is_err_and c.from_residual.result c.from_residual.ensures.1 in
    rw p.1 (not-gathered _ _ _ (caches-fail _ _ _ _ (omega arith)
    (rw c.new-class.ensures at c.in_err-caches.ensures.out_of_range)))

pub returns-in_err-requests : goal.returns-in_err-requests
returns-in_err-requests c =
    let p = err_from_is_err_and c.from_residual-in_err-requests.result c.from_residual-in_err-requests.ensures.1 in
    rw p.1 (not-gathered _ _ _ (requests-fail _ _ _ c.in_err-requests.ensures.out_of_range))

pub returns-in_err-rows : goal.returns-in_err-rows
returns-in_err-rows c =
    let p = err_from_is_err_and c.from_residual-in_err-rows.result c.from_residual-in_err-rows.ensures.1 in
    rw p.1 (not-gathered _ _ _ (regions_fail _ _ _ c.in_err-rows.ensures.failed))

pub loop-number-preserved : goal.loop-number-preserved
loop-number-preserved c =
    sheet-next _ _ _ _ _ _ _ _ (omega arith) c.loop-number.invariant (rw c.new-class.ensures at c.in_ok-caches.ensures)
    (rw c.new-class.ensures at c.in_ok-requests.ensures) (rw c.new-class.ensures at c.in_ok-rows.ensures)
