-- One law for each test.
use Rattle.std.proofs.lemmas.Result.{err_from_is_err_and}
use Rattle.sheet.proofs.SheetFilled.{requests-fail, regions_fail}
use Rattle.keepers.proofs.ReadTests.{sheet-fails, caches-fail, held-fails, spares-tell}
use Rattle.keepers.proofs.read_fits.Goals as goal

pub returns-in_err-caches_fit-clause-failed : goal.returns-in_err-caches_fit-clause-failed
returns-in_err-caches_fit-clause-failed c =
    let p = err_from_is_err_and c.from_residual.result c.from_residual.ensures.1 in
    rw p.1 (caches-fail _ _ _ c.in_err-caches_fit.ensures.failed)

pub returns-in_err-of_class-clause-failed : goal.returns-in_err-of_class-clause-failed
returns-in_err-of_class-clause-failed c =
    let r = c.from_residual-in_err-of_class in
    let p = err_from_is_err_and r.result r.ensures.1 in
    rw p.1 (sheet-fails _ _ _ (requests-fail _ _ _ c.in_err-of_class.ensures.out_of_range))

pub returns-in_err-of_regions-clause-failed : goal.returns-in_err-of_regions-clause-failed
returns-in_err-of_regions-clause-failed c =
    let r = c.from_residual-in_err-of_regions in
    let p = err_from_is_err_and r.result r.ensures.1 in
    rw p.1 (sheet-fails _ _ _ (regions_fail _ _ _ c.in_err-of_regions.ensures.failed))

pub returns-in_err-fits-clause-failed : goal.returns-in_err-fits-clause-failed
returns-in_err-fits-clause-failed c =
    let r = c.from_residual-in_err-fits in
    let p = err_from_is_err_and r.result r.ensures.1 in
    rw p.1 (held-fails _ _ _ (rw c.get.ensures.same at c.in_err-fits.ensures.failed))

pub returns-clause-passed : goal.returns-clause-passed
returns-clause-passed c =
    rw (spares-tell _ _ _ c.in_ok-caches_fit.ensures.passed c.in_ok-of_class.ensures.in_range_is
    c.in_ok-of_regions.ensures.passed (rw c.get.ensures.same at c.in_ok-fits.ensures.passed)) at c.fits-2.ensures.passed

pub returns-clause-failed : goal.returns-clause-failed
returns-clause-failed c =
    rw (spares-tell _ _ _ c.in_ok-caches_fit.ensures.passed c.in_ok-of_class.ensures.in_range_is
    c.in_ok-of_regions.ensures.passed (rw c.get.ensures.same at c.in_ok-fits.ensures.passed)) at c.fits-2.ensures.failed
