-- The regions before `region` are read.
use mathlib.Core.Path.{◌≡◌, ap, ◌∙◌}
use native.Mathlib.Omega.{arith}
use Rattle.std.proofs.lemmas.Result.{err_from_is_err_and}
use Rattle.control.specs.Layout.{seen}
use Rattle.report_regions.specs.Opened.{opened_of}
use Rattle.report_regions.proofs.ReadRegions.{regions-begin, regions-next, regions_fail, regions-end}
use Rattle.report_regions.proofs.of_regions.Goals as goal

pub loop-region-init : goal.loop-region-init
loop-region-init c = regions-begin _ _ _

pub returns-in_err-opened : goal.returns-in_err-opened
returns-in_err-opened c =
    let p = err_from_is_err_and c.from_residual.result c.from_residual.ensures.1 in
    let read = opened_of (seen c.args.control.now) c.args.regions in
    rw p.1 (regions_fail _ _ _ _ (omega arith) (c.in_err-opened.ensures ∙ ap read c.new.ensures))

pub loop-region-preserved : goal.loop-region-preserved
loop-region-preserved c =
    let read = opened_of (seen c.args.control.now) c.args.regions in
    regions-next _ _ _ c.loop-region.invariant (omega arith) (c.in_ok-opened.ensures ∙ ap read c.new.ensures)

pub returns : goal.returns
returns c =
    let e : c.loop-region.region ≡ c.args.regions = omega arith in
    regions-end _ _ (rw e at c.loop-region.invariant)
