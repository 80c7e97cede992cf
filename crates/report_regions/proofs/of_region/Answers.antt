-- One law for each way out.
use mathlib.Core.Path.{ap, ◌∙◌}
use native.Mathlib.Omega.{arith}
use Rattle.control.specs.Layout.{seen}
use Rattle.report_regions.specs.Opened.{open_by}
use Rattle.report_regions.proofs.OpenWays.{told-outside, no-entry, bad-entry, by-entry}
use Rattle.report_regions.proofs.of_region.Goals as goal

pub returns-in-None : goal.returns-in-None
returns-in-None c = no-entry _ _ _ c.get.ensures (omega (arith, c.in-None.ensures))

pub returns-in_err-of-in-Some : goal.returns-in_err-of-in-Some
returns-in_err-of-in-Some c =
    told-outside _ c.from_residual.ensures.0
    (bad-entry _ _ _ c.get.ensures (omega (arith, c.in-Some.ensures, c.in_err-of-in-Some.ensures.outside)))

pub returns-in_ok-of-in-Some : goal.returns-in_ok-of-in-Some
returns-in_ok-of-in-Some c =
    let some = c.in-Some.ensures in
    c.by.ensures
    ∙ ap (open_by (seen c.args.control.now) c.args.regions c.args.region) (c.in_ok-of-in-Some.ensures.found ∙ some.1)
    ∙ by-entry _ _ _ c.get.ensures (λ e. omega (arith, some)) (omega (arith, some, c.in_ok-of-in-Some.ensures.inside))
