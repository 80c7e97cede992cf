-- One law for each way out.
use Rattle.report_regions.proofs.OpenWays.{told-outside, no-class, past-n, is-chain}
use Rattle.report_regions.proofs.open.Goals as goal

pub returns-in_err-class : goal.returns-in_err-class
returns-in_err-class c =
    told-outside _ c.from_residual.ensures.0 (no-class _ _ _ c.get.ensures c.in_err-class.ensures.outside)

pub returns-in_err-in_range : goal.returns-in_err-in_range
returns-in_err-in_range c =
    let class = c.in_ok-class.ensures in
    told-outside _ c.from_residual-in_err-in_range.ensures.0
    (past-n _ _ _ c.get.ensures class.inside
    (rw (c.per_region.ensures, class.found) at c.in_err-in_range.ensures.failed))

pub returns : goal.returns
returns c =
    let class = c.in_ok-class.ensures in
    rw class.found
    (is-chain _ _ _ c.get.ensures class.inside
    (rw (c.per_region.ensures, class.found) at c.in_ok-in_range.ensures.passed))
