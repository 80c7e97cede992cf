-- One law for each way out.
use mathlib.Core.Path.{sym, ap, ◌∙◌}
use native.Mathlib.Omega.{arith}
use Rattle.ranges.proofs.RangeTests.{parts}
use Rattle.control.specs.Layout.{seen}
use Rattle.report_regions.specs.Opened.{open_as}
use Rattle.report_regions.proofs.OpenWays.{told-outside, outside, other-region, no-anchor, is-empty, is_open}
use Rattle.report_regions.proofs.by.Goals as goal

pub returns-in_err-named : goal.returns-in_err-named
returns-in_err-named c =
    told-outside _ c.from_residual.ensures.0 (outside _ _ _ _ c.get.ensures c.in_err-named.ensures.outside)

pub returns-then-get : goal.returns-then-get
returns-then-get c =
    let named = c.in_ok-named.ensures in
    other-region _ _ _ _ c.get.ensures named.inside (λ e. omega (arith, named.found))

pub returns-in_err-in_range : goal.returns-in_err-in_range
returns-in_err-in_range c =
    let named = c.in_ok-named.ensures in
    told-outside _ c.from_residual-in_err-in_range.ensures.0
    (no-anchor _ _ _ _ c.get.ensures named.inside (omega (arith, named.found)) c.get-word.ensures
    (sym c.is_anchor.ensures ∙ c.in_err-in_range.ensures.failed))

pub returns-then-found-eq-EMPTY : goal.returns-then-found-eq-EMPTY
returns-then-found-eq-EMPTY c =
    let named = c.in_ok-named.ensures in
    let e = parts c.of-found.ensures in
    is-empty _ _ _ _ c.get.ensures named.inside (omega (arith, named.found)) c.get-word.ensures
    (sym c.is_anchor.ensures ∙ c.in_ok-in_range.ensures.passed) (omega (arith, e))

pub returns : goal.returns
returns c =
    let named = c.in_ok-named.ensures in
    let e = parts c.of-found.ensures in
    c.«open».ensures
    ∙ ap (open_as (seen c.args.control.now) c.args.descriptor) e.count
    ∙ is_open _ _ _ _ c.get.ensures named.inside (omega (arith, named.found)) c.get-word.ensures
    (sym c.is_anchor.ensures ∙ c.in_ok-in_range.ensures.passed) (λ z. omega (arith, e))
