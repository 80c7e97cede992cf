-- One law for each way out.
use Rattle.std.proofs.Common.{◌≡◌, arith, sym, ◌∙◌}
use borrow.Author.Tests.{eqb-true, eqb-false, ltb-true, ltb-false}
use Rattle.limits.specs.declared.refusal.Refusal.TheVariants.{OutOfRange}
use Rattle.ranges.proofs.RangeTests.{parts}
use Rattle.begins.proofs.Refusals.{told}
use Rattle.begins.proofs.FreeBegins.{no-unit, in-area, no-entry, bad-entry, by-entry, outside, other-region, no-anchor}
use Rattle.begins.proofs.FreeBegins.{is-empty, is_open}
use Rattle.begins.proofs.free.opened_by.Goals as goal

pub returns-in_default : goal.returns-in_default
returns-in_default c t = no-unit _ _ t _ (omega (arith, c.in_default.ensures.outside, c.region_of.ensures))

pub returns-in_err-in_range : goal.returns-in_err-in_range
returns-in_err-in_range c t =
    let d = c.in-Ok.ensures in
    let a = in-area _ _ t _ _ _ (d.found ∙ c.region_of.ensures) (omega (arith, d)) c.get-entry.ensures in
    let m = eqb-false _ _ c.in_err-in_range.ensures.failed in
    told _ _ OutOfRange (a ∙ bad-entry _ _ t _ _ (omega (arith, c.in_default-of.ensures.outside, m)))
    c.from_residual.ensures.1

pub returns-in_default-of : goal.returns-in_default-of
returns-in_default-of c t =
    let d = c.in-Ok.ensures in
    let a = in-area _ _ t _ _ _ (d.found ∙ c.region_of.ensures) (omega (arith, d)) c.get-entry.ensures in
    a ∙ no-entry _ _ t _ _ (eqb-true _ _ c.in_ok-in_range.ensures.passed)

pub returns-in_err-in_range-2 : goal.returns-in_err-in_range-2
returns-in_err-in_range-2 c t =
    let d = c.in-Ok.ensures in
    let a = in-area _ _ t _ _ _ (d.found ∙ c.region_of.ensures) (omega (arith, d)) c.get-entry.ensures in
    let n = c.in-Ok-of.ensures in
    let b = by-entry _ _ t _ _ c.in-Ok-of.descriptor (omega (arith, n)) (omega (arith, n)) in
    let m = ltb-false _ _ c.in_err-in_range-2.ensures.failed in
    told _ _ OutOfRange
    (a ∙ b ∙ outside _ _ t _ _ (omega (arith, m, c.get-named.ensures, c.get-then-named-get.ensures)))
    c.from_residual-in_err-in_range-2.ensures.1

pub returns-then-named-get : goal.returns-then-named-get
returns-then-named-get c t =
    let d = c.in-Ok.ensures in
    let a = in-area _ _ t _ _ _ (d.found ∙ c.region_of.ensures) (omega (arith, d)) c.get-entry.ensures in
    let n = c.in-Ok-of.ensures in
    let b = by-entry _ _ t _ _ c.in-Ok-of.descriptor (omega (arith, n)) (omega (arith, n)) in
    let m = ltb-true _ _ c.in_ok-in_range-2.ensures.passed in
    a ∙ b
    ∙ other-region _ _ t _ _ (omega (arith, m, c.get-named.ensures, c.get-then-named-get.ensures))
    (λ e. c.if-named-get.true (omega (arith, c.get-named.ensures, e, c.region_of.ensures, d.found, c.get.ensures.same)))

pub returns-in_err-in_range-3 : goal.returns-in_err-in_range-3
returns-in_err-in_range-3 c t =
    let d = c.in-Ok.ensures in
    let a = in-area _ _ t _ _ _ (d.found ∙ c.region_of.ensures) (omega (arith, d)) c.get-entry.ensures in
    let n = c.in-Ok-of.ensures in
    let b = by-entry _ _ t _ _ c.in-Ok-of.descriptor (omega (arith, n)) (omega (arith, n)) in
    let own : c.get-named.result ≡ c.in-Ok.region = c.if-named-get.false ∙ c.get.ensures.same in
    let e = sym c.get-named.ensures ∙ own ∙ d.found ∙ c.region_of.ensures in
    told _ _ OutOfRange
    (a ∙ b
    ∙ no-anchor _ _ t _ _ (omega (arith, e, d, c.region_of.ensures)) e _ c.get-word.ensures (sym c.is_anchor.ensures ∙ c.in_err-in_range-3.ensures.failed))
    c.from_residual-in_err-in_range-3.ensures.1

pub returns-then-of-eq-EMPTY : goal.returns-then-of-eq-EMPTY
returns-then-of-eq-EMPTY c t =
    let d = c.in-Ok.ensures in
    let a = in-area _ _ t _ _ _ (d.found ∙ c.region_of.ensures) (omega (arith, d)) c.get-entry.ensures in
    let n = c.in-Ok-of.ensures in
    let b = by-entry _ _ t _ _ c.in-Ok-of.descriptor (omega (arith, n)) (omega (arith, n)) in
    let own : c.get-named.result ≡ c.in-Ok.region = c.if-named-get.false ∙ c.get.ensures.same in
    let e = sym c.get-named.ensures ∙ own ∙ d.found ∙ c.region_of.ensures in
    let p = parts c.of-2.ensures in
    a ∙ b
    ∙ is-empty _ _ t _ _ (omega (arith, e, d, c.region_of.ensures)) e _ c.get-word.ensures (sym c.is_anchor.ensures ∙ c.in_ok-in_range-3.ensures.passed)
    (omega (arith, p, c.if-of-eq-EMPTY.true))

pub returns : goal.returns
returns c t =
    let d = c.in-Ok.ensures in
    let a = in-area _ _ t _ _ _ (d.found ∙ c.region_of.ensures) (omega (arith, d)) c.get-entry.ensures in
    let n = c.in-Ok-of.ensures in
    let b = by-entry _ _ t _ _ c.in-Ok-of.descriptor (omega (arith, n)) (omega (arith, n)) in
    let own : c.get-named.result ≡ c.in-Ok.region = c.if-named-get.false ∙ c.get.ensures.same in
    let e = sym c.get-named.ensures ∙ own ∙ d.found ∙ c.region_of.ensures in
    let p = parts c.of-2.ensures in
    a ∙ b
    ∙ is_open _ _ t _ _ (omega (arith, e, d, c.region_of.ensures)) e _ c.get-word.ensures (sym c.is_anchor.ensures ∙ c.in_ok-in_range-3.ensures.passed)
    (λ z. omega (arith, p, c.if-of-eq-EMPTY.false, z))
