-- The tests are those of the definition, in its order, and the stores the writes of the outcome.
use mathlib.Core.Path.{refl, sym, ◌∙◌}
use Rattle.strip_tree.proofs.UnitTests.{slot-begins, no-slot}
use Rattle.stepped.proofs.Doing.{done, refused}
use Rattle.steps_strips.proofs.StripWays.{begin-nowhere, begin-there, begin-none, begin-large, begin-bad, begin-begun, begin-done}
use Rattle.steps_strips.proofs.begin.begin.Goals as goal

pub returns-in_default : goal.returns-in_default
returns-in_default c =
    done (begin-nowhere _ _ _ (no-slot c.args.unit (sym c.slot_of.ensures ∙ c.in_default.is))) refl refl refl

pub returns-then-byte-eq0 : goal.returns-then-byte-eq0
returns-then-byte-eq0 c =
    let b = slot-begins _ _ (sym c.slot_of.ensures ∙ c.in-Some.is) in
    done (begin-there _ _ _ _ b.slot b.passes
    ∙ begin-none _ _ _ _ c.get-byte.ensures _ c.if-byte-eq0.true) refl refl refl

pub returns-in_err-in_range : goal.returns-in_err-in_range
returns-in_err-in_range c =
    let b = slot-begins _ _ (sym c.slot_of.ensures ∙ c.in-Some.is) in
    refused (begin-there _ _ _ _ b.slot b.passes
    ∙ begin-large _ _ _ _ c.get-byte.ensures _ c.if-byte-eq0.false c.in_err-in_range.ensures.failed)
    c.from_residual.ensures.1

pub returns-in_err-in_range-2 : goal.returns-in_err-in_range-2
returns-in_err-in_range-2 c =
    let b = slot-begins _ _ (sym c.slot_of.ensures ∙ c.in-Some.is) in
    refused (begin-there _ _ _ _ b.slot b.passes
    ∙ begin-bad _ _ _ _ c.get-byte.ensures _ c.if-byte-eq0.false c.in_ok-in_range.ensures.passed _ c.order_in.ensures
    (sym c.divides.ensures ∙ c.in_err-in_range-2.ensures.failed))
    c.from_residual-in_err-in_range-2.ensures.1

pub returns-then-byte-ge-FREE_BEGUN : goal.returns-then-byte-ge-FREE_BEGUN
returns-then-byte-ge-FREE_BEGUN c =
    let b = slot-begins _ _ (sym c.slot_of.ensures ∙ c.in-Some.is) in
    done (begin-there _ _ _ _ b.slot b.passes
    ∙ begin-begun _ _ _ _ c.get-byte.ensures _ c.if-byte-eq0.false c.in_ok-in_range.ensures.passed _ c.order_in.ensures
    (sym c.divides.ensures ∙ c.in_ok-in_range-2.ensures.passed) c.if-byte-ge-FREE_BEGUN.true) refl refl refl

pub returns : goal.returns
returns c =
    let b = slot-begins _ _ (sym c.slot_of.ensures ∙ c.in-Some.is) in
    done (begin-there _ _ _ _ b.slot b.passes
    ∙ begin-done _ _ _ _ c.get-byte.ensures _ c.if-byte-eq0.false c.in_ok-in_range.ensures.passed _ c.order_in.ensures
    (sym c.divides.ensures ∙ c.in_ok-in_range-2.ensures.passed) c.if-byte-ge-FREE_BEGUN.false) refl
    (rw c.set.ensures at (rw c.set-2.ensures at (rw c.set-3.ensures at c.set-4.ensures)))
    refl
