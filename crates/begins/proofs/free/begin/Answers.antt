-- One law for each way out.
use Rattle.std.proofs.Common.{refl, arith, sym, ◌∙◌}
use Rattle.limits.specs.declared.refusal.Refusal.TheVariants.{OutOfRange}
use Rattle.control.specs.Layout.{seen}
use Rattle.stepped.specs.Calls.{begin_free}
use Rattle.stepped.proofs.Doing.{done, does}
use Rattle.begins.proofs.Refusals.{goes, stops, refused-by}
use Rattle.begins.proofs.FreeBegins.{of-strips, of_blocks, no-class, no-first, is-first, mark-clear, mark_set}
use Rattle.begins.proofs.free.begin.Goals as goal

pub returns-in_err-idle : goal.returns-in_err-idle
returns-in_err-idle c =
    refused-by _ (stops _ _ (c.idle.ensures (begin_free (seen c.args.control.now) c.args.regions c.args.task c.args.unit)) c.in_err-idle.was) c.from_residual.ensures.1

pub returns-then-unit : goal.returns-then-unit
returns-then-unit c =
    let i = goes _ _ (c.idle.ensures (begin_free (seen c.args.control.now) c.args.regions c.args.task c.args.unit)) c.in_ok-idle.was in
    does (i ∙ of-strips _ _ _ _ c.if-unit.true) c.begin.ensures

pub returns-in_err-descriptor : goal.returns-in_err-descriptor
returns-in_err-descriptor c =
    let i = goes _ _ (c.idle.ensures (begin_free (seen c.args.control.now) c.args.regions c.args.task c.args.unit)) c.in_ok-idle.was in
    let m = i ∙ of_blocks _ _ _ _ c.if-unit.false in
    refused-by _ (m ∙ stops _ _ (c.opened_by.ensures c.args.task) c.in_err-descriptor.was)
    c.from_residual-in_err-descriptor.ensures.1

pub returns-in_err-of : goal.returns-in_err-of
returns-in_err-of c =
    let i = goes _ _ (c.idle.ensures (begin_free (seen c.args.control.now) c.args.regions c.args.task c.args.unit)) c.in_ok-idle.was in
    let m = i ∙ of_blocks _ _ _ _ c.if-unit.false in
    let o = m ∙ goes _ _ (c.opened_by.ensures c.args.task) c.in_ok-descriptor.was in
    refused-by OutOfRange (o ∙ no-class _ _ _ _ (omega (arith, c.in_err-of.ensures.outside, c.get-class.ensures)))
    c.from_residual-in_err-of.ensures.1

pub returns-then-not-is_first : goal.returns-then-not-is_first
returns-then-not-is_first c =
    let i = goes _ _ (c.idle.ensures (begin_free (seen c.args.control.now) c.args.regions c.args.task c.args.unit)) c.in_ok-idle.was in
    let m = i ∙ of_blocks _ _ _ _ c.if-unit.false in
    let o = m ∙ goes _ _ (c.opened_by.ensures c.args.task) c.in_ok-descriptor.was in
    let f = sym (rw c.in_ok-of.ensures.found at c.is_first.ensures) ∙ c.if-not-is_first.true in
    done (o ∙ no-first _ _ _ _ c.get-class.result c.get-class.ensures c.in_ok-of.ensures.inside f) refl refl refl

pub returns-then-not-test : goal.returns-then-not-test
returns-then-not-test c =
    let i = goes _ _ (c.idle.ensures (begin_free (seen c.args.control.now) c.args.regions c.args.task c.args.unit)) c.in_ok-idle.was in
    let m = i ∙ of_blocks _ _ _ _ c.if-unit.false in
    let o = m ∙ goes _ _ (c.opened_by.ensures c.args.task) c.in_ok-descriptor.was in
    let f = sym (rw c.in_ok-of.ensures.found at c.is_first.ensures) ∙ c.if-not-is_first.false in
    let q = o ∙ is-first _ _ _ _ c.get-class.result c.get-class.ensures c.in_ok-of.ensures.inside f in
    let w = rw c.new-marks.ensures at c.get-word.ensures in
    done (q ∙ mark-clear _ _ _ _ c.get-word.result w (sym c.test.ensures ∙ c.if-not-test.true)) refl refl refl

pub returns : goal.returns
returns c =
    let i = goes _ _ (c.idle.ensures (begin_free (seen c.args.control.now) c.args.regions c.args.task c.args.unit)) c.in_ok-idle.was in
    let m = i ∙ of_blocks _ _ _ _ c.if-unit.false in
    let o = m ∙ goes _ _ (c.opened_by.ensures c.args.task) c.in_ok-descriptor.was in
    let f = sym (rw c.in_ok-of.ensures.found at c.is_first.ensures) ∙ c.if-not-is_first.false in
    let q = o ∙ is-first _ _ _ _ c.get-class.result c.get-class.ensures c.in_ok-of.ensures.inside f in
    let w = rw c.new-marks.ensures at c.get-word.ensures in
    done
    (q ∙ mark_set _ _ _ _ c.get-word.result c.clear-cleared.result w (sym c.test.ensures ∙ c.if-not-test.false)
    c.clear-cleared.ensures.value)
    refl
    (rw c.new-marks.ensures at
    (rw c.set.ensures at (rw c.set-2.ensures at (rw c.set-3.ensures at (rw c.set-4.ensures at c.set-5.ensures)))))
    refl
