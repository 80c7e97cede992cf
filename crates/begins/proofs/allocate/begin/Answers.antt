-- One law for each way out.
use Rattle.std.proofs.Common.{refl, sym, ap, ◌∙◌, Ok}
use Rattle.classes.specs.Sizes.{choice}
use Rattle.control.specs.Answers.{answer_of}
use Rattle.control.specs.declared.answer.Answer.{Answer}
use Rattle.stepped.specs.Calls.{begin_allocate}
use Rattle.stepped.proofs.Doing.{done}
use Rattle.begins.proofs.Refusals.{goes, stops, refused-by}
use Rattle.begins.proofs.Beginning.{by-choice, strip-size, as-strip}
use Rattle.begins.proofs.allocate.begin.Goals as goal

pub returns-in_err-idle : goal.returns-in_err-idle
returns-in_err-idle c =
    refused-by _ (stops _ _ (c.idle.ensures (begin_allocate c.args.task c.args.size)) c.in_err-idle.was)
    c.from_residual.ensures.1

pub returns-in_err-class : goal.returns-in_err-class
returns-in_err-class c =
    let i = goes _ _ (c.idle.ensures (begin_allocate c.args.task c.args.size)) c.in_ok-idle.was in
    let e = sym c.size_class.ensures ∙ c.in_err-class.was in
    refused-by _ (i ∙ stops (choice c.args.size) _ (by-choice _ _) e) c.from_residual-in_err-class.ensures.1

pub order_of-order-requires : goal.order_of-order-requires
order_of-order-requires c =
    let e = strip-size _ (sym c.size_class.ensures ∙ c.in_ok-class.was ∙ ap Ok c.in-Strip.is) in
    record { some = e.0; most = e.1 }

pub returns-in-Class : goal.returns-in-Class
returns-in-Class c =
    let i = goes _ _ (c.idle.ensures (begin_allocate c.args.task c.args.size)) c.in_ok-idle.was in
    let e = sym c.size_class.ensures ∙ c.in_ok-class.was ∙ ap Ok c.in-Class.is in
    done (i ∙ goes (choice c.args.size) _ (by-choice _ _) e)
    (ap (λ (a : Answer). answer_of (Ok a)) c.accept.ensures.answer)
    (rw c.get-class.ensures.same at c.accept.ensures.stores) refl

pub returns-in-Strip : goal.returns-in-Strip
returns-in-Strip c =
    let i = goes _ _ (c.idle.ensures (begin_allocate c.args.task c.args.size)) c.in_ok-idle.was in
    let e = sym c.size_class.ensures ∙ c.in_ok-class.was ∙ ap Ok c.in-Strip.is in
    done (i ∙ as-strip _ _ c.order_of-order.result e c.order_of-order.ensures)
    (ap (λ (a : Answer). answer_of (Ok a)) c.accept-in-Strip.ensures.answer)
    (rw c.get.ensures.same at c.accept-in-Strip.ensures.stores) refl
