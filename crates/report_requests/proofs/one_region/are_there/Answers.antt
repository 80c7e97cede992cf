-- One law for each way out.
use mathlib.Core.Path.{sym, ◌∙◌}
use borrow.Author.Tests.{ne_eqb}
use Rattle.report_requests.proofs.OneRegionTests.{blocks-other, blocks-row, blocks-own}
use Rattle.report_requests.proofs.one_region.are_there.Goals as goal

pub returns-then-has_row : goal.returns-then-has_row
returns-then-has_row c =
    let same = c.if-class-get.true ∙ c.get.ensures.same in
    c.if-has_row.true ∙ blocks-row _ _ _ same (sym c.has_row.ensures ∙ c.if-has_row.true)

pub returns-else-has_row : goal.returns-else-has_row
returns-else-has_row c =
    let same = c.if-class-get.true ∙ c.get.ensures.same in
    blocks-own _ _ _ same (sym c.has_row.ensures ∙ c.if-has_row.false) c.has_own.ensures

pub returns-else-class-get : goal.returns-else-class-get
returns-else-class-get c =
    ne_eqb _ _ c.if-class-get.false
    ∙ sym (blocks-other _ _ _ (λ e. c.if-class-get.false (e ∙ sym c.get.ensures.same)))
