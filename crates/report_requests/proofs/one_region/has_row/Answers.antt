-- One law for each way out.
use mathlib.Core.Path.{sym, ◌∙◌}
use borrow.Author.Tests.{ne_eqb}
use Rattle.report_requests.proofs.OneRegionTests.{row-elsewhere, row-there}
use Rattle.report_requests.proofs.one_region.has_row.Goals as goal

pub returns-then-of-region : goal.returns-then-of-region
returns-then-of-region c = sym (row-there _ _ _ c.if-of-region.true)

pub returns-else-of-region : goal.returns-else-of-region
returns-else-of-region c = ne_eqb _ _ c.if-of-region.false ∙ sym (row-elsewhere _ _ _ c.if-of-region.false)
