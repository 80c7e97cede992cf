-- One law for each way out.
use mathlib.Core.Path.{sym, ◌∙◌}
use native.Mathlib.Omega.{arith}
use Rattle.report_caches.proofs.LowestBlocks.{lower-elsewhere, lower-there, lower-behind}
use Rattle.report_caches.proofs.lower.Goals as goal

pub returns-then-region_of-region : goal.returns-then-region_of-region
returns-then-region_of-region c =
    sym (lower-elsewhere _ _ _ (λ e. c.if-region_of-region.true (c.region_of.ensures ∙ e)))

pub returns-then-unit-low : goal.returns-then-unit-low
returns-then-unit-low c =
    sym (lower-there _ _ _ (sym c.region_of.ensures ∙ c.if-region_of-region.false) (omega arith))

pub returns : goal.returns
returns c =
    sym (lower-behind _ _ _ (sym c.region_of.ensures ∙ c.if-region_of-region.false) (omega arith))
