-- The calls of `image` make the writes of a start, one after the other.
use mathlib.Core.Path.{refl}
use Rattle.std.proofs.Common.{rules, arith, ◌∙◌}
use Rattle.limits.specs.Limits.{CONTROL_BYTES, SPARE_DESCRIPTORS, SPARE_REGIONS, DESCRIPTORS, UNITS}
use Rattle.strip_tree.specs.Trees.{WHOLE_FREE}
use Rattle.control.specs.Layout.{Head, FreeNodes, Regions, RegionNext}
use Rattle.stepped.specs.Start.{next_up}
use Rattle.start.proofs.StartImage.{with_value, filled-to, image-is, zeros}
use Rattle.start.proofs.image.Goals as goal

pub returns : goal.returns
returns c =
    let first = c.word-word.ensures in
    image-is c.args.tasks c.args.regions
    (c.fill.ensures.after (λ y e. omega (arith, e)) ∙ zeros CONTROL_BYTES (omega arith))
    c.set_only.ensures
    (with_value (λ i. Regions) 0 c.args.regions _ refl c.get-count.ensures.same c.set_only-2.ensures)
    (with_value Head SPARE_DESCRIPTORS 1 _ c.new.ensures first c.set.ensures)
    (with_value Head SPARE_REGIONS 1 _ c.new-2.ensures first c.set-2.ensures)
    (with_value FreeNodes 0 WHOLE_FREE _ c.new-3.ensures refl c.set-3.ensures)
    (c.fill-2.ensures (next_up DESCRIPTORS) (λ i y l e. search rules))
    (filled-to RegionNext c.args.regions _ c.get-count.ensures.same (c.fill-3.ensures
    (next_up c.get-count.result) (λ i y l e. search rules)))
    (c.fill-4.ensures (λ i. UNITS) (λ i y l e. search rules))
