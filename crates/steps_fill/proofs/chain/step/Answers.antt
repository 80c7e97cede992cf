-- The tests are those of the definition, in their order.
use borrow.Author.Rules.{rules}
use native.Mathlib.Omega.{arith}
use borrow.Author.Tests.{ltb-true}
use Rattle.classes.proofs.Tables.{per_region-high}
use mathlib.Core.Path.{refl, ◌∙◌}
use Rattle.stepped.proofs.Doing.{done-in}
use Rattle.steps_allocate.proofs.AllocateWays.{shown, refuses-in}
use Rattle.steps_fill.proofs.FillingWays.{a4-region, a4-index, a4-none, a4-many, a4-full, a4-top, a4-moves}
use Rattle.steps_fill.proofs.FillingWays.{a4_move-last, a4_move-bad, a4_move-on}
use Rattle.steps_fill.proofs.FilledBlocks.{index-small, unit-small, link-inside}
use Rattle.steps_fill.proofs.chain.step.Goals as goal
use Rattle.steps_fill.proofs.chain.step.Goals.{then-left-eq1, else-left-eq1+in_ok-in_range-6}

pub returns-in_err-region : goal.returns-in_err-region
returns-in_err-region c =
    refuses-in _ (a4-region _ _ _ _ _ c.get.ensures c.in_err-region.ensures.outside) c.from_residual.ensures.1

pub returns-in_err-in_range : goal.returns-in_err-in_range
returns-in_err-in_range c =
    let r = c.in_ok-region.ensures in
    refuses-in _ (a4-index _ _ _ _ _ (r.found ∙ c.get.ensures) (omega (arith, r)) c.get-index.ensures
    c.per_region-n.ensures c.in_err-in_range.ensures.failed) c.from_residual-in_err-in_range.ensures.1

pub returns-in_err-in_range-2 : goal.returns-in_err-in_range-2
returns-in_err-in_range-2 c =
    let r = c.in_ok-region.ensures in
    refuses-in _ (a4-none _ _ _ _ _ (r.found ∙ c.get.ensures) (omega (arith, r)) c.get-index.ensures
    c.per_region-n.ensures c.in_ok-in_range.ensures.passed c.get-left.ensures c.in_err-in_range-2.ensures.failed)
    c.from_residual-in_err-in_range-2.ensures.1

pub returns-in_err-in_range-3 : goal.returns-in_err-in_range-3
returns-in_err-in_range-3 c =
    let r = c.in_ok-region.ensures in
    refuses-in _ (a4-many _ _ _ _ _ (r.found ∙ c.get.ensures) (omega (arith, r)) c.get-index.ensures
    c.per_region-n.ensures c.in_ok-in_range.ensures.passed c.get-left.ensures c.in_ok-in_range-2.ensures.passed
    c.in_err-in_range-3.ensures.failed)
    c.from_residual-in_err-in_range-3.ensures.1

pub returns-in_err-in_range-4 : goal.returns-in_err-in_range-4
returns-in_err-in_range-4 c =
    let r = c.in_ok-region.ensures in
    refuses-in _ (a4-full _ _ _ _ _ (r.found ∙ c.get.ensures) (omega (arith, r)) c.get-index.ensures
    c.per_region-n.ensures c.in_ok-in_range.ensures.passed c.get-left.ensures c.in_ok-in_range-2.ensures.passed
    c.in_ok-in_range-3.ensures.passed c.get_of-count.ensures c.in_err-in_range-4.ensures.failed)
    c.from_residual-in_err-in_range-4.ensures.1

pub returns-in_err-in_range-5 : goal.returns-in_err-in_range-5
returns-in_err-in_range-5 c =
    let r = c.in_ok-region.ensures in
    refuses-in _ (a4-top _ _ _ _ _ (r.found ∙ c.get.ensures) (omega (arith, r)) c.get-index.ensures
    c.per_region-n.ensures c.in_ok-in_range.ensures.passed c.get-left.ensures c.in_ok-in_range-2.ensures.passed
    c.in_ok-in_range-3.ensures.passed c.get_of-count.ensures c.in_ok-in_range-4.ensures.passed c.get_of-top.ensures
    (shown c.has_top.ensures c.in_err-in_range-5.ensures.failed))
    c.from_residual-in_err-in_range-5.ensures.1

pub read-next-requires : goal.read-next-requires
read-next-requires c =
    let r = c.in_ok-region.ensures in
    link-inside _ _ c.per_region-n.ensures c.in_ok-in_range.ensures.passed _ _ c.first_unit-unit.ensures
    (omega (arith, r)) c.requires

pub returns-in_err-in_range-6 : goal.returns-in_err-in_range-6
returns-in_err-in_range-6 c =
    let r = c.in_ok-region.ensures in
    refuses-in _ (a4-moves _ _ _ _ _ (r.found ∙ c.get.ensures) (omega (arith, r)) c.get-index.ensures
    c.per_region-n.ensures c.in_ok-in_range.ensures.passed c.get-left.ensures c.in_ok-in_range-2.ensures.passed
    c.in_ok-in_range-3.ensures.passed c.get_of-count.ensures c.in_ok-in_range-4.ensures.passed c.get_of-top.ensures
    c.first_unit-unit.ensures (shown c.has_top.ensures c.in_ok-in_range-5.ensures.passed)
    ∙ a4_move-bad _ _ _ _ _ _ _ _ _ c.if-left-eq1.false c.read-next.ensures c.per_region-n.ensures
    c.in_err-in_range-6.ensures.failed)
    c.from_residual-in_err-in_range-6.ensures.1

pub overflow_cast-next-else-left-eq1 : goal.overflow_cast-next-else-left-eq1
overflow_cast-next-else-left-eq1 c =
    record {
      fits = omega (
        arith,
        ltb-true _ _ c.in_ok-in_range-6.ensures.passed,
        c.per_region-n.ensures,
        per_region-high c.args.request.class,
      );
    }

pub overflow_cast-unit : goal.overflow_cast-unit
overflow_cast-unit c =
    record {
      fits = omega (
        arith,
        unit-small _ _ c.per_region-n.ensures c.in_ok-in_range.ensures.passed _
            c.first_unit-unit.ensures (search rules),
      );
    }

pub push-requires : goal.push-requires
push-requires c = index-small c.args.request.class _ c.per_region-n.ensures c.in_ok-in_range-4.ensures.passed

pub write-requires : goal.write-requires
write-requires c =
    let r = c.in_ok-region.ensures in
    link-inside _ _ c.per_region-n.ensures c.in_ok-in_range.ensures.passed _ _ c.first_unit-unit.ensures
    (omega (arith, r)) c.requires

pub returns : goal.returns
returns c =
    let r = c.in_ok-region.ensures in
    let moves = a4-moves _ _ _ _ _ (r.found ∙ c.get.ensures) (omega (arith, r)) c.get-index.ensures
    c.per_region-n.ensures c.in_ok-in_range.ensures.passed c.get-left.ensures c.in_ok-in_range-2.ensures.passed
    c.in_ok-in_range-3.ensures.passed c.get_of-count.ensures c.in_ok-in_range-4.ensures.passed c.get_of-top.ensures
    c.first_unit-unit.ensures (shown c.has_top.ensures c.in_ok-in_range-5.ensures.passed) in
    elim c.if-left-eq1.branch [
      | then-left-eq1 w ↦
          done-in (moves ∙ a4_move-last _ _ _ _ _ _ _ _ _ w.if-left-eq1.true) refl
          (rw (w.control-is, w.set.ensures) at c.push.ensures) c.write.ensures
      | else-left-eq1+in_ok-in_range-6 w ↦
          done-in (moves ∙ a4_move-on _ _ _ _ _ _ _ _ _ w.if-left-eq1.false w.read-next.ensures c.per_region-n.ensures
          w.in_ok-in_range-6.ensures.passed) refl
          (rw (w.control-is, w.set-else-left-eq1-2.ensures, w.set-else-left-eq1.ensures) at c.push.ensures)
          c.write.ensures
    ]
