-- The tests are those of the definition, in their order.
use native.Mathlib.Omega.{arith}
use mathlib.Core.Path.{refl, ap, ◌∙◌}
use Prim.Native.Nat.{ℕ, ◌*◌}
use Rattle.stepped.proofs.Doing.{done-in}
use Rattle.steps_allocate.proofs.AllocateWays.{shown, refuses-in}
use Rattle.steps_fill.proofs.FillingWays.{a8-region, a8-index, a8-full, a8-top, a8-puts, a8_put-last, a8_put-next}
use Rattle.steps_fill.proofs.FilledBlocks.{index-small, offset-inside}
use Rattle.steps_fill.proofs.region.carve.Goals as goal
use Rattle.steps_fill.proofs.region.carve.Goals.{then-next-n, else-next-n}

pub returns-in_err-region : goal.returns-in_err-region
returns-in_err-region c =
    refuses-in _ (a8-region _ _ _ _ _ c.get.ensures c.in_err-region.ensures.outside) c.from_residual.ensures.1

pub returns-in_err-in_range : goal.returns-in_err-in_range
returns-in_err-in_range c =
    let r = c.in_ok-region.ensures in
    refuses-in _ (a8-index _ _ _ _ _ (r.found ∙ c.get.ensures) (omega (arith, r)) c.get-index.ensures
    c.per_region-n.ensures c.in_err-in_range.ensures.failed) c.from_residual-in_err-in_range.ensures.1

pub returns-in_err-in_range-2 : goal.returns-in_err-in_range-2
returns-in_err-in_range-2 c =
    let r = c.in_ok-region.ensures in
    refuses-in _ (a8-full _ _ _ _ _ (r.found ∙ c.get.ensures) (omega (arith, r)) c.get-index.ensures
    c.per_region-n.ensures c.in_ok-in_range.ensures.passed c.get_of-count.ensures c.in_err-in_range-2.ensures.failed)
    c.from_residual-in_err-in_range-2.ensures.1

pub returns-in_err-in_range-3 : goal.returns-in_err-in_range-3
returns-in_err-in_range-3 c =
    let r = c.in_ok-region.ensures in
    refuses-in _ (a8-top _ _ _ _ _ (r.found ∙ c.get.ensures) (omega (arith, r)) c.get-index.ensures
    c.per_region-n.ensures c.in_ok-in_range.ensures.passed c.get_of-count.ensures c.in_ok-in_range-2.ensures.passed
    c.get_of-top.ensures
    (shown c.has_top.ensures c.in_err-in_range-3.ensures.failed))
    c.from_residual-in_err-in_range-3.ensures.1

pub overflow_cast-next : goal.overflow_cast-next
overflow_cast-next c =
    record {
      fits = omega (
        arith,
        index-small c.args.request.class _ c.per_region-n.ensures
            c.in_ok-in_range.ensures.passed,
      );
    }

pub overflow_mul-offset : goal.overflow_mul-offset
overflow_mul-offset c =
    rw c.units.ensures (omega (
      arith,
      offset-inside c.args.request.class _ c.per_region-n.ensures
          c.in_ok-in_range.ensures.passed,
    ))

pub overflow_add-unit : goal.overflow_add-unit
overflow_add-unit c =
    rw c.units.ensures (omega (
      arith,
      c.get-2.ensures,
      offset-inside c.args.request.class _ c.per_region-n.ensures
          c.in_ok-in_range.ensures.passed,
    ))

pub overflow_cast-unit : goal.overflow_cast-unit
overflow_cast-unit c =
    rw c.units.ensures (record {
      fits = omega (
        arith,
        c.get-2.ensures,
        offset-inside c.args.request.class _
            c.per_region-n.ensures c.in_ok-in_range.ensures.passed,
      );
    })

pub push-requires : goal.push-requires
push-requires c = index-small c.args.request.class _ c.per_region-n.ensures c.in_ok-in_range-2.ensures.passed

pub write_in_region-requires : goal.write_in_region-requires
write_in_region-requires c =
    let r = c.in_ok-region.ensures in (
      omega (arith, r, c.requires),
      rw c.units.ensures (offset-inside c.args.request.class _ c.per_region-n.ensures
          c.in_ok-in_range.ensures.passed),
    )

pub returns : goal.returns
returns c =
    let r = c.in_ok-region.ensures in
    let puts = a8-puts _ _ _ _ _ (r.found ∙ c.get.ensures) (omega (arith, r)) c.get-index.ensures
    c.per_region-n.ensures c.in_ok-in_range.ensures.passed c.get_of-count.ensures c.in_ok-in_range-2.ensures.passed
    c.get_of-top.ensures
    (ap (λ (u : ℕ). u * c.get-index.result) c.units.ensures)
    (shown c.has_top.ensures c.in_ok-in_range-3.ensures.passed) in
    elim c.if-next-n.branch [
      | then-next-n w ↦
          done-in (puts ∙ a8_put-last _ _ _ _ _ _ _ _ _ c.per_region-n.ensures w.if-next-n.true) refl
          (rw (w.control-is, w.set.ensures, c.get-2.ensures.same) at c.push.ensures) c.write_in_region.ensures
      | else-next-n w ↦
          done-in (puts ∙ a8_put-next _ _ _ _ _ _ _ _ _ c.per_region-n.ensures w.if-next-n.false) refl
          (rw (w.control-is, w.set-else-next-n.ensures, c.get-2.ensures.same) at c.push.ensures)
          c.write_in_region.ensures
    ]
