-- The blocks in hand of the regions before `region` are added up.
use mathlib.Core.Path.{sym, ◌∙◌}
use native.Mathlib.Omega.{arith}
use Rattle.control.specs.Layout.{seen}
use Rattle.holders.proofs.AddingUp.{added-begin, added-same, added-other, added-end}
use Rattle.holders.proofs.Bounds.{hand-most}
use Rattle.holders.proofs.in_hands.Goals as goal
use Rattle.holders.proofs.in_hands.Goals.{then-classes-region, else-classes-region}

pub loop-region-init : goal.loop-region-init
loop-region-init c = (omega arith, added-begin _ _ _)

pub overflow_add-sum : goal.overflow_add-sum
overflow_add-sum c =
    let few = hand-most (seen c.args.control.now) c.new.result c.args.class in
    omega (arith, c.loop-region.invariant.0, c.in_hand-sum.ensures, few)

pub loop-region-preserved : goal.loop-region-preserved
loop-region-preserved c =
    let before = c.loop-region.invariant in
    let wanted = c.get-wanted.ensures.same in
    elim c.if-classes-region.branch [
      | then-classes-region w ↦ (let few = hand-most (seen c.args.control.now) w.new.result c.args.class in (
        omega (arith, w.sum-is, w.in_hand-sum.ensures, few, before.0),
        rw w.sum-is
            (added-same _ _ _ before.1 (sym wanted ∙ sym w.if-classes-region.true)
            (rw w.new.ensures at w.in_hand-sum.ensures)),
      ))
      | else-classes-region w ↦ (
        omega (arith, w.sum-is, before.0),
        rw w.sum-is (added-other _ _ _ before.1 (λ i. w.if-classes-region.false (sym i ∙ sym wanted))),
      )
    ]

pub returns : goal.returns
returns c = added-end _ _ _ c.loop-region.invariant.1 _ (omega arith)
