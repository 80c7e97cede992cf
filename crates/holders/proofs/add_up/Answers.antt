-- The numbers of the regions before `region` are added up.
use mathlib.Core.Path.{sym, ap, ◌∙◌}
use Prim.Native.Nat.{◌<◌}
use native.Mathlib.Omega.{arith}
use Rattle.holders.proofs.AddingUp.{added-begin, added-same, added-other, added-end}
use Rattle.holders.proofs.add_up.Goals as goal
use Rattle.holders.proofs.add_up.Goals.{then-wanted-classes, else-wanted-classes}

pub loop-region-init : goal.loop-region-init
loop-region-init g c = (omega arith, λ n e. added-begin _ _ _)

pub loop-region-preserved : goal.loop-region-preserved
loop-region-preserved g c =
    let before = c.loop-region.invariant in
    let wanted = c.get-wanted.ensures.same in
    let x = c.number-blocks in
    let inside : c.new.result < c.args.regions = omega (arith, c.new.ensures) in
    let small = c.requires.small c.new.result x.result inside x.ensures in
    elim c.if-wanted-classes.branch [
      | then-wanted-classes w ↦ (
        omega (arith, w.sum-is, small, before.0),
        λ n e. rw w.sum-is
            (added-same _ _ _ (before.1 n e) (sym wanted ∙ w.if-wanted-classes.true)
            (e c.new.result x.result inside x.ensures ∙ ap n c.new.ensures)),
      )
      | else-wanted-classes w ↦ (
        omega (arith, w.sum-is, before.0),
        λ n e. rw w.sum-is
            (added-other _ _ _ (before.1 n e) (λ i. w.if-wanted-classes.false (wanted ∙ i))),
      )
    ]

pub returns : goal.returns
returns g c = λ n e. added-end _ _ _ (c.loop-region.invariant.1 n e) _ (omega arith)
