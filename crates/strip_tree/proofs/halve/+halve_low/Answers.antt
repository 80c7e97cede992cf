-- At the order wanted nothing is left to do; else the upper half is marked and the lower one halved further.
use Rattle.std.proofs.Common.{arith, ◌∙◌, ap, ◌-◌, ◌*◌}
use Rattle.strip_tree.specs.declared.tree.Tree.{Tree}
use Rattle.strip_tree.specs.TreeMoves.{halving}
use Rattle.strip_tree.proofs.Powers.{raised}
use Rattle.strip_tree.proofs.Finding.{halve-done, halve-next}
use Rattle.strip_tree.proofs.halve.+halve_low.Goals as goal

pub returns-then-order-wanted : goal.returns-then-order-wanted
returns-then-order-wanted t c = halve-done c.args.tree.now c.args.order c.args.wanted c.args.node (omega arith)

pub halve_low-requires : goal.halve_low-requires
halve_low-requires t c = (
  omega arith,
  (
    record {
      order = omega arith;
      below = omega (arith, raised c.args.order (omega arith) (omega arith));
    },
    omega arith,
  ),
)

pub returns : goal.returns
returns t c =
    c.halve_low.ensures
    ∙ ap (λ (x : Tree). halving x (c.args.order - 1 - c.args.wanted) (2 * c.args.node)) c.mark.ensures
    ∙ halve-next c.args.tree.now c.args.order c.args.wanted c.args.node (omega arith)
