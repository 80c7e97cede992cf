-- The upper half is marked and the lower one halved further; the node and its halves stand in the first word.
use Rattle.std.proofs.Common.{◌+◌, ◌-◌, ◌*◌, ℕ, arith}
use mathlib.Core.Path.{sym, ap, ◌∙◌}
use Rattle.strip_tree.specs.declared.tree.Tree.{Tree}
use Rattle.strip_tree.specs.Trees.{tree_with}
use Rattle.strip_tree.specs.TreeMoves.{halving}
use Rattle.strip_tree.proofs.Powers.{raised, upper-first}
use Rattle.strip_tree.proofs.NodeBits.{low-mark}
use Rattle.strip_tree.proofs.Finding.{halve-done, halve-next}
use Rattle.strip_tree.proofs.halve.+halve_high.Goals as goal

pub returns-then-order-wanted : goal.returns-then-order-wanted
returns-then-order-wanted t c x y z =
    halve-done (tree_with c.args.first x y z) c.args.order c.args.wanted c.args.node (omega arith)

pub set-requires : goal.set-requires
set-requires t c =
    upper-first c.args.order c.args.node (omega arith) (omega arith) (omega arith)

pub halve_high-requires : goal.halve_high-requires
halve_high-requires t c = (
  omega arith,
  (
    record {
      order = omega arith;
      below = omega (arith, raised c.args.order (omega arith) (omega arith));
    },
    (omega arith, omega arith),
  ),
)

pub returns : goal.returns
returns t c x y z =
    let l = upper-first c.args.order c.args.node (omega arith) (omega arith) (omega arith) in
    c.halve_high.ensures x y z
    ∙ ap (λ (w : ℕ). halving (tree_with w x y z) (c.args.order - 1 - c.args.wanted) (2 * c.args.node))
    c.set.ensures.value
    ∙ ap (λ (w : Tree). halving w (c.args.order - 1 - c.args.wanted) (2 * c.args.node))
    (sym (low-mark c.args.first x y z (2 * c.args.node + 1) l))
    ∙ halve-next (tree_with c.args.first x y z) c.args.order c.args.wanted c.args.node (omega arith)
