-- Halving down to order 2 in the first word, and then the last halvings.
use Rattle.std.proofs.Common.{arith}
use Rattle.strip_tree.proofs.Powers.{shifted_down, down-shifted}
use Rattle.strip_tree.proofs.Finding.{halve-through}
use Rattle.strip_tree.proofs.tree.Tree.halve.Goals as goal

pub returns-then-wanted-ge-FIRST_WORD_ORDER : goal.returns-then-wanted-ge-FIRST_WORD_ORDER
returns-then-wanted-ge-FIRST_WORD_ORDER c =
    rw (c.get-order.ensures.same, c.get-wanted.ensures.same)
    at (c.halve_high-a.ensures c.args.self.b c.args.self.c c.args.self.d)

pub halve_low-requires-2 : goal.halve_low-requires-2
halve_low-requires-2 c =
    let h = c.requires.node.below in
    rw (c.get-order.ensures.same, down-shifted c.args.order c.args.node (omega arith) (omega arith) h)
    (record {
      node = record { order = omega arith; below = shifted_down c.args.order c.args.node (omega arith) (omega arith) h };
      smaller = omega arith;
    })

pub returns : goal.returns
returns c =
    rw (
      ← halve-through c.args.self c.args.order c.args.wanted c.args.node (omega arith) (omega arith),
      ← rw c.get-order.ensures.same at (c.halve_high-a-2.ensures c.args.self.b c.args.self.c c.args.self.d),
      ← down-shifted c.args.order c.args.node (omega arith) (omega arith) c.requires.node.below,
    ) (rw (c.get-order.ensures.same, c.get-wanted.ensures.same) at c.halve_low-2.ensures)
