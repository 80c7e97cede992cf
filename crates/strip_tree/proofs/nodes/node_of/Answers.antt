-- The node is one of its order.
use native.Mathlib.Omega.{arith}
use Rattle.strip_tree.proofs.Powers.{node-shifted, node-below}
use Rattle.strip_tree.proofs.nodes.node_of.Goals as goal

pub returns : goal.returns
returns c =
    let e = node-shifted c.args.order (omega arith) c.args.slot in
    rw (c.get.ensures.same, c.get-2.ensures.same)
    (record { node = e; below = rw e (node-below c.args.order c.args.slot (omega arith) (omega arith)) })
