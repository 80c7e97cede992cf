-- The slot is one of the area.
use Rattle.std.proofs.Common.{◌∙◌, arith}
use Rattle.strip_tree.proofs.Powers.{slot-shifted, slot-below, node-least, place-shifted}
use Rattle.strip_tree.proofs.nodes.slot_of.Goals as goal

pub overflow_sub-node : goal.overflow_sub-node
overflow_sub-node c =
    rw (c.get.ensures.same, place-shifted c.args.order c.args.node c.requires.order c.requires.below)
    (node-least c.args.order c.args.node c.requires.order c.requires.from)

pub new-requires : goal.new-requires
new-requires c =
    rw (
      c.get.ensures.same,
      place-shifted c.args.order c.args.node c.requires.order c.requires.below,
      slot-shifted c.args.order c.requires.order c.args.node,
    )
    (omega arith, slot-below c.args.order c.args.node c.requires.order c.requires.from c.requires.below)

pub returns : goal.returns
returns c =
    c.new.ensures
    ∙ rw (c.get.ensures.same, place-shifted c.args.order c.args.node c.requires.order c.requires.below)
    (slot-shifted c.args.order c.requires.order c.args.node)
