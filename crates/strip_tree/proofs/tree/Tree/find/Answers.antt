-- A level with a free node is the answer; else the next order is searched.
use Rattle.std.proofs.Common.{sym, ◌∙◌}
use Rattle.strip_tree.proofs.Finding.{find-here, find-no, find-next}
use Rattle.strip_tree.proofs.tree.Tree.find.Goals as goal

pub returns-then-node-ne0 : goal.returns-then-node-ne0
returns-then-node-ne0 c =
    let e = c.level-node.ensures in
    rw (e, c.new.ensures)
    (find-here c.args.self c.loop-order.order c.loop-order-test.true (λ z. c.if-node-ne0.true (e ∙ z))
    ∙ c.loop-order.invariant)

pub loop-order-preserved : goal.loop-order-preserved
loop-order-preserved c =
    find-next c.args.self c.loop-order.order c.loop-order-test.true (sym c.level-node.ensures ∙ c.if-node-ne0.false)
    ∙ c.loop-order.invariant

pub returns : goal.returns
returns c = find-no c.args.self c.loop-order.order c.loop-order-test.false ∙ c.loop-order.invariant
