-- The nodes of an order are bits of one word, or of the last two.
use native.Mathlib.Omega.{arith}
use mathlib.Core.Path.{sym, ◌∙◌}
use Rattle.strip_tree.proofs.Powers.{shifted, low_word}
use Rattle.strip_tree.proofs.Levels.{level-first, level-second, level-one, level-upper}
use Rattle.strip_tree.proofs.tree.Tree.level.Goals as goal

pub returns-then-node-ne0 : goal.returns-then-node-ne0
returns-then-node-ne0 c =
    let l = c.lowest-node.ensures in
    rw c.if-order-eq0.true
    (l.value ∙ sym (level-first c.args.self l.word (λ e. c.if-node-ne0.true (l.value ∙ e))))

pub returns-then-order-eq0 : goal.returns-then-order-eq0
returns-then-order-eq0 c =
    let l = c.lowest-node.ensures in
    rw c.if-order-eq0.true
    (c.lowest.ensures.value ∙ sym (level-second c.args.self l.word c.lowest.ensures.word
    (sym l.value ∙ c.if-node-ne0.false)))

pub returns-then-order-eq1 : goal.returns-then-order-eq1
returns-then-order-eq1 c =
    rw c.if-order-eq1.true
    (c.lowest-then-order-eq1.ensures.value ∙ sym (level-one c.args.self c.lowest-then-order-eq1.ensures.word))

pub upper_of-requires : goal.upper_of-requires
upper_of-requires c =
    let j = c.args.order in
    rw (shifted j (omega arith)) (omega (arith, low_word j (omega arith) (omega arith)))

pub returns : goal.returns
returns c =
    let e = c.upper_of.ensures in
    let s = shifted c.args.order (omega arith) in
    rw (c.lowest-2.ensures.value, e, s) (sym (level-upper c.args.self c.args.order (omega arith) (omega arith)))
