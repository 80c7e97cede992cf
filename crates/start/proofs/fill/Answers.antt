-- The numbers are written from the last down.
use native.Mathlib.Omega.{arith}
use borrow.Author.Rules.{rules}
use Rattle.start.proofs.StartImage.{filling-begins, filling-goes, filling-ends}
use Rattle.start.proofs.fill.Goals as goal

pub loop-i-init : goal.loop-i-init
loop-i-init g c = λ x h. filling-begins (search rules)

pub loop-i-preserved : goal.loop-i-preserved
loop-i-preserved g c = λ x h. filling-goes (c.loop-i.invariant x h) (omega arith) c.new.ensures
    (h _ _ (omega (arith, c.loop-i.auto)) c.number.ensures) c.set.ensures

pub returns : goal.returns
returns g c = λ x h. filling-ends (c.loop-i.invariant x h) (omega arith)
