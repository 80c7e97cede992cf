-- The regions before `region` are told.
use mathlib.Core.Path.{refl}
use native.Mathlib.Omega.{arith}
use Rattle.holders.proofs.AddingUp.{class_there, chain_there, numbers-begin, numbers-next, numbers-end}
use Rattle.holders.proofs.numbers_of.Goals as goal

pub loop-region-init : goal.loop-region-init
loop-region-init c = numbers-begin refl refl

pub loop-region-preserved : goal.loop-region-preserved
loop-region-preserved c =
    let opened = c.args.opened.now in
    let r = c.loop-region.region in
    numbers-next c.loop-region.invariant (omega arith) (class_there opened r _ (omega arith) c.class_of.ensures)
    (chain_there opened r _ (omega arith) c.chain_of.ensures)

pub returns : goal.returns
returns c = numbers-end c.loop-region.invariant (omega arith)
