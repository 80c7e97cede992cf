-- The regions before `region` are told.
use Rattle.holders.proofs.AddingUp.{NumbersTo}
use Rattle.holders.proofs.numbers_of.Given as goal

abbrev pub invariant-loop-region : goal.invariant-loop-region
invariant-loop-region l = NumbersTo l.opened l.region l.classes l.chains
