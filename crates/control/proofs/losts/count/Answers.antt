-- The sum that stops at the most is one more, but for the most.
use Rattle.std.proofs.Common.{rules}
use Rattle.control.specs.Losts.{one_more}
use Rattle.control.proofs.losts.count.Goals as goal

pub returns : goal.returns
unfolding one_more
returns c = search rules
