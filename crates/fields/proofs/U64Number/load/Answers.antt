-- The number is its low half and its high half.
use native.Mathlib.Omega.{arith}
use Rattle.fields.proofs.Little.{get_le-join}
use Rattle.fields.proofs.U64Number.load.Goals as goal

pub returns : goal.returns
returns c = omega (arith, get_le-join c.args.s.now c.args.at 4 4)
