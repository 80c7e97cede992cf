-- A shift and a mask of low bits are a quotient and a remainder.
use native.Mathlib.Omega.{arith}
use Prim.Native.Nat.{◌/◌, ◌^◌}
use lib.Bits.{and_mask}
use Rattle.strip_tree.proofs.LowBits.{one_shifted}
use Rattle.strip_tree.proofs.find.upper_of.Goals as goal

pub returns : goal.returns
returns c = rw (one_shifted c.args.p (omega arith)) (and_mask (c.args.word / 2 ^ c.args.p) c.args.p)
