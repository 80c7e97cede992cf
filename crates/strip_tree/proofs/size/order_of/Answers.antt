-- The leading zeros of the whole 512s of the size less one.
use native.Mathlib.Omega.{arith}
use Rattle.strip_tree.proofs.SizeOrders.{order-rounds}
use Rattle.strip_tree.proofs.size.order_of.Goals as goal

pub new-requires : goal.new-requires
new-requires c = let r = order-rounds c.args.size (omega arith) (omega arith) in (omega arith, omega (arith, r.within))

pub returns : goal.returns
returns c = rw c.new.ensures (order-rounds c.args.size (omega arith) (omega arith))
