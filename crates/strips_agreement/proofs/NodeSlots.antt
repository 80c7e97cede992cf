-- Nodes and slots.
use mathlib.Core.Path.{◌≡◌, sym, ap, ap₂, ◌∙◌}
use mathlib.Core.Bool.{true}
use Prim.Native.Nat.{ℕ, ◌+◌, ◌-◌, ◌*◌, ◌/◌, ◌^◌, ◌≤◌, ◌<◌}
use native.Mathlib.Nat.{mul_comm, mul-sub, suc-mul, mul-le-mul_right, add-mul-div_right, mul-div_cancel}
use native.Mathlib.Omega.{arith}
use borrow.Author.Tests.{eq-eqb}
use lib.Pow.{pow_pos}
use Rattle.limits.specs.Limits.{SLOTS, WHOLE_ORDER, ORDERS}
use Rattle.strip_tree.specs.Trees.{NODES}
use Rattle.pieces.specs.Pieces.{slots_in}
use Rattle.pieces.specs.PieceRows.{AtMultiple}
use Rattle.pieces.proofs.PieceLengths.{power}
use Rattle.strip_tree.specs.TreeMoves.{node_of, slot_of_node, can_begin}
use Rattle.strip_tree.proofs.Powers.{twice, area}
use Rattle.strips_agreement.proofs.NodeRoom.{Room}

sub-mul : (a b c : ℕ) → (a - b) * c ≡ a * c - b * c
sub-mul a b c = mul_comm (a - b) c ∙ mul-sub c a b ∙ ap₂ (λ (x y : ℕ). x - y) (mul_comm c a) (mul_comm c b)

-- the slot of a node
pub slot_is : (j i s : ℕ) → j < ORDERS → i * slots_in j ≡ SLOTS + s → slot_of_node j i ≡ s
slot_is j i s h e =
    let d : i * 2 ^ j ≡ SLOTS + s = rw (← power j) e in
    sub-mul i (2 ^ (WHOLE_ORDER - j)) (2 ^ j) ∙ omega (arith, area j h)

-- the node of a slot
pub node-is : (k x s : ℕ) → k < ORDERS → x * slots_in k ≡ SLOTS + s → node_of k s ≡ x
node-is k x s h e =
    let d : s + 2 ^ (WHOLE_ORDER - k) * 2 ^ k ≡ x * 2 ^ k = omega (arith, area k h, ap (λ (y : ℕ). x * y) (power k)) in
    let q : (s + 2 ^ (WHOLE_ORDER - k) * 2 ^ k) / 2 ^ k ≡ x =
    ap (λ (y : ℕ). y / 2 ^ k) d ∙ mul-div_cancel x (pow_pos k) in
    omega (arith, add-mul-div_right s (2 ^ (WHOLE_ORDER - k)) (pow_pos k))

-- a node of an order is one of the tree
pub level-room : (j i : ℕ) → j < ORDERS → 2 ^ (WHOLE_ORDER - j) ≤ i → i < 2 ^ (ORDERS - j) → 1 ≤ 2 ^ (WHOLE_ORDER - j)
    → Room i j
level-room j i h a b c = record {
  first = omega arith;
  fits =
      let m = mul-le-mul_right (2 ^ j) b in
      rw (power j) (omega (arith, suc-mul i (2 ^ j), twice j h, area j h, wide));
}
  where
    wide : 2 ^ (ORDERS - j) * 2 ^ j ≡ NODES
    wide = ap (λ (x : ℕ). x * 2 ^ j) (twice j h) ∙ double-area
      where
        double-area : 2 * 2 ^ (WHOLE_ORDER - j) * 2 ^ j ≡ NODES
        double-area = native.Mathlib.Nat.mul_assoc 2 (2 ^ (WHOLE_ORDER - j)) (2 ^ j) ∙ ap (λ (x : ℕ). 2 * x) (area j h)

-- a multiple of a strip's length passes the test
pub aligned-can-begin : (s k : ℕ) → AtMultiple s k → can_begin s k ≡ true
aligned-can-begin s k a =
    let e : s ≡ a.times * 2 ^ k = a.is ∙ ap (λ (x : ℕ). a.times * x) (power k) in
    eq-eqb _ _
    (ap (λ (x : ℕ). x / 2 ^ k * 2 ^ k) e ∙ ap (λ (x : ℕ). x * 2 ^ k) (mul-div_cancel a.times (pow_pos k)) ∙ sym e)
