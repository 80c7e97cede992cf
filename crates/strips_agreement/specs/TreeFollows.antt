-- docs/POOL.md, "Strips"
-- The tree of free pieces and the slots' bytes follow the pieces of the plain pool: a node is free exactly where a free
-- piece stands, and the byte of a slot says what starts there.
use Rattle.std.specs.Prelude.{◌≡◌, ◌≢◌, false, ℕ, zero, suc, ◌+◌, ◌*◌, ◌/◌, ◌<◌}
use Rattle.limits.specs.Limits.{SLOTS, WHOLE_ORDER}
use Rattle.pieces.specs.Pieces.{free, held, begun, Pieces, whole, halves, is_free_piece, Joined}
use Rattle.pieces.specs.Strips.{StripStart, nowhere, here, strip_starts}
use Rattle.strip_tree.specs.declared.tree.Tree.{Tree}
use Rattle.strip_tree.specs.Trees.{WHOLE_FREE, is_free_node, tree_with}
use Rattle.strip_tree.specs.SlotStates.{IN_HAND, FREE_BEGUN}

-- the node that the node y is below, m halvings up
abbrev pub node_above : ℕ → ℕ → ℕ
node_above zero y = y
node_above (suc m) y = node_above m (y / 2)

-- "each unit of that area is in exactly one strip or free piece": the nodes at and below the node i are the pieces. Of
-- a whole piece the node is free exactly where the piece is, and no node below it; of halves the node is not free
abbrev pub Image : Tree → ℕ → {n : ℕ} → Pieces n → Type 0
Image t i (whole {n} s) =
    (is_free_node t i ≡ is_free_piece (whole {n = n} s))
    × ((m y : ℕ) → node_above m y ≡ i → y ≢ i → is_free_node t y ≡ false)
Image t i (halves l r) = (is_free_node t i ≡ false) × Image t (2 * i) l × Image t (2 * i + 1) r

-- "where no strip starts", "whose free has begun": the byte of a slot, by what starts there
abbrev pub slot_byte : StripStart → ℕ
slot_byte nowhere = 0
slot_byte (here k free) = 0
slot_byte (here k held) = IN_HAND + k
slot_byte (here k (begun t)) = FREE_BEGUN + k

-- the tree t and the byte of each slot follow the pieces p, of which none stands as two free halves
pub record Follows (t : Tree) (byte : ℕ → ℕ) (p : Pieces WHOLE_ORDER) : Type 0 where
  pub tree : Image t 1 p
  pub slots : (s : ℕ) → s < SLOTS → byte s ≡ slot_byte (strip_starts p s)
  pub joined : Joined p

-- "A start leaves it one free piece": node 1 alone is free
abbrev pub start_tree : Tree
start_tree = tree_with WHOLE_FREE 0 0 0
