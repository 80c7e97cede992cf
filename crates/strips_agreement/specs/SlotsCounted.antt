-- docs/POOL.md, "Strips"
-- How many free pieces and strips the memories name over a slot: all bits of the tree and all bytes are counted, so
-- that a second piece over the slot, below or inside another one, would show.
use Rattle.std.specs.Prelude.{Bool, cond, ◌&&◌, ℕ, ◌+◌, ltb, leb}
use Rattle.limits.specs.Limits.{SLOTS, ORDERS}
use Rattle.rows.specs.Totals.{total}
use Rattle.pieces.specs.Pieces.{slots_in}
use Rattle.strip_tree.specs.declared.tree.Tree.{Tree}
use Rattle.strip_tree.specs.Trees.{is_free_node}
use Rattle.strip_tree.specs.TreeMoves.{node_of}
use Rattle.strip_tree.specs.SlotStates.{order_in}

-- "each unit of that area is in exactly one strip or free piece": how many free pieces the tree names over the slot s.
-- At each order one node has the slot, and counts where it is free
abbrev pub free_over : Tree → ℕ → ℕ
free_over t s = total ORDERS (λ k b. cond b 1 0) (λ k. is_free_node t (node_of k s))

-- the byte x of the slot q names a strip, and the slot s is one of its slots
abbrev pub strip_has : ℕ → ℕ → ℕ → Bool
strip_has q x s = ltb 0 x && leb q s && ltb s (q + slots_in (order_in x))

-- "each unit of that area is in exactly one strip or free piece": how many strips the bytes name over the slot s,
-- whatever the tree says
abbrev pub strips_over : (ℕ → ℕ) → ℕ → ℕ
strips_over byte s = total SLOTS (λ q x. cond (strip_has q x s) 1 0) byte
