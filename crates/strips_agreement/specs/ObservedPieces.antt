-- docs/POOL.md, "Strips"
-- The row of pieces that the tree and the slots' bytes show: "each unit of that area is in exactly one strip or free
-- piece, and both are compared".
use Rattle.std.specs.Prelude.{cond, List, [], ◌∷◌, ◌++◌, ℕ, zero, suc, ◌+◌, ◌*◌, eqb}
use Rattle.pieces.specs.Pieces.{slots_in, free, held, begun}
use Rattle.pieces.specs.PieceRows.{Piece, piece}
use Rattle.strip_tree.specs.declared.tree.Tree.{Tree}
use Rattle.strip_tree.specs.Trees.{is_free_node}
use Rattle.strip_tree.specs.SlotStates.{IN_HAND, FREE_BEGUN}

-- the tree, the byte of each slot, and the task that frees the strip at a slot
module _ (t : Tree) (byte task : ℕ → ℕ) where
  -- the node i, of order n, whose first slot is s: a free piece, a strip in hand, a strip that a task frees, or what
  -- stands below it
  abbrev pub shown_piece : ℕ → ℕ → ℕ → List Piece → List Piece
  shown_piece n i s below =
      cond (is_free_node t i) (piece s n free ∷ [])
      (cond (eqb (byte s) (IN_HAND + n)) (piece s n held ∷ [])
      (cond (eqb (byte s) (FREE_BEGUN + n)) (piece s n (begun (task s)) ∷ []) below))

  -- the row at and below the node i, of order n, whose first slot is s
  abbrev pub observed_pieces : ℕ → ℕ → ℕ → List Piece
  observed_pieces zero i s = shown_piece 0 i s []
  observed_pieces (suc n) i s =
      shown_piece (suc n) i s (observed_pieces n (2 * i) s ++ observed_pieces n (2 * i + 1) (s + slots_in n))
