-- A start: the tree with node 1 alone and bytes that are all 0 follow one free piece.
use mathlib.Core.Path.{◌≡◌, refl}
use Prim.Native.Nat.{ℕ, zero, suc, ◌/◌, ◌%◌}
use native.Mathlib.Omega.{arith}
use lib.Pow.{pow_pos}
use Rattle.limits.specs.Limits.{WORD_MARKS}
use Rattle.pieces.specs.Pieces.{one_piece}
use Rattle.strip_tree.specs.declared.tree.Tree.{Tree}
use Rattle.strip_tree.specs.Trees.{tree_with, tree_word, is_free_node, with_free}
use Rattle.strip_tree.proofs.LowBits.{bit_past}
use Rattle.strip_tree.proofs.NodeBits.{mark-here}
use Rattle.strips_agreement.specs.TreeFollows.{Follows, start_tree}
use Rattle.strips_agreement.proofs.TreeImages.{Bare, mark-below}

-- no node is free
empty : Tree
empty = tree_with 0 0 0 0

empty-word : (w : ℕ) → tree_word empty w ≡ 0
unfolding empty
empty-word zero = refl
empty-word (suc zero) = refl
empty-word (suc (suc zero)) = refl
empty-word (suc (suc (suc zero))) = refl
empty-word (suc (suc (suc (suc w)))) = refl

empty-bare : (i : ℕ) → Bare empty i
unfolding is_free_node
empty-bare i m y p = rw (empty-word (y / WORD_MARKS), bit_past 0 (y % WORD_MARKS) (pow_pos (y % WORD_MARKS)))

one-marked : with_free empty 1 ≡ start_tree
unfolding with_free empty
one-marked = refl

-- "A start leaves it one free piece"
pub start-follows : Follows start_tree (λ s. 0) one_piece
start-follows = record {
  tree = rw (← one-marked) (mark-here empty 1 (omega arith), mark-below empty 1 (omega arith) (empty-bare 1));
  slots = λ s l. refl;
  joined = tt;
}
