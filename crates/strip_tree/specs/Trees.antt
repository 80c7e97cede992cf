-- docs/POOL.md, "Strips"
-- The tree of free pieces, in four words: one bit for each node, 64 to a word. Node 1 is the whole memory, and the
-- halves of node i are 2 i, the lower, and 2 i + 1.
use Rattle.std.specs.Prelude.{ℕ, zero, suc, ◌+◌, ◌-◌, ◌*◌, ◌/◌, ◌%◌, Bool}
use Rattle.limits.specs.Limits.{SLOTS, WORD_MARKS}
use Rattle.words.specs.Mark.{is_set, with_set, with_clear}
use Rattle.strip_tree.specs.declared.tree.Tree.{Tree}

-- the number of each node is below this one: those of single slots are the last SLOTS
abbrev pub NODES : ℕ
NODES = 2 * SLOTS

-- the nodes of this order and of every larger one have their bits in the first word
abbrev pub FIRST_WORD_ORDER : ℕ
FIRST_WORD_ORDER = 2

-- the first word of the tree in which node 1, the whole memory, is free
abbrev pub WHOLE_FREE : ℕ
WHOLE_FREE = 2

-- the tree of four words
abbrev pub tree_with : ℕ → ℕ → ℕ → ℕ → Tree
tree_with a b c d = record { a = a; b = b; c = c; d = d }

-- the word that has the bits of the nodes 64 i to 64 i + 63; past the fourth no node is free
abbrev pub tree_word : Tree → ℕ → ℕ
tree_word t zero = t.a
tree_word t (suc zero) = t.b
tree_word t (suc (suc zero)) = t.c
tree_word t (suc (suc (suc zero))) = t.d
tree_word t (suc (suc (suc (suc i)))) = 0

-- the tree with another word at i
abbrev pub with_word : Tree → ℕ → ℕ → Tree
with_word t zero w = record { a = w; b = t.b; c = t.c; d = t.d }
with_word t (suc zero) w = record { a = t.a; b = w; c = t.c; d = t.d }
with_word t (suc (suc zero)) w = record { a = t.a; b = t.b; c = w; d = t.d }
with_word t (suc (suc (suc zero))) w = record { a = t.a; b = t.b; c = t.c; d = w }
with_word t (suc (suc (suc (suc i)))) w = t

-- the node i is a free piece: "each unit of that area is in exactly one strip or free piece"
unfoldable pub is_free_node : Tree → ℕ → Bool
is_free_node t i = is_set (tree_word t (i / WORD_MARKS)) (i % WORD_MARKS)

-- the tree with the node i a free piece
unfoldable pub with_free : Tree → ℕ → Tree
with_free t i = with_word t (i / WORD_MARKS) (with_set (tree_word t (i / WORD_MARKS)) (i % WORD_MARKS))

-- the tree with the node i no free piece
unfoldable pub without_free : Tree → ℕ → Tree
without_free t i = with_word t (i / WORD_MARKS) (with_clear (tree_word t (i / WORD_MARKS)) (i % WORD_MARKS))

-- the other half of the piece that the node i is half of: "Freed halves join whenever both are free"
abbrev pub buddy : ℕ → ℕ
buddy i = i + 1 - 2 * (i % 2)
