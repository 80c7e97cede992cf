-- A node that is marked or cleared changes in the tree, and no other does.
use Prim.Native.Nat.{ℕ, zero, suc, ◌-◌, ◌/◌, ◌%◌, ◌<◌, ◌≤◌}
use mathlib.Core.Path.{◌≡◌, refl}
use mathlib.Core.Logic.{◌≢◌}
use mathlib.Core.Bool.{Bool, true, false}
use native.Mathlib.Omega.{arith}
use borrow.Author.Tests.{eq-eqb}
use lib.Pow.{pow_pos}
use Rattle.limits.specs.Limits.{WORD_MARKS}
use Rattle.rows.specs.Comparisons.{Equality, same, other, same?}
use Rattle.words.specs.Mark.{bit_at, is_set, with_set, with_clear}
use Rattle.words.proofs.Marks.{set_here, set-others, clear-here, clear-others}
use Rattle.strip_tree.specs.declared.tree.Tree.{Tree}
use Rattle.strip_tree.proofs.LowBits.{bit_past}
use Rattle.strip_tree.specs.Trees.{NODES, tree_with, tree_word, with_word, is_free_node, with_free, without_free}

word_same : (t : Tree) (i w : ℕ) → i < 4 → tree_word (with_word t i w) i ≡ w
word_same t zero w h = refl
word_same t (suc zero) w h = refl
word_same t (suc (suc zero)) w h = refl
word_same t (suc (suc (suc zero))) w h = refl
word_same t (suc (suc (suc (suc i)))) w h = absurd (omega arith)

word-other : (t : Tree) (i w j : ℕ) → j ≢ i → tree_word (with_word t i w) j ≡ tree_word t j
word-other t zero w zero d = absurd (d refl)
word-other t zero w (suc zero) d = refl
word-other t zero w (suc (suc zero)) d = refl
word-other t zero w (suc (suc (suc zero))) d = refl
word-other t zero w (suc (suc (suc (suc j)))) d = refl
word-other t (suc zero) w zero d = refl
word-other t (suc zero) w (suc zero) d = absurd (d refl)
word-other t (suc zero) w (suc (suc zero)) d = refl
word-other t (suc zero) w (suc (suc (suc zero))) d = refl
word-other t (suc zero) w (suc (suc (suc (suc j)))) d = refl
word-other t (suc (suc zero)) w zero d = refl
word-other t (suc (suc zero)) w (suc zero) d = refl
word-other t (suc (suc zero)) w (suc (suc zero)) d = absurd (d refl)
word-other t (suc (suc zero)) w (suc (suc (suc zero))) d = refl
word-other t (suc (suc zero)) w (suc (suc (suc (suc j)))) d = refl
word-other t (suc (suc (suc zero))) w zero d = refl
word-other t (suc (suc (suc zero))) w (suc zero) d = refl
word-other t (suc (suc (suc zero))) w (suc (suc zero)) d = refl
word-other t (suc (suc (suc zero))) w (suc (suc (suc zero))) d = absurd (d refl)
word-other t (suc (suc (suc zero))) w (suc (suc (suc (suc j)))) d = refl
word-other t (suc (suc (suc (suc i)))) w j d = refl

-- a word with one bit changed, put into the tree
module _ (t : Tree) (i : ℕ) (fits : i < NODES) (w : ℕ) where
  word-here : tree_word (with_word t (i / WORD_MARKS) w) (i / WORD_MARKS) ≡ w
  word-here = word_same t (i / WORD_MARKS) w (omega arith)

  changed-here : (b : Bool) → is_set w (i % WORD_MARKS) ≡ b → is_free_node (with_word t (i / WORD_MARKS) w) i ≡ b
  unfolding is_free_node
  changed-here b e = rw word-here e

  changed-other : (j : ℕ) → j ≢ i
      → ((x : ℕ) → x ≢ i % WORD_MARKS → bit_at w x ≡ bit_at (tree_word t (i / WORD_MARKS)) x)
      → is_free_node (with_word t (i / WORD_MARKS) w) j ≡ is_free_node t j
  unfolding is_free_node
  changed-other j d h = by (same? (j / WORD_MARKS) (i / WORD_MARKS))
    where
      by : Equality (j / WORD_MARKS) (i / WORD_MARKS)
          → is_free_node (with_word t (i / WORD_MARKS) w) j ≡ is_free_node t j
      by (same e) = rw (e, word-here, h (j % WORD_MARKS) (λ f. d (omega arith)))
      by (other e) = rw (word-other t (i / WORD_MARKS) w (j / WORD_MARKS) e)

module _ (t : Tree) (i : ℕ) (fits : i < NODES) where
  pub mark-here : is_free_node (with_free t i) i ≡ true
  unfolding with_free
  mark-here = changed-here t i fits _ true (eq-eqb _ _ (set_here (tree_word t (i / WORD_MARKS)) (i % WORD_MARKS)))

  pub mark-other : (j : ℕ) → j ≢ i → is_free_node (with_free t i) j ≡ is_free_node t j
  unfolding with_free
  mark-other j d = changed-other t i fits _ j d (set-others (tree_word t (i / WORD_MARKS)) (i % WORD_MARKS))

  pub clear-here-node : is_free_node (without_free t i) i ≡ false
  unfolding without_free
  clear-here-node = changed-here t i fits _ false (rw (clear-here (tree_word t (i / WORD_MARKS)) (i % WORD_MARKS)))

  pub clear-other-node : (j : ℕ) → j ≢ i → is_free_node (without_free t i) j ≡ is_free_node t j
  unfolding without_free
  clear-other-node j d = changed-other t i fits _ j d (clear-others (tree_word t (i / WORD_MARKS)) (i % WORD_MARKS))

-- past the fourth word no node is free
pub node-past : (t : Tree) (i : ℕ) → NODES ≤ i → is_free_node t i ≡ false
unfolding is_free_node
node-past t i h =
    let e : i / WORD_MARKS ≡ suc (suc (suc (suc (i / WORD_MARKS - 4)))) = omega arith in
    rw (e, bit_past 0 (i % WORD_MARKS) (pow_pos (i % WORD_MARKS)))

-- ---- the first word

module _ (a b c d x : ℕ) (low : x < WORD_MARKS) where
  at_first : x / WORD_MARKS ≡ 0
  at_first = omega arith

  at-bit : x % WORD_MARKS ≡ x
  at-bit = omega arith

  pub low-test : is_free_node (tree_with a b c d) x ≡ is_set a x
  unfolding is_free_node
  low-test = rw (at_first, at-bit)

  pub low-mark : with_free (tree_with a b c d) x ≡ tree_with (with_set a x) b c d
  unfolding with_free
  low-mark = rw (at_first, at-bit)

  pub low_clear : without_free (tree_with a b c d) x ≡ tree_with (with_clear a x) b c d
  unfolding without_free
  low_clear = rw (at_first, at-bit)
