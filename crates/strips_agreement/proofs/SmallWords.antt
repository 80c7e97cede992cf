-- The words of a tree stay words of 64 bits.
use Prim.Native.Nat.{ℕ, zero, suc, ◌+◌, ◌*◌, ◌/◌, ◌%◌, ◌^◌, ◌<◌}
use native.Mathlib.Omega.{arith}
use Rattle.limits.specs.Limits.{WORD_MARKS}
use Rattle.rows.specs.Comparisons.{Truth, holds, fails, true?}
use Rattle.words.proofs.Marks.{set_below, clear-below}
use Rattle.strip_tree.specs.declared.tree.Tree.{Tree}
use Rattle.strip_tree.specs.Trees.{tree_word, with_word, is_free_node, with_free, without_free, buddy}
use Rattle.strip_tree.specs.TreeMoves.{halving, joining}
use Rattle.strips_agreement.specs.SmallWords.{SmallWords}

word_small : (t : Tree) → SmallWords t → (i : ℕ) → tree_word t i < 2 ^ WORD_MARKS
word_small t s zero = s.a
word_small t s (suc zero) = s.b
word_small t s (suc (suc zero)) = s.c
word_small t s (suc (suc (suc zero))) = s.d
word_small t s (suc (suc (suc (suc i)))) = omega arith

with-small : (t : Tree) → SmallWords t → (i w : ℕ) → w < 2 ^ WORD_MARKS → SmallWords (with_word t i w)
with-small t s zero w h = record { a = h; b = s.b; c = s.c; d = s.d }
with-small t s (suc zero) w h = record { a = s.a; b = h; c = s.c; d = s.d }
with-small t s (suc (suc zero)) w h = record { a = s.a; b = s.b; c = h; d = s.d }
with-small t s (suc (suc (suc zero))) w h = record { a = s.a; b = s.b; c = s.c; d = h }
with-small t s (suc (suc (suc (suc i)))) w h = s

pub marked-small : (t : Tree) (i : ℕ) → SmallWords t → SmallWords (with_free t i)
unfolding with_free
marked-small t i s =
    with-small t s (i / WORD_MARKS) _
    (set_below (tree_word t (i / WORD_MARKS)) (i % WORD_MARKS) WORD_MARKS (word_small t s (i / WORD_MARKS))
    (omega arith))

pub cleared-small : (t : Tree) (i : ℕ) → SmallWords t → SmallWords (without_free t i)
unfolding without_free
cleared-small t i s =
    with-small t s (i / WORD_MARKS) _
    (clear-below (tree_word t (i / WORD_MARKS)) (i % WORD_MARKS) WORD_MARKS (word_small t s (i / WORD_MARKS))
    (omega arith))

pub halving-small : (n : ℕ) (t : Tree) (i : ℕ) → SmallWords t → SmallWords (halving t n i)
unfolding halving
halving-small zero t i s = s
halving-small (suc n) t i s = halving-small n (with_free t (2 * i + 1)) (2 * i) (marked-small t (2 * i + 1) s)

pub joining-small : (n : ℕ) (t : Tree) (i : ℕ) → SmallWords t → SmallWords (joining t n i)
unfolding joining
joining-small zero t i s = marked-small t i s
joining-small (suc n) t i s =
    by (true? (is_free_node t (buddy i)))
    (joining-small n (without_free t (buddy i)) (i / 2) (cleared-small t (buddy i) s))
  where
    by : Truth (is_free_node t (buddy i)) → SmallWords (joining (without_free t (buddy i)) n (i / 2))
        → SmallWords (joining t (suc n) i)
    by (holds e) f = rw e f
    by (fails e) f = rw e (marked-small t i s)
