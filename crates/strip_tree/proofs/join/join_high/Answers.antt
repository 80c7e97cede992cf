-- Where the other half is free, both become one, and that is joined further; else the piece is marked.
use Rattle.std.proofs.Common.{arith, ℕ, ap, sym, ◌∙◌, ◌+◌, ◌-◌, ◌/◌}
use Rattle.limits.specs.Limits.{WHOLE_ORDER}
use Rattle.words.specs.Mark.{is_set, with_clear}
use Rattle.strip_tree.specs.declared.tree.Tree.{Tree}
use Rattle.strip_tree.specs.Trees.{tree_with, buddy}
use Rattle.strip_tree.specs.TreeMoves.{joining}
use Rattle.strip_tree.proofs.Powers.{half-below, in-first, buddy-first}
use Rattle.strip_tree.proofs.NodeBits.{low-mark, low_clear, low-test}
use Rattle.strip_tree.proofs.Finding.{join-top, join-no, join-next}
use Rattle.strip_tree.proofs.join.join_high.Goals as goal

pub test-requires : goal.test-requires
test-requires c =
    let j = c.loop.counter in
    let i = c.loop.joined in
    let l = c.loop.invariant.below in
    omega (arith, buddy-first j i (omega arith) (omega arith) l, in-first j i (omega arith) (omega arith) l)

pub set-requires : goal.set-requires
set-requires c = in-first c.loop.counter c.loop.joined (omega arith) (omega arith) c.loop.invariant.below

pub returns-then-not-test : goal.returns-then-not-test
returns-then-not-test c x y z =
    let j = c.loop.counter in
    let i = c.loop.joined in
    let l = buddy-first j i (omega arith) (omega arith) c.loop.invariant.below in
    ap (λ (w : ℕ). tree_with w x y z) c.set.ensures.value
    ∙ sym (low-mark c.loop.word x y z i (in-first j i (omega arith) (omega arith) c.loop.invariant.below))
    ∙ join-no (tree_with c.loop.word x y z) j i (omega arith)
    (low-test c.loop.word x y z (buddy i) l
    ∙ sym (c.test.ensures ∙ ap (λ (n : ℕ). is_set c.loop.word n) c.buddy_of-buddy.ensures)
    ∙ c.if-not-test.true)
    ∙ c.loop.invariant.left x y z

pub clear-word-requires : goal.clear-word-requires
clear-word-requires c =
    let j = c.loop.counter in
    let i = c.loop.joined in
    let l = c.loop.invariant.below in
    omega (arith, buddy-first j i (omega arith) (omega arith) l, in-first j i (omega arith) (omega arith) l)

pub loop-preserved : goal.loop-preserved
loop-preserved c =
    let j = c.loop.counter in
    let i = c.loop.joined in
    let l = buddy-first j i (omega arith) (omega arith) c.loop.invariant.below in
    record {
      below = half-below i j (omega arith) c.loop.invariant.below;
      left = λ x y z.
          ap (λ (w : ℕ). joining (tree_with w x y z) (WHOLE_ORDER - (j + 1)) (i / 2))
          (c.clear-word.ensures.value ∙ ap (λ (n : ℕ). with_clear c.loop.word n) c.buddy_of-buddy.ensures)
          ∙ ap (λ (t : Tree). joining t (WHOLE_ORDER - (j + 1)) (i / 2))
          (sym (low_clear c.loop.word x y z (buddy i) l))
          ∙ join-next (tree_with c.loop.word x y z) j i (omega arith)
          (low-test c.loop.word x y z (buddy i) l
          ∙ sym (c.test.ensures ∙ ap (λ (n : ℕ). is_set c.loop.word n) c.buddy_of-buddy.ensures)
          ∙ c.if-not-test.false)
          ∙ c.loop.invariant.left x y z;
    }

pub set-requires-2 : goal.set-requires-2
set-requires-2 c = in-first c.loop.counter c.loop.joined (omega arith) (omega arith) c.loop.invariant.below

pub returns : goal.returns
returns c x y z =
    let j = c.loop.counter in
    let i = c.loop.joined in
    ap (λ (w : ℕ). tree_with w x y z) c.set-2.ensures.value
    ∙ sym (low-mark c.loop.word x y z i (in-first j i (omega arith) (omega arith) c.loop.invariant.below))
    ∙ join-top (tree_with c.loop.word x y z) j i (omega arith)
    ∙ c.loop.invariant.left x y z
