-- The first joinings, in any word, and then those in the first word.
use Rattle.std.proofs.Common.{ℕ, ◌≡◌, arith, sym, ap, refl, ◌∙◌, ◌+◌, ◌-◌, ◌/◌}
use Rattle.limits.specs.Limits.{WHOLE_ORDER}
use Rattle.strip_tree.specs.declared.tree.Tree.{Tree}
use Rattle.strip_tree.specs.Trees.{is_free_node, without_free}
use Rattle.strip_tree.specs.TreeMoves.{joining}
use Rattle.strip_tree.proofs.Powers.{half-below, twice, most}
use Rattle.strip_tree.proofs.Finding.{join-no, join-next}
use Rattle.strip_tree.proofs.tree.Tree.join.Goals as goal

pub loop-init : goal.loop-init
loop-init c = record {
  reached = omega arith;
  below = rw c.get-order.ensures.same c.requires.below;
  left = refl;
}

pub buddy_of-buddy-requires : goal.buddy_of-buddy-requires
buddy_of-buddy-requires c =
    let j = c.loop.counter in
    omega (arith, c.loop.invariant.below, twice j (omega arith), most j (omega arith))

pub is_free-requires : goal.is_free-requires
is_free-requires c =
    let j = c.loop.counter in
    omega (arith, c.loop.invariant.below, twice j (omega arith), most j (omega arith))

pub mark-requires : goal.mark-requires
mark-requires c =
    let j = c.loop.counter in
    omega (arith, c.loop.invariant.below, twice j (omega arith), most j (omega arith))

pub returns-then-not-is_free : goal.returns-then-not-is_free
returns-then-not-is_free c =
    c.mark.ensures
    ∙ join-no c.loop.tree c.loop.counter c.loop.joined (omega arith)
    (sym (c.is_free.ensures ∙ ap (λ (n : ℕ). is_free_node c.loop.tree n) c.buddy_of-buddy.ensures) ∙ c.if-not-is_free.true)
    ∙ rw c.get-order.ensures.same at c.loop.invariant.left

pub clear-tree-requires : goal.clear-tree-requires
clear-tree-requires c =
    let j = c.loop.counter in
    omega (arith, c.loop.invariant.below, twice j (omega arith), most j (omega arith))

pub loop-preserved : goal.loop-preserved
loop-preserved c =
    let j = c.loop.counter in
    let i = c.loop.joined in
    record {
      reached = omega arith;
      below = half-below i j (omega arith) c.loop.invariant.below;
      left =
          ap (λ (t : Tree). joining t (WHOLE_ORDER - (j + 1)) (i / 2))
          (c.clear-tree.ensures ∙ ap (λ (n : ℕ). without_free c.loop.tree n) c.buddy_of-buddy.ensures)
          ∙ join-next c.loop.tree j i (omega arith)
          (sym (c.is_free.ensures ∙ ap (λ (n : ℕ). is_free_node c.loop.tree n) c.buddy_of-buddy.ensures) ∙ c.if-not-is_free.false)
          ∙ c.loop.invariant.left;
    }

pub returns : goal.returns
returns c =
    let t = c.loop.tree in
    let e : c.max-high.result ≡ c.loop.counter = omega arith in
    rw e at (c.join_high-a.ensures t.b t.c t.d)
    ∙ rw c.get-order.ensures.same at c.loop.invariant.left
