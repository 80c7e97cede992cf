-- What is left to join makes what the whole joining does, of a node of the order so far.
use Rattle.std.proofs.Common.{◌≡◌, ◌-◌, ◌^◌, ◌<◌, ℕ}
use Rattle.limits.specs.Limits.{WHOLE_ORDER, ORDERS}
use Rattle.strip_tree.specs.Trees.{tree_with}
use Rattle.strip_tree.specs.TreeMoves.{joining}
use Rattle.strip_tree.proofs.join.join_high.Given as goal

abbrev pub invariant-loop : goal.invariant-loop
invariant-loop l = record {
  below : l.joined < 2 ^ (ORDERS - l.counter);
  left : (b c d : ℕ)
      → joining (tree_with l.word b c d) (WHOLE_ORDER - l.counter) l.joined
      ≡ joining (tree_with l.first b c d) (WHOLE_ORDER - l.order) l.node;
}
