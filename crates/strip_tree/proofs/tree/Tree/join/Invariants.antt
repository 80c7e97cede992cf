-- What is left to join makes what the whole joining does, of a node of the order so far.
use Rattle.std.proofs.Common.{◌≡◌, ◌-◌, ◌^◌, ◌<◌, ◌≤◌}
use Prim.Native.Nat.{max}
use Rattle.limits.specs.Limits.{WHOLE_ORDER, ORDERS}
use Rattle.strip_tree.specs.Trees.{FIRST_WORD_ORDER}
use Rattle.strip_tree.specs.TreeMoves.{joining}
use Rattle.strip_tree.proofs.tree.Tree.join.Given as goal

abbrev pub invariant-loop : goal.invariant-loop
invariant-loop l = record {
  reached : l.counter ≤ max l.order FIRST_WORD_ORDER;
  below : l.joined < 2 ^ (ORDERS - l.counter);
  left : joining l.tree (WHOLE_ORDER - l.counter) l.joined ≡ joining l.fn.self (WHOLE_ORDER - l.order) l.node;
}
