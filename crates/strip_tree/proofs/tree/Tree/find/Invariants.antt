-- What is left of the search finds what the whole search does.
use Rattle.std.proofs.Common.{◌≡◌, ◌-◌}
use Rattle.limits.specs.Limits.{ORDERS}
use Rattle.strip_tree.specs.TreeMoves.{find, find_from}
use Rattle.strip_tree.proofs.tree.Tree.find.Given as goal

abbrev pub invariant-loop-order : goal.invariant-loop-order
invariant-loop-order l = find_from l.self (ORDERS - l.order) l.order ≡ find l.self l.fn.least
