-- The order falls at each halving.
use Rattle.strip_tree.proofs.halve.+halve_high.Given as goal

abbrev pub decreases-halve_high : goal.decreases-halve_high
decreases-halve_high l = l.order
