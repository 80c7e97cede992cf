-- The order falls by one at each halving.
use Rattle.strip_tree.proofs.halve.+halve_low.Given as goal

abbrev pub decreases-halve_low : goal.decreases-halve_low
decreases-halve_low l = l.order
