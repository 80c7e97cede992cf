-- The blocks in hand of the regions before `region` are added up.
use Prim.Native.Nat.{◌+◌, ◌*◌, ◌≤◌}
use lib.ListN.{get_or}
use Rattle.limits.specs.Limits.{MOST_BLOCKS}
use Rattle.control.specs.Layout.{seen}
use Rattle.report_marks.specs.InHand.{blocks_in_hand}
use Rattle.holders.proofs.AddingUp.{AddedTo}
use Rattle.holders.proofs.in_hands.Given as goal

abbrev pub invariant-loop-region : goal.invariant-loop-region
invariant-loop-region l =
    (l.sum ≤ (MOST_BLOCKS + 1) * l.region)
    × AddedTo (λ r. get_or l.classes r 0) l.class (λ r. blocks_in_hand (seen l.control) r l.class) l.region l.sum
