-- The numbers of the regions before `region` are added up.
use mathlib.Core.Path.{◌≡◌}
use Prim.Native.Nat.{ℕ, ◌+◌, ◌*◌, ◌≤◌, ◌<◌}
use lib.ListN.{get_or}
use Rattle.limits.specs.Limits.{MOST_BLOCKS}
use Rattle.holders.proofs.AddingUp.{AddedTo}
use Rattle.holders.proofs.add_up.Given as goal

abbrev pub invariant-loop-region : goal.invariant-loop-region
invariant-loop-region g l =
    (l.sum ≤ (MOST_BLOCKS + 1) * l.region)
    × ((n : ℕ → ℕ) → ((r x : ℕ) → r < l.fn.regions → goal.F-post g l.number r x → x ≡ n r)
    → AddedTo (λ r. get_or l.classes r 0) l.fn.class n l.region l.sum)
