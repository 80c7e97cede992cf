-- A group that has passed the test for room fits before the chain.
use mathlib.Core.Path.{◌≡◌}
use mathlib.Core.Bool.{true}
use Prim.Native.Nat.{ℕ}
use Rattle.words.specs.Anchor.{anchor_of, Room}
use Rattle.classes.specs.Classes.{per_region}
use Rattle.classes.proofs.Tables.{per_region-high}
use Rattle.stepped.specs.Ranges.{has_room}
use Rattle.ranges.proofs.Passed.{room-passed}

-- a noted anchor that was found to have room for the group
pub has-room : {n : ℕ} (g w c : ℕ) → n ≡ per_region c → has_room n g w ≡ true → Room (anchor_of w) g (per_region c)
has-room g w c e h = record { count = room-passed (per_region c) g w (rw e at h); blocks = per_region-high c }
