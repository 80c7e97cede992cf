-- No number that is added up for the form is large.
use Prim.Native.Nat.{ℕ, ◌+◌, ◌≤◌}
use native.Mathlib.Omega.{arith}
use Rattle.limits.specs.Limits.{MOST_BLOCKS}
use Rattle.fields.specs.Columns.{View}
use Rattle.classes.specs.Classes.{per_region}
use Rattle.classes.specs.Geometry.{unit_of}
use Rattle.classes.proofs.Tables.{per_region-high}
use Rattle.reports.proofs.Passing.{passing-max}
use Rattle.report_marks.specs.InHand.{is_marked, blocks_in_hand}

-- a region has at most all its blocks in hand
pub hand-most : (v : View) (r c : ℕ) → blocks_in_hand v r c ≤ MOST_BLOCKS + 1
unfolding blocks_in_hand
hand-most v r c = omega (arith, passing-max (per_region c) (λ i. is_marked v (unit_of r c i)), per_region-high c)
