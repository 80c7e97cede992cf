-- The blocks that are counted from the marks are those in users' hands.
use mathlib.Core.Path.{◌≡◌, refl, ap, ◌∙◌}
use mathlib.Core.List.{List}
use Prim.Native.Nat.{ℕ, zero, suc, ◌≤◌, ◌<◌}
use native.Mathlib.Omega.{arith}
use lib.Dec.{leb, eqb}
use Rattle.limits.specs.Limits.{REGIONS}
use Rattle.classes.specs.Classes.{per_region}
use Rattle.classes.specs.Geometry.{unit_of}
use Rattle.classes.proofs.BlockUnits.{block_at, unit-below}
use Rattle.fields.specs.Columns.{View}
use Rattle.plain.specs.State.{Mem}
use Rattle.agreement.specs.Contents.{mark_of, contents_of}
use Rattle.agreement.specs.Relation.{Related}
use Rattle.reports.proofs.Passing.{passing-same}
use Rattle.report_marks.specs.InHand.{is_marked, blocks_in_hand}
use Rattle.report_agreement.specs.Whereabouts.{times_in_hand, blocks_there}

-- a bit is set where it is not 0
bit-set : (x : ℕ) → x < 2 → eqb x 1 ≡ leb 1 x
bit-set zero l = refl
bit-set (suc zero) l = refl
bit-set (suc (suc x)) l = absurd (omega arith)

module _ {regions : ℕ} {m : Mem} (v : View) (area : List ℕ) (small : regions ≤ REGIONS)
    (R : Related regions (contents_of v area) m) (r c : ℕ) (inside : r < regions) where
  -- the mark of a block tells whether it is in a user's hands, whether its region is open or not
  pub mark-told : (i : ℕ) → i < per_region c → is_marked v (unit_of r c i) ≡ leb 1 (times_in_hand m (unit_of r c i))
  mark-told i k =
      let u = unit_of r c i in
      bit-set (mark_of v u) (omega arith)
      ∙ ap (leb 1) (R.core.entries.marks u (unit-below (block_at r c i k) (omega arith)))

  -- so the marks of a region tell how many of its blocks are
  pub hands-told : blocks_in_hand v r c ≡ blocks_there (times_in_hand m) r c
  unfolding blocks_in_hand
  hands-told =
      passing-same (per_region c) (λ i. is_marked v (unit_of r c i)) (λ i. leb 1 (times_in_hand m (unit_of r c i)))
      mark-told
