-- The lowest block in hand that is read off the marks is the plain pool's.
use mathlib.Core.Path.{◌≡◌, sym, ap, ◌∙◌}
use mathlib.Core.Bool.{Bool, true, true≢false}
use mathlib.Core.List.{List}
use Prim.Native.Nat.{ℕ, suc, ◌≤◌, ◌<◌}
use native.Mathlib.Nat.{mul-le-mul_left}
use native.Mathlib.Omega.{arith}
use borrow.Author.Tests.{lt-ltb, le-ltb, le-leb, leb-true}
use Rattle.limits.specs.Limits.{REGIONS, UNITS}
use Rattle.rows.specs.Comparisons.{before, after, order?}
use Rattle.fields.specs.Columns.{View}
use Rattle.classes.specs.Classes.{units, per_region}
use Rattle.classes.specs.Geometry.{unit_of}
use Rattle.classes.proofs.BlockUnits.{block_at, unit-below, region-again}
use Rattle.plain.specs.State.{Mem}
use Rattle.plain.specs.Invariant.{Invariant}
use Rattle.agreement.specs.Contents.{contents_of}
use Rattle.agreement.specs.Relation.{Related}
use Rattle.agreement.specs.Observe.{plain_class}
use Rattle.reports.specs.Passing.{first_passing}
use Rattle.reports.proofs.FirstPassing.{first-is}
use Rattle.report_marks.specs.InHand.{is_marked, lowest_in_hand}
use Rattle.report_agreement.specs.Whereabouts.{times_in_hand}
use Rattle.report_agreement.specs.KeepersTell.{HandHas}
use Rattle.report_agreement.proofs.HandsTold.{mark-told}
use Rattle.report_agreement.proofs.KeptBlocks.{hand-block}

-- u is the lowest block of the region r in a user's hands; or it is 8,192, and none is
pub data LowestHand (m : Mem) (r u : ℕ) : Type 0 where
  a_block : u < UNITS → HandHas m r u → ((x : ℕ) → HandHas m r x → u ≤ x) → LowestHand m r u
  no_block : u ≡ UNITS → ((x : ℕ) → HandHas m r x → ⊥) → LowestHand m r u

module _ {regions : ℕ} {m : Mem} (v : View) (area : List ℕ) (small : regions ≤ REGIONS)
    (R : Related regions (contents_of v area) m) (I : Invariant regions m) (r c : ℕ) (inside : r < regions)
    (opened : plain_class m r ≡ suc c) where
  -- a block that is in hand has its mark set, so that it is not before the first that has
  not-before : (x : ℕ) → (h : HandHas m r x) → let b = hand-block I r c opened x h in
      first_passing (per_region c) (λ i. is_marked v (unit_of r c i)) ≤ b.at
  not-before x h =
      let f : ℕ → Bool = λ i. is_marked v (unit_of r c i) in
      let b = hand-block I r c opened x h in
      let held : 1 ≤ times_in_hand m (unit_of r c b.at) = omega (arith, h.1, ap (times_in_hand m) b.is) in
      let marked : f b.at ≡ true =
      mark-told v area small R r c inside b.at b.below ∙ le-leb 1 (times_in_hand m (unit_of r c b.at)) held in
      elim (order? b.at (first_passing (per_region c) f)) [
        | before l ↦ absurd (true≢false (sym marked ∙ (first-is (per_region c) f).none_before b.at l))
        | after l ↦ l
      ]

  pub lowest-hand : LowestHand m r (lowest_in_hand v r c)
  unfolding lowest_in_hand
  lowest-hand =
      let f : ℕ → Bool = λ i. is_marked v (unit_of r c i) in
      let F = first-is (per_region c) f in
      let i = first_passing (per_region c) f in
      elim (order? i (per_region c)) [
        | before l ↦ rw (lt-ltb i (per_region c) l)
            (a_block (unit-below (block_at r c i l) (omega (arith, small, inside))) (
              region-again r c i l,
              leb-true 1 (times_in_hand m (unit_of r c i))
                  (sym (mark-told v area small R r c inside i l) ∙ F.passes l),
            ) (λ x h. omega (arith, (hand-block I r c opened x h).is, mul-le-mul_left (units c) (not-before x h))))
        | after l ↦ rw (le-ltb i (per_region c) l)
            (no_block (omega arith) (λ x h.
            absurd (omega (arith, (hand-block I r c opened x h).below, not-before x h))))
      ]
