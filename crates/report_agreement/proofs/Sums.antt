-- Sums over the blocks of a region.
use mathlib.Core.Path.{◌≡◌, refl, sym, ap, ◌∙◌}
use mathlib.Core.List.{List, [], ◌∷◌}
use Prim.Native.Nat.{ℕ, zero, suc, ◌+◌, ◌≤◌, ◌<◌}
use native.Mathlib.Omega.{arith}
use lib.Dec.{leb}
use lib.ListN.{length}
use Rattle.rows.specs.Comparisons.{same, other, same?}
use Rattle.rows.specs.Weights.{one}
use Rattle.rows.specs.Counting.{count}
use Rattle.rows.specs.Totals.{total}
use Rattle.rows.proofs.Weights.{when-same, when-other}
use Rattle.rows.proofs.Counting.{count-first}
use Rattle.rows.proofs.Totals.{total-same, total-add, total-zero, total-only}
use Rattle.classes.specs.Classes.{per_region}
use Rattle.classes.specs.Geometry.{unit_of, region_of, BlockOf}
use Rattle.classes.proofs.BlockUnits.{region-again, same_block, region-is}
use Rattle.reports.specs.Passing.{weigh, passing}
use Rattle.reports.specs.ByRegion.{in_region}
use Rattle.report_agreement.specs.Sums.{sum}

-- numbers that agree below n have the same sum
pub sum_same : (n : ℕ) (f g : ℕ → ℕ) → ((i : ℕ) → i < n → f i ≡ g i) → sum n f ≡ sum n g
sum_same n f g h = total-same n (λ i x. x) f (λ i x. x) g h

-- a sum of sums is added part by part
pub sum-add : (n : ℕ) (f g : ℕ → ℕ) → sum n (λ i. f i + g i) ≡ sum n f + sum n g
unfolding total
sum-add zero f g = refl
sum-add (suc n) f g = omega (arith, sum-add n f g)

-- n ones add up to n
pub sum_ones : (n : ℕ) (f : ℕ → ℕ) → ((i : ℕ) → i < n → f i ≡ 1) → sum n f ≡ n
unfolding total
sum_ones zero f h = refl
sum_ones (suc n) f h = omega (arith, sum_ones n f (λ i l. h i (omega arith)), h n (omega arith))

-- where each number is 0 or 1, the sum is how many are not 0
pub sum-passing : (n : ℕ) (f : ℕ → ℕ) → ((i : ℕ) → i < n → f i ≤ 1) → sum n f ≡ passing n (λ i. leb 1 (f i))
sum-passing n f h = total-same n (λ i x. x) f weigh (λ i. leb 1 (f i)) (λ i l. digit (f i) i (h i l))
  where
    digit : (x i : ℕ) → x ≤ 1 → x ≡ weigh i (leb 1 x)
    digit zero i l = refl
    digit (suc zero) i l = refl
    digit (suc (suc x)) i l = absurd (omega arith)

-- a sum over blocks of a total over holders is the total over holders of the sum over blocks
pub sum-total : {A : Type 0} (n k : ℕ) (w : ℕ → ℕ → A → ℕ) (f : ℕ → A)
    → sum n (λ i. total k (w i) f) ≡ total k (λ t x. sum n (λ i. w i t x)) f
unfolding total
sum-total zero k w f = sym (total-zero k (λ t x. 0) f (λ i l. refl))
sum-total (suc n) k w f =
    rw (sum-total n k w f) (sym (total-add k (λ t x. sum n (λ i. w i t x)) (λ t x. w n t x) f))

-- ---- a row of blocks

module _ (r c : ℕ) where
  -- a block of the region is one of its n blocks, and a block elsewhere is none
  one_block : (u : ℕ) → (region_of u ≡ r → BlockOf r c u)
      → sum (per_region c) (λ i. one (unit_of r c i) u) ≡ one r (region_of u)
  one_block u h = elim (same? r (region_of u)) [
    | same e ↦ (let b = h (sym e) in
        total-only (per_region c) (λ i x. x) (λ i. one (unit_of r c i) u) b.at b.below (λ i l d.
        when-other (unit_of r c i) u 1 (λ z. d (same_block r r c i b.at l b.below (z ∙ b.is)).1))
        ∙ ap (λ (x : ℕ). one x u) (sym b.is) ∙ when-same u 1 ∙ sym (ap (one r) (sym e) ∙ when-same r 1))
    | other d ↦
        total-zero (per_region c) (λ i x. x) (λ i. one (unit_of r c i) u) (λ i l.
        when-other (unit_of r c i) u 1 (λ z. d (sym (region-again r c i l) ∙ ap region_of z)))
        ∙ sym (when-other r (region_of u) 1 d)
  ]

  -- the blocks of a row that lie in the region, counted block by block
  pub row-blocks : (q : List ℕ) → ((u : ℕ) → 1 ≤ count u q → region_of u ≡ r → BlockOf r c u)
      → sum (per_region c) (λ i. count (unit_of r c i) q) ≡ in_region r q
  row-blocks [] h = total-zero (per_region c) (λ i x. x) (λ i. 0) (λ i l. refl)
  row-blocks (u ∷ q) h =
      sum-add (per_region c) (λ i. one (unit_of r c i) u) (λ i. count (unit_of r c i) q)
      ∙ rw (one_block u (h u (count-first u q)), row-blocks q (λ v g. h v (omega arith)))

  -- a row with blocks of the region alone has all of them there
  pub row-length : (q : List ℕ) → ((u : ℕ) → 1 ≤ count u q → BlockOf r c u) → in_region r q ≡ length q
  row-length [] h = refl
  row-length (u ∷ q) h =
      rw (region-is (h u (count-first u q)), when-same r 1, row-length q (λ v g. h v (omega arith))) (omega arith)
