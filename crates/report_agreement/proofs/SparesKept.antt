-- The list of spare regions that is read is the plain pool's row.
use mathlib.Core.Path.{◌≡◌, refl, sym, ap, ◌∙◌}
use mathlib.Core.Bool.{true}
use mathlib.Core.List.{List, ◌∷◌}
use Prim.Native.Nat.{ℕ, zero, suc, ◌-◌, ◌≤◌, ◌<◌}
use native.Mathlib.Omega.{arith}
use borrow.Author.Tests.{eq-eqb, ne_eqb, le-leb}
use lib.Dec.{leb}
use lib.ListN.{length}
use Rattle.limits.specs.Limits.{SPARE_REGIONS}
use Rattle.rows.specs.Comparisons.{same, other, same?}
use Rattle.rows.specs.Counting.{count}
use Rattle.rows.specs.Linked.{Linked, ends, links}
use Rattle.rows.proofs.Counting.{count-first}
use Rattle.rows.proofs.Weights.{when-other, below-is}
use Rattle.fields.specs.Columns.{View}
use Rattle.plain.specs.State.{Mem}
use Rattle.plain.specs.Invariant.{Invariant}
use Rattle.control.specs.Layout.{RegionNext}
use Rattle.agreement.specs.Contents.{contents_of}
use Rattle.agreement.specs.Relation.{Related}
use Rattle.agreement.proofs.Observing.{short}
use Rattle.report_regions.specs.SpareList.{is_list_from, is_on_from, is_spare_list, is_spare}

module _ (v : View) (regions : ℕ) where
  -- a linked row of regions of the area is a list,
  list-passes : {f : ℕ} {q : List ℕ} (n : ℕ) → Linked (λ r. v (RegionNext r)) suc 0 f q → length q ≤ n
      → ((x : ℕ) → 1 ≤ count x q → x < regions) → is_list_from v regions n f ≡ true
  unfolding is_list_from
  list-passes {f} zero (ends e) l h = eq-eqb f 0 e
  list-passes zero (links e L) l h = absurd (omega arith)
  list-passes {f} (suc n) (ends e) l h = rw (eq-eqb f 0 e)
  list-passes {f = f} (suc n) (links {u = u} {r = q} e L) l h =
      let s : suc u - 1 ≡ u = omega arith in
      rw (e, ne_eqb (suc u) 0 (λ z. omega arith), le-leb (suc u) regions (h u (count-first u q)), s)
      (list-passes {f = v (RegionNext u)} n L (omega arith) (λ x g. h x (omega arith)))

  -- and tells whether a region is in the row
  list_tells : {f : ℕ} {q : List ℕ} (r n : ℕ) → Linked (λ r. v (RegionNext r)) suc 0 f q → length q ≤ n
      → is_on_from v r n f ≡ leb 1 (count r q)
  unfolding is_on_from
  list_tells r zero (ends e) l = refl
  list_tells r zero (links e L) l = absurd (omega arith)
  list_tells {f} r (suc n) (ends e) l = rw (eq-eqb f 0 e)
  list_tells {f = f} r (suc n) (links {u = u} {r = q} e L) l =
      let s : suc u - 1 ≡ u = omega arith in
      elim (same? u r) [
        | same z ↦
            rw (e, ne_eqb (suc u) 0 (λ y. omega arith), s, eq-eqb u r z)
            (sym (le-leb 1 (count r (u ∷ q)) (omega (arith, ap (λ (x : ℕ). count x (u ∷ q)) z, count-first u q))))
        | other d ↦ (let n-more : count r (u ∷ q) ≡ count r q = omega (arith, when-other r u 1 (λ y. d (sym y))) in
            rw (e, ne_eqb (suc u) 0 (λ y. omega arith), s, ne_eqb u r d)
            (list_tells {f = v (RegionNext u)} r n L (omega arith) ∙ ap (leb 1) (sym n-more)))
      ]

module _ {regions : ℕ} {m : Mem} (v : View) (area : List ℕ) (R : Related regions (contents_of v area) m)
    (I : Invariant regions m) where
  -- no region stands twice on the list, so that it has at most as many items as the area has regions
  few : length (m.row SPARE_REGIONS) ≤ regions
  few = short regions (m.row SPARE_REGIONS) (λ x. omega (arith, I.regions x))

  pub spares-pass : is_spare_list v regions ≡ true
  unfolding is_spare_list
  spares-pass =
      list-passes v regions regions R.core.lists.spare_row few (λ x h.
      below-is x regions (omega (arith, h, I.regions x)))

  pub spares-told : (r : ℕ) → is_spare v regions r ≡ leb 1 (count r (m.row SPARE_REGIONS))
  unfolding is_spare
  spares-told r = list_tells v regions r regions R.core.lists.spare_row few
