-- How often a number stands in a row, in a row taken apart, and in a row changed.
use mathlib.Core.Path.{◌≡◌, refl, ap}
use mathlib.Core.List.{List, [], ◌∷◌, ◌++◌}
use Prim.Native.Nat.{ℕ, zero, suc, ◌+◌, ◌≤◌, ◌<◌}
use native.Mathlib.Omega.{arith}
use lib.ListN.{length, get_or, set, length-append}
use Rattle.rows.specs.Comparisons.{same, other, same?}
use Rattle.rows.specs.Update.{update}
use Rattle.rows.specs.Weights.{when, one}
use Rattle.rows.specs.Counting.{count, Split}
use Rattle.rows.proofs.Weights.{when-same, when-other, when-max, weight-update}

-- ---- the items of a row

-- The first item counts.
pub count-first : (u : ℕ) (r : List ℕ) → 1 ≤ count u (u ∷ r)
count-first u r = omega (arith, when-same u 1)

-- What stands at an index of the row counts.
pub count_at : (r : List ℕ) (i : ℕ) → i < length r → 1 ≤ count (get_or r i 0) r
count_at [] i h = absurd (omega arith)
count_at (v ∷ r) zero h = count-first v r
count_at (v ∷ r) (suc i) h = omega (arith, count_at r i (omega arith))

-- A number stands in a row at most as often as the row is long.
pub count-max : (u : ℕ) (r : List ℕ) → count u r ≤ length r
count-max u [] = omega arith
count-max u (v ∷ r) = omega (arith, when-max u v 1, count-max u r)

-- A row in which nothing counts is empty.
pub count_none : (r : List ℕ) → ((u : ℕ) → count u r ≡ 0) → r ≡ []
count_none [] h = refl
count_none (v ∷ r) h = absurd (omega (arith, h v, count-first v r))

-- ---- a row taken apart

-- In one row put before another, a number stands as often as in the two together.
pub count-append : (u : ℕ) (r s : List ℕ) → count u (r ++ s) ≡ count u r + count u s
count-append u [] s = omega arith
count-append u (v ∷ r) s = omega (arith, count-append u r s)

-- One more item v at the end counts if it is u.
pub count-append-one : (u : ℕ) (r : List ℕ) (v : ℕ) → count u (r ++ (v ∷ [])) ≡ count u r + one u v
count-append-one u r v = omega (arith, count-append u r (v ∷ []))

-- An item v taken out of a row counted once if it is u, and all else counts as before.
pub count-remove : (u : ℕ) (r : List ℕ) (v : ℕ) (s : List ℕ)
    → count u (r ++ (v ∷ s)) ≡ one u v + count u (r ++ s)
count-remove u r v s = omega (arith, count-append u r (v ∷ s), count-append u r s)

-- A row with one item taken out is one shorter.
pub length-remove : (r : List ℕ) (v : ℕ) (s : List ℕ) → length (r ++ (v ∷ s)) ≡ suc (length (r ++ s))
length-remove r v s = omega (arith, length-append r (v ∷ s), length-append r s)

-- What counts in a row is an item of it: the row can be taken apart there.
pub count-split : (u : ℕ) (r : List ℕ) → 1 ≤ count u r → Split u r
count-split u [] h = absurd (omega arith)
count-split u (v ∷ r) h = elim (same? u v) [
  | same e ↦ record { front = []; back = r; is = rw e }
  | other d ↦
      let p = count-split u r (omega (arith, when-other u v 1 d)) in
      record { front = v ∷ p.front; back = p.back; is = ap (λ q. v ∷ q) p.is }
]

-- An item of a row counts.
pub split-count : (u : ℕ) (r : List ℕ) → Split u r → 1 ≤ count u r
split-count u r p = omega (arith, ap (count u) p.is, count-remove u p.front u p.back, when-same u 1)

-- ---- a change

-- One item of a row written anew: the old item no longer counts, the new one does.
pub count_set : (u : ℕ) (r : List ℕ) (i v : ℕ) → i < length r
    → count u (set r i v) + one u (get_or r i 0) ≡ count u r + one u v
count_set u [] i v h = absurd (omega arith)
count_set u (x ∷ r) zero v h = omega arith
count_set u (x ∷ r) (suc i) v h = omega (arith, count_set u r i v (omega arith))

-- One of several rows changed: at its index the old items no longer count and the new ones do, elsewhere
-- all counts as before.
pub count-update : (u : ℕ) (f : ℕ → List ℕ) (k : ℕ) (r : List ℕ) (j : ℕ)
    → count u (update f k r j) + when j k (count u (f k)) ≡ count u (f j) + when j k (count u r)
count-update u = weight-update (count u)
