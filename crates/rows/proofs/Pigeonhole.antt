-- The pigeonhole law, for rows in which an item may stand more than once.
use mathlib.Core.Path.{◌≡◌, ap, sym, subst}
use mathlib.Core.List.{List, [], ◌∷◌, ◌++◌}
use Prim.Native.Nat.{ℕ, ◌≤◌, ◌<◌}
use native.Mathlib.Omega.{arith}
use lib.ListN.{length}
use Rattle.rows.specs.Comparisons.{Equality, same, other, same?, before, after, order?}
use Rattle.rows.specs.Counting.{count, Split}
use Rattle.rows.proofs.Weights.{when-same, when-other}
use Rattle.rows.proofs.Counting.{count-first, count-split, count-remove, length-remove}

-- A row that has no item more often than s has it is no longer than s.
pub pigeonhole : (r s : List ℕ) → ((v : ℕ) → count v r ≤ count v s) → length r ≤ length s
pigeonhole [] s h = omega arith
pigeonhole (u ∷ r) s h =
    let p = count-split u s (omega (arith, h u, count-first u r)) in
    let l = pigeonhole r (p.front ++ p.back) (without p) in
    omega (arith, ap length p.is, length-remove p.front u p.back)
  where
    without : (p : Split u s) (v : ℕ) → count v r ≤ count v (p.front ++ p.back)
    without p v = omega (arith, h v, ap (count v) p.is, count-remove v p.front u p.back)

-- A row that has no item more often than s, and is as long as s, has every item as often as s has it: with one more it
-- would be too long.
pub pigeonhole-full : (r s : List ℕ) → ((v : ℕ) → count v r ≤ count v s)
    → length r ≡ length s → (v : ℕ) → count v r ≡ count v s
pigeonhole-full r s h e v = elim (order? (count v r) (count v s)) [
  | before l ↦ absurd (omega (arith, pigeonhole (v ∷ r) s (λ u. one_more l u (same? u v))))
  | after g ↦ omega (arith, h v)
]
  where
    one_more : count v r < count v s → (u : ℕ) → Equality u v → count u (v ∷ r) ≤ count u s
    one_more l u (same d) = subst (λ w. count w (v ∷ r) ≤ count w s) (sym d) (omega (arith, l, when-same v 1))
    one_more l u (other d) = omega (arith, h u, when-other u v 1 d)
