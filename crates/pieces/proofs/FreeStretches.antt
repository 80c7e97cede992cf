-- "16 ends a request exactly if no aligned free stretch of the rounded size exists."
use mathlib.Core.Path.{◌≡◌, sym, ap, ◌∙◌}
use mathlib.Core.Logic.{◌↔◌}
use Prim.Native.Nat.{ℕ, suc, ◌+◌, ◌-◌, ◌*◌, ◌≤◌, ◌<◌}
use native.Mathlib.Nat.{add-mul, suc-mul, mul-le-mul_right}
use native.Mathlib.Omega.{arith}
use borrow.Author.Tests.{le-leb, lt-leb}
use Rattle.limits.specs.Limits.{WHOLE_ORDER}
use Rattle.rows.specs.Comparisons.{Order, before, after, order?}
use Rattle.pieces.specs.Pieces.{slots_in, free, held, begun, Pieces, whole, halves, Joined}
use Rattle.pieces.specs.Strips.{NO_ORDER, least_order, least_place, least_halved, none_found, strip_at, take_strip}
use Rattle.pieces.specs.StripSlots.{vacant, slot_holds, FreeStretch}
use Rattle.pieces.proofs.PieceLengths.{some, multiple}
use Rattle.pieces.proofs.FreePieces.{lower, upper, all-free}
use Rattle.pieces.proofs.LeastPieces.{exact}
use Rattle.pieces.proofs.StripTaking.{fits, aligned, vacant-before}

module _ (k : ℕ) where
  -- ---- a free stretch is found

  -- the stretch q of the pieces, free slot by slot
  abbrev Vacant : (a : ℕ) {n : ℕ} → Pieces n → ℕ → Type 0
  Vacant a t q = (i : ℕ) → i < slots_in k → slot_holds a t (q * slots_in k + i) ≡ vacant

  -- a stretch as long as the pieces is all of them
  whole-stretch : (a : ℕ) {n : ℕ} (t : Pieces n) (q : ℕ) → k ≡ n → q * slots_in k + slots_in k ≤ slots_in n
      → Vacant a t q
      → (p : ℕ) → p < slots_in n → slot_holds a t p ≡ vacant
  whole-stretch a {n} t q e b v p h =
      let s = ap slots_in e in
      let z : q * slots_in k + p ≡ p = omega arith in
      rw z at (v p (omega arith))

  module _ (a : ℕ) {n : ℕ} (l r : Pieces n) (q m : ℕ) (is : slots_in n ≡ m * slots_in k) where
    low-stretch : q < m → Vacant a (halves l r) q → (q * slots_in k + slots_in k ≤ slots_in n) × Vacant a l q
    low-stretch h v =
        let b : q * slots_in k + slots_in k ≤ slots_in n =
        omega (arith, suc-mul q (slots_in k), mul-le-mul_right (slots_in k) h) in
        (b, λ i j. sym (lower a l r (q * slots_in k + i) (omega arith)) ∙ v i j)

    high-stretch : m ≤ q → q * slots_in k + slots_in k ≤ slots_in (suc n) → Vacant a (halves l r) q
        → ((q - m) * slots_in k + slots_in k ≤ slots_in n) × Vacant (a + slots_in n) r (q - m)
    high-stretch h b v =
        let e : q ≡ q - m + m = omega arith in
        let d : q * slots_in k ≡ (q - m) * slots_in k + m * slots_in k =
        ap (λ (x : ℕ). x * slots_in k) e ∙ add-mul (q - m) m (slots_in k) in
        (omega arith, λ i j. at i j (omega arith) (omega arith))
      where
        at : (i : ℕ) → i < slots_in k → slots_in n ≤ q * slots_in k + i
            → q * slots_in k + i - slots_in n ≡ (q - m) * slots_in k + i
            → slot_holds (a + slots_in n) r ((q - m) * slots_in k + i) ≡ vacant
        at i j g e = rw e at (sym (upper a l r (q * slots_in k + i) g) ∙ v i j)

  found : (a : ℕ) {n : ℕ} (t : Pieces n) → Joined t → k ≤ n → n ≤ WHOLE_ORDER → (q : ℕ)
      → q * slots_in k + slots_in k ≤ slots_in n → Vacant a t q
      → least_order k t ≤ WHOLE_ORDER
  found a (whole {n} free) m g u q b v = rw (exact k n g) u
  found a (whole held) m g u q b v =
      let e = v 0 (some k) in
      let z : ◌≡◌ {A = ℕ} 0 1 = cc in
      absurd (omega arith)
  found a (whole (begun t)) m g u q b v =
      let e = v 0 (some k) in
      let z : ◌≡◌ {A = ℕ} 0 1 = cc in
      absurd (omega arith)
  found a (halves {n} l r) m g u q b v =
      by (order? n k) (λ h. found a l m.1 h (omega arith)) (λ h. found (a + slots_in n) r m.2 h (omega arith))
    where
      by : Order n k
          → (k ≤ n → (x : ℕ) → x * slots_in k + slots_in k ≤ slots_in n → Vacant a l x → least_order k l ≤ WHOLE_ORDER)
          → (k ≤ n → (x : ℕ) → x * slots_in k + slots_in k ≤ slots_in n → Vacant (a + slots_in n) r x
          → least_order k r ≤ WHOLE_ORDER)
          → least_order k (halves l r) ≤ WHOLE_ORDER
      by (before h) f w =
          let e = all-free a (halves l r) m (whole-stretch a (halves l r) q (omega arith) b v) in
          let z : ◌≡◌ {A = ℕ} 0 1 = cc in
          absurd (omega arith)
      by (after h) f w = in-half (order? q (multiple k n h).times)
        where
          in-half : Order q (multiple k n h).times → least_order k (halves l r) ≤ WHOLE_ORDER
          in-half (before j) =
              let s = low-stretch a l r q (multiple k n h).times (multiple k n h).is j v in
              omega (arith, f h q s.0 s.1)
          in-half (after j) =
              let s = high-stretch a l r q (multiple k n h).times (multiple k n h).is j b v in
              omega (arith, w h (q - (multiple k n h).times) s.0 s.1)

  -- ---- what is found is a free stretch

  stretch : k ≤ WHOLE_ORDER → {n : ℕ} (t : Pieces n) → least_order k t ≤ WHOLE_ORDER → (q : ℕ) × FreeStretch t k q
  stretch b t h =
      let x = aligned k b t h in (
        x.times,
        record {
          fits = rw (← x.is) (fits k t h);
          is_free = λ i j. rw (← x.is) (vacant-before k 0 t h i j);
        },
      )

-- a strip was taken exactly if the least order is one
pub data Took (k : ℕ) (t : Pieces WHOLE_ORDER) : Type 0 where
  found_none : NO_ORDER ≤ least_order k t → take_strip k t ≡ none_found → Took k t
  found-one : least_order k t ≤ WHOLE_ORDER → take_strip k t ≡ strip_at (least_place k t) (least_halved k t) → Took k t

pub took : (k : ℕ) (t : Pieces WHOLE_ORDER) → Took k t
unfolding take_strip
took k t = by (order? WHOLE_ORDER (least_order k t))
  where
    by : Order WHOLE_ORDER (least_order k t) → Took k t
    by (before h) = found_none h (rw (lt-leb _ _ h))
    by (after h) = found-one h (rw (le-leb _ _ h))

-- "16 ends a request exactly if no aligned free stretch of the rounded size exists"
pub none-exactly : (k : ℕ) (t : Pieces WHOLE_ORDER) → k ≤ WHOLE_ORDER → Joined t
    → (take_strip k t ≡ none_found) ↔ ((q : ℕ) → FreeStretch t k q → ⊥)
none-exactly k t b m = (to (took k t), from (took k t))
  where
    to : Took k t → take_strip k t ≡ none_found → (q : ℕ) → FreeStretch t k q → ⊥
    to (found_none h e) d q s = omega (arith, found k 0 t m b (omega arith) q s.fits s.is_free)
    to (found-one h e) d q s = let z : ◌≡◌ {A = ℕ} 0 1 = cc in omega arith

    from : Took k t → ((q : ℕ) → FreeStretch t k q → ⊥) → take_strip k t ≡ none_found
    from (found_none h e) f = e
    from (found-one h e) f = let s = stretch k b t h in absurd (f s.0 s.1)
