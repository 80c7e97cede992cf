-- Taking a strip: where it lies, what its slots were, and that every other slot stays.
use mathlib.Core.Path.{◌≡◌, refl, sym, ap, ◌∙◌}
use mathlib.Core.Bool.{false}
use Prim.Native.Nat.{ℕ, zero, suc, ◌+◌, ◌-◌, ◌≤◌, ◌<◌}
use native.Mathlib.Omega.{arith}
use borrow.Author.Tests.{le-leb, lt-leb}
use Rattle.limits.specs.Limits.{WHOLE_ORDER}
use Rattle.rows.specs.Comparisons.{Order, before, after, order?}
use Rattle.pieces.specs.Pieces.{slots_in, free, held, begun, Pieces, whole, halves, is_free_piece, Joined}
use Rattle.pieces.specs.Strips.{least_order, least_place, halved_to, least_halved}
use Rattle.pieces.specs.StripSlots.{vacant, within, slot_holds}
use Rattle.pieces.specs.PieceRows.{AtMultiple}
use Rattle.pieces.proofs.PieceLengths.{some, larger, aligned-past}
use Rattle.pieces.proofs.FreePieces.{lower, upper, at-lower, at-upper}
use Rattle.pieces.proofs.LeastPieces.{Half, low, high, half?, enough, sufficient}
use Rattle.pieces.proofs.BothFree.{no-first, no_second}

module _ (k : ℕ) where
  -- ---- where the strip lies

  -- it lies in the pieces
  pub fits : {n : ℕ} (t : Pieces n) → least_order k t ≤ WHOLE_ORDER → least_place k t + slots_in k ≤ slots_in n
  fits (whole {n} free) h = omega (arith, larger k n (enough k n h))
  fits (whole held) h = omega arith
  fits (whole (begun t)) h = omega arith
  fits (halves {n} l r) h = by (half? k l r) (fits l) (fits r)
    where
      by : Half k l r → (least_order k l ≤ WHOLE_ORDER → least_place k l + slots_in k ≤ slots_in n)
          → (least_order k r ≤ WHOLE_ORDER → least_place k r + slots_in k ≤ slots_in n)
          → least_place k (halves l r) + slots_in k ≤ slots_in (suc n)
      by (low e d b) f g = rw e (omega (arith, f (omega arith)))
      by (high e d b) f g = rw e (omega (arith, g (omega arith)))

  -- at a multiple of its length
  pub aligned : k ≤ WHOLE_ORDER → {n : ℕ} (t : Pieces n) → least_order k t ≤ WHOLE_ORDER
      → AtMultiple (least_place k t) k
  aligned b (whole s) h = record { times = 0; is = omega arith }
  aligned b (halves {n} l r) h = by (half? k l r) (aligned b l) (aligned b r)
    where
      by : Half k l r → (least_order k l ≤ WHOLE_ORDER → AtMultiple (least_place k l) k)
          → (least_order k r ≤ WHOLE_ORDER → AtMultiple (least_place k r) k)
          → AtMultiple (least_place k (halves l r)) k
      by (low e d m) f g = rw e (f (omega arith))
      by (high e d m) f g = rw e (aligned-past k n (least_place k r) (sufficient k r b (omega arith)) (g (omega arith)))

  -- ---- its slots were free
  pub vacant-before : (a : ℕ) {n : ℕ} (t : Pieces n) → least_order k t ≤ WHOLE_ORDER → (i : ℕ) → i < slots_in k
      → slot_holds a t (least_place k t + i) ≡ vacant
  vacant-before a (whole free) h i j = refl
  vacant-before a (whole held) h i j = absurd (omega arith)
  vacant-before a (whole (begun t)) h i j = absurd (omega arith)
  vacant-before a (halves {n} l r) h i j =
      by (half? k l r) (λ m. vacant-before a l m i j) (λ m. vacant-before (a + slots_in n) r m i j)
    where
      by : Half k l r → (least_order k l ≤ WHOLE_ORDER → slot_holds a l (least_place k l + i) ≡ vacant)
          → (least_order k r ≤ WHOLE_ORDER → slot_holds (a + slots_in n) r (least_place k r + i) ≡ vacant)
          → slot_holds a (halves l r) (least_place k (halves l r) + i) ≡ vacant
      by (low e d m) f g = rw e (at-lower a l r _ _ (omega (arith, fits l (omega arith))) (f (omega arith)))
      by (high e d m) f g = rw e (at-upper a l r _ _ _ (g (omega arith)))

  -- ---- they are the strip's now

  halved-inside : (a n : ℕ) → k ≤ n → (i : ℕ) → i < slots_in k → slot_holds a (halved_to k n) i ≡ within a k held
  halved-inside a zero h i j =
      let e : k ≡ 0 = omega arith in
      rw e
  halved-inside a (suc n) h i j = by (order? n k) (λ g. halved-inside a n g i j)
    where
      by : Order n k → (k ≤ n → slot_holds a (halved_to k n) i ≡ within a k held)
          → slot_holds a (halved_to k (suc n)) i ≡ within a k held
      by (before l) f =
          let e : k ≡ suc n = omega arith in
          rw (lt-leb _ _ l, e)
      by (after g) f =
          rw (le-leb _ _ g) (at-lower a (halved_to k n) (whole free) i _ (omega (arith, larger k n g)) (f g))

  pub taken : (a : ℕ) {n : ℕ} (t : Pieces n) → least_order k t ≤ WHOLE_ORDER → (i : ℕ) → i < slots_in k
      → slot_holds a (least_halved k t) (least_place k t + i) ≡ within (a + least_place k t) k held
  taken a (whole {n} free) h i j =
      let d : 0 + i ≡ i = omega arith in
      let e : a + 0 ≡ a = omega arith in
      rw (d, e) (halved-inside a n (enough k n h) i j)
  taken a (whole held) h i j = absurd (omega arith)
  taken a (whole (begun t)) h i j = absurd (omega arith)
  taken a (halves {n} l r) h i j = by (half? k l r) (λ m. taken a l m i j) (λ m. taken (a + slots_in n) r m i j)
    where
      by : Half k l r
          → (least_order k l ≤ WHOLE_ORDER
          → slot_holds a (least_halved k l) (least_place k l + i) ≡ within (a + least_place k l) k held)
          → (least_order k r ≤ WHOLE_ORDER
          → slot_holds (a + slots_in n) (least_halved k r) (least_place k r + i)
          ≡ within (a + slots_in n + least_place k r) k held)
          → slot_holds a (least_halved k (halves l r)) (least_place k (halves l r) + i)
          ≡ within (a + least_place k (halves l r)) k held
      by (low e d m) f g =
          rw e (at-lower a (least_halved k l) r _ _ (omega (arith, fits l (omega arith))) (f (omega arith)))
      by (high e d m) f g =
          let c : a + (slots_in n + least_place k r) ≡ a + slots_in n + least_place k r = omega arith in
          rw (e, c) (at-upper a l (least_halved k r) _ _ _ (g (omega arith)))

  -- ---- every other slot stays

  halved-outside : (a n : ℕ) → k ≤ n → (p : ℕ) → p < slots_in n → slots_in k ≤ p
      → slot_holds a (halved_to k n) p ≡ vacant
  halved-outside a zero h p j g = absurd (omega (arith, some k))
  halved-outside a (suc n) h p j g = by (order? n k) (order? p (slots_in n)) (λ m q. halved-outside a n m p q g)
    where
      by : Order n k → Order p (slots_in n) → (k ≤ n → p < slots_in n → slot_holds a (halved_to k n) p ≡ vacant)
          → slot_holds a (halved_to k (suc n)) p ≡ vacant
      by (before l) o f =
          let e : k ≡ suc n = omega arith in
          absurd (omega (arith, ap slots_in e))
      by (after m) (before q) f = rw (le-leb _ _ m) (at-lower a (halved_to k n) (whole free) p _ q (f m q))
      by (after m) (after q) f = rw (le-leb _ _ m) (upper a (halved_to k n) (whole free) p q)

  pub others : (a : ℕ) {n : ℕ} (t : Pieces n) → least_order k t ≤ WHOLE_ORDER → (p : ℕ) → p < slots_in n
      → (least_place k t ≤ p → least_place k t + slots_in k ≤ p) → slot_holds a (least_halved k t) p ≡ slot_holds a t p
  others a (whole {n} free) h p j o = halved-outside a n (enough k n h) p j (omega (arith, o (omega arith)))
  others a (whole held) h p j o = absurd (omega arith)
  others a (whole (begun t)) h p j o = absurd (omega arith)
  others a (halves {n} l r) h p j o =
      by (half? k l r) (order? p (slots_in n)) (λ m q w. others a l m p q w)
      (λ m q w. others (a + slots_in n) r m (p - slots_in n) q w)
    where
      by : Half k l r → Order p (slots_in n)
          → (least_order k l ≤ WHOLE_ORDER → p < slots_in n → (least_place k l ≤ p → least_place k l + slots_in k ≤ p)
          → slot_holds a (least_halved k l) p ≡ slot_holds a l p)
          → (least_order k r ≤ WHOLE_ORDER → p - slots_in n < slots_in n
          → (least_place k r ≤ p - slots_in n → least_place k r + slots_in k ≤ p - slots_in n)
          → slot_holds (a + slots_in n) (least_halved k r) (p - slots_in n)
          ≡ slot_holds (a + slots_in n) r (p - slots_in n))
          → slot_holds a (least_halved k (halves l r)) p ≡ slot_holds a (halves l r) p
      by (low e d m) (before q) f g =
          let w : least_place k l ≤ p → least_place k l + slots_in k ≤ p = rw e at o in
          rw e (lower a (least_halved k l) r p q ∙ f (omega arith) q w ∙ sym (lower a l r p q))
      by (low e d m) (after q) f g = rw e (upper a (least_halved k l) r p q ∙ sym (upper a l r p q))
      by (high e d m) (before q) f g = rw e (lower a l (least_halved k r) p q ∙ sym (lower a l r p q))
      by (high e d m) (after q) f g =
          let w : slots_in n + least_place k r ≤ p → slots_in n + least_place k r + slots_in k ≤ p = rw e at o in
          rw e (upper a l (least_halved k r) p q
          ∙ g (omega arith) (omega arith) (λ x. omega (arith, w (omega arith)))
          ∙ sym (upper a l r p q))

  -- ---- normal form

  halved-used : (n : ℕ) → is_free_piece (halved_to k n) ≡ false
  halved-used zero = refl
  halved-used (suc n) = by (order? n k)
    where
      by : Order n k → is_free_piece (halved_to k (suc n)) ≡ false
      by (before l) = rw (lt-leb _ _ l)
      by (after g) = rw (le-leb _ _ g)

  halved-joined : (n : ℕ) → Joined (halved_to k n)
  halved-joined zero = tt
  halved-joined (suc n) = by (order? n k) (halved-joined n)
    where
      by : Order n k → Joined (halved_to k n) → Joined (halved_to k (suc n))
      by (before l) f = rw (lt-leb _ _ l) tt
      by (after g) f = rw (le-leb _ _ g) (rw (halved-used n), f, tt)

  cut-used : {n : ℕ} (t : Pieces n) → is_free_piece (least_halved k t) ≡ false
  cut-used (whole {n} s) = halved-used n
  cut-used (halves l r) = by (half? k l r)
    where
      by : Half k l r → is_free_piece (least_halved k (halves l r)) ≡ false
      by (low e d m) = rw e
      by (high e d m) = rw e

  -- no piece comes to stand as two free halves
  pub take-joined : {n : ℕ} (t : Pieces n) → Joined t → Joined (least_halved k t)
  take-joined (whole {n} s) m = halved-joined n
  take-joined (halves l r) m = by (half? k l r) (take-joined l m.1) (take-joined r m.2)
    where
      by : Half k l r → Joined (least_halved k l) → Joined (least_halved k r) → Joined (least_halved k (halves l r))
      by (low e d w) f g = rw e (no-first (is_free_piece (least_halved k l)) (is_free_piece r) (cut-used l), f, m.2)
      by (high e d w) f g = rw e (no_second (is_free_piece l) (is_free_piece (least_halved k r)) (cut-used r), m.1, g)
