-- Where strips begin, after a take and after a change of one strip.
use mathlib.Core.Path.{◌≡◌, refl, sym, ◌∙◌}
use mathlib.Core.Logic.{◌≢◌}
use mathlib.Core.Bool.{true, ◌&&◌}
use Prim.Native.Nat.{ℕ, zero, suc, ◌+◌, ◌-◌, ◌≤◌, ◌<◌}
use native.Mathlib.Omega.{arith}
use borrow.Author.Tests.{le-leb, lt-leb, lt-ltb, le-ltb, ne_eqb}
use Rattle.limits.specs.Limits.{WHOLE_ORDER}
use Rattle.rows.specs.Comparisons.{Order, before, after, order?, Truth, holds, fails, true?}
use Rattle.pieces.specs.Pieces.{slots_in, PieceState, free, held, begun, Pieces, whole, halves, is_free_piece}
use Rattle.pieces.specs.Strips.{least_order, least_place, halved_to, least_halved, StripStart, nowhere, here}
use Rattle.pieces.specs.Strips.{strip_starts, free_begun, join_halves, give_strip}
use Rattle.pieces.specs.PieceRows.{AtMultiple}
use Rattle.pieces.proofs.PieceLengths.{some, aligned-past}
use Rattle.pieces.proofs.LeastPieces.{Half, low, high, half?, enough}
use Rattle.pieces.proofs.StripTaking.{fits}
use Rattle.pieces.proofs.StripGiving.{Is, first-is}
use Rattle.pieces.proofs.BothFree.{both_left, both_right}

module _ {n : ℕ} (l r : Pieces n) (p : ℕ) where
  pub in-lower : p < slots_in n → strip_starts (halves l r) p ≡ strip_starts l p
  in-lower h = rw (lt-ltb _ _ h)

  pub in-upper : slots_in n ≤ p → strip_starts (halves l r) p ≡ strip_starts r (p - slots_in n)
  in-upper h = rw (le-ltb _ _ h)

-- after a change at the place p the strip x begins there, or none, and everywhere else what did
pub record Begins {n : ℕ} (t new : Pieces n) (p : ℕ) (x : StripStart) : Type 0 where
  pub here : strip_starts new p ≡ x
  pub others : (q : ℕ) → q < slots_in n → q ≢ p → strip_starts new q ≡ strip_starts t q

module _ {n : ℕ} (l r : Pieces n) (p : ℕ) (x : StripStart) where
  at-lower : (new : Pieces n) → p < slots_in n → Begins l new p x → Begins (halves l r) (halves new r) p x
  at-lower new h b = record { here = in-lower new r p h ∙ b.here; others = λ q j d. by q j d (order? q (slots_in n)) }
    where
      by : (q : ℕ) → q < slots_in (suc n) → q ≢ p → Order q (slots_in n)
          → strip_starts (halves new r) q ≡ strip_starts (halves l r) q
      by q j d (before m) = in-lower new r q m ∙ b.others q m d ∙ sym (in-lower l r q m)
      by q j d (after m) = in-upper new r q m ∙ sym (in-upper l r q m)

  at-upper : (new : Pieces n) → slots_in n ≤ p → Begins r new (p - slots_in n) x
      → Begins (halves l r) (halves l new) p x
  at-upper new h b = record { here = in-upper l new p h ∙ b.here; others = λ q j d. by q j d (order? q (slots_in n)) }
    where
      by : (q : ℕ) → q < slots_in (suc n) → q ≢ p → Order q (slots_in n)
          → strip_starts (halves l new) q ≡ strip_starts (halves l r) q
      by q j d (before m) = in-lower l new q m ∙ sym (in-lower l r q m)
      by q j d (after m) =
          in-upper l new q m ∙ b.others (q - slots_in n) (omega arith) (λ e. d (omega arith)) ∙ sym (in-upper l r q m)

-- ---- take

module _ (k : ℕ) where
  halved-begins : (n : ℕ) → k ≤ n → Begins (whole {n = n} free) (halved_to k n) 0 (here k held)
  halved-begins zero h =
      let e : k ≡ 0 = omega arith in
      rw e (record { here = refl; others = λ q j d. rw (ne_eqb q 0 d) })
  halved-begins (suc n) h = by (order? n k) (halved-begins n)
    where
      free-both : (q : ℕ) → strip_starts (halves (whole {n = n} free) (whole {n = n} free)) q ≡ nowhere
      free-both q = at (order? q (slots_in n))
        where
          at : Order q (slots_in n) → strip_starts (halves (whole {n = n} free) (whole {n = n} free)) q ≡ nowhere
          at (before m) = in-lower (whole {n = n} free) (whole {n = n} free) q m
          at (after m) = in-upper (whole {n = n} free) (whole {n = n} free) q m

      by : Order n k → (k ≤ n → Begins (whole {n = n} free) (halved_to k n) 0 (here k held))
          → Begins (whole {n = suc n} free) (halved_to k (suc n)) 0 (here k held)
      by (before l) f =
          let e : k ≡ suc n = omega arith in
          rw (lt-leb _ _ l, e) (record { here = refl; others = λ q j d. rw (ne_eqb q 0 d) })
      by (after g) f =
          let b = at-lower (whole {n = n} free) (whole {n = n} free) 0 (here k held) (halved_to k n) (some n) (f g) in
          rw (le-leb _ _ g) (record { here = b.here; others = λ q j d. b.others q j d ∙ free-both q })

  pub taken-begins : {n : ℕ} (t : Pieces n) → least_order k t ≤ WHOLE_ORDER
      → Begins t (least_halved k t) (least_place k t) (here k held)
  taken-begins (whole {n} free) h = halved-begins n (enough k n h)
  taken-begins (whole held) h = absurd (omega arith)
  taken-begins (whole (begun t)) h = absurd (omega arith)
  taken-begins (halves {n} l r) h = by (half? k l r) (taken-begins l) (taken-begins r)
    where
      by : Half k l r → (least_order k l ≤ WHOLE_ORDER → Begins l (least_halved k l) (least_place k l) (here k held))
          → (least_order k r ≤ WHOLE_ORDER → Begins r (least_halved k r) (least_place k r) (here k held))
          → Begins (halves l r) (least_halved k (halves l r)) (least_place k (halves l r)) (here k held)
      by (low e d m) f g =
          rw e (at-lower l r (least_place k l) (here k held) (least_halved k l)
          (omega (arith, fits k l (omega arith), some k)) (f (omega arith)))
      by (high e d m) f g =
          let z : slots_in n + least_place k r - slots_in n ≡ least_place k r = omega arith in
          rw e (at-upper l r (slots_in n + least_place k r) (here k held) (least_halved k r) (omega arith)
          (rw z (g (omega arith))))

-- ---- give

free-starts : {n : ℕ} (t : Pieces n) (p : ℕ) → is_free_piece t ≡ true → strip_starts t p ≡ nowhere
free-starts (whole free) p e = refl
free-starts (whole held) p e = cc
free-starts (whole (begun t)) p e = cc
free-starts (halves l r) p e = cc

join-starts : {n : ℕ} (l r : Pieces n) (p : ℕ) → strip_starts (join_halves l r) p ≡ strip_starts (halves l r) p
join-starts {n} l r p = by (true? (is_free_piece l && is_free_piece r)) (order? p (slots_in n))
  where
    by : Truth (is_free_piece l && is_free_piece r) → Order p (slots_in n)
        → strip_starts (join_halves l r) p ≡ strip_starts (halves l r) p
    by (holds e) (before h) =
        rw e (sym (in-lower l r p h ∙ free-starts l p (both_left (is_free_piece l) (is_free_piece r) e)))
    by (holds e) (after h) =
        rw e
        (sym (in-upper l r p h ∙ free-starts r (p - slots_in n) (both_right (is_free_piece l) (is_free_piece r) e)))
    by (fails e) o = rw e

join-begins : {n : ℕ} (t : Pieces (suc n)) (l r : Pieces n) (p : ℕ) (x : StripStart) → Begins t (halves l r) p x
    → Begins t (join_halves l r) p x
join-begins t l r p x b =
    record { here = join-starts l r p ∙ b.here; others = λ q j d. join-starts l r q ∙ b.others q j d }

-- a strip alone in its piece
alone : (n : ℕ) (u : PieceState) (new : Pieces n) (p k : ℕ) (s : PieceState) (x : StripStart) (t : Pieces n)
    → Is p n u k s
    → strip_starts new 0 ≡ x → ((q : ℕ) → q ≢ 0 → strip_starts new q ≡ strip_starts t q) → Begins t new p x
alone n u new p k s x t i a b = record {
  here = rw i.place a;
  others = λ q j d. b q (λ e. d (e ∙ sym i.place));
}

pub given-begins : {n : ℕ} (t : Pieces n) (p k : ℕ) (s : PieceState) → strip_starts t p ≡ here k s
    → Begins t (give_strip p t) p nowhere
given-begins (whole free) p k s e = let z : ◌≡◌ {A = ℕ} 0 1 = cc in absurd (omega arith)
given-begins (whole {n} held) p k s e =
    alone n held (whole free) p k s nowhere (whole held) (first-is p n held k s e) refl (λ q d. rw (ne_eqb q 0 d))
given-begins (whole {n} (begun t)) p k s e =
    alone n (begun t) (whole free) p k s nowhere (whole (begun t)) (first-is p n (begun t) k s e) refl
    (λ q d. rw (ne_eqb q 0 d))
given-begins (halves {n} l r) p k s e =
    by (order? p (slots_in n)) (given-begins l p k s) (given-begins r (p - slots_in n) k s)
  where
    by : Order p (slots_in n) → (strip_starts l p ≡ here k s → Begins l (give_strip p l) p nowhere)
        → (strip_starts r (p - slots_in n) ≡ here k s
        → Begins r (give_strip (p - slots_in n) r) (p - slots_in n) nowhere)
        → Begins (halves l r) (give_strip p (halves l r)) p nowhere
    by (before h) f g =
        rw (lt-ltb _ _ h)
        (join-begins _ _ _ p nowhere (at-lower l r p nowhere (give_strip p l) h (f (rw (lt-ltb _ _ h) at e))))
    by (after h) f g =
        rw (le-ltb _ _ h)
        (join-begins _ _ _ p nowhere
        (at-upper l r p nowhere (give_strip (p - slots_in n) r) h (g (rw (le-ltb _ _ h) at e))))

-- ---- begin

module _ (task : ℕ) where
  pub began-begins : {n : ℕ} (t : Pieces n) (p k : ℕ) (s : PieceState) → strip_starts t p ≡ here k s
      → Begins t (free_begun task p t) p (here k (begun task))
  began-begins (whole free) p k s e = let z : ◌≡◌ {A = ℕ} 0 1 = cc in absurd (omega arith)
  began-begins (whole {n} held) p k s e =
      let i = first-is p n held k s e in
      alone n held (whole (begun task)) p k s (here k (begun task)) (whole held) i (rw i.order)
      (λ q d. rw (ne_eqb q 0 d))
  began-begins (whole {n} (begun t)) p k s e =
      let i = first-is p n (begun t) k s e in
      alone n (begun t) (whole (begun task)) p k s (here k (begun task)) (whole (begun t)) i (rw i.order)
      (λ q d. rw (ne_eqb q 0 d))
  began-begins (halves {n} l r) p k s e =
      by (order? p (slots_in n)) (began-begins l p k s) (began-begins r (p - slots_in n) k s)
    where
      by : Order p (slots_in n) → (strip_starts l p ≡ here k s → Begins l (free_begun task p l) p (here k (begun task)))
          → (strip_starts r (p - slots_in n) ≡ here k s
          → Begins r (free_begun task (p - slots_in n) r) (p - slots_in n) (here k (begun task)))
          → Begins (halves l r) (free_begun task p (halves l r)) p (here k (begun task))
      by (before h) f g =
          rw (lt-ltb _ _ h) (at-lower l r p (here k (begun task)) (free_begun task p l) h (f (rw (lt-ltb _ _ h) at e)))
      by (after h) f g =
          rw (le-ltb _ _ h)
          (at-upper l r p (here k (begun task)) (free_begun task (p - slots_in n) r) h (g (rw (le-ltb _ _ h) at e)))

-- ---- a strip's order and place

-- a strip's order is at most that of the whole, and its place a multiple of its length
pub strip_order : {n : ℕ} (t : Pieces n) (p k : ℕ) (s : PieceState) → strip_starts t p ≡ here k s → k ≤ n
strip_order (whole free) p k s e = let z : ◌≡◌ {A = ℕ} 0 1 = cc in absurd (omega arith)
strip_order (whole {n} held) p k s e = omega (arith, (first-is p n held k s e).order)
strip_order (whole {n} (begun t)) p k s e = omega (arith, (first-is p n (begun t) k s e).order)
strip_order (halves {n} l r) p k s e =
    by (order? p (slots_in n)) (strip_order l p k s) (strip_order r (p - slots_in n) k s)
  where
    by : Order p (slots_in n) → (strip_starts l p ≡ here k s → k ≤ n)
        → (strip_starts r (p - slots_in n) ≡ here k s → k ≤ n)
        → k ≤ suc n
    by (before h) f g = omega (arith, f (rw (lt-ltb _ _ h) at e))
    by (after h) f g = omega (arith, g (rw (le-ltb _ _ h) at e))

pub strip-aligned : {n : ℕ} (t : Pieces n) (p k : ℕ) (s : PieceState) → strip_starts t p ≡ here k s → AtMultiple p k
strip-aligned (whole free) p k s e = let z : ◌≡◌ {A = ℕ} 0 1 = cc in absurd (omega arith)
strip-aligned (whole {n} held) p k s e = record { times = 0; is = omega (arith, (first-is p n held k s e).place) }
strip-aligned (whole {n} (begun t)) p k s e =
    record { times = 0; is = omega (arith, (first-is p n (begun t) k s e).place) }
strip-aligned (halves {n} l r) p k s e =
    by (order? p (slots_in n)) (strip-aligned l p k s) (strip-aligned r (p - slots_in n) k s)
  where
    by : Order p (slots_in n) → (strip_starts l p ≡ here k s → AtMultiple p k)
        → (strip_starts r (p - slots_in n) ≡ here k s → AtMultiple (p - slots_in n) k)
        → AtMultiple p k
    by (before h) f g = f (rw (lt-ltb _ _ h) at e)
    by (after h) f g =
        let c = rw (le-ltb _ _ h) at e in
        let z : slots_in n + (p - slots_in n) ≡ p = omega arith in
        rw z at (aligned-past k n (p - slots_in n) (strip_order r (p - slots_in n) k s c) (g c))
