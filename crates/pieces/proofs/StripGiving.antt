-- Giving a strip back: its slots are free, every other slot stays, and no piece stands as two free halves.
use mathlib.Core.Path.{◌≡◌, refl, sym, ap, ◌∙◌}
use mathlib.Core.Bool.{false, ◌&&◌}
use Prim.Native.Nat.{ℕ, suc, ◌+◌, ◌-◌, ◌≤◌, ◌<◌}
use native.Mathlib.Omega.{arith}
use borrow.Author.Tests.{lt-ltb, le-ltb, eq-eqb, ne_eqb}
use Rattle.rows.specs.Comparisons.{Order, before, after, order?, Truth, holds, fails, true?, Equality, same, other}
use Rattle.rows.specs.Comparisons.{same?}
use Rattle.pieces.specs.Pieces.{slots_in, PieceState, free, held, begun, Pieces, whole, halves, is_free_piece}
use Rattle.pieces.specs.Pieces.{Joined}
use Rattle.pieces.specs.Strips.{nowhere, here, start_at_first, strip_starts, free_begun, join_halves, give_strip}
use Rattle.pieces.specs.StripSlots.{SlotHolds, vacant, within, slot_holds}
use Rattle.pieces.proofs.FreePieces.{free-vacant, lower, upper}
use Rattle.pieces.proofs.BothFree.{both_left, both_right, no-first, no_second}

-- ---- what begins at a place

-- a strip that begins at a place of a piece is that piece
pub record Is (p n : ℕ) (u : PieceState) (k : ℕ) (s : PieceState) : Type 0 where
  pub place : p ≡ 0
  pub order : n ≡ k
  pub state : u ≡ s

pub first-is : (p n : ℕ) (u : PieceState) (k : ℕ) (s : PieceState) → start_at_first p n u ≡ here k s → Is p n u k s
first-is p n u k s e = by (same? p 0)
  where
    by : Equality p 0 → Is p n u k s
    by (same d) = let f : here n u ≡ here k s = rw (eq-eqb _ _ d) at e in record { place = d; order = cc; state = cc }
    by (other d) =
        let f : nowhere ≡ here k s = rw (ne_eqb _ _ d) at e in
        let z : ◌≡◌ {A = ℕ} 0 1 = cc in
        absurd (omega arith)

-- the strip lies in the pieces
pub strip-fits : {n : ℕ} (t : Pieces n) (p k : ℕ) (s : PieceState) → strip_starts t p ≡ here k s
    → p + slots_in k ≤ slots_in n
strip-fits (whole free) p k s e = let z : ◌≡◌ {A = ℕ} 0 1 = cc in absurd (omega arith)
strip-fits (whole {n} held) p k s e = let i = first-is p n held k s e in omega (arith, ap slots_in i.order)
strip-fits (whole {n} (begun t)) p k s e = let i = first-is p n (begun t) k s e in omega (arith, ap slots_in i.order)
strip-fits (halves {n} l r) p k s e =
    by (order? p (slots_in n)) (strip-fits l p k s) (strip-fits r (p - slots_in n) k s)
  where
    by : Order p (slots_in n) → (strip_starts l p ≡ here k s → p + slots_in k ≤ slots_in n)
        → (strip_starts r (p - slots_in n) ≡ here k s → p - slots_in n + slots_in k ≤ slots_in n)
        → p + slots_in k ≤ slots_in (suc n)
    by (before h) f g = omega (arith, f (rw (lt-ltb _ _ h) at e))
    by (after h) f g = omega (arith, g (rw (le-ltb _ _ h) at e))

-- the slot where a strip starts is in that strip
pub starts-in : (a : ℕ) {n : ℕ} (t : Pieces n) (p k : ℕ) (s : PieceState) → strip_starts t p ≡ here k s
    → slot_holds a t p ≡ within (a + p) k s
starts-in a (whole free) p k s e = let z : ◌≡◌ {A = ℕ} 0 1 = cc in absurd (omega arith)
starts-in a (whole {n} held) p k s e =
    let i = first-is p n held k s e in
    let f : a ≡ a + p = omega (arith, i.place) in
    rw (← i.order, ← i.state, ← f)
starts-in a (whole {n} (begun t)) p k s e =
    let i = first-is p n (begun t) k s e in
    let f : a ≡ a + p = omega (arith, i.place) in
    rw (← i.order, ← i.state, ← f)
starts-in a (halves {n} l r) p k s e =
    by (order? p (slots_in n)) (starts-in a l p k s) (starts-in (a + slots_in n) r (p - slots_in n) k s)
  where
    by : Order p (slots_in n) → (strip_starts l p ≡ here k s → slot_holds a l p ≡ within (a + p) k s)
        → (strip_starts r (p - slots_in n) ≡ here k s
        → slot_holds (a + slots_in n) r (p - slots_in n) ≡ within (a + slots_in n + (p - slots_in n)) k s)
        → slot_holds a (halves l r) p ≡ within (a + p) k s
    by (before h) f g = lower a l r p h ∙ f (rw (lt-ltb _ _ h) at e)
    by (after h) f g =
        let d : a + slots_in n + (p - slots_in n) ≡ a + p = omega arith in
        upper a l r p h ∙ rw d at (g (rw (le-ltb _ _ h) at e))

-- ---- joining changes no slot

pub join_slot : (a : ℕ) {n : ℕ} (l r : Pieces n) (p : ℕ)
    → slot_holds a (join_halves l r) p ≡ slot_holds a (halves l r) p
join_slot a {n} l r p = by (true? (is_free_piece l && is_free_piece r)) (order? p (slots_in n))
  where
    by : Truth (is_free_piece l && is_free_piece r) → Order p (slots_in n)
        → slot_holds a (join_halves l r) p ≡ slot_holds a (halves l r) p
    by (holds e) (before h) =
        rw e (sym (lower a l r p h ∙ free-vacant a l p (both_left (is_free_piece l) (is_free_piece r) e)))
    by (holds e) (after h) =
        rw e (sym (upper a l r p h
        ∙ free-vacant (a + slots_in n) r (p - slots_in n) (both_right (is_free_piece l) (is_free_piece r) e)))
    by (fails e) o = rw e

join-joined : {n : ℕ} (l r : Pieces n) → Joined l → Joined r → Joined (join_halves l r)
join-joined l r m w = by (true? (is_free_piece l && is_free_piece r))
  where
    by : Truth (is_free_piece l && is_free_piece r) → Joined (join_halves l r)
    by (holds e) = rw e tt
    by (fails e) = rw e (e, m, w)

-- ---- a strip that is changed to some pieces of its own length: the free is begun, or the strip is given back

-- after a change at the place p the strip's slots are x, and every other slot is as it was
pub record At (a : ℕ) {n : ℕ} (t new : Pieces n) (p k : ℕ) (x : SlotHolds) : Type 0 where
  pub inside : (i : ℕ) → i < slots_in k → slot_holds a new (p + i) ≡ x
  pub others : (q : ℕ) → q < slots_in n → (p ≤ q → p + slots_in k ≤ q) → slot_holds a new q ≡ slot_holds a t q

module _ (a : ℕ) {n : ℕ} (l r : Pieces n) (p k : ℕ) (x : SlotHolds) where
  in-lower : (new : Pieces n) → p + slots_in k ≤ slots_in n → At a l new p k x → At a (halves l r) (halves new r) p k x
  in-lower new b h = record {
    inside = λ i j. lower a new r (p + i) (omega arith) ∙ h.inside i j;
    others = λ q j o. by q j o (order? q (slots_in n));
  }
    where
      by : (q : ℕ) → q < slots_in (suc n) → (p ≤ q → p + slots_in k ≤ q) → Order q (slots_in n)
          → slot_holds a (halves new r) q ≡ slot_holds a (halves l r) q
      by q j o (before m) = lower a new r q m ∙ h.others q m o ∙ sym (lower a l r q m)
      by q j o (after m) = upper a new r q m ∙ sym (upper a l r q m)

  in-upper : (new : Pieces n) → slots_in n ≤ p → At (a + slots_in n) r new (p - slots_in n) k x
      → At a (halves l r) (halves l new) p k x
  in-upper new b h = record {
    inside = λ i j. in-at i j;
    others = λ q j o. by q j o (order? q (slots_in n));
  }
    where
      in-at : (i : ℕ) → i < slots_in k → slot_holds a (halves l new) (p + i) ≡ x
      in-at i j =
          let e : p + i - slots_in n ≡ p - slots_in n + i = omega arith in
          upper a l new (p + i) (omega arith) ∙ rw e (h.inside i j)

      by : (q : ℕ) → q < slots_in (suc n) → (p ≤ q → p + slots_in k ≤ q) → Order q (slots_in n)
          → slot_holds a (halves l new) q ≡ slot_holds a (halves l r) q
      by q j o (before m) = lower a l new q m ∙ sym (lower a l r q m)
      by q j o (after m) =
          upper a l new q m
          ∙ h.others (q - slots_in n) (omega arith) (λ w. omega (arith, o (omega arith)))
          ∙ sym (upper a l r q m)

-- joined or not, the slots are the same
join-at : (a : ℕ) {n : ℕ} (t : Pieces (suc n)) (l r : Pieces n) (p k : ℕ) (x : SlotHolds) → At a t (halves l r) p k x
    → At a t (join_halves l r) p k x
join-at a t l r p k x h = record {
  inside = λ i j. join_slot a l r (p + i) ∙ h.inside i j;
  others = λ q j o. join_slot a l r q ∙ h.others q j o;
}

-- a whole piece of order k that is changed to one whose slots are x
whole-at : (a n : ℕ) (t new : Pieces n) (p k : ℕ) (x : SlotHolds) → p ≡ 0 → n ≡ k → ((i : ℕ) → slot_holds a new i ≡ x)
    → At a t new p k x
whole-at a n t new p k x d e h = record {
  inside = λ i j. h (p + i);
  others = λ q j o. absurd (omega (arith, ap slots_in e, o (omega arith)));
}

-- ---- give

pub given : (a : ℕ) {n : ℕ} (t : Pieces n) (p k : ℕ) (s : PieceState) → strip_starts t p ≡ here k s
    → At a t (give_strip p t) p k vacant
given a (whole free) p k s e = let z : ◌≡◌ {A = ℕ} 0 1 = cc in absurd (omega arith)
given a (whole {n} held) p k s e =
    let i = first-is p n held k s e in
    whole-at a n (whole held) (whole free) p k vacant i.place i.order (λ q. refl)
given a (whole {n} (begun t)) p k s e =
    let i = first-is p n (begun t) k s e in
    whole-at a n (whole (begun t)) (whole free) p k vacant i.place i.order (λ q. refl)
given a (halves {n} l r) p k s e =
    by (order? p (slots_in n)) (given a l p k s) (given (a + slots_in n) r (p - slots_in n) k s)
  where
    by : Order p (slots_in n) → (strip_starts l p ≡ here k s → At a l (give_strip p l) p k vacant)
        → (strip_starts r (p - slots_in n) ≡ here k s
        → At (a + slots_in n) r (give_strip (p - slots_in n) r) (p - slots_in n) k vacant)
        → At a (halves l r) (give_strip p (halves l r)) p k vacant
    by (before h) f g =
        let c = rw (lt-ltb _ _ h) at e in
        rw (lt-ltb _ _ h) (join-at a _ _ _ p k vacant (in-lower a l r p k vacant _ (strip-fits l p k s c) (f c)))
    by (after h) f g =
        let c = rw (le-ltb _ _ h) at e in
        rw (le-ltb _ _ h) (join-at a _ _ _ p k vacant (in-upper a l r p k vacant _ h (g c)))

-- no piece stands as two free halves
pub give-joined : {n : ℕ} (t : Pieces n) (p : ℕ) → Joined t → Joined (give_strip p t)
give-joined (whole s) p m = tt
give-joined (halves {n} l r) p m =
    by (order? p (slots_in n)) (give-joined l p m.1) (give-joined r (p - slots_in n) m.2)
  where
    by : Order p (slots_in n) → Joined (give_strip p l) → Joined (give_strip (p - slots_in n) r)
        → Joined (give_strip p (halves l r))
    by (before h) f g = rw (lt-ltb _ _ h) (join-joined (give_strip p l) r f m.2)
    by (after h) f g = rw (le-ltb _ _ h) (join-joined l (give_strip (p - slots_in n) r) m.1 g)

-- ---- begin

module _ (task : ℕ) where
  pub began : (a : ℕ) {n : ℕ} (t : Pieces n) (p k : ℕ) (s : PieceState) → strip_starts t p ≡ here k s
      → At a t (free_begun task p t) p k (within (a + p) k (begun task))
  began a (whole free) p k s e = let z : ◌≡◌ {A = ℕ} 0 1 = cc in absurd (omega arith)
  began a (whole {n} held) p k s e =
      let i = first-is p n held k s e in
      let d : a + p ≡ a = omega (arith, i.place) in
      whole-at a n (whole held) (whole (begun task)) p k _ i.place i.order (λ q. rw (d, ← i.order))
  began a (whole {n} (begun t)) p k s e =
      let i = first-is p n (begun t) k s e in
      let d : a + p ≡ a = omega (arith, i.place) in
      whole-at a n (whole (begun t)) (whole (begun task)) p k _ i.place i.order (λ q. rw (d, ← i.order))
  began a (halves {n} l r) p k s e =
      by (order? p (slots_in n)) (began a l p k s) (began (a + slots_in n) r (p - slots_in n) k s)
    where
      by : Order p (slots_in n)
          → (strip_starts l p ≡ here k s → At a l (free_begun task p l) p k (within (a + p) k (begun task)))
          → (strip_starts r (p - slots_in n) ≡ here k s
          → At (a + slots_in n) r (free_begun task (p - slots_in n) r) (p - slots_in n) k
          (within (a + slots_in n + (p - slots_in n)) k (begun task)))
          → At a (halves l r) (free_begun task p (halves l r)) p k (within (a + p) k (begun task))
      by (before h) f g =
          let c = rw (lt-ltb _ _ h) at e in
          rw (lt-ltb _ _ h) (in-lower a l r p k _ _ (strip-fits l p k s c) (f c))
      by (after h) f g =
          let c = rw (le-ltb _ _ h) at e in
          let d : a + slots_in n + (p - slots_in n) ≡ a + p = omega arith in
          rw (le-ltb _ _ h) (in-upper a l r p k _ _ h (rw d at (g c)))

  begin-used : {n : ℕ} (t : Pieces n) (p : ℕ) → is_free_piece (free_begun task p t) ≡ false
  begin-used (whole s) p = refl
  begin-used (halves {n} l r) p = by (order? p (slots_in n))
    where
      by : Order p (slots_in n) → is_free_piece (free_begun task p (halves l r)) ≡ false
      by (before h) = rw (lt-ltb _ _ h)
      by (after h) = rw (le-ltb _ _ h)

  pub begin-joined : {n : ℕ} (t : Pieces n) (p : ℕ) → Joined t → Joined (free_begun task p t)
  begin-joined (whole s) p m = tt
  begin-joined (halves {n} l r) p m =
      by (order? p (slots_in n)) (begin-joined l p m.1) (begin-joined r (p - slots_in n) m.2)
    where
      by : Order p (slots_in n) → Joined (free_begun task p l) → Joined (free_begun task (p - slots_in n) r)
          → Joined (free_begun task p (halves l r))
      by (before h) f g =
          rw (lt-ltb _ _ h) (no-first (is_free_piece (free_begun task p l)) (is_free_piece r) (begin-used l p), f, m.2)
      by (after h) f g =
          rw (le-ltb _ _ h) (
            no_second (is_free_piece l) (is_free_piece (free_begun task (p - slots_in n) r))
                (begin-used r (p - slots_in n)),
            m.1,
            g,
          )
