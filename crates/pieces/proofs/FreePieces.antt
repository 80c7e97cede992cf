-- Pieces whose slots are all free.
use mathlib.Core.Path.{◌≡◌, refl, sym, ◌∙◌}
use mathlib.Core.Bool.{Bool, true, false}
use Prim.Native.Nat.{ℕ, ◌+◌, ◌-◌, ◌≤◌, ◌<◌}
use native.Mathlib.Omega.{arith}
use borrow.Author.Tests.{lt-ltb, le-ltb}
use Rattle.pieces.specs.Pieces.{slots_in, free, held, begun, Pieces, whole, halves, is_free_piece, Joined}
use Rattle.pieces.specs.StripSlots.{SlotHolds, vacant, slot_holds}
use Rattle.pieces.proofs.PieceLengths.{some}

-- a free piece's slots are all free
pub free-vacant : (a : ℕ) {n : ℕ} (t : Pieces n) (p : ℕ) → is_free_piece t ≡ true → slot_holds a t p ≡ vacant
free-vacant a (whole free) p e = refl
free-vacant a (whole held) p e = cc
free-vacant a (whole (begun t)) p e = cc
free-vacant a (halves l r) p e = cc

module _ (a : ℕ) {n : ℕ} (l r : Pieces n) (p : ℕ) where
  -- a slot of the lower half, and one of the upper
  pub lower : p < slots_in n → slot_holds a (halves l r) p ≡ slot_holds a l p
  lower h = rw (lt-ltb _ _ h)

  pub upper : slots_in n ≤ p → slot_holds a (halves l r) p ≡ slot_holds (a + slots_in n) r (p - slots_in n)
  upper h = rw (le-ltb _ _ h)

pub at-lower : (a : ℕ) {n : ℕ} (l r : Pieces n) (p : ℕ) (x : SlotHolds) → p < slots_in n → slot_holds a l p ≡ x
    → slot_holds a (halves l r) p ≡ x
at-lower a l r p x h e = lower a l r p h ∙ e

pub at-upper : (a : ℕ) {n : ℕ} (l r : Pieces n) (p i : ℕ) (x : SlotHolds) → slot_holds (a + slots_in n) r (p + i) ≡ x
    → slot_holds a (halves l r) (slots_in n + p + i) ≡ x
at-upper a {n} l r p i x e =
    let d : slots_in n + p + i - slots_in n ≡ p + i = omega arith in
    upper a l r (slots_in n + p + i) (omega arith) ∙ rw d e

-- where no piece stands as two free halves, pieces whose slots are all free are one free piece
pub all-free : (a : ℕ) {n : ℕ} (t : Pieces n) → Joined t → ((p : ℕ) → p < slots_in n → slot_holds a t p ≡ vacant)
    → is_free_piece t ≡ true
all-free a (whole free) m h = refl
all-free a (whole {n} held) m h = let e = h 0 (some n) in (cc)
all-free a (whole {n} (begun t)) m h = let e = h 0 (some n) in (cc)
all-free a (halves {n} l r) m h =
    both (all-free a l m.1 (λ p k. sym (lower a l r p k) ∙ h p (omega arith)))
    (all-free (a + slots_in n) r m.2 (λ p k. second p k))
  where
    second : (p : ℕ) → p < slots_in n → slot_holds (a + slots_in n) r p ≡ vacant
    second p k =
        let e : slots_in n + p - slots_in n ≡ p = omega arith in
        rw e at (sym (upper a l r (slots_in n + p) (omega arith)) ∙ h (slots_in n + p) (omega arith))

    both : is_free_piece l ≡ true → is_free_piece r ≡ true → is_free_piece (halves l r) ≡ true
    both e f = let z : ◌≡◌ {A = Bool} true false = rw (e, f) at m.0 in (cc)
