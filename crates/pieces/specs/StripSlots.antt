-- docs/POOL.md, "Strips"
-- The strips' memory slot by slot.
use Rattle.std.specs.Prelude.{◌≡◌, cond, ℕ, ◌+◌, ◌-◌, ◌*◌, ◌<◌, ◌≤◌, ltb}
use Rattle.pieces.specs.Pieces.{slots_in, PieceState, free, held, begun, Pieces, whole, halves}

-- what a slot is in: nothing, for it is free, or the strip of this place, order and state
pub data SlotHolds : Type 0 where
  vacant : SlotHolds
  within : ℕ → ℕ → PieceState → SlotHolds

-- what the slot s is in, of pieces with a slots before them
abbrev pub slot_holds : ℕ → {n : ℕ} → Pieces n → ℕ → SlotHolds
slot_holds a (whole free) s = vacant
slot_holds a (whole {n} held) s = within a n held
slot_holds a (whole {n} (begun t)) s = within a n (begun t)
slot_holds a (halves {n} l r) s =
    cond (ltb s (slots_in n)) (slot_holds a l s) (slot_holds (a + slots_in n) r (s - slots_in n))

-- "aligned free stretch of the rounded size": as long as a strip of order k, q times its length from the first slot on,
-- it lies in the pieces, and each of its slots is free
pub record FreeStretch {n : ℕ} (p : Pieces n) (k q : ℕ) : Type 0 where
  pub fits : q * slots_in k + slots_in k ≤ slots_in n
  pub is_free : (i : ℕ) → i < slots_in k → slot_holds 0 p (q * slots_in k + i) ≡ vacant
