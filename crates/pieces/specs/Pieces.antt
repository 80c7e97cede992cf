-- docs/POOL.md, "Strips"
-- The pieces of the strips' memory in the plain pool: its slots, halved again and again.
use Rattle.std.specs.Prelude.{◌≡◌, Bool, true, false, ◌&&◌, ℕ, zero, suc, ◌+◌}
use Rattle.limits.specs.Limits.{WHOLE_ORDER}

-- how many slots a piece of order n has: one, or twice those of its halves
abbrev pub slots_in : ℕ → ℕ
slots_in zero = 1
slots_in (suc n) = slots_in n + slots_in n

-- "each unit of that area is in exactly one strip or free piece": a piece is free, a strip in hand, or a strip whose
-- free the task of this number has begun
pub data PieceState : Type 0 where
  free : PieceState
  held : PieceState
  begun : ℕ → PieceState

-- "as a buddy system": a piece of order n as it stands, whole or its lower and its upper half. So by the way it is
-- built a piece has a power of two of slots and lies at a multiple of its own length, and the pieces from slot 0 on
-- fill the memory
pub data Pieces : ℕ → Type 0 where
  whole : {n : ℕ} → PieceState → Pieces n
  halves : {n : ℕ} → Pieces n → Pieces n → Pieces (suc n)

-- "A start leaves it one free piece"
abbrev pub one_piece : Pieces WHOLE_ORDER
one_piece = whole free

-- whether all of it is one free piece
abbrev pub is_free_piece : {n : ℕ} → Pieces n → Bool
is_free_piece (whole free) = true
is_free_piece (whole held) = false
is_free_piece (whole (begun t)) = false
is_free_piece (halves l r) = false

-- "Freed halves join whenever both are free": so no piece stands as two free halves
abbrev pub Joined : {n : ℕ} → Pieces n → Type 0
Joined (whole s) = Unit {0}
Joined (halves l r) = ((is_free_piece l && is_free_piece r) ≡ false) × Joined l × Joined r
