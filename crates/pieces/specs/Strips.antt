-- docs/POOL.md, "Strips"
-- Taking a strip, beginning its free, and giving it back, in the plain pool.
use Rattle.std.specs.Prelude.{Bool, cond, ◌&&◌, ℕ, zero, suc, ◌+◌, ◌-◌, min, leb, ltb, eqb}
use Rattle.limits.specs.Limits.{WHOLE_ORDER, ORDERS}
use Rattle.pieces.specs.Pieces.{slots_in, PieceState, free, held, begun, Pieces, whole, halves, is_free_piece}

-- ---- take

-- no order: the number behind the last one
abbrev pub NO_ORDER : ℕ
NO_ORDER = ORDERS

-- "the smallest sufficient piece": the order of the smallest free piece of order k or more, or no order
abbrev pub least_order : ℕ → {n : ℕ} → Pieces n → ℕ
least_order k (whole {n} free) = cond (leb k n) n NO_ORDER
least_order k (whole held) = NO_ORDER
least_order k (whole (begun t)) = NO_ORDER
least_order k (halves l r) = min (least_order k l) (least_order k r)

-- "at the lowest place among equals": that piece is in the lower half, unless only the upper has one as small
abbrev pub least_in_lower : ℕ → {n : ℕ} → Pieces n → Pieces n → Bool
least_in_lower k l r = leb (least_order k l) (least_order k r)

-- the place of that piece: how many slots are before it
abbrev pub least_place : ℕ → {n : ℕ} → Pieces n → ℕ
least_place k (whole s) = 0
least_place k (halves {n} l r) = cond (least_in_lower k l r) (least_place k l) (slots_in n + least_place k r)

-- "A free piece is halved again and again until it fits, lower half first": a free piece of order n, halved to a strip
-- of order k; the upper halves stay free
abbrev pub halved_to : ℕ → (n : ℕ) → Pieces n
halved_to k zero = whole held
halved_to k (suc n) = cond (leb k n) (halves (halved_to k n) (whole free)) (whole held)

-- "starting from the smallest sufficient piece": the pieces after that one was halved
abbrev pub least_halved : ℕ → {n : ℕ} → Pieces n → Pieces n
least_halved k (whole {n} s) = halved_to k n
least_halved k (halves l r) = cond (least_in_lower k l r) (halves (least_halved k l) r) (halves l (least_halved k r))

-- "finishes, or ends with 16": no strip was found, or one at this place, and the pieces as they are then
pub data StripTaken : Type 0 where
  none_found : StripTaken
  strip_at : ℕ → Pieces WHOLE_ORDER → StripTaken

-- a strip of order k is taken from the pieces, where one is sufficient
unfoldable pub take_strip : ℕ → Pieces WHOLE_ORDER → StripTaken
take_strip k p = cond (leb (least_order k p) WHOLE_ORDER) (strip_at (least_place k p) (least_halved k p)) none_found

-- ---- begin a free, and give

-- "where no strip starts": what starts at a place, nothing or a strip of this order and state
pub data StripStart : Type 0 where
  nowhere : StripStart
  here : ℕ → PieceState → StripStart

-- a strip of order n starts at its first slot
abbrev pub start_at_first : ℕ → ℕ → PieceState → StripStart
start_at_first s n u = cond (eqb s 0) (here n u) nowhere

-- "where no strip starts": what starts at the slot s
abbrev pub strip_starts : {n : ℕ} → Pieces n → ℕ → StripStart
strip_starts (whole free) s = nowhere
strip_starts (whole {n} held) s = start_at_first s n held
strip_starts (whole {n} (begun t)) s = start_at_first s n (begun t)
strip_starts (halves {n} l r) s = cond (ltb s (slots_in n)) (strip_starts l s) (strip_starts r (s - slots_in n))

-- "one whose free has begun": the free of the strip at the slot s, begun by the task t
abbrev pub free_begun : ℕ → {n : ℕ} → ℕ → Pieces n → Pieces n
free_begun t s (whole u) = whole (begun t)
free_begun t s (halves {n} l r) =
    cond (ltb s (slots_in n)) (halves (free_begun t s l) r) (halves l (free_begun t (s - slots_in n) r))

-- "Freed halves join whenever both are free"
abbrev pub join_halves : {n : ℕ} → Pieces n → Pieces n → Pieces (suc n)
join_halves l r = cond (is_free_piece l && is_free_piece r) (whole free) (halves l r)

-- the strip at the slot s is free, and joined with its other half again and again, while that is free
abbrev pub give_strip : {n : ℕ} → ℕ → Pieces n → Pieces n
give_strip s (whole u) = whole free
give_strip s (halves {n} l r) =
    cond (ltb s (slots_in n)) (join_halves (give_strip s l) r) (join_halves l (give_strip (s - slots_in n) r))
