-- docs/POOL.md, "Strips"
-- The pieces as a row, from slot 0 on, and the moves on that row.
use Rattle.std.specs.Prelude.{◌≡◌, cond, ◌&&◌, List, [], ◌∷◌, ◌++◌, ℕ, zero, suc, ◌+◌, ◌*◌, ◌≤◌, leb, ltb}
use Rattle.pieces.specs.Pieces.{slots_in, PieceState, free, held, Pieces, whole, halves}

-- "strip or free piece", of which "both are compared": its first slot, its order and its state
pub record Piece : Type 0 where
  pub place : ℕ
  pub order : ℕ
  pub state : PieceState

-- the piece of these three
abbrev pub piece : ℕ → ℕ → PieceState → Piece
piece s n u = record { place = s; order = n; state = u }

-- the row of the pieces, with a slots before them
abbrev pub pieces_row : ℕ → {n : ℕ} → Pieces n → List Piece
pieces_row a (whole {n} u) = piece a n u ∷ []
pieces_row a (halves {n} l r) = pieces_row a l ++ pieces_row (a + slots_in n) r

-- "aligned": the slot s is at a multiple of the length of a piece of order n
pub record AtMultiple (s n : ℕ) : Type 0 where
  pub times : ℕ
  pub is : s ≡ times * slots_in n

-- the row fills the slots from one up to another: each piece is aligned and begins where the one before it ends
abbrev pub Tiles : ℕ → ℕ → List Piece → Type 0
Tiles from to [] = from ≡ to
Tiles from to (x ∷ xs) = (x.place ≡ from) × AtMultiple from x.order × Tiles (from + slots_in x.order) to xs

-- "each unit of that area is in exactly one strip or free piece": how many pieces of the row have the slot s
abbrev pub having_slot : ℕ → List Piece → ℕ
having_slot s [] = 0
having_slot s (x ∷ xs) = cond (leb x.place s && ltb s (x.place + slots_in x.order)) 1 0 + having_slot s xs

-- ---- take

-- "A free piece is halved again and again until it fits, lower half first": what a strip of order k leaves of a free
-- piece of order n at the slot a, the free pieces of orders k, k + 1, .. up to n - 1 behind the strip
abbrev pub left_over : ℕ → ℕ → ℕ → List Piece
left_over k zero a = []
left_over k (suc n) a = cond (leb k n) (left_over k n a ++ (piece (a + slots_in n) n free ∷ [])) []

-- every free piece of the row that is sufficient for a strip of order k is of order j or more
abbrev pub NoneSmaller : ℕ → ℕ → List Piece → Type 0
NoneSmaller k j [] = Unit {0}
NoneSmaller k j (x ∷ xs) = (x.state ≡ free → k ≤ x.order → j ≤ x.order) × NoneSmaller k j xs

-- "starting from the smallest sufficient piece, at the lowest place among equals": a strip of order k is taken at the
-- slot s, of the free piece there. It is sufficient, no sufficient piece is smaller, and each before it is larger; the
-- strip and what it leaves stand in its place
pub record RowTakes (k s : ℕ) (was new : List Piece) : Type 0 where
  pub order : ℕ
  pub front : List Piece
  pub back : List Piece
  pub found : was ≡ front ++ (piece s order free ∷ back)
  pub left : new ≡ front ++ (piece s k held ∷ (left_over k order s ++ back))
  pub enough : k ≤ order
  pub smallest : NoneSmaller k order was
  pub lowest : NoneSmaller k (suc order) front

-- ---- give

-- every piece of the row is free
abbrev pub AllFree : List Piece → Type 0
AllFree [] = Unit {0}
AllFree (x ∷ xs) = (x.state ≡ free) × AllFree xs

-- "Freed halves join whenever both are free": the strip of order k and state u at the slot s is given back. It and the
-- free pieces that it is joined with, `before` and `after` it, become one free piece, which has their slots and no
-- other. This says which pieces are joined; that none is left to join is `NoneToJoin` of the new row
pub record RowGives (k s : ℕ) (u : PieceState) (was new : List Piece) : Type 0 where
  pub front : List Piece
  pub before : List Piece
  pub after : List Piece
  pub back : List Piece
  pub place : ℕ
  pub order : ℕ
  pub found : was ≡ front ++ (before ++ (piece s k u ∷ (after ++ back)))
  pub left : new ≡ front ++ (piece place order free ∷ back)
  pub joined_before : AllFree before
  pub joined_after : AllFree after
  pub aligned : AtMultiple place order
  pub covers : Tiles place (place + slots_in order) (before ++ (piece s k u ∷ after))

-- x and y are not two free halves of one piece, x the lower: of the same order, y behind x, and x where a piece of both
-- would begin
abbrev pub NotToJoin : Piece → Piece → Type 0
NotToJoin x y =
    x.state ≡ free → y.state ≡ free → x.order ≡ y.order → y.place ≡ x.place + slots_in x.order
    → AtMultiple x.place (suc x.order) → ⊥

-- x is not to be joined with a piece of the row
abbrev pub NoHalfOf : Piece → List Piece → Type 0
NoHalfOf x [] = Unit {0}
NoHalfOf x (y ∷ ys) = NotToJoin x y × NoHalfOf x ys

-- "Freed halves join whenever both are free": no two pieces of the row are to be joined
abbrev pub NoneToJoin : List Piece → Type 0
NoneToJoin [] = Unit {0}
NoneToJoin (x ∷ xs) = NoHalfOf x xs × NoneToJoin xs
