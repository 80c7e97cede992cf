-- In the row of pieces of which none stands as two free halves, no two pieces are to be joined.
use mathlib.Core.Path.{◌≡◌, sym, ap, ◌∙◌}
use mathlib.Core.Bool.{Bool, true, false, ◌&&◌}
use mathlib.Core.List.{List, [], ◌∷◌, ◌++◌}
use Prim.Native.Nat.{ℕ, suc, ◌+◌, ◌*◌, ◌≤◌}
use native.Mathlib.Nat.{mul_assoc, suc-mul, mul-le-mul_right}
use native.Mathlib.Omega.{arith}
use Rattle.rows.specs.Comparisons.{Order, before, after, order?}
use Rattle.pieces.specs.Pieces.{slots_in, free, Pieces, whole, halves, is_free_piece, Joined}
use Rattle.pieces.specs.PieceRows.{Piece, pieces_row, AtMultiple, NotToJoin, NoHalfOf, NoneToJoin}
use Rattle.pieces.proofs.PieceLengths.{some, multiple}
use Rattle.pieces.proofs.PieceRows.{lower-aligned, upper-aligned}

-- ---- each piece of a row

abbrev Each : (Piece → Type 0) → List Piece → Type 0
Each P [] = Unit {0}
Each P (x ∷ xs) = P x × Each P xs

each_append : (P : Piece → Type 0) (xs ys : List Piece) → Each P xs → Each P ys → Each P (xs ++ ys)
each_append P [] ys h k = k
each_append P (x ∷ xs) ys h k = (h.0, each_append P xs ys h.1 k)

each_map : (P Q : Piece → Type 0) → ((x : Piece) → P x → Q x) → (xs : List Piece) → Each P xs → Each Q xs
each_map P Q f [] h = tt
each_map P Q f (x ∷ xs) h = (f x h.0, each_map P Q f xs h.1)

-- a piece of the row lies among the pieces, and is all of them if it is as long
record Lies (a : ℕ) {n : ℕ} (t : Pieces n) (x : Piece) : Type 0 where
  from : a ≤ x.place
  to : x.place + slots_in x.order ≤ a + slots_in n
  order : x.order ≤ n
  all : x.order ≡ n → x.state ≡ free → is_free_piece t ≡ true

lies : (a : ℕ) {n : ℕ} (t : Pieces n) → Each (Lies a t) (pieces_row a t)
lies a (whole s) = (
  record { from = omega arith; to = omega arith; order = omega arith; all = λ e f. rw f },
  tt,
)
lies a (halves {n} l r) =
    each_append (Lies a (halves l r)) (pieces_row a l) (pieces_row (a + slots_in n) r)
    (each_map (Lies a l) (Lies a (halves l r)) lower (pieces_row a l) (lies a l))
    (each_map (Lies (a + slots_in n) r) (Lies a (halves l r)) upper (pieces_row (a + slots_in n) r)
    (lies (a + slots_in n) r))
  where
    lower : (x : Piece) → Lies a l x → Lies a (halves l r) x
    lower x h = record {
      from = h.from;
      to = omega (arith, h.to);
      order = omega (arith, h.order);
      all = λ e f. absurd (omega (arith, h.order));
    }

    upper : (x : Piece) → Lies (a + slots_in n) r x → Lies a (halves l r) x
    upper x h = record {
      from = omega (arith, h.from);
      to = omega (arith, h.to);
      order = omega (arith, h.order);
      all = λ e f. absurd (omega (arith, h.order));
    }

-- ---- multiples

-- a multiple of a length is one of each smaller length
aligned-less : (a m n : ℕ) → m ≤ n → AtMultiple a n → AtMultiple a m
aligned-less a m n h x =
    let y = multiple m n h in
    record {
      times = x.times * y.times;
      is = x.is ∙ ap (λ (u : ℕ). x.times * u) y.is ∙ sym (mul_assoc x.times y.times (slots_in m));
    }

-- half a length past a multiple of it is no multiple of it
not-between : (t w m : ℕ) → t * (m + m) + m ≡ w * (m + m) → 1 ≤ m → ⊥
not-between t w m e h = by (order? t w)
  where
    by : Order t w → ⊥
    by (before l) = omega (arith, suc-mul t (m + m), mul-le-mul_right (m + m) l)
    by (after g) = omega (arith, mul-le-mul_right (m + m) g)

-- ---- a piece of the lower half and one of the upper

module _ (a : ℕ) {n : ℕ} (l r : Pieces n) (al : AtMultiple a (suc n))
    (used : (is_free_piece l && is_free_piece r) ≡ false) where
  middle : AtMultiple (a + slots_in n) n
  middle = upper-aligned a n (lower-aligned a n al)

  across : (x y : Piece) → Lies a l x → Lies (a + slots_in n) r y → NotToJoin x y
  across x y p q fx fy same next begins = by (order? x.order n)
    where
      by : Order x.order n → ⊥
      by (before h) =
          let w = aligned-less (a + slots_in n) (suc x.order) n h middle in
          not-between begins.times w.times (slots_in x.order)
          (omega (arith, begins.is, w.is, next, p.to, q.from)) (some x.order)
      by (after h) =
          let d = p.all (omega (arith, p.order)) fx in
          let e = q.all (omega (arith, p.order, same)) fy in
          let z : ◌≡◌ {A = Bool} true false = rw (d, e) at used in
          let o : ◌≡◌ {A = ℕ} 0 1 = cc in
          omega arith

  with-upper : (x : Piece) → Lies a l x → (ys : List Piece) → Each (Lies (a + slots_in n) r) ys → NoHalfOf x ys
  with-upper x p [] h = tt
  with-upper x p (y ∷ ys) h = (across x y p h.0, with-upper x p ys h.1)

half-append : (x : Piece) (xs ys : List Piece) → NoHalfOf x xs → NoHalfOf x ys → NoHalfOf x (xs ++ ys)
half-append x [] ys h k = k
half-append x (y ∷ xs) ys h k = (h.0, half-append x xs ys h.1 k)

join-append : (xs ys : List Piece) → NoneToJoin xs → NoneToJoin ys → Each (λ (x : Piece). NoHalfOf x ys) xs
    → NoneToJoin (xs ++ ys)
join-append [] ys h k e = k
join-append (x ∷ xs) ys h k e = (half-append x xs ys h.0 e.0, join-append xs ys h.1 k e.1)

-- "Freed halves join whenever both are free", on the row
pub none_to_join : (a : ℕ) {n : ℕ} (t : Pieces n) → AtMultiple a n → Joined t → NoneToJoin (pieces_row a t)
none_to_join a (whole s) al m = (tt, tt)
none_to_join a (halves {n} l r) al m =
    join-append (pieces_row a l) (pieces_row (a + slots_in n) r) (none_to_join a l (lower-aligned a n al) m.1)
    (none_to_join (a + slots_in n) r (upper-aligned a n (lower-aligned a n al)) m.2)
    (each_map (Lies a l) (λ (x : Piece). NoHalfOf x (pieces_row (a + slots_in n) r))
    (λ x p. with-upper a l r al m.0 x p (pieces_row (a + slots_in n) r) (lies (a + slots_in n) r)) (pieces_row a l)
    (lies a l))
