-- The pieces as a row: they fill the memory, each slot is in exactly one, and taking reads as the request has it.
use mathlib.Core.Path.{◌≡◌, refl, sym, ap, ◌∙◌, subst}
use mathlib.Core.List.{List, [], ◌∷◌, ◌++◌, append_assoc}
use Prim.Native.Nat.{ℕ, zero, suc, ◌+◌, ◌-◌, ◌≤◌, ◌<◌}
use native.Mathlib.Nat.{add-mul, mul-add, suc-mul}
use native.Mathlib.Omega.{arith}
use borrow.Author.Tests.{le-leb, lt-leb, lt-ltb, le-ltb}
use Rattle.limits.specs.Limits.{WHOLE_ORDER}
use Rattle.rows.specs.Comparisons.{Order, before, after, order?}
use Rattle.pieces.specs.Pieces.{slots_in, free, held, begun, Pieces, whole, halves}
use Rattle.pieces.specs.Strips.{least_order, least_place, halved_to, least_halved}
use Rattle.pieces.specs.PieceRows.{Piece, piece, pieces_row, AtMultiple, Tiles, having_slot, left_over, NoneSmaller}
use Rattle.pieces.specs.PieceRows.{RowTakes}
use Rattle.pieces.proofs.LeastPieces.{Half, low, high, half?, enough, exact}

-- ---- the row fills the memory

tiles-append : (a b c : ℕ) (xs ys : List Piece) → Tiles a b xs → Tiles b c ys → Tiles a c (xs ++ ys)
tiles-append a b c [] ys e t = subst (λ (x : ℕ). Tiles x c ys) (sym e) t
tiles-append a b c (x ∷ xs) ys h t = (h.0, h.1, tiles-append (a + slots_in x.order) b c xs ys h.2 t)

-- a place aligned for a piece is aligned for its lower half, and the upper half's place for that
pub lower-aligned : (a n : ℕ) → AtMultiple a (suc n) → AtMultiple a n
lower-aligned a n h = record {
  times = h.times + h.times;
  is = h.is ∙ mul-add h.times (slots_in n) (slots_in n) ∙ sym (add-mul h.times h.times (slots_in n));
}

pub upper-aligned : (a n : ℕ) → AtMultiple a n → AtMultiple (a + slots_in n) n
upper-aligned a n h = record { times = suc h.times; is = omega (arith, h.is, suc-mul h.times (slots_in n)) }

pub tiles : (a : ℕ) {n : ℕ} (t : Pieces n) → AtMultiple a n → Tiles a (a + slots_in n) (pieces_row a t)
tiles a (whole s) h = (refl, h, refl)
tiles a (halves {n} l r) h =
    let u = lower-aligned a n h in
    let e : a + slots_in n + slots_in n ≡ a + (slots_in n + slots_in n) = omega arith in
    rw e at
    (tiles-append a (a + slots_in n) (a + slots_in n + slots_in n) (pieces_row a l) (pieces_row (a + slots_in n) r)
    (tiles a l u) (tiles (a + slots_in n) r (upper-aligned a n u)))

-- ---- "each unit of that area is in exactly one strip or free piece"

having-append : (p : ℕ) (xs ys : List Piece) → having_slot p (xs ++ ys) ≡ having_slot p xs + having_slot p ys
having-append p [] ys = omega arith
having-append p (x ∷ xs) ys = rw (having-append p xs ys) (omega arith)

outside : (a : ℕ) {n : ℕ} (t : Pieces n) (p : ℕ) → (a ≤ p → a + slots_in n ≤ p) → having_slot p (pieces_row a t) ≡ 0
outside a (whole {n} s) p h = by (order? p a)
  where
    by : Order p a → having_slot p (pieces_row a (whole {n = n} s)) ≡ 0
    by (before l) = rw (lt-leb _ _ l)
    by (after g) = rw (le-leb _ _ g, le-ltb _ _ (h g))
outside a (halves {n} l r) p h =
    having-append p (pieces_row a l) (pieces_row (a + slots_in n) r)
    ∙ rw (outside a l p (λ g. omega (arith, h g)), outside (a + slots_in n) r p (λ g. omega (arith, h (omega arith))))

pub once : (a : ℕ) {n : ℕ} (t : Pieces n) (p : ℕ) → p < slots_in n → having_slot (a + p) (pieces_row a t) ≡ 1
once a (whole {n} s) p h = rw (le-leb a (a + p) (omega arith), lt-ltb (a + p) (a + slots_in n) (omega arith))
once a (halves {n} l r) p h =
    having-append (a + p) (pieces_row a l) (pieces_row (a + slots_in n) r)
    ∙ by (order? p (slots_in n)) (once a l p) (once (a + slots_in n) r (p - slots_in n))
  where
    by : Order p (slots_in n) → (p < slots_in n → having_slot (a + p) (pieces_row a l) ≡ 1)
        → (p - slots_in n < slots_in n
        → having_slot (a + slots_in n + (p - slots_in n)) (pieces_row (a + slots_in n) r) ≡ 1)
        → having_slot (a + p) (pieces_row a l) + having_slot (a + p) (pieces_row (a + slots_in n) r) ≡ 1
    by (before j) f g = rw (f j, outside (a + slots_in n) r (a + p) (λ w. absurd (omega arith)))
    by (after j) f g =
        let e : a + slots_in n + (p - slots_in n) ≡ a + p = omega arith in
        rw (outside a l (a + p) (λ w. omega arith), rw e at (g (omega arith)))

-- ---- taking, on the row

pub nil : (xs : List Piece) → xs ++ [] ≡ xs
nil [] = refl
nil (x ∷ xs) = ap (λ (ys : List Piece). x ∷ ys) (nil xs)

module _ (k : ℕ) where
  weaken : (i j : ℕ) (xs : List Piece) → i ≤ j → NoneSmaller k j xs → NoneSmaller k i xs
  weaken i j [] h s = tt
  weaken i j (x ∷ xs) h s = (λ e g. omega (arith, s.0 e g), weaken i j xs h s.1)

  least-append : (j : ℕ) (xs ys : List Piece) → NoneSmaller k j xs → NoneSmaller k j ys → NoneSmaller k j (xs ++ ys)
  least-append j [] ys s u = u
  least-append j (x ∷ xs) ys s u = (s.0, least-append j xs ys s.1 u)

  -- no free piece that is large enough is smaller than the least
  pub row-least : (a : ℕ) {n : ℕ} (t : Pieces n) → NoneSmaller k (least_order k t) (pieces_row a t)
  row-least a (whole {n} free) = (λ e g. rw (exact k n g) (omega arith), tt)
  row-least a (whole {n} held) = (λ e g. let z : ◌≡◌ {A = ℕ} 0 1 = cc in absurd (omega arith), tt)
  row-least a (whole {n} (begun t)) = (λ e g. let z : ◌≡◌ {A = ℕ} 0 1 = cc in absurd (omega arith), tt)
  row-least a (halves {n} l r) =
      least-append (least_order k (halves l r)) (pieces_row a l) (pieces_row (a + slots_in n) r)
      (weaken _ (least_order k l) (pieces_row a l) (omega arith) (row-least a l))
      (weaken _ (least_order k r) (pieces_row (a + slots_in n) r) (omega arith) (row-least (a + slots_in n) r))

  -- a free piece that was halved is a strip, with the free pieces behind it
  halved-row : (a n : ℕ) → k ≤ n → pieces_row a (halved_to k n) ≡ piece a k held ∷ left_over k n a
  halved-row a zero h =
      let e : k ≡ 0 = omega arith in
      rw e
  halved-row a (suc n) h = by (order? n k) (halved-row a n)
    where
      by : Order n k → (k ≤ n → pieces_row a (halved_to k n) ≡ piece a k held ∷ left_over k n a)
          → pieces_row a (halved_to k (suc n)) ≡ piece a k held ∷ left_over k (suc n) a
      by (before l) f =
          let e : k ≡ suc n = omega arith in
          rw (lt-leb _ _ l, e)
      by (after g) f = rw (le-leb _ _ g) (ap (λ (xs : List Piece). xs ++ (piece (a + slots_in n) n free ∷ [])) (f g))

  -- other pieces behind the row, or before it, stay
  behind : (p : ℕ) (xs ys zs : List Piece) (x : RowTakes k p xs ys) → NoneSmaller k x.order zs
      → RowTakes k p (xs ++ zs) (ys ++ zs)
  behind p xs ys zs x s = record {
    order = x.order;
    front = x.front;
    back = x.back ++ zs;
    found =
        ap (λ (us : List Piece). us ++ zs) x.found ∙ append_assoc x.front (piece p x.order free ∷ x.back) zs;
    left =
        ap (λ (us : List Piece). us ++ zs) x.left
        ∙ append_assoc x.front (piece p k held ∷ (left_over k x.order p ++ x.back)) zs
        ∙ ap (λ (us : List Piece). x.front ++ (piece p k held ∷ us))
        (append_assoc (left_over k x.order p) x.back zs);
    enough = x.enough;
    smallest = least-append x.order xs zs x.smallest s;
    lowest = x.lowest;
  }

  ahead : (p : ℕ) (xs ys zs : List Piece) (x : RowTakes k p xs ys) → NoneSmaller k (suc x.order) zs
      → RowTakes k p (zs ++ xs) (zs ++ ys)
  ahead p xs ys zs x s = record {
    order = x.order;
    front = zs ++ x.front;
    back = x.back;
    found =
        ap (λ (us : List Piece). zs ++ us) x.found
        ∙ sym (append_assoc zs x.front (piece p x.order free ∷ x.back));
    left =
        ap (λ (us : List Piece). zs ++ us) x.left
        ∙ sym (append_assoc zs x.front (piece p k held ∷ (left_over k x.order p ++ x.back)));
    enough = x.enough;
    smallest = least-append x.order zs xs (weaken _ (suc x.order) zs (omega arith) s) x.smallest;
    lowest = least-append (suc x.order) zs x.front s x.lowest;
  }

  -- the row is taken from, and the piece is of the least order
  abbrev From : ℕ → {n : ℕ} → Pieces n → Type 0
  From a t =
      (x : RowTakes k (a + least_place k t) (pieces_row a t) (pieces_row a (least_halved k t)))
      × (x.order ≡ least_order k t)

  takes-from : (a : ℕ) {n : ℕ} (t : Pieces n) → least_order k t ≤ WHOLE_ORDER → From a t
  unfolding behind ahead
  takes-from a (whole {n} free) h =
      let e : a + 0 ≡ a = omega arith in
      let g = enough k n h in
      rw e (
        record {
          order = n;
          front = [];
          back = [];
          found = refl;
          left = halved-row a n g ∙ ap (λ (xs : List Piece). piece a k held ∷ xs) (sym (nil (left_over k n a)));
          enough = g;
          smallest = (λ s o. omega arith, tt);
          lowest = tt;
        },
        sym (exact k n g),
      )
  takes-from a (whole held) h = absurd (omega arith)
  takes-from a (whole (begun t)) h = absurd (omega arith)
  takes-from a (halves {n} l r) h = by (half? k l r) (takes-from a l) (takes-from (a + slots_in n) r)
    where
      by : Half k l r → (least_order k l ≤ WHOLE_ORDER → From a l)
          → (least_order k r ≤ WHOLE_ORDER → From (a + slots_in n) r) → From a (halves l r)
      by (low e d b) f g =
          let x = f (omega arith) in
          let s =
          weaken x.0.order (least_order k r) (pieces_row (a + slots_in n) r) (omega (arith, x.1))
          (row-least (a + slots_in n) r) in
          rw e (
            behind (a + least_place k l) (pieces_row a l) (pieces_row a (least_halved k l))
                (pieces_row (a + slots_in n) r) x.0 s,
            x.1 ∙ sym d,
          )
      by (high e d b) f g =
          let x = g (omega arith) in
          let c : a + (slots_in n + least_place k r) ≡ a + slots_in n + least_place k r = omega arith in
          let s = weaken (suc x.0.order) (least_order k l) (pieces_row a l) (omega (arith, x.1)) (row-least a l) in
          rw (e, c) (
            ahead (a + slots_in n + least_place k r) (pieces_row (a + slots_in n) r)
                (pieces_row (a + slots_in n) (least_halved k r)) (pieces_row a l) x.0 s,
            x.1 ∙ sym d,
          )

  pub row-takes : (a : ℕ) {n : ℕ} (t : Pieces n) → least_order k t ≤ WHOLE_ORDER
      → RowTakes k (a + least_place k t) (pieces_row a t) (pieces_row a (least_halved k t))
  row-takes a t h = (takes-from a t h).0
