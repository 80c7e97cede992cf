-- Giving a strip back, on the row.
use mathlib.Core.Path.{◌≡◌, refl, sym, ap, ◌∙◌, subst}
use mathlib.Core.Bool.{true, ◌&&◌}
use mathlib.Core.List.{List, [], ◌∷◌, ◌++◌, append_assoc}
use Prim.Native.Nat.{ℕ, suc, ◌+◌, ◌-◌}
use native.Mathlib.Omega.{arith}
use borrow.Author.Tests.{lt-ltb, le-ltb}
use Rattle.rows.specs.Comparisons.{Order, before, after, order?, Truth, holds, fails, true?}
use Rattle.pieces.specs.Pieces.{slots_in, PieceState, free, held, begun, Pieces, whole, halves, is_free_piece}
use Rattle.pieces.specs.Strips.{here, strip_starts, join_halves, give_strip}
use Rattle.pieces.specs.PieceRows.{Piece, piece, pieces_row, AtMultiple, Tiles, AllFree, RowGives}
use Rattle.pieces.proofs.StripGiving.{first-is}
use Rattle.pieces.proofs.PieceRows.{tiles, nil}
use Rattle.pieces.proofs.BothFree.{both_left, both_right}

-- what is shown piece by piece; that the pieces fill the memory before and afterwards gives the rest
record Gives (k q : ℕ) (u : PieceState) (was new : List Piece) : Type 0 where
  front : List Piece
  before : List Piece
  after : List Piece
  back : List Piece
  place : ℕ
  order : ℕ
  found : was ≡ front ++ (before ++ (piece q k u ∷ (after ++ back)))
  left : new ≡ front ++ (piece place order free ∷ back)
  joined_before : AllFree before
  joined_after : AllFree after

-- a free piece is one piece
free-row : (a : ℕ) {n : ℕ} (t : Pieces n) → is_free_piece t ≡ true → pieces_row a t ≡ piece a n free ∷ []
free-row a (whole free) e = refl
free-row a (whole held) e = cc
free-row a (whole (begun t)) e = cc
free-row a (halves l r) e = cc

-- a row of one piece has nothing before or behind it
alone : (x y : Piece) (f b : List Piece) → x ∷ [] ≡ f ++ (y ∷ b) → (f ≡ []) × (b ≡ [])
alone x y [] b e = (refl, cc)
alone x y (z ∷ []) b e = let w : ◌≡◌ {A = ℕ} 0 1 = cc in absurd (omega arith)
alone x y (z ∷ v ∷ f) b e = let w : ◌≡◌ {A = ℕ} 0 1 = cc in absurd (omega arith)

all_append : (xs ys : List Piece) → AllFree xs → AllFree ys → AllFree (xs ++ ys)
all_append [] ys s u = u
all_append (x ∷ xs) ys s u = (s.0, all_append xs ys s.1 u)

module _ (k q : ℕ) (u : PieceState) where
  -- a strip that is a whole piece
  whole-gives : (a n : ℕ) (s : PieceState) → q ≡ a → k ≡ n → u ≡ s
      → Gives k q u (piece a n s ∷ []) (piece a n free ∷ [])
  whole-gives a n s d e f = rw (d, e, f) (record {
    front = [];
    before = [];
    after = [];
    back = [];
    place = a;
    order = n;
    found = refl;
    left = refl;
    joined_before = tt;
    joined_after = tt;
  })

  -- other pieces behind the row, or before it, stay
  behind : (xs ys zs : List Piece) → Gives k q u xs ys → Gives k q u (xs ++ zs) (ys ++ zs)
  behind xs ys zs x = record {
    front = x.front;
    before = x.before;
    after = x.after;
    back = x.back ++ zs;
    place = x.place;
    order = x.order;
    found =
        ap (λ (us : List Piece). us ++ zs) x.found
        ∙ append_assoc x.front (x.before ++ (piece q k u ∷ (x.after ++ x.back))) zs
        ∙ ap (λ (us : List Piece). x.front ++ us)
        (append_assoc x.before (piece q k u ∷ (x.after ++ x.back)) zs
        ∙ ap (λ (us : List Piece). x.before ++ (piece q k u ∷ us)) (append_assoc x.after x.back zs));
    left =
        ap (λ (us : List Piece). us ++ zs) x.left
        ∙ append_assoc x.front (piece x.place x.order free ∷ x.back) zs;
    joined_before = x.joined_before;
    joined_after = x.joined_after;
  }

  ahead : (xs ys zs : List Piece) → Gives k q u xs ys → Gives k q u (zs ++ xs) (zs ++ ys)
  ahead xs ys zs x = record {
    front = zs ++ x.front;
    before = x.before;
    after = x.after;
    back = x.back;
    place = x.place;
    order = x.order;
    found =
        ap (λ (us : List Piece). zs ++ us) x.found
        ∙ sym (append_assoc zs x.front (x.before ++ (piece q k u ∷ (x.after ++ x.back))));
    left =
        ap (λ (us : List Piece). zs ++ us) x.left
        ∙ sym (append_assoc zs x.front (piece x.place x.order free ∷ x.back));
    joined_before = x.joined_before;
    joined_after = x.joined_after;
  }

  -- what became one free piece, with free pieces behind it or before it, becomes one free piece of any place and order
  all-behind : (xs : List Piece) (y z w : Piece) → Gives k q u xs (y ∷ []) → z.state ≡ free → w.state ≡ free
      → Gives k q u (xs ++ (z ∷ [])) (w ∷ [])
  all-behind xs y z w x e f =
      let o = alone y (piece x.place x.order free) x.front x.back x.left in
      let d : xs ≡ x.before ++ (piece q k u ∷ x.after) =
      x.found ∙ ap (λ (us : List Piece). us ++ (x.before ++ (piece q k u ∷ (x.after ++ x.back)))) o.0
      ∙ ap (λ (us : List Piece). x.before ++ (piece q k u ∷ (x.after ++ us))) o.1
      ∙ ap (λ (us : List Piece). x.before ++ (piece q k u ∷ us)) (nil x.after) in
      record {
        front = [];
        before = x.before;
        after = x.after ++ (z ∷ []);
        back = [];
        place = w.place;
        order = w.order;
        found =
            ap (λ (us : List Piece). us ++ (z ∷ [])) d
            ∙ append_assoc x.before (piece q k u ∷ x.after) (z ∷ [])
            ∙ ap (λ (us : List Piece). x.before ++ (piece q k u ∷ us)) (sym (nil (x.after ++ (z ∷ []))));
        left = ap (λ (s : PieceState). record { place = w.place; order = w.order; state = s } ∷ []) f;
        joined_before = x.joined_before;
        joined_after = all_append x.after (z ∷ []) x.joined_after (e, tt);
      }

  all-ahead : (xs : List Piece) (y z w : Piece) → Gives k q u xs (y ∷ []) → z.state ≡ free → w.state ≡ free
      → Gives k q u (z ∷ xs) (w ∷ [])
  all-ahead xs y z w x e f =
      let o = alone y (piece x.place x.order free) x.front x.back x.left in
      record {
        front = [];
        before = z ∷ x.before;
        after = x.after;
        back = [];
        place = w.place;
        order = w.order;
        found =
            ap (λ (us : List Piece). z ∷ us)
            (x.found
            ∙ ap (λ (us : List Piece). us ++ (x.before ++ (piece q k u ∷ (x.after ++ x.back)))) o.0
            ∙ ap (λ (us : List Piece). x.before ++ (piece q k u ∷ (x.after ++ us))) o.1);
        left = ap (λ (s : PieceState). record { place = w.place; order = w.order; state = s } ∷ []) f;
        joined_before = (e, x.joined_before);
        joined_after = x.joined_after;
      }

  -- the lower half was given to, or the upper, and the two are joined
  lower-gives : (a : ℕ) {n : ℕ} (l new r : Pieces n) → Gives k q u (pieces_row a l) (pieces_row a new)
      → Gives k q u (pieces_row a (halves l r)) (pieces_row a (join_halves new r))
  lower-gives a {n} l new r x = by (true? (is_free_piece new && is_free_piece r))
    where
      by : Truth (is_free_piece new && is_free_piece r)
          → Gives k q u (pieces_row a (halves l r)) (pieces_row a (join_halves new r))
      by (holds e) =
          let f = free-row a new (both_left (is_free_piece new) (is_free_piece r) e) in
          let g = free-row (a + slots_in n) r (both_right (is_free_piece new) (is_free_piece r) e) in
          rw (e, g)
          (all-behind (pieces_row a l) (piece a n free) (piece (a + slots_in n) n free) (piece a (suc n) free)
          (rw f at x) refl refl)
      by (fails e) = rw e (behind (pieces_row a l) (pieces_row a new) (pieces_row (a + slots_in n) r) x)

  upper-gives : (a : ℕ) {n : ℕ} (l r new : Pieces n)
      → Gives k q u (pieces_row (a + slots_in n) r) (pieces_row (a + slots_in n) new)
      → Gives k q u (pieces_row a (halves l r)) (pieces_row a (join_halves l new))
  upper-gives a {n} l r new x = by (true? (is_free_piece l && is_free_piece new))
    where
      by : Truth (is_free_piece l && is_free_piece new)
          → Gives k q u (pieces_row a (halves l r)) (pieces_row a (join_halves l new))
      by (holds e) =
          let f = free-row (a + slots_in n) new (both_right (is_free_piece l) (is_free_piece new) e) in
          let g = free-row a l (both_left (is_free_piece l) (is_free_piece new) e) in
          rw (e, g)
          (all-ahead (pieces_row (a + slots_in n) r) (piece (a + slots_in n) n free) (piece a n free)
          (piece a (suc n) free) (rw f at x) refl refl)
      by (fails e) = rw e (ahead (pieces_row (a + slots_in n) r) (pieces_row (a + slots_in n) new) (pieces_row a l) x)

-- the strip of order k at the place p of the pieces, which begin at a
gives : (a : ℕ) {n : ℕ} (t : Pieces n) (p k : ℕ) (s : PieceState) → strip_starts t p ≡ here k s
    → Gives k (a + p) s (pieces_row a t) (pieces_row a (give_strip p t))
gives a (whole free) p k s e = let z : ◌≡◌ {A = ℕ} 0 1 = cc in absurd (omega arith)
gives a (whole {n} held) p k s e =
    let i = first-is p n held k s e in
    whole-gives k (a + p) s a n held (omega (arith, i.place)) (sym i.order) (sym i.state)
gives a (whole {n} (begun t)) p k s e =
    let i = first-is p n (begun t) k s e in
    whole-gives k (a + p) s a n (begun t) (omega (arith, i.place)) (sym i.order) (sym i.state)
gives a (halves {n} l r) p k s e =
    by (order? p (slots_in n)) (gives a l p k s) (gives (a + slots_in n) r (p - slots_in n) k s)
  where
    by : Order p (slots_in n)
        → (strip_starts l p ≡ here k s → Gives k (a + p) s (pieces_row a l) (pieces_row a (give_strip p l)))
        → (strip_starts r (p - slots_in n) ≡ here k s
        → Gives k (a + slots_in n + (p - slots_in n)) s (pieces_row (a + slots_in n) r)
        (pieces_row (a + slots_in n) (give_strip (p - slots_in n) r)))
        → Gives k (a + p) s (pieces_row a (halves l r)) (pieces_row a (give_strip p (halves l r)))
    by (before h) f g = rw (lt-ltb _ _ h) (lower-gives k (a + p) s a l (give_strip p l) r (f (rw (lt-ltb _ _ h) at e)))
    by (after h) f g =
        let d : a + slots_in n + (p - slots_in n) ≡ a + p = omega arith in
        rw (le-ltb _ _ h)
        (upper-gives k (a + p) s a l r (give_strip (p - slots_in n) r) (rw d at (g (rw (le-ltb _ _ h) at e))))

-- ---- the new piece has the slots of those that it is made of

tiles-apart : (a c : ℕ) (xs ys : List Piece) → Tiles a c (xs ++ ys) → (b : ℕ) × Tiles a b xs × Tiles b c ys
tiles-apart a c [] ys t = (a, refl, t)
tiles-apart a c (x ∷ xs) ys t =
    let r = tiles-apart (a + slots_in x.order) c xs ys t.2 in
    (r.0, (t.0, t.1, r.1), r.2)

same_end : (a b c : ℕ) (xs : List Piece) → Tiles a b xs → Tiles a c xs → b ≡ c
same_end a b c [] t u = sym t ∙ u
same_end a b c (x ∷ xs) t u = same_end (a + slots_in x.order) b c xs t.2 u.2

same-begin : (a b c : ℕ) (xs : List Piece) → Tiles a c xs → Tiles b c xs → a ≡ b
same-begin a b c [] t u = t ∙ sym u
same-begin a b c (x ∷ xs) t u = sym t.0 ∙ u.0

full : (a c k q : ℕ) (u : PieceState) (was new : List Piece) → Tiles a c was → Tiles a c new → Gives k q u was new
    → RowGives k q u was new
full a c k q u was new t v x = record {
  front = x.front;
  before = x.before;
  after = x.after;
  back = x.back;
  place = x.place;
  order = x.order;
  found = x.found;
  left = x.left;
  joined_before = x.joined_before;
  joined_after = x.joined_after;
  aligned = subst (λ (b : ℕ). AtMultiple b x.order) (sym new-parts.2.0) new-parts.2.1;
  covers =
      subst (λ (b : ℕ). Tiles b (b + slots_in x.order) row_of) (sym new-parts.2.0)
      (subst (λ (b : ℕ). Tiles new-parts.0 b row_of) ends
      (subst (λ (b : ℕ). Tiles b mid.0 row_of) (sym starts-there) mid.1));
}
  where
    row_of : List Piece
    row_of = x.before ++ (piece q k u ∷ x.after)

    new-parts : (b : ℕ) × Tiles a b x.front × Tiles b c (piece x.place x.order free ∷ x.back)
    new-parts = tiles-apart a c x.front _ (rw x.left at v)

    old-parts : (b : ℕ) × Tiles a b x.front × Tiles b c (x.before ++ (piece q k u ∷ (x.after ++ x.back)))
    old-parts = tiles-apart a c x.front _ (rw x.found at t)

    mid : (b : ℕ) × Tiles old-parts.0 b row_of × Tiles b c x.back
    mid =
        tiles-apart old-parts.0 c row_of x.back
        (subst (λ (ys : List Piece). Tiles old-parts.0 c ys)
        (sym (append_assoc x.before (piece q k u ∷ x.after) x.back)) old-parts.2)

    starts-there : new-parts.0 ≡ old-parts.0
    starts-there = same_end a new-parts.0 old-parts.0 x.front new-parts.1 old-parts.1

    ends : mid.0 ≡ new-parts.0 + slots_in x.order
    ends = same-begin mid.0 (new-parts.0 + slots_in x.order) c x.back mid.2 new-parts.2.2

-- a give, on the row: the strip of order k and state u at the slot p of the pieces, which have a slots before them
pub row_gives : (a : ℕ) {n : ℕ} (t : Pieces n) → AtMultiple a n → (p k : ℕ) (u : PieceState)
    → strip_starts t p ≡ here k u
    → RowGives k (a + p) u (pieces_row a t) (pieces_row a (give_strip p t))
row_gives a {n} t m p k u e =
    full a (a + slots_in n) k (a + p) u _ _ (tiles a t m) (tiles a (give_strip p t) m) (gives a t p k u e)
