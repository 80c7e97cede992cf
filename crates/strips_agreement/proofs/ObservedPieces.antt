-- A tree and bytes that follow the pieces show their row.
use mathlib.Core.Path.{◌≡◌, refl, sym, ap₂, ◌∙◌}
use mathlib.Core.Logic.{◌≢◌}
use mathlib.Core.List.{List, [], ◌∷◌, ◌++◌}
use Prim.Native.Nat.{ℕ, zero, suc, ◌+◌, ◌-◌, ◌*◌, ◌≤◌, ◌<◌}
use native.Mathlib.Omega.{arith}
use borrow.Author.Tests.{eq-eqb, ne_eqb}
use Rattle.limits.specs.Limits.{SLOTS, WHOLE_ORDER}
use Rattle.pieces.specs.Pieces.{slots_in, PieceState, free, held, begun, Pieces, whole, halves}
use Rattle.pieces.specs.Strips.{StripStart, nowhere, here, strip_starts}
use Rattle.pieces.specs.PieceRows.{Piece, piece, pieces_row}
use Rattle.pieces.proofs.PieceLengths.{some}
use Rattle.pieces.proofs.StripStarting.{in-lower, in-upper, strip_order}
use Rattle.strip_tree.specs.declared.tree.Tree.{Tree}
use Rattle.strip_tree.specs.SlotStates.{IN_HAND, FREE_BEGUN}
use Rattle.strips_agreement.specs.TreeFollows.{Image, slot_byte, Follows}
use Rattle.strips_agreement.specs.ObservedPieces.{shown_piece, observed_pieces}
use Rattle.strips_agreement.proofs.SlotBytes.{Bytes, first_byte, lower-bytes, upper-bytes, all-bytes}

module _ (t : Tree) (byte task : ℕ → ℕ) where
  -- the task of each strip of the pieces whose free has begun is known, from the slot s on
  abbrev Tasks : {n : ℕ} → Pieces n → ℕ → Type 0
  Tasks {n} p s = (q k u : ℕ) → strip_starts p q ≡ here k (begun u) → q < slots_in n → task (s + q) ≡ u

  -- the first byte of a smaller piece is not that of a strip of order n
  smaller : {m : ℕ} (p : Pieces m) (n : ℕ) (b : StripStart) → strip_starts p 0 ≡ b → m < n → n ≤ WHOLE_ORDER
      → (slot_byte b ≢ IN_HAND + n) × (slot_byte b ≢ FREE_BEGUN + n)
  smaller p n nowhere e l g = (λ d. omega arith, λ d. omega arith)
  smaller p n (here k free) e l g = (λ d. omega arith, λ d. omega arith)
  smaller p n (here k held) e l g =
      let o = strip_order p 0 k held e in
      (λ d. omega arith, λ d. omega arith)
  smaller p n (here k (begun u)) e l g =
      let o = strip_order p 0 k (begun u) e in
      (λ d. omega arith, λ d. omega arith)

  lower-tasks : {n : ℕ} (l r : Pieces n) (s : ℕ) → Tasks (halves l r) s → Tasks l s
  lower-tasks l r s h q k u e g = h q k u (in-lower l r q g ∙ e) (omega arith)

  upper-tasks : {n : ℕ} (l r : Pieces n) (s : ℕ) → Tasks (halves l r) s → Tasks r (s + slots_in n)
  upper-tasks {n} l r s h q k u e g =
      let f : s + (slots_in n + q) ≡ s + slots_in n + q = omega arith in
      let d : slots_in n + q - slots_in n ≡ q = omega arith in
      rw f at (h (slots_in n + q) k u (in-upper l r (slots_in n + q) (omega arith) ∙ rw d e) (omega arith))

  -- a whole piece is shown as it is
  whole-shown : (n i s : ℕ) (u : PieceState) (below : List Piece) → Image t i (whole {n = n} u) → n ≤ WHOLE_ORDER
      → byte s ≡ slot_byte (strip_starts (whole {n = n} u) 0) → ((w : ℕ) → u ≡ begun w → task s ≡ w)
      → shown_piece t byte task n i s below ≡ piece s n u ∷ []
  whole-shown n i s free below im g b k = rw im.0
  whole-shown n i s held below im g b k = rw (im.0, eq-eqb _ _ b)
  whole-shown n i s (begun w) below im g b k =
      rw (im.0, ne_eqb (byte s) (IN_HAND + n) (λ d. omega arith), eq-eqb _ _ b, k w refl)

  whole-tasks : (n s : ℕ) (u : PieceState) → Tasks (whole {n = n} u) s → (w : ℕ) → u ≡ begun w → task s ≡ w
  whole-tasks n s free h w e = let z : ◌≡◌ {A = ℕ} 0 1 = cc in absurd (omega arith)
  whole-tasks n s held h w e = let z : ◌≡◌ {A = ℕ} 0 1 = cc in absurd (omega arith)
  whole-tasks n s (begun x) h w e =
      let f : s + 0 ≡ s = omega arith in
      let d : x ≡ w = cc in
      rw (f, d) at (h 0 n x refl (some n))

  whole-shows : (n i s : ℕ) (u : PieceState) → n ≤ WHOLE_ORDER → Image t i (whole {n = n} u)
      → Bytes byte (whole {n = n} u) s → Tasks (whole {n = n} u) s
      → observed_pieces t byte task n i s ≡ piece s n u ∷ []
  whole-shows zero i s u g im b k =
      whole-shown 0 i s u [] im g (first_byte byte (whole {n = 0} u) s b) (whole-tasks 0 s u k)
  whole-shows (suc n) i s u g im b k =
      whole-shown (suc n) i s u _ im g (first_byte byte (whole {n = suc n} u) s b) (whole-tasks (suc n) s u k)

  shows : {n : ℕ} (p : Pieces n) (i s : ℕ) → n ≤ WHOLE_ORDER → Image t i p → Bytes byte p s → Tasks p s
      → observed_pieces t byte task n i s ≡ pieces_row s p
  shows (whole {n} u) i s g im b k = whole-shows n i s u g im b k
  shows (halves {n} l r) i s g im b k =
      let f = first_byte byte l s (lower-bytes byte l r s b) in
      let d = smaller l (suc n) (strip_starts l 0) refl (omega arith) g in
      rw (
        im.0,
        ne_eqb (byte s) (IN_HAND + suc n) (λ e. d.0 (sym f ∙ e)),
        ne_eqb (byte s) (FREE_BEGUN + suc n)
            (λ e. d.1 (sym f ∙ e)),
      )
      (ap₂ (λ (x y : List Piece). x ++ y)
      (shows l (2 * i) s (omega arith) im.1 (lower-bytes byte l r s b) (lower-tasks l r s k))
      (shows r (2 * i + 1) (s + slots_in n) (omega arith) im.2 (upper-bytes byte l r s b) (upper-tasks l r s k)))

  -- the row that they show is the plain pool's
  pub observed-row : (p : Pieces WHOLE_ORDER) → Follows t byte p
      → ((s k u : ℕ) → s < SLOTS → strip_starts p s ≡ here k (begun u) → task s ≡ u)
      → observed_pieces t byte task WHOLE_ORDER 1 0 ≡ pieces_row 0 p
  observed-row p h known = shows p 1 0 (omega arith) h.tree (all-bytes byte t p h) zero-task
    where
      zero-task : (q k u : ℕ) → strip_starts p q ≡ here k (begun u) → q < SLOTS → task (0 + q) ≡ u
      zero-task q k u e g =
          let f : 0 + q ≡ q = omega arith in
          rw f (known q k u g e)
