-- A strip that was taken, where it lies and what the pieces are then; and one that was given back.
use mathlib.Core.Path.{◌≡◌, refl, sym, ◌∙◌}
use Prim.Native.Nat.{ℕ, ◌+◌, ◌≤◌}
use native.Mathlib.Omega.{arith}
use Rattle.limits.specs.Limits.{WHOLE_ORDER, SLOTS}
use Rattle.pieces.specs.Pieces.{slots_in, PieceState, Pieces, Joined}
use Rattle.pieces.specs.Strips.{least_order, least_place, least_halved, none_found, strip_at, take_strip}
use Rattle.pieces.specs.Strips.{here, strip_starts, give_strip}
use Rattle.pieces.specs.PieceRows.{pieces_row, AtMultiple, RowTakes, RowGives, NoneToJoin}
use Rattle.pieces.proofs.FreeStretches.{Took, found_none, found-one, took}
use Rattle.pieces.proofs.PieceRows.{row-takes}
use Rattle.pieces.proofs.RowGiving.{row_gives}
use Rattle.pieces.proofs.NoneToJoin.{none_to_join}
use Rattle.pieces.proofs.StripTaking as taking

-- what was taken is the least piece's
record Least (k s : ℕ) (p q : Pieces WHOLE_ORDER) : Type 0 where
  small : least_order k p ≤ WHOLE_ORDER
  place : least_place k p ≡ s
  left : least_halved k p ≡ q

module _ (k s : ℕ) (p q : Pieces WHOLE_ORDER) (e : take_strip k p ≡ strip_at s q) where
  least : Least k s p q
  least = by (took k p)
    where
      by : Took k p → Least k s p q
      by (found_none h d) =
          let f : none_found ≡ strip_at s q = sym d ∙ e in
          let z : ◌≡◌ {A = ℕ} 0 1 = cc in
          absurd (omega arith)
      by (found-one h d) =
          let f : strip_at (least_place k p) (least_halved k p) ≡ strip_at s q = sym d ∙ e in
          record { small = h; place = cc; left = cc }

  -- "starting from the smallest sufficient piece, at the lowest place among equals"
  pub taken-row : RowTakes k s (pieces_row 0 p) (pieces_row 0 q)
  taken-row =
      let d : 0 + least_place k p ≡ s = omega (arith, least.place) in
      rw (← d, ← least.left) (row-takes k 0 p least.small)

  -- the strip lies in the memory, at a multiple of its length
  pub taken-fits : s + slots_in k ≤ SLOTS
  taken-fits = rw (← least.place) (taking.fits k p least.small)

  pub taken-aligned : k ≤ WHOLE_ORDER → AtMultiple s k
  taken-aligned b = rw (← least.place) (taking.aligned k b p least.small)

  -- no piece stands as two free halves
  pub taken-joined : Joined p → Joined q
  taken-joined m = rw (← least.left) (taking.take-joined k p m)

-- the memory begins at the slot 0
at_first : AtMultiple 0 WHOLE_ORDER
at_first = record { times = 0; is = refl }

-- "Freed halves join whenever both are free": which pieces the strip that is given back is joined with
pub given-row : (p : Pieces WHOLE_ORDER) (s k : ℕ) (u : PieceState) → strip_starts p s ≡ here k u
    → RowGives k s u (pieces_row 0 p) (pieces_row 0 (give_strip s p))
given-row p s k u e =
    let d : 0 + s ≡ s = omega arith in
    rw d at (row_gives 0 p at_first s k u e)

-- and none is left to join
pub none_left : (p : Pieces WHOLE_ORDER) → Joined p → NoneToJoin (pieces_row 0 p)
none_left p = none_to_join 0 p at_first
