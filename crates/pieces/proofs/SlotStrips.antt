-- The strip that a slot is in starts at its place, and has the slot.
use mathlib.Core.Path.{◌≡◌, refl, sym, ap, ◌∙◌}
use Prim.Native.Nat.{ℕ, ◌+◌, ◌-◌, ◌≤◌, ◌<◌}
use native.Mathlib.Omega.{arith}
use Rattle.rows.specs.Comparisons.{Order, before, after, order?}
use Rattle.pieces.specs.Pieces.{slots_in, PieceState, free, held, begun, Pieces, whole, halves}
use Rattle.pieces.specs.Strips.{here, strip_starts}
use Rattle.pieces.specs.StripSlots.{within, slot_holds}
use Rattle.pieces.proofs.FreePieces.{lower, upper}
use Rattle.pieces.proofs.StripStarting.{in-lower, in-upper}

-- the slot s, of pieces with a slots before them, is in the strip of order k and state u at the place p
pub record StripOf (a : ℕ) {n : ℕ} (t : Pieces n) (s p k : ℕ) (u : PieceState) : Type 0 where
  pub starts : strip_starts t (p - a) ≡ here k u
  pub behind : a ≤ p
  pub from : p ≤ a + s
  pub to : a + s < p + slots_in k

pub strip-of : (a : ℕ) {n : ℕ} (t : Pieces n) (s p k : ℕ) (u : PieceState) → s < slots_in n
    → slot_holds a t s ≡ within p k u → StripOf a t s p k u
strip-of a (whole free) s p k u l e = let z : ◌≡◌ {A = ℕ} 0 1 = cc in absurd (omega arith)
strip-of a (whole {n} held) s p k u l e =
    let d : a ≡ p = cc in
    let f : n ≡ k = cc in
    let g : held ≡ u = cc in
    let z : p - a ≡ 0 = omega arith in
    record {
      starts = rw (z, ← f, ← g) refl;
      behind = omega arith;
      from = omega arith;
      to = omega (arith, ap slots_in f);
    }
strip-of a (whole {n} (begun t)) s p k u l e =
    let d : a ≡ p = cc in
    let f : n ≡ k = cc in
    let g : begun t ≡ u = cc in
    let z : p - a ≡ 0 = omega arith in
    record {
      starts = rw (z, ← f, ← g) refl;
      behind = omega arith;
      from = omega arith;
      to = omega (arith, ap slots_in f);
    }
strip-of a (halves {n} x y) s p k u l e =
    by (order? s (slots_in n)) (strip-of a x s p k u) (strip-of (a + slots_in n) y (s - slots_in n) p k u)
  where
    by : Order s (slots_in n) → (s < slots_in n → slot_holds a x s ≡ within p k u → StripOf a x s p k u)
        → (s - slots_in n < slots_in n → slot_holds (a + slots_in n) y (s - slots_in n) ≡ within p k u
        → StripOf (a + slots_in n) y (s - slots_in n) p k u)
        → StripOf a (halves x y) s p k u
    by (before h) f g =
        let S = f h (sym (lower a x y s h) ∙ e) in
        record {
          starts = in-lower x y (p - a) (omega (arith, S.behind, S.from)) ∙ S.starts;
          behind = S.behind;
          from = S.from;
          to = S.to;
        }
    by (after h) f g =
        let S = g (omega arith) (sym (upper a x y s h) ∙ e) in
        let d : p - a - slots_in n ≡ p - (a + slots_in n) = omega arith in
        record {
          starts = in-upper x y (p - a) (omega (arith, S.behind)) ∙ rw d S.starts;
          behind = omega (arith, S.behind);
          from = omega (arith, S.from);
          to = omega (arith, S.to);
        }
