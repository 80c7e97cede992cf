-- The bytes of the slots of pieces, and of their halves.
use mathlib.Core.Path.{◌≡◌, ap, ◌∙◌}
use Prim.Native.Nat.{ℕ, ◌+◌, ◌-◌, ◌<◌}
use native.Mathlib.Omega.{arith}
use Rattle.limits.specs.Limits.{WHOLE_ORDER}
use Rattle.pieces.specs.Pieces.{slots_in, Pieces, halves}
use Rattle.pieces.specs.Strips.{strip_starts}
use Rattle.pieces.proofs.PieceLengths.{some}
use Rattle.pieces.proofs.StripStarting.{in-lower, in-upper}
use Rattle.strip_tree.specs.declared.tree.Tree.{Tree}
use Rattle.strips_agreement.specs.TreeFollows.{slot_byte, Follows}

module _ (byte : ℕ → ℕ) where
  -- the bytes from the slot s on are those of the pieces
  abbrev pub Bytes : {n : ℕ} → Pieces n → ℕ → Type 0
  Bytes {n} p s = (q : ℕ) → q < slots_in n → byte (s + q) ≡ slot_byte (strip_starts p q)

  pub first_byte : {n : ℕ} (p : Pieces n) (s : ℕ) → Bytes p s → byte s ≡ slot_byte (strip_starts p 0)
  first_byte {n} p s h =
      let e : s + 0 ≡ s = omega arith in
      rw e at (h 0 (some n))

  pub lower-bytes : {n : ℕ} (l r : Pieces n) (s : ℕ) → Bytes (halves l r) s → Bytes l s
  lower-bytes l r s h q g = h q (omega arith) ∙ ap slot_byte (in-lower l r q g)

  pub upper-bytes : {n : ℕ} (l r : Pieces n) (s : ℕ) → Bytes (halves l r) s → Bytes r (s + slots_in n)
  upper-bytes {n} l r s h q g =
      let e : s + (slots_in n + q) ≡ s + slots_in n + q = omega arith in
      let d : slots_in n + q - slots_in n ≡ q = omega arith in
      rw (e, d) at (h (slots_in n + q) (omega arith) ∙ ap slot_byte (in-upper l r (slots_in n + q) (omega arith)))

  -- bytes that follow the pieces are theirs from the first slot on
  pub all-bytes : (t : Tree) (p : Pieces WHOLE_ORDER) → Follows t byte p → Bytes p 0
  all-bytes t p h q g =
      let e : 0 + q ≡ q = omega arith in
      rw e (h.slots q g)
