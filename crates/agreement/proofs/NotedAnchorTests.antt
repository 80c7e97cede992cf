-- The tests of a noted anchor, before a group is put before its chain.
use mathlib.Core.Path.{◌≡◌, refl, ◌∙◌}
use mathlib.Core.Bool.{Bool, true, false, ◌||◌}
use Prim.Native.Nat.{ℕ, zero, suc, ◌+◌, ◌≤◌}
use native.Mathlib.Omega.{arith}
use borrow.Author.Tests.{eq-eqb, le-leb, lt-ltb}
use lib.Dec.{eqb, ltb}
use Rattle.limits.specs.Limits.{MOST_BLOCKS}
use Rattle.words.specs.Anchor.{FULL, anchor_of}
use Rattle.words.specs.declared.anchor.Anchor.{Anchor}
use Rattle.classes.specs.Classes.{per_region}
use Rattle.classes.proofs.BlockUnits.{index_below}
use Rattle.classes.proofs.Tables.{per_region-high}
use Rattle.plain.specs.State.{Mem, Note}
use Rattle.stepped.specs.Ranges.{is_anchor, has_first, has_room}
use Rattle.agreement.specs.Relation.{FirstIn, NoteRelated, first_index}
use Rattle.agreement.proofs.BothPass.{both_true}
use Rattle.agreement.proofs.NotedAnchors.{first-max, number-max}

either_true : (p : Bool) {q : Bool} → q ≡ true → (p || q) ≡ true
either_true true e = refl
either_true false e = e

-- a noted avail is at most n, as is every index or none
pub note-max : {m : Mem} {c d : ℕ} {n : Note} {b : Anchor} → NoteRelated m c d n b → b.avail ≤ MOST_BLOCKS
note-max {m} {c} {d} {n} N =
    omega (arith, N.avail, first-max (m.descriptor d).region c n.first N.first, per_region-high c)

-- the noted word w of an anchor, which has room for g blocks more
module _ {m : Mem} {c d : ℕ} {n : Note} (w g : ℕ) (N : NoteRelated m c d n (anchor_of w))
    (room : g + (anchor_of w).count ≤ per_region c) where
  pub note-anchor : is_anchor w ≡ true
  note-anchor = both_true (both_true
      (le-leb (anchor_of w).state FULL (rw N.state (number-max n.state)))
      (le-leb (anchor_of w).avail MOST_BLOCKS (note-max N)))
      (le-leb (anchor_of w).count MOST_BLOCKS (omega (arith, per_region-high c)))

  -- avail names a block where the chain has one
  named : (f : ℕ) → FirstIn (m.descriptor d).region c f → (anchor_of w).avail ≡ first_index c f
      → (f ≡ 0 → (anchor_of w).count ≡ 0) → (eqb (anchor_of w).count 0 || ltb (anchor_of w).avail (per_region c)) ≡ true
  named zero b e h = rw (eq-eqb (anchor_of w).count 0 (h refl))
  named (suc x) b e h =
      either_true (eqb (anchor_of w).count 0) (lt-ltb (anchor_of w).avail (per_region c) (rw e (index_below b)))

  pub note-first : has_first (per_region c) w ≡ true
  note-first = named n.first N.first N.avail (λ e. N.count ∙ N.none e)

  pub note-room : has_room (per_region c) g w ≡ true
  note-room = both_true note-first
      (le-leb ((anchor_of w).count + g) (per_region c) (omega arith))
