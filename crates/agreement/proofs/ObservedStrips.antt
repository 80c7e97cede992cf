-- From the relation to what is compared of the strips.
use mathlib.Core.Path.{◌≡◌, refl, sym, subst, subst⁻¹, ◌∙◌}
use mathlib.Core.Bool.{Bool, true, false, cond, ◌&&◌}
use Prim.Native.Nat.{ℕ, zero, suc, ◌+◌, ◌≤◌, ◌<◌}
use native.Mathlib.Omega.{arith}
use borrow.Author.Tests.{le-leb, lt-leb}
use lib.Dec.{eqb, leb}
use Rattle.limits.specs.Limits.{TASKS, SLOTS, UNITS, BOTH_UNITS}
use Rattle.rows.specs.Comparisons.{Equality, same, other, same?}
use Rattle.rows.specs.Totals.{total}
use Rattle.rows.proofs.Totals.{total-only, total-zero}
use Rattle.pieces.specs.Pieces.{free, held, begun}
use Rattle.pieces.specs.Strips.{StripStart, nowhere, here, strip_starts}
use Rattle.pieces.specs.PieceRows.{pieces_row, having_slot, NoneToJoin}
use Rattle.pieces.specs.StripUnits.{strip_unit, slot_of_unit}
use Rattle.pieces.proofs.PieceRows.{once}
use Rattle.pieces.proofs.Strips.{none_left}
use Rattle.strip_tree.specs.SlotStates.{FREE_BEGUN}
use Rattle.strips_agreement.specs.TreeFollows.{Follows}
use Rattle.strips_agreement.specs.StripsAgree.{StartAgrees}
use Rattle.strips_agreement.specs.SlotsCounted.{free_over, strips_over}
use Rattle.strips_agreement.proofs.StripsAgree.{start-agrees}
use Rattle.strips_agreement.proofs.ObservedPieces.{observed-row}
use Rattle.strips_agreement.proofs.SlotsCounted.{counted-once}
use Rattle.plain.specs.State.{Mem}
use Rattle.plain.specs.Requests.{frees_strip}
use Rattle.plain.specs.Invariant.{StripsHold}
use Rattle.control.specs.Places.{STRIP_GIVE}
use Rattle.agreement.specs.Contents.{Contents}
use Rattle.agreement.specs.Relation.{Related}
use Rattle.agreement.specs.Observe.{task_freeing, frees_slot, pieces_in}
use Rattle.agreement.proofs.WorkKinds.{frees-there, there-frees}

module _ {regions : ℕ} {a : Contents} {m : Mem} (R : Related regions a m) (H : StripsHold m) where
  follows : Follows a.strips.tree a.strips.byte m.strips
  follows = R.core.strips

  -- whether the fields of the task t say that it frees the strip at the slot q
  abbrev flag : ℕ → ℕ → Bool
  flag t q = eqb (a.slot t).place STRIP_GIVE && eqb (a.slot t).unit (strip_unit q)

  flagged : (t q : ℕ) → t < TASKS → frees_strip (m.task t).place ≡ suc q → flag t q ≡ true
  flagged t q l e = frees-there (R.slots t l).place q e

  freed : (t q : ℕ) → t < TASKS → flag t q ≡ true → frees_strip (m.task t).place ≡ suc q
  freed t q l e = there-frees (R.slots t l).place q e

  -- only one task frees the strip at a slot
  only : (q k u t : ℕ) → strip_starts m.strips q ≡ here k (begun u) → t < TASKS → flag t q ≡ true → t ≡ u
  only q k u t e l f =
      let B = H.begun_by t q l (freed t q l f) in
      let g : here B.0 (begun t) ≡ here k (begun u) = sym B.1 ∙ e in
      cc

  unflagged : (q k u t : ℕ) → strip_starts m.strips q ≡ here k (begun u) → t < TASKS → Equality t u
      → (Equality t u → flag t q ≡ true → ⊥) → flag t q ≡ false
  unflagged q k u t e l o h = by (flag t q) refl
    where
      by : (b : Bool) → flag t q ≡ b → b ≡ false
      by true f = absurd (h o f)
      by false f = refl

  -- ---- the task that frees a strip

  first : (q k u n t : ℕ) → strip_starts m.strips q ≡ here k (begun u) → u < TASKS → t ≤ u → u < t + n
      → t + n ≤ TASKS → task_freeing a n t q ≡ u
  first q k u zero t e l f g h = absurd (omega arith)
  first q k u (suc n) t e l f g h =
      by (same? t u) (λ x. first q k u n (suc t) e l x (omega arith) (omega arith))
    where
      by : Equality t u → (suc t ≤ u → task_freeing a n (suc t) q ≡ u) → task_freeing a (suc n) t q ≡ u
      by (same d) rest = rw (d, flagged u q l (H.freed_by q k u e).1) refl
      by (other d) rest =
          rw (unflagged q k u t e (omega arith) (other d) (λ o x. d (only q k u t e (omega arith) x)))
          (rest (omega arith))

  pub pieces-same : pieces_in a ≡ pieces_row 0 m.strips
  pieces-same =
      observed-row a.strips.tree a.strips.byte (task_freeing a TASKS 0) m.strips follows
      (λ q k u l e. let B = H.freed_by q k u e in first q k u TASKS 0 e B.0 (omega arith) (omega (arith, B.0))
      (omega arith))

  -- ---- each slot once

  pub one-slot : (u : ℕ) → UNITS ≤ u → u < BOTH_UNITS
      → free_over a.strips.tree (slot_of_unit u) + strips_over a.strips.byte (slot_of_unit u) ≡ 1
  one-slot u f t = counted-once a.strips.tree a.strips.byte m.strips follows (slot_of_unit u) (omega arith)

  pub plain-one-slot : (u : ℕ) → UNITS ≤ u → u < BOTH_UNITS
      → having_slot (slot_of_unit u) (pieces_row 0 m.strips) ≡ 1
  plain-one-slot u f t =
      let s = slot_of_unit u in
      let e : 0 + s ≡ s = omega arith in
      subst (λ (n : ℕ). having_slot n (pieces_row 0 m.strips) ≡ 1) e (once 0 m.strips s (omega arith))

  pub joined-row : NoneToJoin (pieces_in a)
  joined-row = subst⁻¹ NoneToJoin pieces-same (none_left m.strips H.joined)

  -- ---- each strip whose free has begun is freed by one task

  -- no task frees a strip at a slot where none has begun
  none-frees : (q : ℕ) → ((k u : ℕ) → strip_starts m.strips q ≡ here k (begun u) → ⊥)
      → total TASKS (λ t s. frees_slot s q) a.slot ≡ 0
  none-frees q n = total-zero TASKS (λ t s. frees_slot s q) a.slot (λ t l. by t l (flag t q) refl)
    where
      by : (t : ℕ) → t < TASKS → (b : Bool) → flag t q ≡ b → ◌≡◌ {A = ℕ} (cond b 1 0) 0
      by t l true e =
          let B = H.begun_by t q l (freed t q l e) in
          absurd (n B.0 t B.1)
      by t l false e = refl

  one-frees : (q k u : ℕ) → strip_starts m.strips q ≡ here k (begun u)
      → total TASKS (λ t s. frees_slot s q) a.slot ≡ 1
  one-frees q k u e =
      let B = H.freed_by q k u e in
      total-only TASKS (λ t s. frees_slot s q) a.slot u B.0
      (λ t l d. rw (unflagged q k u t e l (other d) (λ o x. d (only q k u t e l x))))
      ∙ rw (flagged u q B.0 B.1)

  pub freed-once : (q : ℕ) → q < SLOTS
      → total TASKS (λ t s. frees_slot s q) a.slot ≡ cond (leb FREE_BEGUN (a.strips.byte q)) 1 0
  freed-once q l =
      by (strip_starts m.strips q) refl
      (start-agrees a.strips.tree a.strips.byte m.strips follows q l)
    where
      by : (x : StripStart) → strip_starts m.strips q ≡ x
          → StartAgrees a.strips.tree a.strips.byte m.strips q x
          → total TASKS (λ t s. frees_slot s q) a.slot ≡ cond (leb FREE_BEGUN (a.strips.byte q)) 1 0
      by nowhere e A =
          rw (lt-leb FREE_BEGUN (a.strips.byte q) (omega (arith, A)))
          (none-frees q (λ k u f. let g : nowhere ≡ here k (begun u) = sym e ∙ f in
          let y : ◌≡◌ {A = ℕ} 0 1 = cc in omega arith))
      by (here j free) e A = absurd A
      by (here j held) e A =
          rw (lt-leb FREE_BEGUN (a.strips.byte q) (omega (arith, A.is, A.order)))
          (none-frees q (λ k u f. let g : here j held ≡ here k (begun u) = sym e ∙ f in
          let y : ◌≡◌ {A = ℕ} 0 1 = cc in omega arith))
      by (here j (begun u)) e A =
          rw (le-leb FREE_BEGUN (a.strips.byte q) (omega (arith, A.is))) (one-frees q j u e)
