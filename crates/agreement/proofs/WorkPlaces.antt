-- The place of a task at work, as a number: one of the step list's, and not idle's.
use Prim.Native.Nat.{ℕ, ◌+◌, ◌≤◌, ◌<◌}
use native.Mathlib.Omega.{arith}
use Rattle.plain.specs.State.{Phase, Work, Mem}
use Rattle.control.specs.Places.{PLACES}
use Rattle.control.specs.Places.{TO_EXCHANGE, IDLE}
use Rattle.agreement.specs.Contents.{Contents, Slot}
use Rattle.agreement.specs.Relation.{MoveRelated, at_read, at_next, at_exchange, WorkRelated, r_a1, r_popping}
use Rattle.agreement.specs.Relation.{r_pushing, r_a3_read, r_a3_exchange, r_a4, r_a7, r_a8, r_f1, r_f2, r_f2_more}
use Rattle.agreement.specs.Relation.{r_f3_read, r_f3_link, r_f3_exchange, r_f4_clear, r_strip_take, r_strip_give}
use Rattle.agreement.specs.Relation.{r_leave_end}
use Rattle.agreement.proofs.ListMoves.{pop-first, push-later}

-- a move's places, which are three
pub span : {m : Mem} {s : Slot} {b ℓ items least : ℕ} {Ready : ℕ → Type 0} {φ : Phase}
    → MoveRelated m s b ℓ items least Ready φ
    → (b ≤ s.place) × (s.place ≤ b + TO_EXCHANGE)
span (at_read e) = omega arith
span (at_next e N i j) = omega arith
span (at_exchange e N i j r) = omega arith

-- every place of a task at work
pub work-place : {regions : ℕ} {a : Contents} {m : Mem} {s : Slot} {w : Work} → WorkRelated regions a m s w
    → (IDLE < s.place) × (s.place < PLACES)
work-place (r_a1 e) = omega arith
work-place (r_popping P h) = omega (arith, span h, pop-first P)
work-place (r_pushing P z f h) = omega (arith, span h, push-later P)
work-place (r_a3_read e) = omega arith
work-place (r_a3_exchange e N i j l o) = omega arith
work-place (r_a4 e l n h) = omega arith
work-place (r_a7 e) = omega arith
work-place (r_a8 e) = omega arith
work-place (r_f1 e) = omega arith
work-place (r_f2 e z) = omega arith
work-place (r_f2_more e G) = omega arith
work-place (r_f3_read e G) = omega arith
work-place (r_f3_link e G N l) = omega arith
work-place (r_f3_exchange e G N l i) = omega arith
work-place (r_f4_clear e i) = omega arith
work-place (r_strip_take e) = omega arith
work-place (r_strip_give e i) = omega arith
work-place (r_leave_end e) = omega arith
