-- What other tasks' notes say stays true at a step.
use mathlib.Core.Path.{◌≡◌, ◌∙◌}
use mathlib.Core.List.{List}
use Prim.Native.Nat.{ℕ, ◌≤◌, ◌<◌}
use native.Mathlib.Omega.{arith}
use lib.ListN.{length}
use Rattle.classes.specs.Geometry.{region_of}
use Rattle.plain.specs.State.{Phase, read, next, exchange, Mem}
use Rattle.plain.specs.Steps.{pop_list, push_list}
use Rattle.plain.specs.TaskHolds.{PopNote, PushNote, NotedHolds}
use Rattle.plain.specs.Noted.{Noted, unnoted, pop_noted, push_noted, anchor_noted, entry_noted}
use Rattle.plain.specs.Held.{Held, block_in}

-- ---- the lists

-- a list's number of won exchanges and its row before and after a step: it was not exchanged, or it was
pub data Exchanges (n : ℕ) (r : List ℕ) (n' : ℕ) (q : List ℕ) : Type 0 where
  as_before : n' ≡ n → length q ≡ length r → Exchanges n r n' q
  one_more : n < n' → Exchanges n r n' q

-- A pop's note stays true: if the list was exchanged, its number is past the noted one.
pop-note : {n : ℕ} {r : List ℕ} {n' : ℕ} {q : List ℕ} (φ : Phase) → Exchanges n r n' q
    → PopNote r n φ → PopNote q n' φ
pop-note read x h = tt
pop-note (next i) (as_before e l) h = (omega arith, λ f. omega (arith, h.1 (omega arith)))
pop-note (next i) (one_more l) h = (omega arith, λ f. absurd (omega arith))
pop-note (exchange i) (as_before e l) h = (omega arith, λ f. omega (arith, h.1 (omega arith)))
pop-note (exchange i) (one_more l) h = (omega arith, λ f. absurd (omega arith))

-- A push's note stays true.
push-note : {n : ℕ} {r : List ℕ} {n' : ℕ} {q : List ℕ} (φ : Phase) → Exchanges n r n' q
    → PushNote n φ → PushNote n' φ
push-note read x h = tt
push-note (next i) (as_before e l) h = omega arith
push-note (next i) (one_more l) h = omega arith
push-note (exchange i) (as_before e l) h = omega arith
push-note (exchange i) (one_more l) h = omega arith

-- Every note of a task that has h under way stays true, if the map's entries of its blocks' regions stay.
pub note-kept : (m m' : Mem) (h : Held) (n : Noted)
    → ((ℓ : ℕ) → Exchanges (m.won ℓ) (m.row ℓ) (m'.won ℓ) (m'.row ℓ))
    → ((y : ℕ) → 1 ≤ block_in y h → m'.map (region_of y) ≡ m.map (region_of y))
    → NotedHolds m.row m.won m.map h n → NotedHolds m'.row m'.won m'.map h n
note-kept m m' h unnoted e g i = tt
note-kept m m' h (pop_noted p φ) e g i = pop-note φ (e (pop_list p)) i
note-kept m m' h (push_noted p φ) e g i = push-note φ (e (push_list p)) i
note-kept m m' h (anchor_noted d n) e g i = i
note-kept m m' h (entry_noted y d n) e g i = (i.0, g y i.0 ∙ i.1)
