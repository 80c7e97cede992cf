-- What counts by the state of an anchor.
use mathlib.Core.Path.{◌≡◌, refl}
use Prim.Native.Nat.{ℕ, ◌≤◌, ◌<◌}
use native.Mathlib.Omega.{arith}
use Rattle.plain.specs.State.{State, EMPTY, PARTIAL, FULL, state_number}
use Rattle.plain.specs.Calls.{NotEmpty}
use Rattle.plain.specs.ByState.{if_open, IsOpen, IfOpen, one_if_empty}

-- ---- what counts while an anchor is not EMPTY

-- What counts less, counts less in every state.
pub open-le : (z : State) {m k : ℕ} → m ≤ k → if_open z m ≤ if_open z k
open-le EMPTY h = omega arith
open-le PARTIAL h = h
open-le FULL h = h

-- No more counts than there is.
pub open-max : (z : State) (n : ℕ) → if_open z n ≤ n
open-max EMPTY n = omega arith
open-max PARTIAL n = omega arith
open-max FULL n = omega arith

-- What is less while the anchor is not EMPTY counts less.
pub open-le-asked : (z : State) (m k : ℕ) → IfOpen z (m ≤ k) → if_open z m ≤ if_open z k
open-le-asked EMPTY m k h = omega arith
open-le-asked PARTIAL m k h = h
open-le-asked FULL m k h = h

-- An anchor that is not EMPTY counts everything.
pub open_is : (z : State) → NotEmpty z → IsOpen z
open_is EMPTY h i = absurd h
open_is PARTIAL h i = refl
open_is FULL h i = refl

-- An anchor that counts everything is not EMPTY.
pub is_open : (z : State) → IsOpen z → NotEmpty z
is_open EMPTY h = absurd (omega (arith, h 1))
is_open PARTIAL h = tt
is_open FULL h = tt

-- What counts at all is not 0, and everything counts in this state.
pub open_counts : (z : State) (m : ℕ) → 1 ≤ if_open z m → (1 ≤ m) × IsOpen z
open_counts EMPTY m h = absurd (omega arith)
open_counts PARTIAL m h = (h, λ i. refl)
open_counts FULL m h = (h, λ i. refl)

-- What is asked in this state holds, if everything counts in it.
pub open-holds : (z : State) {X : Type 0} → IsOpen z → IfOpen z X → X
open-holds EMPTY l h = absurd (omega (arith, l 1))
open-holds PARTIAL l h = h
open-holds FULL l h = h

-- What holds may be asked in every state.
pub open-asks : (z : State) {X : Type 0} → X → IfOpen z X
open-asks EMPTY x = tt
open-asks PARTIAL x = x
open-asks FULL x = x

-- An open anchor does not count as EMPTY.
pub open-not-empty : (z : State) → IsOpen z → one_if_empty z ≡ 0
open-not-empty EMPTY h = absurd (omega (arith, h 1))
open-not-empty PARTIAL h = refl
open-not-empty FULL h = refl

-- What is asked of an open anchor may be replaced by what follows from it.
pub open-map : (z : State) {X Y : Type 0} → (IsOpen z → X → Y) → IfOpen z X → IfOpen z Y
open-map EMPTY f x = tt
open-map PARTIAL f x = f (λ i. refl) x
open-map FULL f x = f (λ i. refl) x

-- ---- the states

-- A state that is not EMPTY has a larger number than EMPTY.
pub not-empty : (z : State) → NotEmpty z → state_number EMPTY < state_number z
not-empty EMPTY h = absurd h
not-empty PARTIAL h = omega arith
not-empty FULL h = omega arith

-- A state with a larger number than EMPTY is not EMPTY.
pub larger-is : (z : State) → state_number EMPTY < state_number z → NotEmpty z
larger-is EMPTY h = absurd (omega arith)
larger-is PARTIAL h = tt
larger-is FULL h = tt

-- a state is one of the three
pub data IsState (s : State) : Type 0 where
  is-empty : s ≡ EMPTY → IsState s
  is-partial : s ≡ PARTIAL → IsState s
  is-full : s ≡ FULL → IsState s

-- Which of the three a state is.
pub state? : (s : State) → IsState s
state? EMPTY = is-empty refl
state? PARTIAL = is-partial refl
state? FULL = is-full refl

-- A state that counts as EMPTY is EMPTY.
pub empty-is : (s : State) → 1 ≤ one_if_empty s → s ≡ EMPTY
empty-is EMPTY h = refl
empty-is PARTIAL h = absurd (omega arith)
empty-is FULL h = absurd (omega arith)
