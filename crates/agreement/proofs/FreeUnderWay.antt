-- What a free has under way, by the number of its task's place.
use mathlib.Core.Path.{◌≡◌}
use mathlib.Core.Logic.{◌≢◌}
use Prim.Native.Nat.{ℕ, ◌≤◌, ◌<◌}
use native.Mathlib.Omega.{arith}
use Rattle.rows.specs.Counting.{count}
use Rattle.rows.proofs.Weights.{when-same}
use Rattle.fields.specs.Columns.{View}
use Rattle.words.specs.Anchor.{FULL}
use Rattle.plain.specs.State.{State, EMPTY, PARTIAL, state_number, Place}
use Rattle.plain.specs.State as Plain
use Rattle.plain.specs.Held.{class_at, under_way, owed, holds_descriptor}
use Rattle.control.specs.Layout.{TaskUnit, TaskPlace, TaskClass, TaskDescriptor, TaskState}
use Rattle.control.specs.Places.{PUSH_RELEASE, PUSH_OFFER, A3_READ, A8, F1, F3_EXCHANGE, STRIP_TAKE}
use Rattle.agreement.proofs.Purposes.{Owned}

-- The block that is freed, if there is one, and the descriptor that is owed to the partial list
-- from the exchange on, where it found the anchor FULL.
pub data Freeing (v : View) (t : ℕ) (p : Place) : Type 0 where
  allocates : v (TaskPlace t) < PUSH_RELEASE → Freeing v t p
  fills : A3_READ ≤ v (TaskPlace t) → v (TaskPlace t) ≤ A8 → Freeing v t p
  past-frees : STRIP_TAKE ≤ v (TaskPlace t) → Freeing v t p
  puts : v (TaskPlace t) ≡ F1 → class_at p ≡ v (TaskClass t) → 1 ≤ count (v (TaskUnit t)) (under_way p) → Freeing v t p
  returns : PUSH_OFFER ≤ v (TaskPlace t) → v (TaskPlace t) ≤ F3_EXCHANGE → v (TaskPlace t) ≢ F1
      → class_at p ≡ v (TaskClass t) → Owned (v (TaskUnit t)) (under_way p) → Freeing v t p
  owes : (v (TaskState t) ≡ FULL → 1 ≤ holds_descriptor (v (TaskDescriptor t)) p) → v (TaskPlace t) ≢ F1
      → class_at p ≡ v (TaskClass t) → Owned (v (TaskUnit t)) (under_way p) → Freeing v t p

pub owed-one : (z : State) (d : ℕ) → state_number z ≡ FULL → 1 ≤ count d (owed z d)
owed-one EMPTY d e = absurd (omega arith)
owed-one PARTIAL d e = absurd (omega arith)
owed-one Plain.FULL d e = omega (arith, when-same d 1)
