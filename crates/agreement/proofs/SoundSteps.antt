-- Every write of a step is to a field of the layout, its value fits there, and it is to no other task's place, whatever
-- the two memories hold: one pass over the step list.
use Prim.Native.Nat.{ℕ, zero, suc, ◌≤◌, ◌<◌}
use mathlib.Core.List.{List, [], ◌∷◌}
use native.Mathlib.Omega.{arith}
use borrow.Author.Tests.{ltb-true}
use lib.Dec.{ltb}
use lib.ListN.{get_or}
use Rattle.limits.specs.Limits.{REGIONS, TASKS, CLASSES}
use Rattle.fields.specs.Columns.{View}
use Rattle.plain.specs.Calls.{Lengths}
use Rattle.control.specs.Layout.{Regions}
use Rattle.control.specs.Layout.{TaskPlace, TaskClass}
use Rattle.control.specs.Places.{IDLE}
use Rattle.control.specs.declared.moves.Pop.{Pop}
use Rattle.control.specs.declared.moves.Pop.TheVariants.{Partial, Spare, Region}
use Rattle.control.specs.declared.moves.Push.{Push}
use Rattle.control.specs.declared.moves.Push.TheVariants.{Retire, Back, Release, Offer}
use Rattle.stepped.specs.Outcome.{Outcome, bad}
use Rattle.stepped.specs.Lists as Lists
use Rattle.stepped.specs.Steps as Steps
use Rattle.agreement.proofs.Both.{Fitting}
use Rattle.agreement.proofs.SoundMoves as Moves
use Rattle.agreement.proofs.SoundMoves.{Fit, none}
use Rattle.agreement.proofs.SoundAllocate as Allocate
use Rattle.agreement.proofs.SoundFree as Free
use Rattle.agreement.proofs.SoundStrips as Strips
use Rattle.agreement.proofs.Ways.{branch}
use Rattle.stepped.specs.Calls.{Tested}

module _ (v : View) (fits : Fitting v) (link : ℕ → ℕ) {regions t c : ℕ} (few : regions ≤ REGIONS) (task : t < TASKS)
    (class : c < CLASSES) where
  -- each outcome of a list is sound
  data EachSound : List Outcome → Type 0 where
    end : EachSound []
    ◌then◌ : {o : Outcome} {os : List Outcome} → Fit t o → EachSound os → EachSound (o ∷ os)

  infixr 5 ◌then◌
  pop-sound : (p : Pop) → Fit t (Lists.pop_read v regions t c p) × Fit t (Lists.pop_next v regions t c p)
      × Fit t (Lists.pop_exchange v regions t c p)
  pop-sound p = (
    Moves.pop-read v fits few task class p,
    Moves.pop-next v fits few task class p,
    Moves.pop-exchange v fits few
        task class p,
  )

  push-sound : (p : Push) → Fit t (Lists.push_read v regions t c p) × Fit t (Lists.push_next v regions t c p)
      × Fit t (Lists.push_exchange v regions t c p)
  push-sound p = (
    Moves.push-read v fits few task class p,
    Moves.push-next v fits few task class p,
    Moves.push-exchange v fits few
        task class p,
  )

  all : EachSound (Steps.step_list v link regions t c)
  all =
      none
      then Allocate.a1 v fits link few task class
      then (pop-sound Partial).0
      then (pop-sound Partial).1
      then (pop-sound Partial).2
      then (pop-sound Spare).0
      then (pop-sound Spare).1
      then (pop-sound Spare).2
      then (pop-sound Region).0
      then (pop-sound Region).1
      then (pop-sound Region).2
      then (push-sound Retire).0
      then (push-sound Retire).1
      then (push-sound Retire).2
      then (push-sound Back).0
      then (push-sound Back).1
      then (push-sound Back).2
      then (push-sound Release).0
      then (push-sound Release).1
      then (push-sound Release).2
      then (push-sound Offer).0
      then (push-sound Offer).1
      then (push-sound Offer).2
      then Allocate.a3-read v fits link few task class
      then Allocate.a3-exchange v fits link few task class
      then Allocate.a4 v fits link few task class
      then Allocate.a7 v fits link few task class
      then Allocate.a8 v fits link few task class
      then Free.f1 v fits link few task class
      then Free.f2 v fits link few task class
      then Free.f3-read v fits link few task class
      then Free.f3-link v fits link few task class
      then Free.f3-exchange v fits link few task class
      then Free.f4-clear v fits link few task class
      then Strips.strip-take v fits task c
      then Strips.strip-give v fits task
      then Moves.leave-end v task
      then end

  found : (os : List Outcome) → EachSound os → (place : ℕ) → Fit t (get_or os place bad)
  found [] end place = none
  found (o ∷ os) (f then fs) zero = f
  found (o ∷ os) (f then fs) (suc place) = found os fs place

  step-at : (place : ℕ) → Fit t (Steps.step_at v link regions t c place)
  unfolding Steps.step_at
  step-at place = found (Steps.step_list v link regions t c) all place

-- the step of a task, once the tests have passed
module _ {lent : Lengths} {v : View} (fits : Fitting v) (link : ℕ → ℕ) {t : ℕ} (T : Tested lent v t) where
  pub step-fit : Fit t (Steps.step_of v link (v Regions) t)
  unfolding Steps.step_of
  step-fit =
      let task : t < TASKS = omega (arith, T.below, T.tasks) in
      branch (Fit t) (ltb IDLE (v (TaskPlace t))) (λ e. branch (Fit t) (ltb (v (TaskClass t)) CLASSES)
      (λ f. step-at v fits link T.regions task (ltb-true (v (TaskClass t)) CLASSES f) (v (TaskPlace t)))
      (λ f. none)) (λ e. none)
