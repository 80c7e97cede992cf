-- docs/POOL.md, "Requests, steps and moves"
-- The step list by place.
use Rattle.std.specs.Prelude.{ℕ, cond, List, [], ◌∷◌, ltb, get_or}
use Rattle.limits.specs.Limits.{CLASSES}
use Rattle.fields.specs.Columns.{View}
use Rattle.control.specs.Layout.{TaskPlace, TaskClass}
use Rattle.control.specs.Places.{IDLE}
use Rattle.control.specs.declared.moves.Pop.TheVariants.{Partial, Spare, Region}
use Rattle.control.specs.declared.moves.Push.TheVariants.{Retire, Back, Release, Offer}
use Rattle.stepped.specs.Outcome.{Outcome, refuse, bad}
use Rattle.stepped.specs.Lists.{pop_read, pop_next, pop_exchange, push_read, push_next, push_exchange}
use Rattle.stepped.specs.Allocate.{a1, a3_read, a3_exchange, a4, a7, a8}
use Rattle.stepped.specs.Free.{f1, f2, f3_read, f3_link, f3_exchange, f4_clear}
use Rattle.stepped.specs.StripSteps.{strip_take, strip_give}
use Rattle.stepped.specs.Leaving.{leave_end}

module _ (v : View) (link : ℕ → ℕ) (regions t c : ℕ) where
  -- the step at each place, in the order of the table of places; idle has "7 step without one"
  abbrev pub step_list : List Outcome
  step_list =
      refuse 7
      ∷ a1 v link regions t c
      ∷ pop_read v regions t c Partial
      ∷ pop_next v regions t c Partial
      ∷ pop_exchange v regions t c Partial
      ∷ pop_read v regions t c Spare
      ∷ pop_next v regions t c Spare
      ∷ pop_exchange v regions t c Spare
      ∷ pop_read v regions t c Region
      ∷ pop_next v regions t c Region
      ∷ pop_exchange v regions t c Region
      ∷ push_read v regions t c Retire
      ∷ push_next v regions t c Retire
      ∷ push_exchange v regions t c Retire
      ∷ push_read v regions t c Back
      ∷ push_next v regions t c Back
      ∷ push_exchange v regions t c Back
      ∷ push_read v regions t c Release
      ∷ push_next v regions t c Release
      ∷ push_exchange v regions t c Release
      ∷ push_read v regions t c Offer
      ∷ push_next v regions t c Offer
      ∷ push_exchange v regions t c Offer
      ∷ a3_read v link regions t c
      ∷ a3_exchange v link regions t c
      ∷ a4 v link regions t c
      ∷ a7 v link regions t c
      ∷ a8 v link regions t c
      ∷ f1 v link regions t c
      ∷ f2 v link regions t c
      ∷ f3_read v link regions t c
      ∷ f3_link v link regions t c
      ∷ f3_exchange v link regions t c
      ∷ f4_clear v link regions t c
      ∷ strip_take v t c
      ∷ strip_give v t
      ∷ leave_end v t
      ∷ []

  -- the step at a place; a place past the list is outside its range
  unfoldable pub step_at : ℕ → Outcome
  step_at place = get_or step_list place bad

-- one step of the task t: at a place other than idle the class of its request is read, too, or the order of its strip
unfoldable pub step_of : View → (ℕ → ℕ) → ℕ → ℕ → Outcome
step_of v link regions t =
    let place = v (TaskPlace t) in
    let c = v (TaskClass t) in
    cond (ltb IDLE place) (cond (ltb c CLASSES) (step_at v link regions t c place) bad) (refuse 7)
