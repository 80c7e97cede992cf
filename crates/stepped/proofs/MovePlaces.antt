-- The steps at the three places of a pop, and of a push, which stand in a row.
use mathlib.Core.Path.{◌≡◌, refl}
use Prim.Native.Nat.{ℕ, ◌+◌}
use Rattle.fields.specs.Columns.{View}
use Rattle.control.specs.Places.{TO_NEXT, TO_EXCHANGE}
use Rattle.control.specs.declared.moves.Pop.{Pop}
use Rattle.control.specs.declared.moves.Pop.TheVariants.{Partial, Spare, Region}
use Rattle.control.specs.declared.moves.Push.{Push}
use Rattle.control.specs.declared.moves.Push.TheVariants.{Retire, Back, Release, Offer}
use Rattle.stepped.specs.Lists.{pop_place, pop_read, pop_next, pop_exchange, push_place, push_read, push_next}
use Rattle.stepped.specs.Lists.{push_exchange}
use Rattle.stepped.specs.Steps.{step_at}

-- the step at each of the three places of a pop
pub pop-steps : (v : View) (link : ℕ → ℕ) (regions t c : ℕ) (P : Pop)
    → (step_at v link regions t c (pop_place P) ≡ pop_read v regions t c P)
    × (step_at v link regions t c (pop_place P + TO_NEXT) ≡ pop_next v regions t c P)
    × (step_at v link regions t c (pop_place P + TO_EXCHANGE) ≡ pop_exchange v regions t c P)
unfolding step_at
pop-steps v link regions t c Partial = (refl, refl, refl)
pop-steps v link regions t c Spare = (refl, refl, refl)
pop-steps v link regions t c Region = (refl, refl, refl)

-- the step at each of the three places of a push
pub push-steps : (v : View) (link : ℕ → ℕ) (regions t c : ℕ) (P : Push)
    → (step_at v link regions t c (push_place P) ≡ push_read v regions t c P)
    × (step_at v link regions t c (push_place P + TO_NEXT) ≡ push_next v regions t c P)
    × (step_at v link regions t c (push_place P + TO_EXCHANGE) ≡ push_exchange v regions t c P)
unfolding step_at
push-steps v link regions t c Retire = (refl, refl, refl)
push-steps v link regions t c Back = (refl, refl, refl)
push-steps v link regions t c Release = (refl, refl, refl)
push-steps v link regions t c Offer = (refl, refl, refl)
