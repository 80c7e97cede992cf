-- Every place that is no move's has its step in the step list, and there are as many steps as places. The moves' are in
-- `MovePlaces.antt` of `stepped`.
use mathlib.Core.Path.{◌≡◌, refl}
use Prim.Native.Nat.{ℕ}
use lib.ListN.{length}
use Rattle.fields.specs.Columns.{View}
use Rattle.control.specs.Places.{IDLE, A1, A3_READ, A3_EXCHANGE, A4, A7, A8, F1, F2, F3_READ, F3_LINK, F3_EXCHANGE}
use Rattle.control.specs.Places.{F4_CLEAR, PLACES}
use Rattle.stepped.specs.Outcome.{refuse}
use Rattle.stepped.specs.Allocate as Allocate
use Rattle.stepped.specs.Free as Free
use Rattle.stepped.specs.Steps.{step_list, step_at}
use Rattle.control.specs.Places.{STRIP_TAKE, STRIP_GIVE, LEAVE_END}
use Rattle.stepped.specs.StripSteps.{strip_take, strip_give}
use Rattle.stepped.specs.Leaving.{leave_end}

-- there are as many steps as places
pub steps-places : (v : View) (link : ℕ → ℕ) (regions t c : ℕ) → length (step_list v link regions t c) ≡ PLACES
steps-places v link regions t c = refl

-- the step at each place that is no move's; idle is "7 step without one"
pub record PlaceSteps (v : View) (link : ℕ → ℕ) (regions t c : ℕ) : Type 0 where
  pub idle : step_at v link regions t c IDLE ≡ refuse 7
  pub a1 : step_at v link regions t c A1 ≡ Allocate.a1 v link regions t c
  pub a3-read : step_at v link regions t c A3_READ ≡ Allocate.a3_read v link regions t c
  pub a3-exchange : step_at v link regions t c A3_EXCHANGE ≡ Allocate.a3_exchange v link regions t c
  pub a4 : step_at v link regions t c A4 ≡ Allocate.a4 v link regions t c
  pub a7 : step_at v link regions t c A7 ≡ Allocate.a7 v link regions t c
  pub a8 : step_at v link regions t c A8 ≡ Allocate.a8 v link regions t c
  pub f1 : step_at v link regions t c F1 ≡ Free.f1 v link regions t c
  pub f2 : step_at v link regions t c F2 ≡ Free.f2 v link regions t c
  pub f3-read : step_at v link regions t c F3_READ ≡ Free.f3_read v link regions t c
  pub f3-link : step_at v link regions t c F3_LINK ≡ Free.f3_link v link regions t c
  pub f3-exchange : step_at v link regions t c F3_EXCHANGE ≡ Free.f3_exchange v link regions t c
  pub f4-clear : step_at v link regions t c F4_CLEAR ≡ Free.f4_clear v link regions t c
  pub strip-take : step_at v link regions t c STRIP_TAKE ≡ strip_take v t c
  pub strip-give : step_at v link regions t c STRIP_GIVE ≡ strip_give v t
  pub leave-end : step_at v link regions t c LEAVE_END ≡ leave_end v t

pub place-steps : (v : View) (link : ℕ → ℕ) (regions t c : ℕ) → PlaceSteps v link regions t c
unfolding step_at
place-steps v link regions t c = record {
  idle = refl;
  a1 = refl;
  a3-read = refl;
  a3-exchange = refl;
  a4 = refl;
  a7 = refl;
  a8 = refl;
  f1 = refl;
  f2 = refl;
  f3-read = refl;
  f3-link = refl;
  f3-exchange = refl;
  f4-clear = refl;
  strip-take = refl;
  strip-give = refl;
  leave-end = refl;
}
