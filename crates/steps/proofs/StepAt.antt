-- The step at a place, and past the places.
use mathlib.Core.Path.{◌≡◌, refl, sym, ap, ◌∙◌}
use mathlib.Core.List.{List, [], ◌∷◌}
use Prim.Native.Nat.{ℕ, zero, suc, ◌≤◌, ◌<◌}
use native.Mathlib.Omega.{arith}
use borrow.Author.Tests.{lt-ltb, le-ltb}
use lib.ListN.{get_or, length}
use Rattle.limits.specs.Limits.{CLASSES}
use Rattle.fields.specs.Columns.{View}
use Rattle.control.specs.Layout.{TaskPlace, TaskClass}
use Rattle.control.specs.Places.{IDLE, PLACES}
use Rattle.stepped.specs.Outcome.{Outcome, refuse, bad}
use Rattle.stepped.specs.Steps.{step_list, step_at, step_of}

-- a number past a list of outcomes gives 14
past : (os : List Outcome) (n : ℕ) → length os ≤ n → get_or os n bad ≡ bad
past [] n h = refl
past (o ∷ os) zero h = absurd (omega (arith, h))
past (o ∷ os) (suc n) h = past os n (omega (arith, h))

module _ (v : View) (link : ℕ → ℕ) (regions t c : ℕ) {place : ℕ} where
  -- the step at the place n of the list is x
  pub at : (n : ℕ) {x : Outcome} → get_or (step_list v link regions t c) n bad ≡ x → place ≡ n
      → step_at v link regions t c place ≡ x
  unfolding step_at
  at n p e = ap (λ (k : ℕ). get_or (step_list v link regions t c) k bad) e ∙ p

  -- equal places have the same step
  pub same : {n : ℕ} → place ≡ n → step_at v link regions t c place ≡ step_at v link regions t c n
  same e = ap (step_at v link regions t c) e

  pub past-places : PLACES ≤ place → step_at v link regions t c place ≡ bad
  unfolding step_at
  past-places h = past (step_list v link regions t c) place h

-- the tests of a step: a request in hand, and its class
module _ (v : View) (link : ℕ → ℕ) (regions t : ℕ) where
  pub idle : v (TaskPlace t) ≡ IDLE → step_of v link regions t ≡ refuse 7
  unfolding step_of
  idle h = rw (le-ltb IDLE (v (TaskPlace t)) (omega (arith, h))) refl

  module _ (h : IDLE < v (TaskPlace t)) where
    pub no-class : CLASSES ≤ v (TaskClass t) → step_of v link regions t ≡ bad
    unfolding step_of
    no-class g = rw (lt-ltb IDLE (v (TaskPlace t)) h) (rw (le-ltb (v (TaskClass t)) CLASSES g) refl)

    pub to-place : {place c : ℕ} → place ≡ v (TaskPlace t) → c ≡ v (TaskClass t) → c < CLASSES
        → step_of v link regions t ≡ step_at v link regions t c place
    unfolding step_of
    to-place {place} {c} p k g =
        rw (lt-ltb IDLE (v (TaskPlace t)) h)
        (rw (lt-ltb (v (TaskClass t)) CLASSES (omega (arith, k, g))) (rw (sym p) (rw (sym k) refl)))
