-- A task that pushes its descriptor back stays in that push until it ends with 13.
use Prim.Native.Nat.{ℕ, ◌+◌, ◌≤◌}
use mathlib.Core.Path.{◌≡◌, refl, sym, ap, subst, ◌∙◌}
use mathlib.Core.Logic.{◌⊎◌, inl, inr}
use mathlib.Core.Bool.{◌&&◌}
use mathlib.Core.List.{List, [], ◌∷◌}
use native.Mathlib.Omega.{arith}
use native.Mathlib.Decide.{ℕ_discrete}
use lib.Dec.{eqb, ltb, leb}
use Rattle.limits.specs.Limits.{CLASSES, DESCRIPTORS}
use Rattle.control.specs.Places.{IDLE, PUSH_BACK}
use Rattle.control.specs.Places.{TO_NEXT, TO_EXCHANGE}
use Rattle.fields.specs.Columns.{View, Write, ◌:=◌, assigned}
use Rattle.words.specs.Head.{item_of}
use Rattle.plain.specs.Calls.{Lengths}
use Rattle.control.specs.Layout.{Head, TaskHead, TaskPlace, TaskClass, TaskDescriptor, Regions, DescriptorNext}
use Rattle.control.specs.Answers.{NoRegion}
use Rattle.control.specs.declared.moves.Push.TheVariants.{Back}
use Rattle.stepped.specs.Outcome.{Outcome}
use Rattle.stepped.specs.Lists as Lists
use Rattle.stepped.specs.Steps as Steps
use Rattle.stepped.specs.Calls as Calls
use Rattle.agreement.specs.Ends.{InPush, place_after}
use Rattle.agreement.proofs.Ways.{branch, tests, Keeps, sent}
use Rattle.stepped.proofs.MovePlaces.{push-steps}

module _ (v : View) (t : ℕ) where
  -- the request ended with 13, or the task is in the push
  abbrev Stays : Outcome → Type 0
  Stays o = (o.answer ≡ NoRegion) ⊎ InPush Back (place_after o v t)

  -- a step that writes this place of the push
  to : (q : ℕ) (ws : List Write) → PUSH_BACK ≤ q → q ≤ PUSH_BACK + TO_EXCHANGE → Keeps t ws
      → InPush Back (assigned (TaskPlace t := q ∷ ws) v (TaskPlace t))
  to q ws l m h = record { from = omega (arith, l, sent v t q ws h); to = omega (arith, m, sent v t q ws h) }

  module _ (link : ℕ → ℕ) (regions c : ℕ) (here : InPush Back (v (TaskPlace t))) where
    -- each of the three steps of the push
    at_read : Stays (Lists.push_read v regions t c Back)
    unfolding Lists.push_read
    at_read =
        branch Stays (leb (item_of (v (Head (Lists.push_list Back c)))) DESCRIPTORS)
        (λ e. inr
        (to (PUSH_BACK + TO_NEXT) (TaskHead t := v (Head (Lists.push_list Back c)) ∷ []) (omega arith) (omega arith)
        (λ u. (refl, λ j. refl)))) (λ e. inr here)

    at_next : Stays (Lists.push_next v regions t c Back)
    unfolding Lists.push_next
    at_next =
        branch Stays (ltb (v (TaskDescriptor t)) DESCRIPTORS && leb (item_of (v (TaskHead t))) DESCRIPTORS)
        (λ e. inr
        (to (PUSH_BACK + TO_EXCHANGE) (DescriptorNext (v (TaskDescriptor t)) :=
        item_of (v (TaskHead t)) ∷ [])
        (omega arith) (omega arith) (λ u. (refl, λ j. refl)))) (λ e. inr here)

    at_exchange : Stays (Lists.push_exchange v regions t c Back)
    unfolding Lists.push_exchange
    at_exchange =
        branch Stays
        (ltb (v (TaskDescriptor t)) DESCRIPTORS && leb (item_of (v (TaskHead t))) DESCRIPTORS && leb
        (item_of (v (Head (Lists.push_list Back c)))) DESCRIPTORS)
        (λ e. branch Stays (eqb (v (Head (Lists.push_list Back c))) (v (TaskHead t))) (λ f. inl refl)
        (λ f. inr (to PUSH_BACK [] (omega arith) (omega arith) (λ u. (refl, λ j. refl)))))
        (λ e. inr here)

    at_place : Stays (Steps.step_at v link regions t c (v (TaskPlace t)))
    at_place = by (ℕ_discrete (v (TaskPlace t)) PUSH_BACK) (ℕ_discrete (v (TaskPlace t)) (PUSH_BACK + TO_NEXT))
      where
        is : (q : ℕ) {x : Outcome} → Stays x → v (TaskPlace t) ≡ q → Steps.step_at v link regions t c q ≡ x
            → Stays (Steps.step_at v link regions t c (v (TaskPlace t)))
        is q h e p = subst Stays (sym (ap (Steps.step_at v link regions t c) e ∙ p)) h

        by : Dec (v (TaskPlace t) ≡ PUSH_BACK) → Dec (v (TaskPlace t) ≡ PUSH_BACK + TO_NEXT)
            → Stays (Steps.step_at v link regions t c (v (TaskPlace t)))
        by (yes e) d = is PUSH_BACK at_read e (push-steps v link regions t c Back).0
        by (no n) (yes e) = is (PUSH_BACK + TO_NEXT) at_next e (push-steps v link regions t c Back).1
        by (no n) (no m) =
            is (PUSH_BACK + TO_EXCHANGE) at_exchange (omega (arith, here.from, here.to))
            (push-steps v link regions t c Back).2

-- at any step of the task, whatever the memories hold
pub stays-back : (lent : Lengths) (v : View) (link : ℕ → ℕ) (t : ℕ) → InPush Back (v (TaskPlace t))
    → Stays v t (Calls.step_outcome lent v link t)
unfolding Calls.step_outcome Steps.step_of
stays-back lent v link t here =
    tests lent v t (Stays v t) _ (λ n h. inr here)
    (λ T. branch (Stays v t) (ltb IDLE (v (TaskPlace t)))
    (λ e. branch (Stays v t) (ltb (v (TaskClass t)) CLASSES) (λ f. at_place v t link (v Regions) (v (TaskClass t)) here)
    (λ f. inr here))
    (λ e. inr here))
