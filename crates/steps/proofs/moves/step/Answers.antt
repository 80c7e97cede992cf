-- The place is so far after the first of the move that is found, and the function that is called does the step there.
use native.Mathlib.Omega.{arith}
use mathlib.Core.Path.{◌≡◌, subst, ◌∙◌}
use mathlib.Core.Logic.{◌≢◌}
use Prim.Native.Nat.{ℕ, ◌+◌, ◌-◌, ◌≤◌, ◌<◌}
use Rattle.control.specs.Places.{POP_PARTIAL, A3_READ, TO_NEXT, TO_EXCHANGE}
use Rattle.stepped.proofs.Doing.{does}
use Rattle.stepped.proofs.MovePlaces.{pop-steps, push-steps}
use Rattle.steps.specs.StartsAt.{StartsAt}
use Rattle.std.specs.declared.option.Option.{Option}
use Rattle.std.specs.declared.option.Option.TheVariants.{None, Some}
use Rattle.control.specs.declared.moves.Pop as Pops
use Rattle.control.specs.declared.moves.Push as Pushes
use Rattle.stepped.specs.Lists.{pop_place, push_place}
use Rattle.steps.specs.declared.moves.Move.{Move}
use Rattle.steps.specs.declared.moves.Move.TheVariants.{Pop, Push}
use Rattle.steps.proofs.StepAt.{same}
use Rattle.steps.proofs.moves.step.Goals as goal

-- a place from which a move starts is its first
starts-pop : {m : Option Move} {f : Move} {p : Pops.Pop} {place : ℕ} → m ≡ Some f → f ≡ Pop p → StartsAt m place
    → place ≡ pop_place p
starts-pop {place = place} e d s =
    subst (λ (x : Move). StartsAt (Some x) place) d (subst (λ (x : Option Move). StartsAt x place) e s)

starts-push : {m : Option Move} {f : Move} {p : Pushes.Push} {place : ℕ} → m ≡ Some f → f ≡ Push p → StartsAt m place
    → place ≡ push_place p
starts-push {place = place} e d s =
    subst (λ (x : Move). StartsAt (Some x) place) d (subst (λ (x : Option Move). StartsAt x place) e s)

-- a place from the first of a move on, and none of its three, is past them
past : (place : ℕ) {first : ℕ} → place ≢ first → place - TO_NEXT ≢ first → place - TO_EXCHANGE ≢ first
    → first ≤ place → first + TO_EXCHANGE < place
past place r n e h = omega arith

-- each of the seven moves has three places, so that no place is left
past_all : (place : ℕ) → StartsAt None place → StartsAt None (place - TO_NEXT)
    → StartsAt None (place - TO_EXCHANGE) → POP_PARTIAL ≤ place → A3_READ ≤ place
past_all place r n e h =
    past place r.6 n.6 e.6 (past place r.5 n.5 e.5 (past place r.4 n.4 e.4
    (past place r.3 n.3 e.3 (past place r.2 n.2 e.2 (past place r.1 n.1 e.1
    (past place r.0 n.0 e.0 h))))))

pub returns-in-Some-Pop : goal.returns-in-Some-Pop
returns-in-Some-Pop c =
    let starts = starts-pop c.in-Some-Pop.is c.in-Some-Pop.field-0-is c.move_from.ensures in
    λ link.
    does (same _ link _ _ _ (omega arith) ∙ (pop-steps _ link _ _ _ _).0) c.read.ensures

pub returns-in-Some-Push : goal.returns-in-Some-Push
returns-in-Some-Push c =
    let starts = starts-push c.in-Some-Push.is c.in-Some-Push.field-0-is c.move_from.ensures in
    λ link.
    does (same _ link _ _ _ (omega arith) ∙ (push-steps _ link _ _ _ _).0) c.read-in-Some-Push.ensures

pub returns-in-Some-Pop-move_from : goal.returns-in-Some-Pop-move_from
returns-in-Some-Pop-move_from c =
    let starts = starts-pop c.in-Some-Pop-move_from.is c.in-Some-Pop-move_from.field-0-is c.move_from-2.ensures in
    λ link.
    does (same _ link _ _ _ (omega arith) ∙ (pop-steps _ link _ _ _ _).1) (c.next.ensures _)

pub returns-in-Some-Push-move_from : goal.returns-in-Some-Push-move_from
returns-in-Some-Push-move_from c =
    let starts = starts-push c.in-Some-Push-move_from.is c.in-Some-Push-move_from.field-0-is c.move_from-2.ensures in
    λ link.
    does (same _ link _ _ _ (omega arith) ∙ (push-steps _ link _ _ _ _).1) (c.next-in-Some-Push-move_from.ensures _)

pub returns-in-Some-Pop-move_from-2 : goal.returns-in-Some-Pop-move_from-2
returns-in-Some-Pop-move_from-2 c =
    let starts = starts-pop c.in-Some-Pop-move_from-2.is c.in-Some-Pop-move_from-2.field-0-is c.move_from-3.ensures in
    λ link.
    does (same _ link _ _ _ (omega arith) ∙ (pop-steps _ link _ _ _ _).2) c.exchange.ensures

pub returns-in-Some-Push-move_from-2 : goal.returns-in-Some-Push-move_from-2
returns-in-Some-Push-move_from-2 c =
    let starts = starts-push c.in-Some-Push-move_from-2.is c.in-Some-Push-move_from-2.field-0-is c.move_from-3.ensures in
    λ link.
    does (same _ link _ _ _ (omega arith) ∙ (push-steps _ link _ _ _ _).2) c.exchange-in-Some-Push-move_from-2.ensures
