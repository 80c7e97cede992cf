-- What a task has asked for, by the number of its place at the first step of a request; and what the step of a strip's
-- request leaves of the pieces.
use mathlib.Core.Path.{◌≡◌, ap, subst, subst⁻¹, ◌∙◌}
use mathlib.Core.List.{List}
use Prim.Native.Nat.{ℕ}
use native.Mathlib.Omega.{arith}
use Rattle.limits.specs.Limits.{WHOLE_ORDER, CLASSES}
use Rattle.plain.specs.State.{Place, Work, strip-take, strip-give, leave-end, working, Task, Mem}
use Rattle.plain.specs.Leaving.{EmptyFrom}
use Rattle.rows.proofs.Update.{update_same}
use Rattle.plain.specs.Requests.{allocation, freeing, strip_allocation, strip_freeing, leaving, request_at}
use Rattle.control.specs.Places.{A1, F1, STRIP_TAKE, STRIP_GIVE, LEAVE_END}
use Rattle.agreement.specs.Contents.{Contents, Slot}
use Rattle.agreement.specs.Relation.{PlaceRelated, r_idle, r_working}
use Rattle.agreement.specs.Asked.{Asked}
use Rattle.agreement.specs.AtWhatAsked.{AsAsked, AtWhatAsked}
use Rattle.agreement.proofs.WorkKinds.{Works, allocates, frees, takes, gives_back, leaves, ends-leaving, works}
use Rattle.pieces.specs.Pieces.{Pieces}
use Rattle.pieces.specs.Strips.{StripTaken, strip_at, take_strip, give_strip}
use Rattle.plain.specs.Steps.{strip_take_step, step_at, step_of, when_working}

-- ---- the request of a task, by the number of its place

-- a task at the first step of a request, or at the last of leaving, by the number of its place, is at what it has asked
-- for
pub record AtFirstStep (b : Asked) (p : Place) (place class unit : ℕ) : Type 0 where
  pub at-f1 : place ≡ F1 → AsAsked b (freeing class unit)
  pub at-a1 : place ≡ A1 → AsAsked b (allocation class)
  pub at_take : place ≡ STRIP_TAKE → (p ≡ working (strip-take class)) × AsAsked b (strip_allocation class)
  pub at_give : place ≡ STRIP_GIVE → (q : ℕ) × ((p ≡ working (strip-give q)) × AsAsked b (strip_freeing q))
  pub at-leave : place ≡ LEAVE_END → (p ≡ working leave-end) × AsAsked b leaving

module _ {regions : ℕ} {a : Contents} {m : Mem} {s : Slot} where
  -- a task of the stepped pool, by that of the plain pool
  pub asked-at : (b : Asked) {p : Place} → PlaceRelated regions a m s p → AtWhatAsked b p
      → AtFirstStep b p s.place s.class s.unit
  asked-at b (r_idle e) h = record {
    at-f1 = λ f. absurd (omega arith);
    at-a1 = λ f. absurd (omega arith);
    at_take = λ f. absurd (omega arith);
    at_give = λ f. absurd (omega arith);
    at-leave = λ f. absurd (omega arith);
  }
  asked-at b (r_working {w} W) h = by (works W)
    where
      by : Works s w → AtFirstStep b (working w) s.place s.class s.unit
      by (allocates q n l) = record {
        at-f1 = λ f. absurd (n f);
        at-a1 = λ f. subst (AsAsked b) q h;
        at_take = λ f. absurd (omega arith);
        at_give = λ f. absurd (omega arith);
        at-leave = λ f. absurd (omega arith);
      }
      by (frees q n l) = record {
        at-f1 = λ f. subst (AsAsked b) q h;
        at-a1 = λ f. absurd (n f);
        at_take = λ f. absurd (omega arith);
        at_give = λ f. absurd (omega arith);
        at-leave = λ f. absurd (omega arith);
      }
      by (takes e l) = record {
        at-f1 = λ f. absurd (omega arith);
        at-a1 = λ f. absurd (omega arith);
        at_take = λ f. (ap working e, subst (λ (x : Work). AsAsked b (request_at x)) e h);
        at_give = λ f. absurd (omega arith);
        at-leave = λ f. absurd (omega arith);
      }
      by (gives_back q e i l) = record {
        at-f1 = λ f. absurd (omega arith);
        at-a1 = λ f. absurd (omega arith);
        at_take = λ f. absurd (omega arith);
        at_give = λ f. (q, (ap working e, subst (λ (x : Work). AsAsked b (request_at x)) e h));
        at-leave = λ f. absurd (omega arith);
      }
      by (leaves q i j l) = record {
        at-f1 = λ f. absurd (j f);
        at-a1 = λ f. absurd (i f);
        at_take = λ f. absurd (omega arith);
        at_give = λ f. absurd (omega arith);
        at-leave = λ f. absurd (omega arith);
      }
      by (ends-leaving e l) = record {
        at-f1 = λ f. absurd (omega arith);
        at-a1 = λ f. absurd (omega arith);
        at_take = λ f. absurd (omega arith);
        at_give = λ f. absurd (omega arith);
        at-leave = λ f. (ap working e, subst (λ (x : Work). AsAsked b (request_at x)) e h);
      }

-- ---- what a step of a strip's request leaves of the pieces

pub after-take : (t : ℕ) (m : Mem) (c s : ℕ) (q : Pieces WHOLE_ORDER) → (m.task t).place ≡ working (strip-take c)
    → take_strip c m.strips ≡ strip_at s q → (step_of t m).0.strips ≡ q
unfolding step_of
after-take t m c s q e f =
    let k = (m.task t).cache in
    ap (λ (p : Place). (when_working p (λ w. step_at t k w m) m).0.strips) e
    ∙ ap (λ (x : StripTaken). (strip_take_step t k x m).0.strips) f

pub after-give : (t : ℕ) (m : Mem) (q : ℕ) → (m.task t).place ≡ working (strip-give q)
    → (step_of t m).0.strips ≡ give_strip q m.strips
unfolding step_of
after-give t m q e = ap (λ (p : Place). (when_working p (λ w. step_at t (m.task t).cache w m) m).0.strips) e

-- ---- what the last step of leaving leaves of the task's caches

pub after_leave : (t : ℕ) (m : Mem) → (m.task t).place ≡ working leave-end → EmptyFrom (m.task t).cache 0 CLASSES
    → EmptyFrom ((step_of t m).0.task t).cache 0 CLASSES
unfolding step_of
after_leave t m e h =
    let k = (m.task t).cache in
    subst⁻¹ (λ (k' : ℕ → List ℕ). EmptyFrom k' 0 CLASSES)
    (ap (λ (p : Place). ((when_working p (λ w. step_at t k w m) m).0.task t).cache) e
    ∙ ap (λ (T : Task). T.cache) (update_same m.task t _)) h
