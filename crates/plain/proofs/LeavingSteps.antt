-- The steps of a task that leaves: how they go on, and what they leave as it was.
use mathlib.Core.Path.{◌≡◌, refl, ap, subst, subst⁻¹, ◌∙◌}
use mathlib.Core.Logic.{◌⊎◌, inl, inr}
use mathlib.Core.List.{List, ◌∷◌, ◌++◌, []}
use Prim.Native.Nat.{ℕ, zero, suc, ◌<◌}
use native.Mathlib.Omega.{arith}
use native.Mathlib.Decide.{ℕ_discrete}
use lib.ListN.{length}
use Rattle.limits.specs.Limits.{TASKS, CLASSES}
use Rattle.rows.specs.Update.{update}
use Rattle.rows.proofs.Update.{update_same}
use Rattle.classes.specs.Classes.{per_region}
use Rattle.classes.specs.Geometry.{region_of}
use Rattle.plain.specs.State.{State, Phase, read, next, exchange, Pop, partial, spare, region, Push, retire, back}
use Rattle.plain.specs.State.{release, offer, Work, a1, popping, pushing, a3-read, a3-exchange, a4, a7, a8, f1}
use Rattle.plain.specs.State.{f2}
use Rattle.plain.specs.State.{f3-read, f3-link, f3-exchange, f4-clear, strip-take, strip-give, leave-end, Place}
use Rattle.plain.specs.State.{working, Task, Mem, Purpose}
use Rattle.plain.specs.Moves.{Decided, going}
use Rattle.plain.specs.Steps.{Result, push_list, as_noted?, push_step, f2_step, f3_read, f3_won, step_at}
use Rattle.plain.specs.Steps.{step_of, when_working}
use Rattle.plain.specs.Requests.{Request, allocation, freeing, strip_allocation, strip_freeing, leaving}
use Rattle.plain.specs.Requests.{pop_request, push_request, request_at, StillAt, OwnRequest}
use Rattle.plain.specs.Leaving.{EmptyFrom, empty_below, LeavesHold, LeavingGoes, still, over, LeavingStep}
use Rattle.plain.proofs.CallTests.{either}
use Rattle.plain.proofs.Requests.{own-request}

-- 1 for leaving, else 0
abbrev is_leaving : Request → ℕ
is_leaving (allocation c) = 0
is_leaving (freeing c u) = 0
is_leaving (strip_allocation k) = 0
is_leaving (strip_freeing s) = 0
is_leaving leaving = 1

-- a step that leaves the task at work, and answers 0
record Goes (t : ℕ) (x : Result) : Type 0 where
  code : x.1.code ≡ 0
  to : Work
  is : (x.0.task t).place ≡ working to

module _ (t : ℕ) (k : ℕ → List ℕ) (m : Mem) where
  -- the task is set to the place w
  sets : {x : Mem} {e : Decided} (w : Work) (k' : ℕ → List ℕ)
      → x.task ≡ update m.task t (record { place = working w; cache = k' }) → Goes t (x, going e)
  sets w k' e = record {
    code = refl;
    to = w;
    is = ap (λ f. (f t).place) e ∙ ap (λ (T : Task). T.place) (update_same m.task t _);
  }

  push_goes : (p : Push) (φ : Phase) → is_leaving (push_request p) ≡ 1 → Goes t (push_step t k p φ m)
  push_goes p read h = sets _ k refl
  push_goes p (next n) h = sets _ k refl
  push_goes (retire c d) (exchange n) h = absurd (omega arith)
  push_goes (back c d) (exchange n) h = absurd (omega arith)
  push_goes (release c z d w r) (exchange n) h =
      either (Goes t) (ℕ_discrete (m.won (push_list (release c z d w r))) n) _ _ (λ e. sets _ k refl)
      (λ e. sets _ k refl)
  push_goes (offer c z d) (exchange n) h =
      either (Goes t) (ℕ_discrete (m.won (push_list (offer c z d))) n) _ _ (λ e. sets _ k refl) (λ e. sets _ k refl)

  f2-goes : (c : ℕ) (z : Purpose) (q g : List ℕ) → Goes t (f2_step t k c z q g m)
  f2-goes c z [] g = sets _ k refl
  f2-goes c z (x ∷ q) [] = sets _ _ refl
  f2-goes c z (x ∷ q) (y ∷ g) =
      either (Goes t) (ℕ_discrete (region_of x) (region_of y)) _ _ (λ e. sets _ _ refl) (λ e. sets _ k refl)

  f3-goes : (i c : ℕ) (z : Purpose) (y : ℕ) (g : List ℕ) → (m.task t).place ≡ working (f3-read c z y g)
      → Goes t (f3_read t k i c z y g m)
  f3-goes zero c z y g h = record { code = refl; to = f3-read c z y g; is = h }
  f3-goes (suc d) c z y g h = sets _ k refl

  f3-won-goes : {P : Type 0} (b : Dec P) (c : ℕ) (z : Purpose) (y : ℕ) (g : List ℕ) (d : ℕ) (w : State)
      → Goes t (f3_won t k b c z y g d w m)
  f3-won-goes (yes e) c z y g d w = sets _ k refl
  f3-won-goes (no e) c z y g d w = sets _ k refl

pop-none : (p : Pop) → is_leaving (pop_request p) ≡ 0
pop-none (partial c) = refl
pop-none (spare c) = refl
pop-none (region c d) = refl

module _ (t : ℕ) (m : Mem) where
  -- the caches of the task
  abbrev k : ℕ → List ℕ
  k = (m.task t).cache

  -- what is shown of a step at the place w: at leave-end it finishes, elsewhere the task goes on
  abbrev Shown : Work → Type 0
  Shown w = (w ≡ leave-end) ⊎ Goes t (step_at t k w m)

  -- the step list
  shown : (w : Work) → (m.task t).place ≡ working w → is_leaving (request_at w) ≡ 1 → Shown w
  shown (a1 c) h l = absurd (omega arith)
  shown (popping p φ) h l = absurd (omega (arith, pop-none p))
  shown (pushing p φ) h l = inr (push_goes t k m p φ l)
  shown (a3-read c d) h l = absurd (omega arith)
  shown (a3-exchange c d n) h l = absurd (omega arith)
  shown (a4 c x q) h l = absurd (omega arith)
  shown (a7 c d r) h l = absurd (omega arith)
  shown (a8 c r i) h l = absurd (omega arith)
  shown (f1 c u) h l = absurd (omega arith)
  shown (f2 c z g) h l = inr (f2-goes t k m c z (k c) g)
  shown (f3-read c z y g) h l = inr (f3-goes t k m (m.map (region_of y)) c z y g h)
  shown (f3-link c z y g d n) h l = inr (sets t k m _ k refl)
  shown (f3-exchange c z y g d n) h l =
      inr (either (Goes t) (as_noted? (m.descriptor d) n) _ _
      (λ e. f3-won-goes t k m (ℕ_discrete (length (y ∷ (g ++ (m.descriptor d).chain))) (per_region c)) c z y g d
      n.state)
      (λ e. sets t k m _ k refl))
  shown (f4-clear c z d w r) h l = inr (sets t k m _ k refl)
  shown (strip-take j) h l = absurd (omega arith)
  shown (strip-give s) h l = absurd (omega arith)
  shown leave-end h l = inl refl

  -- the step of a task at a known place
  at_place : (w : Work) → (m.task t).place ≡ working w → step_of t m ≡ step_at t k w m
  unfolding step_of
  at_place w h = ap (λ (p : Place). when_working p (λ x. step_at t k x m) m) h

  goes_on : (w : Work) → (m.task t).place ≡ working w → request_at w ≡ leaving → LeavesHold m → t < TASKS → Shown w
      → LeavingGoes t (step_of t m)
  goes_on w h q H l (inr G) =
      subst⁻¹ (LeavingGoes t) (at_place w h)
      (still G.code G.to G.is
      (subst (StillAt leaving) G.is
      (subst (λ (x : Result). StillAt leaving (x.0.task t).place) (at_place w h)
      (subst (λ (r : Request). StillAt r ((step_of t m).0.task t).place) q (own-request t m w h).own))))
  goes_on w h q H l (inl e) =
      subst⁻¹ (LeavingGoes t) (at_place leave-end (h ∙ ap working e))
      (over refl (ap (λ (T : Task). T.place) (update_same m.task t _))
      (subst⁻¹ (λ (T : Task). EmptyFrom T.cache 0 CLASSES) (update_same m.task t _)
      (subst (λ (p : Place). EmptyFrom k 0 (empty_below p)) (h ∙ ap working e) (H.empty t l))))

  -- A step of a task that leaves is as `LeavingStep` says.
  pub leaving-step : (w : Work) → (m.task t).place ≡ working w → request_at w ≡ leaving → LeavesHold m → t < TASKS
      → LeavingStep t m (step_of t m)
  leaving-step w h q H l =
      let O = subst (λ (r : Request). OwnRequest t r m (step_of t m).0) q (own-request t m w h) in
      record {
        goes = goes_on w h q H l (shown w h (ap is_leaving q));
        others = O.others;
        hands = O.hands;
        strips = O.strips;
      }
