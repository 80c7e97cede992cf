-- A task goes on with its request until it is idle, and no step moves another task.
use mathlib.Core.Path.{◌≡◌, refl, ap, subst⁻¹, ◌∙◌}
use mathlib.Core.List.{List, ◌∷◌, ◌++◌, []}
use Prim.Native.Nat.{ℕ, zero, suc}
use native.Mathlib.Decide.{ℕ_discrete, dec_lt}
use lib.ListN.{length}
use Rattle.rows.specs.Update.{update}
use Rattle.rows.proofs.Update.{update_same, update_other}
use Rattle.classes.specs.Classes.{per_region}
use Rattle.classes.specs.Geometry.{region_of}
use Rattle.plain.specs.State.{State, EMPTY, PARTIAL, FULL, Phase, read, next, exchange, Pop, partial, spare}
use Rattle.plain.specs.State.{region, Push, retire, back, release, offer, Place, Work, a1, popping, pushing}
use Rattle.plain.specs.State.{a3-read, a3-exchange, a4, a7, a8, f1, f2, f3-read, f3-link, f3-exchange, f4-clear}
use Rattle.plain.specs.State.{strip-take, strip-give, leave-end, Task, Mem, working, Purpose}
use Rattle.plain.specs.Moves.{Decided}
use Rattle.plain.specs.Steps.{Result, pop_list, push_list, f6, f5, moving, when_empty, when_popped}
use Rattle.plain.specs.Steps.{when_pushed, as_noted?, closed, pop_read, pop_take, pop_step, push_step, a1_step, a3_read}
use Rattle.plain.specs.Steps.{f2_step, f3_read, f3_won, strip_take_step, step_at, step_of, when_working}
use Rattle.pieces.specs.Strips.{StripTaken, none_found, strip_at, take_strip}
use Rattle.plain.specs.Requests.{Request, allocation, freeing, strip_allocation, strip_freeing, leaving}
use Rattle.plain.specs.Requests.{return_request, pop_request, push_request, request_at, StillAt, StripsStay}
use Rattle.plain.specs.Requests.{HandsStay, OwnRequest}
use Rattle.plain.specs.Leaving.{LeavesTo, to_end, to-cache, ReturnLeads, to-group, to_one, to-next}
use Rattle.plain.proofs.CallTests.{either}
use Rattle.plain.proofs.Continues.{f6-leads}

-- ---- where a decided move leads is the same request's

pub leaves-request : {k : ℕ → List ℕ} {c n : ℕ} {w : Work} → LeavesTo k c n w → request_at w ≡ leaving
leaves-request (to_end h) = refl
leaves-request (to-cache j l b some h) = refl

returned-request : {k : ℕ → List ℕ} {c : ℕ} {z : Purpose} {w : Work} → ReturnLeads k c z w
    → request_at w ≡ return_request c z
returned-request (to-group some) = refl
returned-request (to_one u e) = refl
returned-request (to-next e h) = leaves-request h

f6-request : (k : ℕ → List ℕ) (c : ℕ) (z : Purpose) → request_at (f6 k c z) ≡ return_request c z
f6-request k c z = returned-request (f6-leads k c z)

f5-request : (s : State) (k : ℕ → List ℕ) (c : ℕ) (z : Purpose) (d : ℕ)
    → request_at (f5 s k c z d) ≡ return_request c z
f5-request EMPTY k c z d = f6-request k c z
f5-request PARTIAL k c z d = f6-request k c z
f5-request FULL k c z d = refl

moving-request : (c : ℕ) (q : List ℕ) → request_at (moving c q) ≡ request_at (a1 c)
moving-request c [] = refl
moving-request c (x ∷ q) = refl

empty-request : (p : Pop) (e : Decided) → StillAt (pop_request p) (when_empty p e).0
empty-request (partial c) e = refl
empty-request (spare c) e = tt
empty-request (region c d) e = refl

popped-request : (p : Pop) (x : ℕ) → request_at (when_popped p x) ≡ pop_request p
popped-request (partial c) x = refl
popped-request (spare c) x = refl
popped-request (region c d) x = refl

pushed-request : (p : Push) (k : ℕ → List ℕ) (e : Decided) → StillAt (push_request p) (when_pushed p k e).0
pushed-request (retire c d) k e = refl
pushed-request (back c d) k e = tt
pushed-request (release c z d w r) k e = f5-request w k c z d
pushed-request (offer c z d) k e = f6-request k c z

module _ (t : ℕ) (k : ℕ → List ℕ) (m : Mem) where
  -- a step of a task that is at the request q
  abbrev Keeps : Request → Result → Type 0
  Keeps q x = OwnRequest t q m x.0

  -- nothing of the strips and of the hands is touched
  abbrev same : {A B : Type 0} {a : A} {b : B} → (a ≡ a) × (b ≡ b)
  same = (refl, refl)

  -- it leaves the strips
  stays : (q : Request) (x : Mem) → x.strips ≡ m.strips → StripsStay q m x
  stays (allocation c) x e = e
  stays (freeing c u) x e = e
  stays (strip_allocation k) x e = tt
  stays (strip_freeing s) x e = tt
  stays leaving x e = e

  -- it leaves the blocks in users' hands
  in-hands : (q : Request) (x : Mem) → x.hands ≡ m.hands → HandsStay q m x
  in-hands (allocation c) x e = tt
  in-hands (freeing c u) x e = e
  in-hands (strip_allocation k) x e = e
  in-hands (strip_freeing s) x e = e
  in-hands leaving x e = e

  -- it sets the task, and of the strips and of the blocks in users' hands shows what the request asks
  changes : {q : Request} {x : Mem} (T : Task) → x.task ≡ update m.task t T → StripsStay q m x
      → HandsStay q m x → StillAt q T.place → OwnRequest t q m x
  changes {q} T e s b h = record {
    own = subst⁻¹ (λ (U : Task). StillAt q U.place) (ap (λ f. f t) e ∙ update_same m.task t T) h;
    others = λ j n. ap (λ f. f j) e ∙ update_other m.task t T j n;
    strips = s;
    hands = b;
  }

  -- it sets the task, and leaves the strips and the blocks in users' hands
  sets : {q : Request} {x : Mem} (T : Task) → x.task ≡ update m.task t T
      → (x.strips ≡ m.strips) × (x.hands ≡ m.hands) → StillAt q T.place → OwnRequest t q m x
  sets {q} {x} T e s h = changes T e (stays q x s.0) (in-hands q x s.1) h

  closed-request : (c : ℕ) (z : Purpose) (g : List ℕ) → request_at (closed t k c z g) ≡ return_request c z
  closed-request c z [] = f6-request k c z
  closed-request c z (y ∷ g) = refl

  -- ---- the moves

  pop-read : (p : Pop) (q : List ℕ) → Keeps (pop_request p) (pop_read t k p q m)
  pop-read p [] = sets _ refl same (empty-request p _)
  pop-read p (x ∷ q) = sets _ refl same refl

  pop-take : (p : Pop) (q : List ℕ) → Keeps (pop_request p) (pop_take t k p q m)
  pop-take p [] = sets _ refl same refl
  pop-take p (x ∷ q) = sets _ refl same (popped-request p x)

  pop-step : (p : Pop) (φ : Phase) → Keeps (pop_request p) (pop_step t k p φ m)
  pop-step p read = pop-read p (m.row (pop_list p))
  pop-step p (next n) = sets _ refl same refl
  pop-step p (exchange n) =
      either (Keeps (pop_request p)) (ℕ_discrete (m.won (pop_list p)) n) _ _
      (λ e. pop-take p (m.row (pop_list p))) (λ e. sets _ refl same refl)

  push-step : (p : Push) (φ : Phase) → Keeps (push_request p) (push_step t k p φ m)
  push-step p read = sets _ refl same refl
  push-step p (next n) = sets _ refl same refl
  push-step p (exchange n) =
      either (Keeps (push_request p)) (ℕ_discrete (m.won (push_list p)) n) _ _
      (λ e. sets _ refl same (pushed-request p k _)) (λ e. sets _ refl same refl)

  -- ---- the other steps

  a1-step : (c : ℕ) (q : List ℕ) → Keeps (request_at (a1 c)) (a1_step t k c q m)
  a1-step c [] = sets _ refl same refl
  a1-step c (x ∷ q) = changes _ refl refl tt tt

  a3-step : (c d : ℕ) (s : State) → Keeps (request_at (a1 c)) (a3_read t k c d s m)
  a3-step c d EMPTY = sets _ refl same refl
  a3-step c d PARTIAL = sets _ refl same refl
  a3-step c d FULL = sets _ refl same refl

  f2-step : (c : ℕ) (z : Purpose) (q g : List ℕ) → Keeps (return_request c z) (f2_step t k c z q g m)
  f2-step c z [] g = sets _ refl same (closed-request c z g)
  f2-step c z (x ∷ q) [] = sets _ refl same refl
  f2-step c z (x ∷ q) (y ∷ g) =
      either (Keeps (return_request c z)) (ℕ_discrete (region_of x) (region_of y)) _ _
      (λ e. sets _ refl same refl) (λ e. sets _ refl same refl)

  f3-won : {P : Type 0} (b : Dec P) (c : ℕ) (z : Purpose) (y : ℕ) (g : List ℕ) (d : ℕ) (w : State)
      → Keeps (return_request c z) (f3_won t k b c z y g d w m)
  f3-won (yes e) c z y g d w = sets _ refl same refl
  f3-won (no e) c z y g d w = sets _ refl same (f5-request w k c z d)

  -- the anchor read of a return; where the map names no descriptor nothing happens
  f3-step : (i c : ℕ) (z : Purpose) (y : ℕ) (g : List ℕ) → (m.task t).place ≡ working (f3-read c z y g)
      → Keeps (return_request c z) (f3_read t k i c z y g m)
  f3-step zero c z y g h = record {
    own = subst⁻¹ (StillAt (return_request c z)) h refl;
    others = λ j n. refl;
    strips = stays (return_request c z) m refl;
    hands = in-hands (return_request c z) m refl;
  }
  f3-step (suc d) c z y g h = sets _ refl same refl

  take_step : (j : ℕ) (x : StripTaken) → Keeps (strip_allocation j) (strip_take_step t k x m)
  take_step j none_found = changes _ refl tt refl tt
  take_step j (strip_at s p) = changes _ refl tt refl tt

  -- the step list
  step-at : (w : Work) → (m.task t).place ≡ working w → Keeps (request_at w) (step_at t k w m)
  step-at (a1 c) h = a1-step c (k c)
  step-at (popping p φ) h = pop-step p φ
  step-at (pushing p φ) h = push-step p φ
  step-at (a3-read c d) h = a3-step c d (m.descriptor d).state
  step-at (a3-exchange c d n) h =
      either (Keeps (request_at (a1 c))) (as_noted? (m.descriptor d) n) _ _
      (λ e. sets _ refl same (moving-request c (m.descriptor d).chain)) (λ e. sets _ refl same refl)
  step-at (a4 c x q) h = sets _ refl same (moving-request c q)
  step-at (a7 c d r) h = sets _ refl same refl
  step-at (a8 c r i) h =
      sets _ refl same (either (λ w. request_at w ≡ request_at (a1 c)) (ℕ_discrete (suc i) (per_region c)) _ _
      (λ e. refl) (λ e. refl))
  step-at (f1 c u) h =
      either (Keeps (request_at (f1 c u))) (dec_lt (length (k c)) (per_region c)) _ _
      (λ e. sets _ refl same tt) (λ e. sets _ refl same refl)
  step-at (f2 c z g) h = f2-step c z (k c) g
  step-at (f3-read c z y g) h = f3-step (m.map (region_of y)) c z y g h
  step-at (f3-link c z y g d n) h = sets _ refl same refl
  step-at (f3-exchange c z y g d n) h =
      either (Keeps (return_request c z)) (as_noted? (m.descriptor d) n) _ _
      (λ e. f3-won (ℕ_discrete (length (y ∷ (g ++ (m.descriptor d).chain))) (per_region c)) c z y g d n.state)
      (λ e. sets _ refl same refl)
  step-at (f4-clear c z d w r) h = sets _ refl same refl
  step-at (strip-take j) h = take_step j (take_strip j m.strips)
  step-at (strip-give s) h = changes _ refl tt refl tt
  step-at leave-end h = sets _ refl same tt

-- A step of a task at work is its request's.
pub own-request : (t : ℕ) (m : Mem) (w : Work) → (m.task t).place ≡ working w
    → OwnRequest t (request_at w) m (step_of t m).0
unfolding step_of
own-request t m w h =
    let k = (m.task t).cache in
    let from : Place → Mem = λ p. (when_working p (λ x. step_at t k x m) m).0 in
    subst⁻¹ (λ (p : Place). OwnRequest t (request_at w) m (from p)) h (step-at t k m w h)
