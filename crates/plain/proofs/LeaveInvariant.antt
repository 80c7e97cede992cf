-- The tasks that leave: what a step and a beginning make of the caches that they have emptied.
use mathlib.Core.Path.{◌≡◌, refl, ap, subst, subst⁻¹, ◌∙◌}
use mathlib.Core.Logic.{◌≢◌}
use mathlib.Core.List.{List, ◌∷◌, ◌++◌, []}
use Prim.Native.Nat.{ℕ, zero, suc, ◌+◌, ◌≤◌, ◌<◌}
use native.Mathlib.Omega.{arith}
use native.Mathlib.Decide.{ℕ_discrete, dec_lt}
use lib.ListN.{length}
use Rattle.limits.specs.Limits.{TASKS, CLASSES, LARGEST_SIZE, LARGEST_STRIP, UNITS}
use Rattle.rows.specs.Branch.{both}
use Rattle.pieces.specs.Pieces.{free, held, begun}
use Rattle.pieces.specs.Strips.{StripStart, nowhere, here, strip_starts}
use Rattle.pieces.specs.StripUnits.{slot_of_unit}
use Rattle.rows.specs.Comparisons.{Equality, same, other, same?, before, after, order?}
use Rattle.rows.specs.Update.{update}
use Rattle.rows.proofs.Update.{update_same, update_other}
use Rattle.classes.specs.Classes.{per_region}
use Rattle.classes.specs.Geometry.{region_of}
use Rattle.plain.specs.State.{State, EMPTY, PARTIAL, FULL, Phase, read, next, exchange, Pop, partial, spare}
use Rattle.plain.specs.State.{region}
use Rattle.plain.specs.State.{Push, retire, back}
use Rattle.plain.specs.State.{release, offer, Work, a1, popping, pushing, a3-read, a3-exchange, a4, a7, a8, f1}
use Rattle.plain.specs.State.{f2}
use Rattle.plain.specs.State.{f3-read, f3-link, f3-exchange, f4-clear, strip-take, strip-give, leave-end, Place}
use Rattle.plain.specs.State.{idle, working, Task, Mem, Purpose, to_free, to_leave}
use Rattle.plain.specs.Steps.{push_list, f6, f5, as_noted?, closed, push_step, f2_step, f3_read, f3_won, step_at}
use Rattle.plain.specs.Steps.{step_of}
use Rattle.plain.specs.Steps.{when_working, when_pushed, Result}
use Rattle.plain.specs.Moves.{Decided}
use Rattle.plain.specs.Calls.{opens?, first?, free_entry, free_strip_at, strip_unit?, begin_allocate, begin_free}
use Rattle.plain.specs.Calls.{begin_leave, start_mem}
use Rattle.plain.specs.Requests.{Request}
use Rattle.plain.specs.Requests.{return_request, pop_request, request_at, StillAt}
use Rattle.plain.specs.Leaving.{EmptyFrom, LeavesTo, to_end, to-cache, ReturnLeads, to-group, to_one, to-next}
use Rattle.plain.specs.Leaving.{empty_by, empty_below, LeavesHold}
use Rattle.plain.specs.Held.{held_at}
use Rattle.plain.proofs.CallTests.{either}
use Rattle.plain.proofs.Continues.{leaves_to, f6-leads}
use Rattle.plain.proofs.Requests.{own-request}

-- ---- where a return leads, the caches below are empty

-- the caches below c, that of c and those between are empty
up_to : (k : ℕ → List ℕ) (c e : ℕ) → EmptyFrom k 0 c → k c ≡ [] → EmptyFrom k (suc c) e → EmptyFrom k 0 e
up_to k c e below at above i l b = elim (same? i c) [
  | same d ↦ rw d at
  | other d ↦ elim (order? i c) [
    | before h ↦ below i l h
    | after h ↦ above i (omega arith) b
  ]
]

-- where leaving goes on, past caches that are empty
leaves_empty : {k : ℕ → List ℕ} {c n : ℕ} {w : Work} → LeavesTo k c n w → CLASSES ≤ c + n
    → ((e : ℕ) → EmptyFrom k c e → EmptyFrom k 0 e) → EmptyFrom k 0 (empty_below (working w))
leaves_empty (to_end h) f up = up CLASSES (λ i l b. h i l (omega arith))
leaves_empty (to-cache j l b some h) f up = up j h

-- what a task that returns a cache of the class c has emptied before
abbrev before-class : ℕ → Purpose → ℕ
before-class c z = empty_by (return_request c z) c

returned-empty : {k : ℕ → List ℕ} {c : ℕ} {z : Purpose} {w : Work} → ReturnLeads k c z w
    → EmptyFrom k 0 (before-class c z) → EmptyFrom k 0 (empty_below (working w))
returned-empty (to-group some) h = h
returned-empty (to_one u e) h = λ i a b. absurd (omega arith)
returned-empty {k} {c} (to-next e to) h = leaves_empty to (omega arith) (λ x above. up_to k c x h e above)

-- what is to be shown of the memory x after a step of the task t
record Emptied (t : ℕ) (x : Mem) : Type 0 where
  empty : EmptyFrom (x.task t).cache 0 (empty_below (x.task t).place)

module _ (t : ℕ) (k : ℕ → List ℕ) (m : Mem) where
  -- the task is set to T
  set-left : {x : Mem} (T : Task) → x.task ≡ update m.task t T → EmptyFrom T.cache 0 (empty_below T.place)
      → Emptied t x
  set-left T e h = record {
    empty = subst⁻¹ (λ (U : Task). EmptyFrom U.cache 0 (empty_below U.place))
        (ap (λ f. f t) e ∙ update_same m.task t T) h;
  }

  -- ---- a return of the class c

  module _ (c : ℕ) (z : Purpose) (h : EmptyFrom k 0 (before-class c z)) where
    f6-left : EmptyFrom k 0 (empty_below (working (f6 k c z)))
    f6-left = returned-empty (f6-leads k c z) h

    f5-left : (s : State) (d : ℕ) → EmptyFrom k 0 (empty_below (working (f5 s k c z d)))
    f5-left EMPTY d = f6-left
    f5-left PARTIAL d = f6-left
    f5-left FULL d = h

    closed-left : (g : List ℕ) → EmptyFrom k 0 (empty_below (working (closed t k c z g)))
    closed-left [] = f6-left
    closed-left (y ∷ g) = h

    f3-read-left : (i y : ℕ) (g : List ℕ) → Emptied t m → Emptied t (f3_read t k i c z y g m).0
    f3-read-left zero y g e = e
    f3-read-left (suc d) y g e = set-left _ refl h

    f3-won-left : {P : Type 0} (b : Dec P) (y : ℕ) (g : List ℕ) (d : ℕ) (w : State)
        → Emptied t (f3_won t k b c z y g d w m).0
    f3-won-left (yes e) y g d w = set-left _ refl h
    f3-won-left (no e) y g d w = set-left _ refl (f5-left w d)

  -- the cache of the class is another row: those below it stay
  recached-left : (c : ℕ) (z : Purpose) (q : List ℕ) → EmptyFrom k 0 (before-class c z)
      → EmptyFrom (update k c q) 0 (before-class c z)
  recached-left c (to_free u) q h i l b = absurd (omega arith)
  recached-left c to_leave q h i l b = update_other k c q i (λ e. omega arith) ∙ h i l b

  f2-left : (c : ℕ) (z : Purpose) (q g : List ℕ) → EmptyFrom k 0 (before-class c z)
      → Emptied t (f2_step t k c z q g m).0
  f2-left c z [] g h = set-left _ refl (closed-left c z h g)
  f2-left c z (x ∷ q) [] h = set-left _ refl (recached-left c z q h)
  f2-left c z (x ∷ q) (y ∷ g) h =
      either (λ (r : Result). Emptied t r.0) (ℕ_discrete (region_of x) (region_of y)) _ _
      (λ e. set-left _ refl (recached-left c z q h)) (λ e. set-left _ refl h)

  -- ---- the pushes of a return

  won-left : (p : Push) (e : Decided) → EmptyFrom k 0 (empty_below (working (pushing p read)))
      → EmptyFrom k 0 (empty_below (when_pushed p k e).0)
  won-left (retire c d) e h = h
  won-left (back c d) e h = λ i l b. absurd (omega arith)
  won-left (release c z d w r) e h = f5-left c z h w d
  won-left (offer c z d) e h = f6-left c z h

  push-left : (p : Push) (φ : Phase) → EmptyFrom k 0 (empty_below (working (pushing p read)))
      → Emptied t (push_step t k p φ m).0
  push-left p read h = set-left _ refl h
  push-left p (next n) h = set-left _ refl h
  push-left p (exchange n) h =
      either (λ (r : Result). Emptied t r.0) (ℕ_discrete (m.won (push_list p)) n) _ _
      (λ e. set-left _ refl (won-left p _ h)) (λ e. set-left _ refl h)

-- ---- the steps

-- a request that is not leaving
abbrev NotLeaving : Request → Type 0
NotLeaving q = (c : ℕ) → empty_by q c ≡ 0

pop-stays : (p : Pop) → NotLeaving (pop_request p)
pop-stays (partial c) e = refl
pop-stays (spare c) e = refl
pop-stays (region c d) e = refl

module _ (t : ℕ) (m : Mem) where
  -- a task that does not leave has emptied nothing after its step
  not_left : (q : Request) (p : Place) → NotLeaving q → StillAt q p → empty_below p ≡ 0
  not_left q idle n s = refl
  not_left q (working w) n s = ap (λ (r : Request). empty_by r (held_at w).class) s ∙ n (held_at w).class

  other_step : (w : Work) → (m.task t).place ≡ working w → NotLeaving (request_at w) → Emptied t (step_of t m).0
  other_step w h n = record {
    empty = λ i l b.
        absurd (omega (arith, not_left (request_at w) ((step_of t m).0.task t).place n (own-request t m w h).own));
  }

  module _ (H : Emptied t m) where
    -- what the task has emptied before its step, at a known place
    before-step : (w : Work) → (m.task t).place ≡ working w → EmptyFrom (m.task t).cache 0 (empty_below (working w))
    before-step w h = subst (λ (p : Place). EmptyFrom (m.task t).cache 0 (empty_below p)) h H.empty

    -- the step of a task at a known place
    stepped : (w : Work) → (m.task t).place ≡ working w → Emptied t (step_at t (m.task t).cache w m).0
        → Emptied t (step_of t m).0
    unfolding step_of
    stepped w h x =
        subst⁻¹ (λ (p : Place). Emptied t (when_working p (λ z. step_at t (m.task t).cache z m) m).0) h x

    returns : (w : Work) (h : (m.task t).place ≡ working w)
        → (EmptyFrom (m.task t).cache 0 (empty_below (working w)) → Emptied t (step_at t (m.task t).cache w m).0)
        → Emptied t (step_of t m).0
    returns w h f = stepped w h (f (before-step w h))

    -- the step list
    step_left : (w : Work) → (m.task t).place ≡ working w → Emptied t (step_of t m).0
    step_left (a1 c) h = other_step (a1 c) h (λ e. refl)
    step_left (popping p φ) h = other_step (popping p φ) h (pop-stays p)
    step_left (pushing p φ) h = returns (pushing p φ) h (push-left t (m.task t).cache m p φ)
    step_left (a3-read c d) h = other_step (a3-read c d) h (λ e. refl)
    step_left (a3-exchange c d n) h = other_step (a3-exchange c d n) h (λ e. refl)
    step_left (a4 c x q) h = other_step (a4 c x q) h (λ e. refl)
    step_left (a7 c d r) h = other_step (a7 c d r) h (λ e. refl)
    step_left (a8 c r i) h = other_step (a8 c r i) h (λ e. refl)
    step_left (f1 c u) h = other_step (f1 c u) h (λ e. refl)
    step_left (f2 c z g) h = returns (f2 c z g) h (f2-left t (m.task t).cache m c z ((m.task t).cache c) g)
    step_left (f3-read c z y g) h =
        returns (f3-read c z y g) h (λ b. f3-read-left t (m.task t).cache m c z b (m.map (region_of y)) y g H)
    step_left (f3-link c z y g d n) h = returns (f3-link c z y g d n) h (λ b. set-left t (m.task t).cache m _ refl b)
    step_left (f3-exchange c z y g d n) h = returns (f3-exchange c z y g d n) h (λ b.
        either (λ (r : Result). Emptied t r.0) (as_noted? (m.descriptor d) n) _ _
        (λ e. f3-won-left t (m.task t).cache m c z b
        (ℕ_discrete (length (y ∷ (g ++ (m.descriptor d).chain))) (per_region c)) y g d n.state)
        (λ e. set-left t (m.task t).cache m _ refl b))
    step_left (f4-clear c z d w r) h = returns (f4-clear c z d w r) h (λ b. set-left t (m.task t).cache m _ refl b)
    step_left (strip-take j) h = other_step (strip-take j) h (λ e. refl)
    step_left (strip-give s) h = other_step (strip-give s) h (λ e. refl)
    step_left leave-end h =
        returns leave-end h (λ b. set-left t (m.task t).cache m _ refl (λ i l x. absurd (omega arith)))

-- ---- every task

-- what holds of the own task and of the others, which stay, holds of each
module _ {m : Mem} (x : Mem) (t : ℕ) (H : LeavesHold m) (own : Emptied t x)
    (others : (j : ℕ) → j ≢ t → x.task j ≡ m.task j) where
  each_left : LeavesHold x
  each_left = record { empty = λ j b. by j b (same? j t) }
    where
      by : (j : ℕ) → j < TASKS → Equality j t → EmptyFrom (x.task j).cache 0 (empty_below (x.task j).place)
      by j b (same e) = rw e own.empty
      by j b (other n) =
          subst⁻¹ (λ (U : Task). EmptyFrom U.cache 0 (empty_below U.place)) (others j n) (H.empty j b)

-- Every step of one of the tasks keeps what holds of the caches of those that leave.
pub step-leaves : {m : Mem} (t : ℕ) → t < TASKS → LeavesHold m → LeavesHold (step_of t m).0
unfolding step_of
step-leaves {m} t l H = by (m.task t).place refl
  where
    mine : Emptied t m
    mine = record { empty = H.empty t l }

    by : (p : Place) → (m.task t).place ≡ p → LeavesHold (step_of t m).0
    by idle h = subst⁻¹ (λ (p : Place). LeavesHold (when_working p (λ w. step_at t (m.task t).cache w m) m).0) h H
    by (working w) h = each_left (step_of t m).0 t H (step_left t m mine w h) (own-request t m w h).others

-- The task is set to a place that is not leaving's.
pub set-leaves : {m : Mem} {x : Mem} (t : ℕ) (T : Task) → LeavesHold m → x.task ≡ update m.task t T
    → empty_below T.place ≡ 0 → LeavesHold x
set-leaves {m} {x} t T H e z =
    each_left x t H (set-left t T.cache m T e (λ i l b. absurd (omega arith)))
    (λ j n. ap (λ f. f j) e ∙ update_other m.task t T j n)

-- The beginning of leaving.
pub begun-leaves : {m : Mem} (t : ℕ) → LeavesHold m → LeavesHold (begin_leave t m).0
begun-leaves {m} t H =
    let k = (m.task t).cache in
    each_left (begin_leave t m).0 t H
    (set-left t k m _ refl (leaves_empty (leaves_to k CLASSES 0) (omega arith) (λ e h. h)))
    (λ j n. update_other m.task t _ j n)

module _ {m : Mem} (t : ℕ) where
  -- The beginnings of the other requests.
  pub allocate-leaves : (size : ℕ) → LeavesHold m → LeavesHold (begin_allocate t size m).0
  allocate-leaves size H =
      let After : Result → Type 0 = λ x. LeavesHold x.0 in
      either After (ℕ_discrete size 0) _ _ (λ a. H)
      (λ a. either After (dec_lt LARGEST_STRIP size) _ _ (λ b. H)
      (λ b. set-leaves t _ H refl
      (either (λ w. empty_below (working w) ≡ 0) (dec_lt LARGEST_SIZE size) _ _ (λ c. refl) (λ c. refl))))

  free-entry-leaves : (i u : ℕ) → LeavesHold m → LeavesHold (free_entry i t u m).0
  free-entry-leaves zero u H = H
  free-entry-leaves (suc d) u H =
      let D = m.descriptor d in
      let After : Result → Type 0 = λ x. LeavesHold x.0 in
      either After (both (opens? D (region_of u)) (first? D.class u)) _ _
      (λ a. either After (ℕ_discrete (m.hands u) 0) _ _ (λ b. H) (λ b. set-leaves t _ H refl refl)) (λ a. H)

  free-strip-leaves : (x : StripStart) (s : ℕ) → LeavesHold m → LeavesHold (free_strip_at x t s m).0
  free-strip-leaves nowhere s H = H
  free-strip-leaves (here k free) s H = H
  free-strip-leaves (here k held) s H = set-leaves t _ H refl refl
  free-strip-leaves (here k (begun u)) s H = H

  pub free-leaves : (u regions : ℕ) → LeavesHold m → LeavesHold (begin_free t u regions m).0
  free-leaves u regions H =
      let After : Result → Type 0 = λ x. LeavesHold x.0 in
      either After (dec_lt u UNITS) _ _
      (λ a. either After (dec_lt (region_of u) regions) _ _ (λ b. free-entry-leaves (m.map (region_of u)) u H) (λ b. H))
      (λ a. either After (strip_unit? u) _ _
      (λ b. free-strip-leaves (strip_starts m.strips (slot_of_unit u)) (slot_of_unit u) H) (λ b. H))

-- No task leaves at a start.
pub start-leaves : (regions : ℕ) → LeavesHold (start_mem regions)
unfolding start_mem
start-leaves regions = record { empty = λ t l i a b. absurd (omega arith) }
