-- The strips of the plain pool: what a step and a beginning make of them, and that they hold afterwards.
use mathlib.Core.Path.{◌≡◌, refl, sym, ap, subst⁻¹, ◌∙◌}
use Prim.Native.Nat.{ℕ, zero, suc, ◌<◌}
use native.Mathlib.Omega.{arith}
use native.Mathlib.Decide.{ℕ_discrete, dec_lt}
use Rattle.limits.specs.Limits.{TASKS, CLASSES, LARGEST_SIZE, LARGEST_STRIP, UNITS}
use Rattle.rows.specs.Branch.{both}
use Rattle.rows.specs.Comparisons.{Equality, same, other, same?}
use Rattle.rows.specs.Update.{update}
use Rattle.rows.proofs.Update.{update_same, update_other}
use Rattle.classes.specs.Geometry.{region_of}
use Rattle.pieces.specs.Pieces.{free, held, begun}
use Rattle.pieces.specs.Strips.{StripTaken, none_found, strip_at, take_strip}
use Rattle.pieces.specs.Strips.{StripStart, nowhere, here, strip_starts}
use Rattle.pieces.specs.StripUnits.{slot_of_unit}
use Rattle.plain.specs.State.{Pop, partial, spare, region, Push, retire, back, release, offer, Work, a1, popping}
use Rattle.plain.specs.State.{pushing, a3-read, a3-exchange, a4, a7, a8, f1, f2, f3-read, f3-link, f3-exchange}
use Rattle.plain.specs.State.{f4-clear, strip-take, strip-give, Place, idle, working, Task, Mem, set_task}
use Rattle.plain.specs.State.{Descriptor, Purpose, to_free, to_leave, leave-end}
use Rattle.plain.specs.Steps.{Result, strip_take_step, step_at, step_of, when_working}
use Rattle.plain.specs.Calls.{opens?, first?, free_entry, free_strip_at, strip_unit?, begin_allocate, begin_free}
use Rattle.plain.specs.Calls.{begin_leave, start_mem}
use Rattle.plain.specs.Requests.{Request, allocation, freeing, strip_allocation, strip_freeing, leaving}
use Rattle.plain.specs.Requests.{return_request, pop_request, push_request, request_at, StillAt, StripsStay}
use Rattle.plain.specs.Requests.{OwnRequest, strip_freed, frees_strip}
use Rattle.plain.specs.Invariant.{StripsHold}
use Rattle.plain.proofs.CallTests.{either}
use Rattle.plain.proofs.Continues.{leaves_to}
use Rattle.plain.proofs.Requests.{leaves-request, own-request}
use Rattle.plain.proofs.StripChanges.{strips-kept, taken-holds, begun-holds, given_holds}

-- ---- the steps

-- a request of a small block, or leaving
abbrev SmallRequest : Request → Type 0
SmallRequest (allocation c) = Unit {0}
SmallRequest (freeing c u) = Unit {0}
SmallRequest (strip_allocation k) = ⊥
SmallRequest (strip_freeing s) = ⊥
SmallRequest leaving = Unit {0}

pop-small : (p : Pop) → SmallRequest (pop_request p)
pop-small (partial c) = tt
pop-small (spare c) = tt
pop-small (region c d) = tt

return-small : (c : ℕ) (z : Purpose) → SmallRequest (return_request c z)
return-small c (to_free u) = tt
return-small c to_leave = tt

push-small : (p : Push) → SmallRequest (push_request p)
push-small (retire c d) = tt
push-small (back c d) = tt
push-small (release c z d w r) = return-small c z
push-small (offer c z d) = return-small c z

-- it frees no strip, and leaves the strips
frees-none : (q : Request) → SmallRequest q → strip_freed q ≡ 0
frees-none (allocation c) h = refl
frees-none (freeing c u) h = refl
frees-none (strip_allocation k) h = absurd h
frees-none (strip_freeing s) h = absurd h
frees-none leaving h = refl

leaves-strips : (q : Request) (m x : Mem) → SmallRequest q → StripsStay q m x → x.strips ≡ m.strips
leaves-strips (allocation c) m x h e = e
leaves-strips (freeing c u) m x h e = e
leaves-strips (strip_allocation k) m x h e = absurd h
leaves-strips (strip_freeing s) m x h e = absurd h
leaves-strips leaving m x h e = e

still-frees-none : (q : Request) (p : Place) → SmallRequest q → StillAt q p → frees_strip p ≡ 0
still-frees-none q idle h e = refl
still-frees-none q (working w) h e = ap strip_freed e ∙ frees-none q h

module _ {m : Mem} (t : ℕ) (l : t < TASKS) (H : StripsHold m) where
  -- a step of a small block's request
  small-step : (w : Work) → (m.task t).place ≡ working w → SmallRequest (request_at w) → StripsHold (step_of t m).0
  small-step w h z =
      let O = own-request t m w h in
      strips-kept H (leaves-strips (request_at w) m (step_of t m).0 z O.strips) (λ j. by j O (same? j t))
    where
      by : (j : ℕ) → OwnRequest t (request_at w) m (step_of t m).0 → Equality j t
          → frees_strip ((step_of t m).0.task j).place ≡ frees_strip (m.task j).place
      by j O (same e) =
          rw e (still-frees-none (request_at w) ((step_of t m).0.task t).place z O.own
          ∙ sym (ap frees_strip h ∙ frees-none (request_at w) z))
      by j O (other n) = ap (λ (T : Task). frees_strip T.place) (O.others j n)

  -- the task goes to a place where it frees the same strip, or none as before
  placed-holds : (T : Task) → frees_strip T.place ≡ frees_strip (m.task t).place → StripsHold (set_task t T m)
  placed-holds T e = strips-kept H refl (λ u. by u (same? u t))
    where
      by : (u : ℕ) → Equality u t → frees_strip (update m.task t T u).place ≡ frees_strip (m.task u).place
      by u (same d) = rw d (ap (λ (U : Task). frees_strip U.place) (update_same m.task t T) ∙ e)
      by u (other n) = ap (λ (U : Task). frees_strip U.place) (update_other m.task t T u n)

  -- the step of a strip's request
  take-holds : (j : ℕ) (x : StripTaken) → take_strip j m.strips ≡ x → (m.task t).place ≡ working (strip-take j)
      → StripsHold (strip_take_step t (m.task t).cache x m).0
  take-holds j none_found e h = placed-holds _ (sym (ap frees_strip h))
  take-holds j (strip_at s p) e h = taken-holds H t j s p _ l e (ap frees_strip h) refl

  -- the step of a task at a known place
  stepped : (w : Work) → (m.task t).place ≡ working w → StripsHold (step_at t (m.task t).cache w m).0
      → StripsHold (step_of t m).0
  unfolding step_of
  stepped w h x =
      let k = (m.task t).cache in
      subst⁻¹ (λ (p : Place). StripsHold (when_working p (λ z. step_at t k z m) m).0) h x

  -- the step of a task at work
  step-holds : (w : Work) → (m.task t).place ≡ working w → StripsHold (step_of t m).0
  step-holds (a1 c) h = small-step (a1 c) h tt
  step-holds (popping p φ) h = small-step (popping p φ) h (pop-small p)
  step-holds (pushing p φ) h = small-step (pushing p φ) h (push-small p)
  step-holds (a3-read c d) h = small-step (a3-read c d) h tt
  step-holds (a3-exchange c d n) h = small-step (a3-exchange c d n) h tt
  step-holds (a4 c x q) h = small-step (a4 c x q) h tt
  step-holds (a7 c d r) h = small-step (a7 c d r) h tt
  step-holds (a8 c r i) h = small-step (a8 c r i) h tt
  step-holds (f1 c u) h = small-step (f1 c u) h tt
  step-holds (f2 c z g) h = small-step (f2 c z g) h (return-small c z)
  step-holds (f3-read c z y g) h = small-step (f3-read c z y g) h (return-small c z)
  step-holds (f3-link c z y g d n) h = small-step (f3-link c z y g d n) h (return-small c z)
  step-holds (f3-exchange c z y g d n) h = small-step (f3-exchange c z y g d n) h (return-small c z)
  step-holds (f4-clear c z d w r) h = small-step (f4-clear c z d w r) h (return-small c z)
  step-holds (strip-take j) h = stepped (strip-take j) h (take-holds j (take_strip j m.strips) refl h)
  step-holds (strip-give s) h = stepped (strip-give s) h (given_holds H t s _ l (ap frees_strip h) refl)
  step-holds leave-end h = small-step leave-end h tt

  place-holds : (p : Place) → (m.task t).place ≡ p → StripsHold (step_of t m).0
  unfolding step_of
  place-holds idle h =
      subst⁻¹ (λ (p : Place). StripsHold (when_working p (λ w. step_at t (m.task t).cache w m) m).0) h H
  place-holds (working w) h = step-holds w h

  -- Every step of one of the tasks keeps what holds of the strips.
  pub step-strips : StripsHold (step_of t m).0
  step-strips = place-holds (m.task t).place refl

  -- ---- the beginnings, by an idle task

  module _ (e : (m.task t).place ≡ idle) where
    pub allocate-strips : (size : ℕ) → StripsHold (begin_allocate t size m).0
    allocate-strips size =
        either (λ (x : Result). StripsHold x.0) (ℕ_discrete size 0) _ _ (λ a. H)
        (λ a. either (λ (x : Result). StripsHold x.0) (dec_lt LARGEST_STRIP size) _ _ (λ b. H)
        (λ b. placed-holds _
        (either (λ w. frees_strip (working w) ≡ 0) (dec_lt LARGEST_SIZE size) _ _ (λ c. refl) (λ c. refl)
        ∙ sym (ap frees_strip e))))

    free-small-strips : (z u : ℕ) → StripsHold (free_entry z t u m).0
    free-small-strips zero u = H
    free-small-strips (suc d) u =
        let D = m.descriptor d in
        either (λ (x : Result). StripsHold x.0) (both (opens? D (region_of u)) (first? D.class u)) _ _
        (λ a. either (λ (x : Result). StripsHold x.0) (ℕ_discrete (m.hands u) 0) _ _ (λ b. H)
        (λ b. strips-kept H refl (λ j. by D u j (same? j t))))
        (λ a. H)
      where
        by : (D : Descriptor) (u j : ℕ) → Equality j t
            → frees_strip (update m.task t (record { place = working (f1 D.class u); cache = (m.task t).cache }) j
            ).place
            ≡ frees_strip (m.task j).place
        by D u j (same d) =
            rw d (ap (λ (U : Task). frees_strip U.place) (update_same m.task t _) ∙ sym (ap frees_strip e))
        by D u j (other n) = ap (λ (U : Task). frees_strip U.place) (update_other m.task t _ j n)

    free-strip-strips : (s : ℕ) (x : StripStart) → strip_starts m.strips s ≡ x → StripsHold (free_strip_at x t s m).0
    free-strip-strips s nowhere h = H
    free-strip-strips s (here k free) h = H
    free-strip-strips s (here k held) h = begun-holds H t k s _ l h (ap frees_strip e) refl
    free-strip-strips s (here k (begun u)) h = H

    pub free-strips : (u regions : ℕ) → StripsHold (begin_free t u regions m).0
    free-strips u regions =
        let After : Result → Type 0 = λ x. StripsHold x.0 in
        either After (dec_lt u UNITS) _ _
        (λ a. either After (dec_lt (region_of u) regions) _ _ (λ b. free-small-strips (m.map (region_of u)) u) (λ b. H))
        (λ a. either After (strip_unit? u) _ _
        (λ b. free-strip-strips (slot_of_unit u) (strip_starts m.strips (slot_of_unit u)) refl) (λ b. H))

    pub leave-strips : StripsHold (begin_leave t m).0
    leave-strips =
        placed-holds _
        (ap strip_freed (leaves-request (leaves_to (m.task t).cache CLASSES 0)) ∙ sym (ap frees_strip e))

-- ---- the start

-- one free piece: no strip, and no task frees one
pub start-strips : (regions : ℕ) → StripsHold (start_mem regions)
unfolding start_mem
start-strips regions = record {
  joined = tt;
  freed_by = λ s k t h. let z : ◌≡◌ {A = ℕ} 0 1 = cc in absurd (omega arith);
  begun_by = λ t s l h. absurd (omega arith);
}
