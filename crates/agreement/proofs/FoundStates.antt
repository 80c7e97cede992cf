-- The state that each task noted is one of the three, once the pool is started, after every event.
use Prim.Native.Nat.{ℕ, ◌/◌, ◌≤◌}
use mathlib.Core.Path.{◌≡◌, refl, sym, subst}
use mathlib.Core.Bool.{Bool, true, false, cond, ◌&&◌}
use mathlib.Core.List.{List, [], ◌∷◌}
use native.Mathlib.Omega.{arith}
use borrow.Author.Tests.{eqb-true}
use lib.Dec.{eqb}
use lib.ListN.{length}
use Rattle.limits.specs.Limits.{CONTROL_BYTES, REGIONS, REGION_BYTES, TASKS}
use Rattle.fields.specs.Columns.{Field, View, Write, ◌:=◌, assign, assigned}
use Rattle.fields.specs.Little.{Bytes}
use Rattle.words.specs.Anchor.{FULL}
use Rattle.plain.specs.Calls.{Call, Start, start, allocate, free, leave, step, Lengths, StartTested}
use Rattle.control.specs.Layout.{seen, changed, TaskPlace, TaskState}
use Rattle.control.proofs.Fields.{seen-changed}
use Rattle.stepped.specs.Outcome.{Memories, Outcome, Effect}
use Rattle.stepped.specs.Start.{start_image}
use Rattle.stepped.specs.Calls as Calls
use Rattle.stepped.specs.Calls.{Tested, Lent, lengths, start_effect, effect_in}
use Rattle.stepped.proofs.CallTests.{start-passed}
use Rattle.agreement.specs.Events.{Event, call, write, stepped}
use Rattle.agreement.specs.Tied.{FoundStates}
use Rattle.agreement.specs.Reached.{starting}
use Rattle.agreement.proofs.StartRelated.{at-state}
use Rattle.agreement.proofs.Starting.{image-view}
use Rattle.agreement.proofs.SoundMoves.{Own, Owns, Fit}
use Rattle.agreement.proofs.SoundSteps.{step-fit}
use Rattle.agreement.proofs.SoundCalls.{allocate-fit, free-fit, leave-fit}
use Rattle.agreement.proofs.Both.{seen-fitting}
use Rattle.agreement.proofs.Ways.{tests, start-tests}
use Rattle.agreement.specs.Events.{write_strip}

-- ---- writes

module _ (t u : ℕ) where
  write-found : (f : Field) (x : ℕ) → Own t (f := x) → (v : View) → v (TaskState u) ≤ FULL
      → assign (f := x) v (TaskState u) ≤ FULL
  write-found f x own v h = by (eqb f.column (TaskPlace t).column) refl own
    where
      noted : (b c : Bool) → cond b (x ≤ FULL) (Unit {0}) → cond (b && c) x (v (TaskState u)) ≤ FULL
      noted true true o = o
      noted true false o = h
      noted false c o = h

      by : (b : Bool) → eqb f.column (TaskPlace t).column ≡ b
          → cond b (f.index ≡ t) (cond (eqb f.column (TaskState t).column) (x ≤ FULL) (Unit {0}))
          → assign (f := x) v (TaskState u) ≤ FULL
      by true e o = rw (eqb-true f.column (TaskPlace t).column e) h
      by false e o = noted (eqb f.column (TaskState t).column) (eqb f.index u) o

  writes_found : (ws : List Write) → Owns t ws → (v : View) → v (TaskState u) ≤ FULL
      → assigned ws v (TaskState u) ≤ FULL
  writes_found [] own v h = h
  writes_found ((f := x) ∷ ws) own v h = writes_found ws own.1 (assign (f := x) v) (write-found f x own.0 v h)

-- ---- calls

-- the control memory that an outcome leaves
abbrev left : List ℕ → Outcome → List ℕ
left b o = changed o.writes b

module _ (b : List ℕ) (long : length b ≡ CONTROL_BYTES) (old : FoundStates b) where
  -- what follows the tests
  tested-found : (lent : Lengths) (t : ℕ) (x : Outcome) → (Tested lent (seen b) t → Fit t x)
      → FoundStates (left b (Calls.tested lent (seen b) t x))
  tested-found lent t x fit =
      tests lent (seen b) t (λ o. FoundStates (left b o)) x (λ n h. old)
      (λ T started u l. subst (λ (z : ℕ). z ≤ FULL)
      (sym (seen-changed x.writes b (TaskState u) long (fit T).sound (omega (arith, l))))
      (writes_found t u x.writes (fit T).own (seen b) (old T.started u l)))

-- ---- starts

-- a start leaves every noted state 0
image-found : (b : Start) (regions : ℕ) → b.tasks ≤ TASKS → regions ≤ REGIONS → FoundStates (start_image b regions)
image-found b regions few small started t l =
    omega (arith, image-view b regions few small (TaskState t) (omega (arith, l)), at-state b regions t)

-- an accepted start
tested-start-found : (b : Start) (lent : Lent) → StartTested b (lengths lent)
    → FoundStates (start_effect b lent).control
tested-start-found b lent T =
    image-found b (length lent.area / REGION_BYTES) T.tasks.1 (omega (arith, T.lengths.0))

start-found : (b : Start) (lent : Lent) (s : Memories) → FoundStates s.control
    → FoundStates (Calls.start_in b lent s).control
start-found b lent s old =
    start-tests (λ e. FoundStates e.control) b lent s (λ n F. old) (tested-start-found b lent)

-- an accepted start, whatever was before
pub accepted-found : (s : Memories) (b : Start) (lent : Lent) → StartTested b (lengths lent)
    → FoundStates (stepped (starting b lent) s).0.control
accepted-found s b lent T =
    subst (λ (e : Effect). FoundStates e.control) (sym (start-passed b lent s T)) (tested-start-found b lent T)

-- ---- every event

call-found : (k : Call) (lent : Lent) (s : Memories) → length s.control ≡ CONTROL_BYTES → Bytes s.control
    → FoundStates s.control → FoundStates (effect_in k lent s).control
unfolding Calls.allocate_outcome Calls.free_outcome Calls.leave_outcome Calls.step_outcome
call-found (start b) lent s long bytes old = start-found b lent s old
call-found (allocate t size) lent s long bytes old =
    tested-found s.control long old (lengths lent) t _
    (λ T. allocate-fit (seen-fitting s.control bytes) T size)
call-found (free t u) lent s long bytes old =
    tested-found s.control long old (lengths lent) t _
    (λ T. free-fit (seen-fitting s.control bytes) T u)
call-found (leave t) lent s long bytes old =
    tested-found s.control long old (lengths lent) t _ (λ T. leave-fit (seen-fitting s.control bytes) T)
call-found (step t) lent s long bytes old =
    tested-found s.control long old (lengths lent) t _
    (λ T. step-fit (seen-fitting s.control bytes) _ T)

pub event-found : (e : Event) (s : Memories) → length s.control ≡ CONTROL_BYTES → Bytes s.control
    → FoundStates s.control → FoundStates (stepped e s).0.control
event-found (call k lent) s long bytes old = call-found k lent s long bytes old
event-found (write at b) s long bytes old = old
event-found (write_strip at b) s long bytes old = old
