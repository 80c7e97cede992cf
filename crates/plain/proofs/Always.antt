-- The invariant of the pool holds before a start and after every call.
use mathlib.Core.Path.{◌≡◌, refl}
use mathlib.Core.List.{List, ◌∷◌, []}
use Prim.Native.Nat.{ℕ, ◌/◌, ◌<◌}
use native.Mathlib.Omega.{arith}
use native.Mathlib.Decide.{dec_lt}
use Rattle.limits.specs.Limits.{REGION_BYTES, TASKS, UNITS}
use Rattle.classes.specs.Geometry.{region_of}
use Rattle.pieces.specs.Strips.{strip_starts}
use Rattle.pieces.specs.StripUnits.{slot_of_unit}
use Rattle.plain.specs.State.{Place, idle, Mem, working}
use Rattle.plain.specs.Moves.{Answer}
use Rattle.plain.specs.Steps.{Result, step_of}
use Rattle.plain.specs.Calls.{Pool, Call, start, allocate, free, leave, begin_allocate}
use Rattle.plain.specs.Calls.{begin_free, begin_leave, strip_unit?}
use Rattle.plain.specs.Calls.{when_idle, tested, plain_call, Lengths, step}
use Rattle.plain.specs.Leaving.{LeavesHold}
use Rattle.plain.specs.Invariant.{Invariant, StripsHold, Good, run}
use Rattle.plain.proofs.CallTests.{either, by_tests, by-start-tests, KeepsInvariant}
use Rattle.plain.proofs.Steps.{step-inv}
use Rattle.plain.proofs.StartInvariant.{start-inv}
use Rattle.plain.proofs.Begins.{allocate-inv, free-by-inv, free-strip-inv, leave-inv}
use Rattle.plain.proofs.StripInvariant.{step-strips, allocate-strips, free-strips, leave-strips, start-strips}
use Rattle.plain.proofs.LeaveInvariant.{step-leaves, allocate-leaves, free-leaves, begun-leaves, start-leaves}

-- ---- a request's beginning

-- A beginning at a place that is not idle is refused.
idle-kept : (area : ℕ) (m : Mem) (x : Result) (p : Place) → Invariant area m → (p ≡ idle → KeepsInvariant area x)
    → KeepsInvariant area (when_idle p x m)
idle-kept area m x idle I h = h refl
idle-kept area m x (working w) I h = I

idle-strips : (m : Mem) (x : Result) (p : Place) → StripsHold m → (p ≡ idle → StripsHold x.0)
    → StripsHold (when_idle p x m).0
idle-strips m x idle H h = h refl
idle-strips m x (working w) H h = H

idle-leaves : (m : Mem) (x : Result) (p : Place) → LeavesHold m → (p ≡ idle → LeavesHold x.0)
    → LeavesHold (when_idle p x m).0
idle-leaves m x idle H h = h refl
idle-leaves m x (working w) H h = H

-- ---- the calls

-- the pool after a call is good
abbrev GoodAfter : Pool × Answer → Type 0
GoodAfter x = Good x.0

-- A call that is no start, if its tests pass.
tested-good : (t : ℕ) (lent : Lengths) (s : Pool) (x : Result) → Good s
    → (t < TASKS → Invariant s.regions s.mem → KeepsInvariant s.regions x)
    → (t < TASKS → StripsHold s.mem → StripsHold x.0) → (t < TASKS → LeavesHold s.mem → LeavesHold x.0)
    → Good (tested t lent s x).0
tested-good t lent s x g h k n =
    by_tests GoodAfter t lent s x (λ n i l. g)
    (λ d. record {
      few = g.few;
      small = g.small;
      inv = λ i. h (omega (arith, g.few)) (g.inv i);
      strips = λ i. k (omega (arith, g.few)) (g.strips i);
      leaves = λ i. n (omega (arith, g.few)) (g.leaves i);
    })

-- A pool that is not started is good.
pub not_started : (s : Pool) → s.tasks ≡ 0 → Good s
not_started s e =
    record {
      few = omega arith;
      small = λ i. absurd (omega arith);
      inv = λ i. absurd (omega arith);
      strips = λ i. absurd (omega arith);
      leaves = λ i. absurd (omega arith);
    }

-- Every call of a good pool leaves a good pool.
pub call-good : (c : Call) (lent : Lengths) (s : Pool) → Good s → Good (plain_call c lent s).0
unfolding plain_call
call-good (start n) lent s g =
    by-start-tests GoodAfter n lent s (λ k F. g)
    (λ T. record {
      few = T.tasks.1;
      small = λ i. omega (arith, T.lengths.0);
      inv = λ i. start-inv (lent.area / REGION_BYTES);
      strips = λ i. start-strips (lent.area / REGION_BYTES);
      leaves = λ i. start-leaves (lent.area / REGION_BYTES);
    })
call-good (allocate t size) lent s g =
    let m = s.mem in
    tested-good t lent s _ g (λ l I.
    idle-kept s.regions m (begin_allocate t size m) (m.task t).place I (λ e. allocate-inv t l I e size))
    (λ l H. idle-strips m (begin_allocate t size m) (m.task t).place H (λ e. allocate-strips t l H e size))
    (λ l H. idle-leaves m (begin_allocate t size m) (m.task t).place H (λ e. allocate-leaves t size H))
call-good (free t u) lent s g =
    let m = s.mem in
    tested-good t lent s _ g (λ l I.
    idle-kept s.regions m (begin_free t u s.regions m) (m.task t).place I (λ e.
    either (KeepsInvariant s.regions) (dec_lt u UNITS) _ _
    (λ z. either (KeepsInvariant s.regions) (dec_lt (region_of u) s.regions) _ _
    (λ a. free-by-inv t l I e u (m.map (region_of u)) (I.entries (region_of u)))
    (λ a. I))
    (λ z. either (KeepsInvariant s.regions) (strip_unit? u) _ _
    (λ a. free-strip-inv t l I e (slot_of_unit u) (strip_starts m.strips (slot_of_unit u)) refl)
    (λ a. I))))
    (λ l H. idle-strips m (begin_free t u s.regions m) (m.task t).place H (λ e. free-strips t l H e u s.regions))
    (λ l H. idle-leaves m (begin_free t u s.regions m) (m.task t).place H (λ e. free-leaves t u s.regions H))
call-good (leave t) lent s g =
    let m = s.mem in
    tested-good t lent s _ g
    (λ l I. idle-kept s.regions m (begin_leave t m) (m.task t).place I (λ e. leave-inv t l I e))
    (λ l H. idle-strips m (begin_leave t m) (m.task t).place H (λ e. leave-strips t l H e))
    (λ l H. idle-leaves m (begin_leave t m) (m.task t).place H (λ e. begun-leaves t H))
call-good (step t) lent s g =
    tested-good t lent s (step_of t s.mem) g (λ l I. step-inv t l I) (λ l H. step-strips t l H)
    (λ l H. step-leaves t l H)

-- Every list of calls of a good pool leaves a good pool.
pub always : (cs : List (Call × Lengths)) (s : Pool) → Good s → Good (run cs s)
unfolding run
always [] s g = g
always (c ∷ cs) s g = always cs (plain_call c.0 c.1 s).0 (call-good c.0 c.1 s g)
