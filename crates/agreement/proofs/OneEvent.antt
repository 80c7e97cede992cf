-- One event in both runs: the same answer, the two tied again, and each byte in hands as it was.
use mathlib.Core.Path.{◌≡◌, refl, sym, subst, ◌∙◌}
use Prim.Native.Nat.{ℕ, ◌/◌, ◌<◌}
use native.Mathlib.Omega.{arith}
use lib.ListN.{length, length-set}
use Rattle.limits.specs.Limits.{REGION_BYTES, TASKS}
use Rattle.fields.specs.Columns.{View}
use Rattle.links.specs.Link.{link}
use Rattle.plain.specs.State.{idle}
use Rattle.plain.specs.Moves.{Answer}
use Rattle.plain.specs.Steps.{Result}
use Rattle.plain.specs.Steps as Steps
use Rattle.plain.specs.Calls.{Pool, Call, start, allocate, free, leave, step, Lengths}
use Rattle.plain.specs.Calls as Plain
use Rattle.plain.specs.Invariant.{Good}
use Rattle.plain.proofs.StartInvariant.{start-inv}
use Rattle.plain.proofs.StripInvariant.{start-strips}
use Rattle.plain.proofs.Always.{call-good}
use Rattle.plain.proofs.CallTests.{passed}
use Rattle.control.specs.Layout.{seen, Regions}
use Rattle.stepped.specs.Outcome.{Outcome, Memories}
use Rattle.stepped.specs.Steps as Stepping₁
use Rattle.stepped.specs.Calls.{Lent, lengths}
use Rattle.stepped.specs.Calls as Stepped
use Rattle.plain.proofs.LeaveInvariant.{start-leaves}
use Rattle.stepped.specs.Leaving.{begin_leave}
use Rattle.agreement.proofs.LeavingBegins.{leave-both}
use Rattle.agreement.specs.Events.{Event, write, write_strip, stepped, whole, Premise, call, CallPremise}
use Rattle.agreement.specs.Agreement.{HandsKept}
use Rattle.agreement.proofs.Both.{Both, seen-fitting}
use Rattle.agreement.proofs.Turns.{At}
use Rattle.agreement.specs.Tied.{Tied}
use Rattle.agreement.proofs.Simulation.{Alike, tested-alike}
use Rattle.agreement.proofs.Starting.{start-alike}
use Rattle.agreement.proofs.BeginsBoth.{when-idle, allocate-both}
use Rattle.agreement.proofs.StripsBoth.{free-both}
use Rattle.agreement.proofs.Stepping.{step_both}
use Rattle.agreement.proofs.UserWrites.{write-related}

module _ {s₁ : Memories} {s : Pool} (S : Tied s₁ s) where
  abbrev v : View
  v = seen s₁.control

  -- what is asked of a call that passes the tests 1, 4, 2, 5, of the stored number of regions
  at-regions : {lent : Lengths} {t : ℕ} (F : ℕ → Outcome) (y : Result) → Plain.Tested t lent s
      → Both s.regions v s₁.area s.mem (F s.regions) y
      → Both s.regions v s₁.area s.mem (F (v Regions)) y
  at-regions F y T B =
      subst (λ (r : ℕ). Both s.regions v s₁.area s.mem (F r) y) (sym (S.regions T.started)) B

  -- the task's turn, where it is idle
  turn : {lent : Lengths} {u : ℕ} → Plain.Tested u lent s → (t : ℕ) → t < TASKS
      → (s.mem.task t).place ≡ idle → At s.regions v s₁.area s.mem t idle (s.mem.task t).cache
  turn T t l e = record {
    pair = record {
      rel = S.related T.started;
      turn =
          record {
            inv = S.good.inv T.started;
            fits = l;
            is = λ i.
                record { place = e i; cache = (s.mem.task t).cache };
          };
      small = S.good.small T.started;
    };
    fitting = seen-fitting s₁.control S.bytes;
  }

  begin-allocate : (lent : Lengths) (t size : ℕ) → Plain.Tested t lent s
      → Both s.regions v s₁.area s.mem (Stepped.when_idle v t (Stepped.begin_allocate t size))
      (Plain.when_idle (s.mem.task t).place (Plain.begin_allocate t size s.mem) s.mem)
  begin-allocate lent t size T =
      let l : t < TASKS = omega (arith, T.below, S.good.few) in
      let R = S.related T.started in
      when-idle R t _ _ (s.mem.task t).place (R.slots t l).place (λ e. allocate-both (turn T t l e) size)

  begin-free : (lent : Lengths) (t u : ℕ) → Plain.Tested t lent s
      → Both s.regions v s₁.area s.mem (Stepped.when_idle v t (Stepped.begin_free v s.regions t u))
      (Plain.when_idle (s.mem.task t).place (Plain.begin_free t u s.regions s.mem) s.mem)
  begin-free lent t u T =
      let l : t < TASKS = omega (arith, T.below, S.good.few) in
      let R = S.related T.started in
      when-idle R t _ _ (s.mem.task t).place (R.slots t l).place (λ e. free-both (turn T t l e) u)

  begin-leave : (lent : Lengths) (t : ℕ) → Plain.Tested t lent s
      → Both s.regions v s₁.area s.mem (Stepped.when_idle v t (begin_leave v t))
      (Plain.when_idle (s.mem.task t).place (Plain.begin_leave t s.mem) s.mem)
  begin-leave lent t T =
      let l : t < TASKS = omega (arith, T.below, S.good.few) in
      let R = S.related T.started in
      when-idle R t _ _ (s.mem.task t).place (R.slots t l).place (λ e. leave-both (turn T t l e))

-- the plain pool's own invariant after a call that passes the tests
good-after : {lent : Lengths} {t : ℕ} {s : Pool} (y : Result) → Good (Plain.tested t lent s y).0
    → Plain.Tested t lent s → Good (Plain.became s y).0
good-after y g T = subst (λ (x : Pool × Answer). Good x.0) (passed y T) g

-- what the turn of one call shows of the memories after it
abbrev pub CallKeeps : Call → Memories → Pool → Memories → Type 0
CallKeeps (start b) s₁ s z = Unit {0}
CallKeeps (allocate t size) s₁ s z = HandsKept s₁ s z
CallKeeps (free t u) s₁ s z = HandsKept s₁ s z
CallKeeps (leave t) s₁ s z = HandsKept s₁ s z
CallKeeps (step t) s₁ s z = HandsKept s₁ s z

abbrev pub EventKeeps : Event → Memories → Pool → Memories → Type 0
EventKeeps (call k lent) s₁ s z = CallKeeps k s₁ s z
EventKeeps (write at b) s₁ s z = Unit {0}
EventKeeps (write_strip at b) s₁ s z = Unit {0}

-- one call: the same answer, in relation again, and each byte in hands as it was
call-alike : (k : Call) (lent : Lent) (s₁ : Memories) (s : Pool) → Tied s₁ s → CallPremise k (lengths lent) s
    → Alike (CallKeeps k s₁ s) (stepped (call k lent) s₁) (whole (call k lent) s)
unfolding Plain.plain_call Stepped.allocate_outcome Stepped.free_outcome Stepped.leave_outcome Stepped.step_outcome
call-alike (start b) lent s₁ s S h =
    start-alike S b lent
    (λ T. record {
      few = T.tasks.1;
      small = λ k. omega (arith, T.lengths.0);
      inv = λ k. start-inv (length lent.area / REGION_BYTES);
      strips = λ k. start-strips (length lent.area / REGION_BYTES);
      leaves = λ k. start-leaves (length lent.area / REGION_BYTES);
    })
call-alike (allocate t size) lent s₁ s S h =
    let y = Plain.when_idle (s.mem.task t).place (Plain.begin_allocate t size s.mem) s.mem in
    tested-alike S (lengths lent) t _ y
    (good-after y (call-good (allocate t size) (lengths lent) s S.good))
    (begin-allocate S (lengths lent) t size)
call-alike (free t u) lent s₁ s S h =
    let v₁ = seen s₁.control in
    let y = Plain.when_idle (s.mem.task t).place (Plain.begin_free t u s.regions s.mem) s.mem in
    tested-alike S (lengths lent) t _ y
    (good-after y (call-good (free t u) (lengths lent) s S.good))
    (λ T. at-regions S (λ r. Stepped.when_idle v₁ t (Stepped.begin_free v₁ r t u)) y T
    (begin-free S (lengths lent) t u T))
call-alike (leave t) lent s₁ s S h =
    let y = Plain.when_idle (s.mem.task t).place (Plain.begin_leave t s.mem) s.mem in
    tested-alike S (lengths lent) t _ y
    (good-after y (call-good (leave t) (lengths lent) s S.good))
    (begin-leave S (lengths lent) t)
call-alike (step t) lent s₁ s S h =
    let y = Steps.step_of t s.mem in
    tested-alike S (lengths lent) t _ y
    (good-after y (call-good (step t) (lengths lent) s S.good))
    (λ T. at-regions S (λ r. Stepping₁.step_of (seen s₁.control) (link s₁.area) r t) y T
    (step_both t (omega (arith, T.below, S.good.few)) (S.good.small T.started)
    (seen-fitting s₁.control S.bytes)
    (S.related T.started) (S.good.inv T.started) (S.good.strips T.started) (h T)))

-- one event: the same answer, the two tied again, and each byte in hands as it was
pub alike : (e : Event) (s₁ : Memories) (s : Pool) → Tied s₁ s → Premise e s
    → Alike (EventKeeps e s₁ s) (stepped e s₁) (whole e s)
alike (call k lent) s₁ s S h = call-alike k lent s₁ s S h
alike (write at b) s₁ s S h = record {
  says = refl;
  shows = tt;
  tied = record {
    length = S.length;
    bytes = S.bytes;
    tasks = S.tasks;
    good = S.good;
    some = S.some;
    regions = S.regions;
    related =
        λ k. write-related (S.good.inv k) h.unit at h.held h.from h.to (seen s₁.control) s₁.area b
        (S.related k);
    strips = S.strips;
  };
}
alike (write_strip at b) s₁ s S h = record {
  says = refl;
  shows = tt;
  tied = record {
    length = S.length;
    bytes = S.bytes;
    tasks = S.tasks;
    good = S.good;
    some = S.some;
    regions = S.regions;
    related = S.related;
    strips = λ k. length-set s₁.strips at b ∙ S.strips k;
  };
}
