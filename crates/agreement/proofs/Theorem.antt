-- The agreement of the stepped run with the whole run, over every list of events.
use mathlib.Core.Path.{sym, subst}
use mathlib.Core.Logic.{◌≢◌}
use mathlib.Core.List.{List, ◌∷◌}
use native.Mathlib.Omega.{arith}
use Rattle.plain.specs.Moves.{Answer}
use Rattle.plain.specs.Calls.{Pool, Call, Start, start, allocate, free, leave, step, unstarted}
use Rattle.plain.specs.Calls as Plain
use Rattle.plain.proofs.CallAnswers.{never_14}
use Rattle.stepped.specs.Outcome.{Memories}
use Rattle.stepped.specs.Calls.{Lent, lengths, effect_in}
use Rattle.agreement.specs.Events.{Event, call, write, write_strip, stepped, whole, Premise, Premises}
use Rattle.agreement.specs.Events.{Unstarted}
use Rattle.agreement.specs.Tied.{Tied}
use Rattle.agreement.specs.Reached.{starting, from_unstarted, from_start, Wherever}
use Rattle.agreement.specs.Agreement.{Agrees, Unchanged, CallUntouched, Untouched, AgreesAt, Agree}
use Rattle.agreement.proofs.Simulation.{Alike}
use Rattle.agreement.proofs.Starting.{accepted-start}
use Rattle.agreement.proofs.OneEvent.{CallKeeps, EventKeeps, alike}
use Rattle.agreement.proofs.Reaching.{reached-tied, along-kept, along}
use Rattle.agreement.proofs.Lent.{start-leaves, refused-leaves}
use Rattle.agreement.proofs.Ends.{effect-leaves}
use Rattle.agreement.proofs.Observing.{observed}

-- the plain pool never answers 14
never : (e : Event) (s : Pool) → (whole e s).1.code ≢ 14
never (call k lent) s = never_14 k (lengths lent) s
never (write at b) s = λ e. absurd (omega arith)
never (write_strip at b) s = λ e. absurd (omega arith)

call-untouched : (k : Call) (lent : Lent) (s₁ : Memories) (s : Pool) → CallKeeps k s₁ s (stepped (call k lent) s₁).0
    → CallUntouched k lent s₁ (stepped (call k lent) s₁) s
call-untouched (start b) lent s₁ s h = start-leaves b lent s₁
call-untouched (allocate t size) lent s₁ s h = h
call-untouched (free t u) lent s₁ s h = h
call-untouched (leave t) lent s₁ s h = h
call-untouched (step t) lent s₁ s h = h

untouched : (e : Event) (s₁ : Memories) (s : Pool) → EventKeeps e s₁ s (stepped e s₁).0
    → Untouched e s₁ (stepped e s₁) s
untouched (call k lent) s₁ s h = call-untouched k lent s₁ s h
untouched (write at b) s₁ s h = tt
untouched (write_strip at b) s₁ s h = tt

-- a refused call leaves both memories
unchanged : (e : Event) (s₁ : Memories) → Unchanged s₁ (stepped e s₁)
unchanged (call k lent) s₁ = refused-leaves (effect_in k lent s₁) s₁ (effect-leaves k lent s₁)
unchanged (write at b) s₁ = λ h k. absurd (omega arith)
unchanged (write_strip at b) s₁ = λ h k. absurd (omega arith)

agrees : (e : Event) (s₁ : Memories) (s : Pool) → Alike (EventKeeps e s₁ s) (stepped e s₁) (whole e s)
    → Agrees (stepped e s₁) (whole e s)
agrees e s₁ s A = record {
  says = A.says;
  never_14 = subst (λ (x : Answer). x.code ≢ 14) (sym A.says) (never e s);
  tasks = A.tied.tasks;
  regions = A.tied.regions;
  control_length = A.tied.length;
  area_length = λ h. (A.tied.related h).core.length;
  strips_length = A.tied.strips;
  same = λ h. observed (A.tied.good.small h) (A.tied.related h) (A.tied.good.inv h) (A.tied.good.strips h);
}

-- an event that meets its premise, on memories that are tied to the plain pool: the two agree, and are tied again
tied-agrees : (e : Event) (s₁ : Memories) (s : Pool) → Tied s₁ s → Premise e s
    → AgreesAt e s₁ s × Tied (stepped e s₁).0 (whole e s).0
tied-agrees e s₁ s T p =
    let A = alike e s₁ s T p in
    ((agrees e s₁ s A, unchanged e s₁, untouched e s₁ s A.shows), A.tied)

-- an event that meets its premise, wherever a run has come: the two runs agree
pub reached-agrees : Wherever AgreesAt
reached-agrees h s₁ s R e p = (tied-agrees e s₁ s (reached-tied R) p).0

-- The agreement from any two that are tied, whether a run has come there or not.
pub agreement-from-tied : (es : List Event) (s₁ : Memories) (s : Pool) → Tied s₁ s → Premises es s → Agree es s₁ s
agreement-from-tied = along-kept Tied AgreesAt tied-agrees

-- Demand 3, and demand 1's last sentence. For every list of calls with users' writes between them, from any control
-- memory that is not started, under the premises: the stepped run and the whole run decide the same moves at the same
-- calls, give the same code and value, never 14, and have after every call the same lists, chains and holders; each
-- block of an open region is in exactly one place; and no call changes a byte of a block in a user's hands.
pub agreement : (es : List Event) (s₁ : Memories) → Unstarted s₁ → Premises es unstarted → Agree es s₁ unstarted
agreement es s₁ U p = along AgreesAt reached-agrees (from_unstarted U) es p

-- The agreement from an accepted start on any memories and in any pool, the start itself with it: the control memory
-- before it may look like a started pool, or hold anything.
pub agreement-from-start : (es : List Event) (s₁ : Memories) (s : Pool) (b : Start) (lent : Lent)
    → Plain.StartTested b (lengths lent) → Premises es (whole (starting b lent) s).0
    → Agree (starting b lent ∷ es) s₁ s
unfolding Plain.plain_call
agreement-from-start es s₁ s b lent T p =
    let e = starting b lent in
    let A = accepted-start s₁ s b lent T in (
      (agrees e s₁ s A, unchanged e s₁, untouched e s₁ s tt),
      along AgreesAt reached-agrees (from_start s₁ s b lent T) es p,
    )
