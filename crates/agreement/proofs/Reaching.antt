-- The one induction over runs; and by it: whatever a run reaches is tied, each task is at what it has asked for, and
-- its lost exchanges are counted.
use mathlib.Core.Path.{sym, subst}
use mathlib.Core.List.{List, [], ◌∷◌}
use native.Mathlib.Omega.{arith}
use Rattle.plain.specs.Moves.{Answer}
use Rattle.plain.specs.Calls.{Pool, Start, unstarted}
use Rattle.plain.specs.Calls as Plain
use Rattle.stepped.specs.Outcome.{Memories}
use Rattle.stepped.specs.Calls.{Lent, lengths}
use Rattle.agreement.specs.Events.{Event, stepped, whole, Premise, Premises, Unstarted}
use Rattle.agreement.specs.Tied.{Tied, FoundStates}
use Rattle.agreement.specs.Reached.{History, happened, Reached, from_unstarted, from_start, by_event, Along}
use Rattle.agreement.specs.Reached.{starting, Wherever}
use Rattle.agreement.specs.Asked.{asked, asked_in}
use Rattle.agreement.specs.LostExchanges.{AllCounted}
use Rattle.agreement.specs.AtWhatAsked.{AllAtWhatAsked, AtLastAsked}
use Rattle.agreement.proofs.Unstarted.{unstarted-tied}
use Rattle.agreement.proofs.Starting.{accepted-start}
use Rattle.agreement.proofs.FoundStates.{accepted-found, event-found}
use Rattle.agreement.proofs.OneEvent.{alike}
use Rattle.agreement.proofs.Asked.{unstarted-asked, started-asked, event-asked}
use Rattle.agreement.proofs.LostExchanges.{accepted-counted, event-counted}

-- The one induction over runs: what holds where a run begins, on a control memory that is not started or behind an
-- accepted start, and is kept by every event that meets its premise, holds wherever a run has come.
pub over_runs : (K : History → Memories → Pool → Type 0) → ((s₁ : Memories) → Unstarted s₁ → K [] s₁ unstarted)
    → ((s₁ : Memories) (s : Pool) (b : Start) (lent : Lent) → Plain.StartTested b (lengths lent)
    → K (happened (starting b lent) s₁ s ∷ []) (stepped (starting b lent) s₁).0 (whole (starting b lent) s).0)
    → ((h : History) (s₁ : Memories) (s : Pool) → Reached h s₁ s → K h s₁ s → (e : Event) → Premise e s
    → K (happened e s₁ s ∷ h) (stepped e s₁).0 (whole e s).0)
    → {h : History} {s₁ : Memories} {s : Pool} → Reached h s₁ s → K h s₁ s
over_runs K u f g (from_unstarted {s₁} U) = u s₁ U
over_runs K u f g (from_start s₁ s b lent T) = f s₁ s b lent T
over_runs K u f g (by_event {h} {s₁} {s} R e p) = g h s₁ s R (over_runs K u f g R) e p

-- what holds of the memories and the pool that a run reaches with its history: they are tied, each task noted one of
-- the three states, each task that is at work is at what it has asked for last, and each task's count is that of the
-- lost exchanges in its request
record HoldsThere (h : History) (s₁ : Memories) (s : Pool) : Type 0 where
  tied : Tied s₁ s
  found : FoundStates s₁.control
  asks : AtLastAsked h s.mem
  counts : AllCounted h s₁.control

reached : {h : History} {s₁ : Memories} {s : Pool} → Reached h s₁ s → HoldsThere h s₁ s
unfolding Plain.plain_call
reached = over_runs HoldsThere
    (λ s₁ U. record {
      tied = unstarted-tied U;
      found = λ k. absurd (omega (arith, U.tasks));
      asks = unstarted-asked (λ t. asked t []);
      counts = λ k. absurd (omega (arith, U.tasks));
    })
    (λ s₁ s b lent T. record {
      tied = (accepted-start s₁ s b lent T).tied;
      found = accepted-found s₁ b lent T;
      asks = started-asked b lent s _ T;
      counts = accepted-counted s₁ s b lent T;
    })
    (λ h s₁ s R H e p.
    let A = alike e s₁ s H.tied p in
    record {
      tied = A.tied;
      found = event-found e s₁ H.tied.length H.tied.bytes H.found;
      asks =
          subst (λ (x : Answer). AllAtWhatAsked (λ t. asked_in t e x.code (asked t h)) (whole e s).0.mem)
          (sym A.says) (event-asked e s (λ t. asked t h) H.asks);
      counts = event-counted e s₁ s h H.tied.length H.tied.bytes H.counts;
    })

pub reached-tied : {h : History} {s₁ : Memories} {s : Pool} → Reached h s₁ s → Tied s₁ s
reached-tied R = (reached R).tied

pub reached-found : {h : History} {s₁ : Memories} {s : Pool} → Reached h s₁ s → FoundStates s₁.control
reached-found R = (reached R).found

pub reached-asked : {h : History} {s₁ : Memories} {s : Pool} → Reached h s₁ s → AtLastAsked h s.mem
reached-asked R = (reached R).asks

-- Wherever a run has come, each task's count is that of the lost exchanges in its request, or the most.
pub reached-counted : {h : History} {s₁ : Memories} {s : Pool} → Reached h s₁ s → AllCounted h s₁.control
reached-counted R = (reached R).counts

-- What follows of each event from something that every event keeps holds along every list of events that meets the
-- premises.
pub along-kept : (Keeps : Memories → Pool → Type 0) (P : Event → Memories → Pool → Type 0)
    → ((e : Event) (s₁ : Memories) (s : Pool) → Keeps s₁ s → Premise e s
    → P e s₁ s × Keeps (stepped e s₁).0 (whole e s).0)
    → (es : List Event) (s₁ : Memories) (s : Pool) → Keeps s₁ s → Premises es s → Along P es s₁ s
along-kept Keeps P f [] s₁ s k p = tt
along-kept Keeps P f (e ∷ es) s₁ s k p =
    let x = f e s₁ s k p.0 in
    (x.0, along-kept Keeps P f es (stepped e s₁).0 (whole e s).0 x.1 p.1)

-- What holds of every event wherever a run has come holds along every list of events behind it that meets the premises.
pub along : (P : Event → Memories → Pool → Type 0) → Wherever P → {h : History} {s₁ : Memories} {s : Pool}
    → Reached h s₁ s → (es : List Event) → Premises es s → Along P es s₁ s
along P f {h} {s₁} {s} R es p =
    along-kept (λ x y. (h : History) × Reached h x y) P
    (λ e x y r q. (f r.0 x y r.1 e q, (happened e x y ∷ r.0, by_event r.1 e q))) es s₁ s (h, R) p
