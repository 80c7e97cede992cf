-- docs/POOL.md, "Runs and premises"
-- What a run reaches, and its history. Whatever is said of runs is said of what they reach.
use Rattle.std.specs.Prelude.{List, [], ◌∷◌}
use Rattle.plain.specs.Moves.{Answer}
use Rattle.plain.specs.Calls.{Pool, Start, unstarted}
use Rattle.plain.specs.Calls as Plain
use Rattle.stepped.specs.Outcome.{Memories}
use Rattle.stepped.specs.Calls.{Lent, lengths}
use Rattle.agreement.specs.Events.{Event, call, stepped, whole, Premise, Unstarted}

-- one event of a run: the event, the plain pool before it, and its answer with the move that it decided
pub record Happened : Type 0 where
  pub event : Event
  pub before : Pool
  pub answer : Answer

-- the events of a run, the latest first
abbrev pub History : Type 0
History = List Happened

-- the event e on the memories s₁, beside the plain pool s
abbrev pub happened : Event → Memories → Pool → Happened
happened e s₁ s = record { event = e; before = s; answer = (stepped e s₁).1 }

-- a start that is lent these memories
abbrev pub starting : Start → Lent → Event
starting b lent = call (Plain.start b) lent

-- A run begins with a control memory that is not started, or with an accepted start on any memories and beside any
-- pool; it goes on by any event that meets its premise. With its history it reaches the memories of the stepped run and
-- the pool of the whole run.
pub data Reached : History → Memories → Pool → Type 0 where
  from_unstarted : {s₁ : Memories} → Unstarted s₁ → Reached [] s₁ unstarted
  from_start : (s₁ : Memories) (s : Pool) (b : Start) (lent : Lent) → Plain.StartTested b (lengths lent)
      → Reached (happened (starting b lent) s₁ s ∷ []) (stepped (starting b lent) s₁).0 (whole (starting b lent) s).0
  by_event : {h : History} {s₁ : Memories} {s : Pool} → Reached h s₁ s → (e : Event) → Premise e s
      → Reached (happened e s₁ s ∷ h) (stepped e s₁).0 (whole e s).0

-- P of each event of a list, in its order, with the memories and the pool before it
abbrev pub Along : (Event → Memories → Pool → Type 0) → List Event → Memories → Pool → Type 0
Along P [] s₁ s = Unit {0}
Along P (e ∷ es) s₁ s = P e s₁ s × Along P es (stepped e s₁).0 (whole e s).0

-- P of every event that meets its premise, wherever a run has come
abbrev pub Wherever : (Event → Memories → Pool → Type 0) → Type 0
Wherever P = (h : History) (s₁ : Memories) (s : Pool) → Reached h s₁ s → (e : Event) → Premise e s → P e s₁ s
