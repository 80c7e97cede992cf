-- docs/POOL.md, "Collisions"
-- The events of a run, each with the memories of the stepped run before it.
use Rattle.std.specs.Prelude.{List, [], ◌∷◌}
use Rattle.plain.specs.Calls.{Pool}
use Rattle.stepped.specs.Outcome.{Memories}
use Rattle.agreement.specs.Events.{Event}
use Rattle.agreement.specs.Reached.{Happened, History, happened, Reached, from_unstarted, from_start, by_event}
use Rattle.agreement.specs.Reached.{starting}

-- one event of a run, as its history has it, and the memories of the stepped run before it
pub record Recorded : Type 0 where
  pub memories : Memories
  pub happened : Happened

-- the events of a run so, the latest first
abbrev pub Record : Type 0
Record = List Recorded

-- the event e on the memories s₁, beside the plain pool s
abbrev pub record_of : Event → Memories → Pool → Recorded
record_of e s₁ s = record { memories = s₁; happened = happened e s₁ s }

-- The events of a run. Its history has the same ones (`recorded-history`).
abbrev pub recorded : {h : History} {s₁ : Memories} {s : Pool} → Reached h s₁ s → Record
recorded (from_unstarted U) = []
recorded (from_start s₁ s b lent T) = record_of (starting b lent) s₁ s ∷ []
recorded (by_event {h} {s₁} {s} R e p) = record_of e s₁ s ∷ recorded R
