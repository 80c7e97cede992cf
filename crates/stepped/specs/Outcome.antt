-- docs/POOL.md, "Requests, steps and moves"
-- What a call makes of the memories that it is lent.
use Rattle.std.specs.Prelude.{ℕ, List, [], ◌∷◌}
use Rattle.fields.specs.Columns.{View, Write, ◌:=◌}
use Rattle.links.specs.Link.{LinkWrite, with_links}
use Rattle.plain.specs.Moves.{Decided, nothing}
use Rattle.control.specs.Layout.{TaskPlace, TaskLost, seen, changed}
use Rattle.control.specs.Losts.{one_more}
use Rattle.control.specs.Answers.{lost_told}
use Rattle.control.specs.Answers.{Answer}
use Rattle.control.specs.Answers.{Accepted, Refused}

-- The answer, the move that was decided, the fields of the control memory that are written, and the links that are
-- written in the area. Nothing else changes.
pub record Outcome : Type 0 where
  pub answer : Answer
  pub decided : Decided
  pub writes : List Write
  pub links : List LinkWrite

-- "A refused call answers the number and value 0 and leaves both memories unchanged."
abbrev pub refuse : ℕ → Outcome
refuse n = record { answer = Refused n; decided = nothing; writes = []; links = [] }

-- "14 comes where the bad value is read, before any write."
abbrev pub bad : Outcome
bad = refuse 14

-- accepted, or still under way
abbrev pub accept : Decided → List Write → List LinkWrite → Outcome
accept e ws ls = record { answer = Accepted; decided = e; writes = ws; links = ls }

-- the request is over, with this answer
abbrev pub over : Answer → Decided → List Write → List LinkWrite → Outcome
over a e ws ls = record { answer = a; decided = e; writes = ws; links = ls }

-- "A lost exchange goes back to the head read", and one of an anchor is "lost: read again": the task t goes to the
-- place `back`, and the exchange is counted. v is what stands in the fields
abbrev pub lose : View → ℕ → Decided → ℕ → Outcome
lose v t e back = accept e (TaskPlace t := back ∷ TaskLost t := one_more (v (TaskLost t)) ∷ []) []

-- the three memories that a call is lent, as bytes
pub record Memories : Type 0 where
  pub control : List ℕ
  pub area : List ℕ
  pub strips : List ℕ

-- "For every input, the answer and each byte of both memories afterwards", and of the strips' memory; with the answer,
-- the lost exchanges that it tells
pub record Effect : Type 0 where
  pub answer : Answer
  pub lost : ℕ
  pub decided : Decided
  pub control : List ℕ
  pub area : List ℕ
  pub strips : List ℕ

-- the memories that an effect leaves
abbrev pub memories_after : Effect → Memories
memories_after e = record { control = e.control; area = e.area; strips = e.strips }

-- what an outcome, whose answer tells so many lost exchanges, makes of the memories s; the strips' memory is for the
-- users alone
abbrev pub effect_with : ℕ → Outcome → Memories → Effect
effect_with lost o s = record {
  answer = o.answer;
  lost = lost;
  decided = o.decided;
  control = changed o.writes s.control;
  area = with_links o.links s.area;
  strips = s.strips;
}

-- of a call that is no step: "Every other answer gives 0" (the request for lost exchanges)
abbrev pub effect : Outcome → Memories → Effect
effect = effect_with 0

-- of a step of the task t: its answer tells the task's count, as it stands afterwards. No step that ends a request
-- loses an exchange, so that it is also the count before
abbrev pub step_effect : ℕ → Outcome → Memories → Effect
step_effect t o s = effect_with (lost_told o.answer (seen (changed o.writes s.control) (TaskLost t))) o s
