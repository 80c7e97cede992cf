-- docs/POOL.md, "Requests, steps and moves"
-- What the functions of the steps ask and ensure.
use Rattle.std.specs.Prelude.{◌≡◌, List, [], ℕ, ◌*◌, length}
use Rattle.std.specs.declared.result.Result.{Result}
use Rattle.limits.specs.Limits.{REGION_BYTES}
use Rattle.links.specs.Link.{with_links}
use Rattle.control.specs.Layout.{TaskLost, seen, changed}
use Rattle.control.specs.Answers.{answer_of, number_with}
use Rattle.control.specs.declared.answer.Answer.{Answer}
use Rattle.limits.specs.declared.refusal.Refusal.{Refusal}
use Rattle.stepped.specs.Outcome.{Outcome}

-- an area of r regions: the tests of the call have shown it
abbrev pub AreaOf : ℕ → List ℕ → Type 0
AreaOf r blocks = length blocks ≡ REGION_BYTES * r

-- A function that is handed the control memory alone: its answer and every byte afterwards are those of the outcome,
-- which writes no link.
pub record Done (o : Outcome) (before after : List ℕ) (r : Result Answer Refusal) : Type 0 where
  pub answer : answer_of r ≡ o.answer
  pub control : after ≡ changed o.writes before
  pub links : o.links ≡ []

-- A function that is handed the control memory and the area.
pub record DoneIn (o : Outcome) (c a c' a' : List ℕ) (r : Result Answer Refusal) : Type 0 where
  pub answer : answer_of r ≡ o.answer
  pub control : c' ≡ changed o.writes c
  pub area : a' ≡ with_links o.links a

-- A function of a step of the task t that is handed the control memory and the area, and answers by one number.
pub record NumberIn (o : Outcome) (t : ℕ) (c a c' a' : List ℕ) (r : ℕ) : Type 0 where
  pub number : r ≡ number_with o.answer (seen c' (TaskLost t))
  pub control : c' ≡ changed o.writes c
  pub area : a' ≡ with_links o.links a
