-- docs/POOL.md, "The plain pool"
-- What a call decides and what it answers.
use Rattle.std.specs.Prelude.{ℕ}

-- "The deciding step of a move is its won exchange, or the read by which a pop finds its list empty or an allocate an
-- anchor EMPTY." Lost exchanges are named too, though they decide nothing, so that two runs which are shown to decide
-- alike are shown to lose alike. ℓ is a list, x the item that was popped or pushed, d a descriptor. "Such a request, to
-- take or to free, finishes, or ends with 16, in its first step, which is one move of the whole run": s is the first
-- slot of the strip that was taken or given back.
pub data Decided : Type 0 where
  nothing : Decided
  found_empty : (ℓ : ℕ) → Decided
  popped pushed : (ℓ x : ℕ) → Decided
  lost : (ℓ : ℕ) → Decided
  anchor_empty took gave anchor_lost : (d : ℕ) → Decided
  strip_taken strip_given : (s : ℕ) → Decided
  no_strip : Decided

-- a call's code and value, and what it decided
pub record Answer : Type 0 where
  pub code : ℕ
  pub value : ℕ
  pub decided : Decided

-- "Code 0 is accepted or still under way"
abbrev pub going : Decided → Answer
going e = record { code = 0; value = 0; decided = e }

-- "20 finished; the value is the unit of a finished allocation, else 0"
abbrev pub finished : ℕ → Answer
finished value = record { code = 20; value = value; decided = nothing }

-- a request that finishes by a move: "finishes .. in its first step, which is one move of the whole run" (the request
-- for strips)
abbrev pub finished_by : Decided → ℕ → Answer
finished_by e value = record { code = 20; value = value; decided = e }

-- "12 and 13 refuse no call: they are a request's end, with value 0, make the change of their step and leave the task
-- idle.", and so "16 ends a request" (the request for strips)
abbrev pub ended : ℕ → Decided → Answer
ended code e = record { code = code; value = 0; decided = e }

-- "A refused call answers the number and value 0"
abbrev pub refused : ℕ → Answer
refused code = record { code = code; value = 0; decided = nothing }
