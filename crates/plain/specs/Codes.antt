-- docs/POOL.md, "Calls and refusals"
-- What a step and a call answer, in every state: the codes, where 12, 13 and 16 come from, and how many exchanges are
-- won.
use Rattle.std.specs.Prelude.{◌≡◌, ℕ, ◌+◌, ◌≤◌, ◌<◌, []}
use Rattle.limits.specs.Limits.{SPARE_DESCRIPTORS, SPARE_REGIONS}
use Rattle.plain.specs.State.{Phase, read, exchange, spare, region, back, popping, pushing, strip-take, Mem}
use Rattle.plain.specs.State.{working}
use Rattle.plain.specs.Moves.{found_empty, pushed, no_strip, Answer}
use Rattle.pieces.specs.Strips.{none_found, take_strip}
use Rattle.plain.specs.Steps.{Result, step_of}
use Rattle.plain.specs.Calls.{Pool, Call, became, step}

-- the codes of a step: "Code 0 is accepted or still under way, 20 finished"; 7 without a request; 12, 13 and 16 end one
pub data StepCode : ℕ → Type 0 where
  under-way : StepCode 0
  no_request : StepCode 7
  no_descriptor : StepCode 12
  no_region : StepCode 13
  no_stretch : StepCode 16
  finishes : StepCode 20

-- the task t is at the head read of step 5's pop, and the list of spare descriptors is empty
pub record ReadsNoSpare (t : ℕ) (m : Mem) : Type 0 where
  pub c : ℕ
  pub place : (m.task t).place ≡ working (popping (spare c) read)
  pub row : m.row SPARE_DESCRIPTORS ≡ []

-- the task t is at the exchange that pushes the descriptor d back, and wins it
pub record PushesBack (t : ℕ) (m : Mem) (d : ℕ) : Type 0 where
  pub c : ℕ
  pub n : ℕ
  pub place : (m.task t).place ≡ working (pushing (back c d) (exchange n))
  pub won : m.won SPARE_DESCRIPTORS ≡ n

-- the task t is at the head read of step 6's pop, and the list of spare regions is empty
pub record ReadsNoRegion (t : ℕ) (m : Mem) (c d : ℕ) : Type 0 where
  pub place : (m.task t).place ≡ working (popping (region c d) read)
  pub row : m.row SPARE_REGIONS ≡ []

-- how a task comes to be pushing a descriptor back: it was on this push already, or read no region just now
pub data WayBack (t : ℕ) (m : Mem) (c d : ℕ) : Phase → Type 0 where
  stays : {φ : Phase} (ψ : Phase) → (m.task t).place ≡ working (pushing (back c d) ψ) → WayBack t m c d φ
  comes : ReadsNoRegion t m c d → WayBack t m c d read

-- the task t is to take a strip, and no free piece is large enough
pub record FindsNoStrip (t : ℕ) (m : Mem) : Type 0 where
  pub order : ℕ
  pub place : (m.task t).place ≡ working (strip-take order)
  pub none : take_strip order m.strips ≡ none_found

-- x is what a step of the task t makes of the memory m
pub record StepFacts (t : ℕ) (m : Mem) (x : Result) : Type 0 where
  -- the code is one of six
  pub code : StepCode x.1.code
  -- 12 is answered by the read of an empty list of spare descriptors only
  pub twelve : x.1.code ≡ 12 → ReadsNoSpare t m × (x.1.decided ≡ found_empty SPARE_DESCRIPTORS)
  -- 13 is answered by the won exchange that pushes the descriptor back only
  pub thirteen : x.1.code ≡ 13 → (d : ℕ) × PushesBack t m d × (x.1.decided ≡ pushed SPARE_DESCRIPTORS d)
  -- 16 is answered where a strip is to be taken and there is none only
  pub sixteen : x.1.code ≡ 16 → FindsNoStrip t m × (x.1.decided ≡ no_strip)
  -- the way to that push is taken by the read of an empty list of spare regions only
  pub way_back : (c d : ℕ) (φ : Phase) → (x.0.task t).place ≡ working (pushing (back c d) φ) → WayBack t m c d φ
  -- each list has at most one more won exchange
  pub won : (ℓ : ℕ) → x.0.won ℓ ≤ m.won ℓ + 1

-- what a call is: a start that is accepted; a refusal or a beginning, whose code is at most 11 and which wins no
-- exchange; or a step of a task, whose answer is the step's
pub data CallIs (c : Call) (s : Pool) (x : Pool × Answer) : Type 0 where
  starts : x.1.code ≡ 0 → ((ℓ : ℕ) → x.0.mem.won ℓ ≡ 0) → CallIs c s x
  begins : x.1.code ≤ 11 → x.0.tasks ≡ s.tasks → ((ℓ : ℕ) → x.0.mem.won ℓ ≡ s.mem.won ℓ)
      → CallIs c s x
  steps : (t : ℕ) → c ≡ step t → t < s.tasks → x ≡ became s (step_of t s.mem) → CallIs c s x

-- the call that was answered a is a step that reads the empty list of spare descriptors
pub record EndsBy12 (s : Pool) (a : Answer) : Type 0 where
  pub t : ℕ
  pub fits : t < s.tasks
  pub reads : ReadsNoSpare t s.mem
  pub decided : a.decided ≡ found_empty SPARE_DESCRIPTORS

-- the call that was answered a is a step that wins the exchange that pushes a descriptor back
pub record EndsBy13 (s : Pool) (a : Answer) : Type 0 where
  pub t : ℕ
  pub d : ℕ
  pub fits : t < s.tasks
  pub pushes : PushesBack t s.mem d
  pub decided : a.decided ≡ pushed SPARE_DESCRIPTORS d

-- the call that was answered a is a step that finds no strip
pub record EndsBy16 (s : Pool) (a : Answer) : Type 0 where
  pub t : ℕ
  pub fits : t < s.tasks
  pub finds : FindsNoStrip t s.mem
  pub decided : a.decided ≡ no_strip

-- no list of a started pool has won more than n exchanges
abbrev pub AtMost : ℕ → Pool → Type 0
AtMost n s = 1 ≤ s.tasks → (ℓ : ℕ) → s.mem.won ℓ ≤ n
