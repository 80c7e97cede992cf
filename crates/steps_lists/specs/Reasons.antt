-- docs/POOL.md, "Requests, steps and moves"
-- Where a pop leads, by its reason.
use Rattle.std.specs.Prelude.{ℕ}
use Rattle.control.specs.Answers.{Answer}
use Rattle.control.specs.Answers.{Accepted, NoDescriptor}
use Rattle.control.specs.declared.moves.Pop.{Pop}
use Rattle.control.specs.declared.moves.Pop.TheVariants.{Partial, Spare, Region}
use Rattle.control.specs.declared.moves.Push.TheVariants.{Back}
use Rattle.control.specs.Places.{IDLE, A3_READ, A7}
use Rattle.stepped.specs.Lists.{pop_place, push_place}

-- the place to which a pop that finds its list empty leads: allocate, step 2 "Empty: go to 5", step 5 "Empty: end with
-- 12", step 6 "Empty: push the descriptor back"
abbrev pub empty_place : Pop → ℕ
empty_place Partial = pop_place Spare
empty_place Spare = IDLE
empty_place Region = push_place Back

-- the answer of a pop that finds its list empty
abbrev pub empty_answer : Pop → Answer
empty_answer Partial = Accepted
empty_answer Spare = NoDescriptor
empty_answer Region = Accepted

-- the place to which a won pop leads: from step 2 to 3, from step 5 to 6, from step 6 to 7
abbrev pub popped_place : Pop → ℕ
popped_place Partial = A3_READ
popped_place Spare = pop_place Region
popped_place Region = A7
