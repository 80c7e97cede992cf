-- docs/POOL.md, "Calls and refusals"
-- What a call answers, and the paper's number and value for each answer.
use Rattle.std.specs.Prelude.{ℕ, ◌+◌, ◌*◌, ◌/◌, ◌%◌, Ok, Err}
use Rattle.std.specs.declared.result.Result.{Result}
use Rattle.control.specs.declared.answer.Answer.{Answer as Returned}
use Rattle.control.specs.declared.answer.Answer.TheVariants as returned
use Rattle.limits.specs.declared.refusal.Refusal.{Refusal}
use Rattle.limits.specs.declared.refusal.Refusal.TheVariants as refusal

-- accepted or still under way; a finished allocation with its unit; a finished free, or leaving; a request that ends
-- with 12, 13 or 16; and a refusal by its number
pub data Answer : Type 0 where
  Accepted : Answer
  Allocated : ℕ → Answer
  Freed : Answer
  NoDescriptor : Answer
  NoRegion : Answer
  NoStrip : Answer
  Refused : ℕ → Answer

-- "A refused call answers the number" (the paper's list of them)
abbrev pub refusal_number : Refusal → ℕ
refusal_number refusal.ControlLength = 1
refusal_number refusal.AreaLength = 2
refusal_number refusal.TaskCount = 3
refusal_number refusal.NotStarted = 4
refusal_number refusal.NoTask = 5
refusal_number refusal.Busy = 6
refusal_number refusal.Idle = 7
refusal_number refusal.SizeZero = 8
refusal_number refusal.SizeTooLarge = 9
refusal_number refusal.NoBlock = 10
refusal_number refusal.NotInHand = 11
refusal_number refusal.OutOfRange = 14
refusal_number refusal.RowTooShort = 23

-- the answer of a call, by what its function returns
abbrev pub answer_of : Result Returned Refusal → Answer
answer_of (Ok returned.Accepted) = Accepted
answer_of (Ok (returned.Allocated u)) = Allocated u
answer_of (Ok returned.Freed) = Freed
answer_of (Ok returned.NoDescriptor) = NoDescriptor
answer_of (Ok returned.NoRegion) = NoRegion
answer_of (Ok returned.NoStrip) = NoStrip
answer_of (Err e) = Refused (refusal_number e)

-- "Code 0 is accepted or still under way, 20 finished"; "12 no descriptor; 13 no region"; "16 ends a request exactly if
-- no aligned free stretch of the rounded size exists"; "A refused call answers the number"
abbrev pub code_of : Answer → ℕ
code_of Accepted = 0
code_of (Allocated u) = 20
code_of Freed = 20
code_of NoDescriptor = 12
code_of NoRegion = 13
code_of NoStrip = 16
code_of (Refused n) = n

-- "the value is the unit of a finished allocation, else 0"
abbrev pub value_of : Answer → ℕ
value_of Accepted = 0
value_of (Allocated u) = u
value_of Freed = 0
value_of NoDescriptor = 0
value_of NoRegion = 0
value_of NoStrip = 0
value_of (Refused n) = 0

-- ---- the answer as one number for C: the code in its low 8 bits, the value in the next 24, and in the high 32 the
-- lost exchanges that it tells

-- every code is below this number
abbrev pub CODES : ℕ
CODES = 256

-- every value is below this number
abbrev pub VALUES : ℕ
VALUES = 16777216

-- one lost exchange, in the number
abbrev pub ONE_LOST : ℕ
ONE_LOST = CODES * VALUES

-- the number's code
abbrev pub code_in : ℕ → ℕ
code_in r = r % CODES

-- the number's value
abbrev pub value_in : ℕ → ℕ
value_in r = r / CODES % VALUES

-- the lost exchanges that the number tells
abbrev pub lost_in : ℕ → ℕ
lost_in r = r / ONE_LOST

-- the number of an answer that tells no lost exchanges: the code, and CODES times the value
abbrev pub number_of : Answer → ℕ
number_of Accepted = 0
number_of (Allocated u) = 20 + CODES * u
number_of Freed = 20
number_of NoDescriptor = 12
number_of NoRegion = 13
number_of NoStrip = 16
number_of (Refused n) = n

-- "the finishing step gives the request's sum .. Requests that end with 12, 13 or 16 give it also. Every other answer
-- gives 0" (the request for lost exchanges), for a task that has lost n
abbrev pub lost_told : Answer → ℕ → ℕ
lost_told Accepted n = 0
lost_told (Allocated u) n = n
lost_told Freed n = n
lost_told NoDescriptor n = n
lost_told NoRegion n = n
lost_told NoStrip n = n
lost_told (Refused r) n = 0

-- the number of an answer that tells so many lost exchanges
abbrev pub number_telling : Answer → ℕ → ℕ
number_telling a lost = number_of a + ONE_LOST * lost

-- the number that a step answers, of a task that has lost n exchanges
abbrev pub number_with : Answer → ℕ → ℕ
number_with a n = number_telling a (lost_told a n)
