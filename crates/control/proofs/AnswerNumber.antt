-- The number of an answer is its code and CODES times its value, and what it tells of lost exchanges stands behind
-- these.
use mathlib.Core.Path.{◌≡◌, refl}
use Prim.Native.Nat.{◌+◌, ◌*◌}
use native.Mathlib.Omega.{arith}
use Rattle.control.specs.Answers.{CODES, code_of, value_of, number_of, number_telling, number_with}
use Rattle.control.specs.Answers.{Answer}
use Rattle.control.specs.Answers.{Accepted, Allocated, Freed, Refused}
use Rattle.control.specs.Answers.{NoDescriptor, NoRegion, NoStrip}

pub number_is : (a : Answer) → number_of a ≡ code_of a + CODES * value_of a
number_is Accepted = refl
number_is (Allocated u) = refl
number_is Freed = refl
number_is NoDescriptor = refl
number_is NoRegion = refl
number_is NoStrip = refl
number_is (Refused n) = omega arith

-- where none are told, the task may as well have lost none
pub tells_none : (a : Answer) → number_telling a 0 ≡ number_with a 0
tells_none Accepted = refl
tells_none (Allocated u) = refl
tells_none Freed = refl
tells_none NoDescriptor = refl
tells_none NoRegion = refl
tells_none NoStrip = refl
tells_none (Refused n) = refl
