-- A pool that is not started: the relation holds of any such bytes.
use native.Mathlib.Omega.{arith}
use Rattle.plain.specs.Calls.{unstarted}
use Rattle.stepped.specs.Outcome.{Memories}
use Rattle.agreement.specs.Events.{Unstarted}
use Rattle.agreement.specs.Tied.{Tied}

-- the bytes of a pool that is not started, and the plain pool that is not started
pub unstarted-tied : {s₁ : Memories} → Unstarted s₁ → Tied s₁ unstarted
unfolding unstarted
unstarted-tied U = record {
  length = U.length;
  bytes = U.bytes;
  tasks = U.tasks;
  good = record {
    few = omega arith;
    small = λ h. absurd (omega arith);
    inv = λ h. absurd (omega arith);
    strips = λ h. absurd (omega arith);
    leaves = λ h. absurd (omega arith);
  };
  some = λ h. absurd (omega arith);
  regions = λ h. absurd (omega arith);
  related = λ h. absurd (omega arith);
  strips = λ h. absurd (omega arith);
}
