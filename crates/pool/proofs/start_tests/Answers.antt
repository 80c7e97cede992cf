-- One way out for each part of a test that fails, and one for all that pass.
use native.Mathlib.Omega.{arith}
use Rattle.plain.specs.Calls.{start_lengths, start_tasks}
use Rattle.pool.proofs.start_tests.Goals as goal

pub returns-then-area-ne0-clause-refused : goal.returns-then-area-ne0-clause-refused
returns-then-area-ne0-clause-refused c = start_lengths (omega arith) (λ a. omega (arith, a.0))

pub returns-in_default-clause-refused : goal.returns-in_default-clause-refused
returns-in_default-clause-refused c = start_lengths (omega arith) (λ a. grind (arith, a.0, c.in_default.ensures.outside))

pub returns-then-strips-ne-STRIPS_BYTES-clause-refused : goal.returns-then-strips-ne-STRIPS_BYTES-clause-refused
returns-then-strips-ne-STRIPS_BYTES-clause-refused c = start_lengths (omega arith) (λ a. omega (arith, a.1))

pub returns-then-tasks-lt1-clause-refused : goal.returns-then-tasks-lt1-clause-refused
returns-then-tasks-lt1-clause-refused c =
    start_tasks (omega arith) ((omega arith, (omega (arith, c.in-Ok.ensures.inside), omega (arith, c.in-Ok.ensures.inside))), omega arith) (λ t. omega (arith, t))

pub returns-then-tasks-clause-refused : goal.returns-then-tasks-clause-refused
returns-then-tasks-clause-refused c =
    start_tasks (omega arith) ((omega arith, (omega (arith, c.in-Ok.ensures.inside), omega (arith, c.in-Ok.ensures.inside))), omega arith) (λ t. omega (arith, t))

pub returns-clause-started : goal.returns-clause-started
returns-clause-started c = (
  c.in-Ok.ensures.found,
  record {
    control_is = omega arith;
    lengths = ((omega arith, (omega (arith, c.in-Ok.ensures.inside), omega (arith, c.in-Ok.ensures.inside))), omega arith);
    tasks = (omega arith, omega arith);
  },
)
