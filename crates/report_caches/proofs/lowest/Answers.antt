-- What is left of the cache gives the lowest of the whole.
use Prim.Native.Nat.{◌+◌, ◌-◌}
use native.Mathlib.Nat.{sub-zero}
use native.Mathlib.Omega.{arith}
use Rattle.std.specs.Prelude.{None, Some}
use Rattle.report_caches.proofs.LowestBlocks.{lowest-begins, lowest-inside, lowest-goes, lowest-ends}
use Rattle.report_caches.proofs.LowestBlocks.{found-is, none-found}
use Rattle.report_caches.proofs.lowest.Goals as goal

pub loop-init : goal.loop-init
loop-init c = rw sub-zero (lowest-begins c.requires.1 c.get_of-unit.ensures c.get_of-end.ensures)

pub read-unit-requires : goal.read-unit-requires
read-unit-requires c =
    omega (
      arith,
      lowest-inside {more = c.get_of-end.result - (c.loop.counter + 1)} c.loop.invariant (omega arith),
      c.requires.0,
    )

pub loop-preserved : goal.loop-preserved
loop-preserved c = lowest-goes c.loop.invariant (omega arith) c.lower-low.ensures c.read-unit.ensures

pub returns-then-low-lt-UNITS-clause-found : goal.returns-then-low-lt-UNITS-clause-found
returns-then-low-lt-UNITS-clause-found c = found-is (Some c.loop.low) (lowest-ends c.loop.invariant (omega arith))

pub returns-clause-none : goal.returns-clause-none
returns-clause-none c =
    none-found None (omega (arith, lowest-ends c.loop.invariant (omega arith), c.loop.invariant.most))
