-- The tests, then the report.
use native.Mathlib.Omega.{arith}
use Prim.Native.Nat.{◌*◌}
use Rattle.keepers.specs.Keepers.{KEEPER_NUMBERS, keeper_number, are_kept}
use Rattle.pool.proofs.Reporting.{stops-at, fills}
use Rattle.pool.proofs.fill_keepers.Goals as goal

pub returns-in_err-started : goal.returns-in_err-started
returns-in_err-started c =
    stops-at are_kept keeper_number _ _ (omega arith) c.report_tests.ensures _ c.from_residual.result
    c.in_err-started.was c.from_residual.ensures.1

pub returns : goal.returns
returns c =
    let T = c.report_tests.ensures in
    let A = rw c.count.ensures at c.write.ensures in
    fills are_kept keeper_number _ _ (omega arith) T (λ k. KEEPER_NUMBERS * k) c.in_ok-started.was A
