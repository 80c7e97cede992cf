-- The tests that every report makes first pass in a pool that is tied to the plain pool.
use mathlib.Core.Path.{◌≡◌, sym, ap, ◌∙◌}
use Prim.Native.Nat.{ℕ, ◌*◌, ◌≤◌}
use native.Mathlib.Omega.{arith}
use lib.ListN.{length}
use borrow.Author.Tests.{le-leb, eq-eqb, ne_eqb}
use Rattle.limits.specs.Limits.{CONTROL_BYTES, REGIONS, REGION_BYTES, TASKS, STRIPS_BYTES}
use Rattle.plain.specs.Calls.{Pool}
use Rattle.control.specs.Layout.{Tasks, Regions, seen}
use Rattle.stepped.specs.Outcome.{Memories}
use Rattle.stepped.specs.Calls.{lengths, lending}
use Rattle.agreement.specs.Tied.{Tied}
use Rattle.reports.specs.Reports.{report_refusal}

-- in a started pool, the tests 1, 4, 2 of every report that is lent the pool's memories pass
pub report-passes : {s₁ : Memories} {s : Pool} → Tied s₁ s → 1 ≤ s.tasks
    → report_refusal (lengths (lending s₁)) (seen s₁.control) ≡ 0
unfolding report_refusal
report-passes {s₁} {s} T h =
    let v = seen s₁.control in
    let n = v Regions in
    let tasks = T.tasks in
    let regions = T.regions h in
    let area : length s₁.area ≡ REGION_BYTES * n =
    (T.related h).core.length ∙ ap (λ (x : ℕ). REGION_BYTES * x) (sym regions) in
    rw (
      eq-eqb (length s₁.control) CONTROL_BYTES T.length,
      le-leb (v Tasks) TASKS (omega (arith, tasks, T.good.few)),
      ne_eqb (v Tasks) 0 (λ e. omega (arith, tasks)),
      le-leb 1 n (omega (arith, regions, T.some h)),
      le-leb n REGIONS (omega (arith, regions, T.good.small h)),
      eq-eqb (length s₁.area) (REGION_BYTES * n) area,
      eq-eqb (length s₁.strips) STRIPS_BYTES (T.strips h),
    )
