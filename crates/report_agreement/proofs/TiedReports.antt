-- The pool that a run has reached, as the reports read it: by the stored number of regions.
use mathlib.Core.Path.{sym, subst}
use Prim.Native.Nat.{ℕ, ◌≤◌}
use native.Mathlib.Omega.{arith}
use Rattle.limits.specs.Limits.{REGIONS}
use Rattle.plain.specs.Calls.{Pool}
use Rattle.plain.specs.Invariant.{Invariant}
use Rattle.control.specs.Layout.{Regions, seen}
use Rattle.stepped.specs.Outcome.{Memories}
use Rattle.agreement.specs.Contents.{contents_of}
use Rattle.agreement.specs.Relation.{Related}
use Rattle.agreement.specs.Tied.{Tied}
use Rattle.agreement.specs.Observe.{SameObserved}
use Rattle.agreement.proofs.Observing.{observed}
use Rattle.reports.proofs.ReportFilled.{Passes}
use Rattle.sheet.specs.Sheet.{sheet_in_range}
use Rattle.report_agreement.proofs.ReportTests.{report-passes}
use Rattle.report_agreement.proofs.SheetNumbers.{sheet-passes}

module _ {s₁ : Memories} {s : Pool} (T : Tied s₁ s) (h : 1 ≤ s.tasks) where
  pub small : seen s₁.control Regions ≤ REGIONS
  small = omega (arith, T.regions h, T.good.small h)

  pub related : Related (seen s₁.control Regions) (contents_of (seen s₁.control) s₁.area) s.mem
  related =
      subst (λ (n : ℕ). Related n (contents_of (seen s₁.control) s₁.area) s.mem) (sym (T.regions h))
      (T.related h)

  pub invariant : Invariant (seen s₁.control Regions) s.mem
  invariant = subst (λ (n : ℕ). Invariant n s.mem) (sym (T.regions h)) (T.good.inv h)

  pub same-observed : SameObserved (seen s₁.control Regions) (contents_of (seen s₁.control) s₁.area) s.mem
  same-observed = observed small related invariant (T.good.strips h)

  -- the tests pass, and all that the sheet reads, and so the form, is in its range
  pub passes : Passes sheet_in_range s₁
  passes = record {
    tests = report-passes T h;
    range = sheet-passes (seen s₁.control) s₁.area small related invariant (T.good.strips h);
  }
