-- "Under the premises of the two runs one always applies, and it is proved to be true of the pool": the keepers are
-- filled in, and tell the plain pool.
use mathlib.Core.Path.{◌≡◌, ap, ◌∙◌}
use mathlib.Core.List.{List}
use Prim.Native.Nat.{ℕ, suc, ◌+◌, ◌*◌, ◌≤◌, ◌<◌}
use native.Mathlib.Omega.{arith}
use borrow.Author.Tests.{le-leb}
use lib.Dec.{leb}
use lib.ListN.{length, get_or}
use Rattle.limits.specs.Limits.{REGIONS}
use Rattle.fields.specs.Little.{get_le}
use Rattle.links.specs.Link.{link}
use Rattle.plain.specs.State.{Mem}
use Rattle.plain.specs.Calls.{Pool}
use Rattle.control.specs.Layout.{Regions, seen}
use Rattle.stepped.specs.Outcome.{Memories}
use Rattle.agreement.specs.Reached.{History, Reached}
use Rattle.agreement.specs.Tied.{Tied}
use Rattle.agreement.proofs.BothPass.{both_true}
use Rattle.agreement.proofs.Reaching.{reached-tied}
use Rattle.reports.specs.Rows.{BYTES_OF_NUMBER}
use Rattle.reports.proofs.Passing.{all-pass}
use Rattle.reports.proofs.ReportFilled.{Passes, left-short, given, number-stands, low_stands}
use Rattle.keepers.specs.Keepers.{Keeper}
use Rattle.keepers.specs.Keepers.{keeper_of, KEEPER_BYTES, KEEPER_NUMBERS, TASK_WEIGHT, keeper_number, read_in_range}
use Rattle.keepers.specs.Keepers.{are_kept, keepers_of}
use Rattle.keepers.proofs.KeepersFound.{first-number, second-number}
use Rattle.report_agreement.specs.KeepersTell.{kind_at, task_at, unit_at, Keeps, in-hand, in-cache, in-request}
use Rattle.report_agreement.specs.KeepersTell.{spare, KeepersTell}
use Rattle.report_agreement.proofs.ReportTests.{report-passes}
use Rattle.report_agreement.proofs.SheetNumbers.{sheet-passes}
use Rattle.report_agreement.proofs.TiedReports.{small, related, invariant}
use Rattle.report_agreement.proofs.RegionsHeld.{held-pass}
use Rattle.report_agreement.proofs.SparesKept.{spares-pass}
use Rattle.report_agreement.proofs.KeepersNamed.{Named, keeper-named}

-- a keeper that is named has a kind, and its numbers fit their bytes
record FitsBytes (kind task unit : ℕ) : Type 0 where
  some : 1 ≤ kind
  kind_fits : kind < 256
  task-fits : task < 256
  unit-fits : unit < 65536

fits-bytes : {m : Mem} {r kind task unit : ℕ} → r < REGIONS → Keeps m r kind task unit → FitsBytes kind task unit
fits-bytes l (in-hand h least) = record {
  some = omega arith;
  kind_fits = omega arith;
  task-fits = omega arith;
  unit-fits = omega (arith, h.0);
}
fits-bytes l (in-cache t none h first least) = record {
  some = omega arith;
  kind_fits = omega arith;
  task-fits = omega arith;
  unit-fits = omega (arith, h.0);
}
fits-bytes l (in-request t none no-cache h first) = record {
  some = omega arith;
  kind_fits = omega arith;
  task-fits = omega arith;
  unit-fits = omega arith;
}
fits-bytes l (spare none no-cache no_request h) = record {
  some = omega arith;
  kind_fits = omega arith;
  task-fits = omega arith;
  unit-fits = omega arith;
}

-- ---- the keepers of tied memories

module _ {s₁ : Memories} {s : Pool} (T : Tied s₁ s) (h : 1 ≤ s.tasks) where
  -- the keeper of the region r, as it is read
  abbrev kept : ℕ → Keeper
  kept r = keeper_of (seen s₁.control) (link s₁.area) (seen s₁.control Regions) r

  named : (r : ℕ) → r < seen s₁.control Regions → Named s.mem r (kept r)
  named r l =
      keeper-named (seen s₁.control) s₁.area (small T h) (related T h) (invariant T h) (T.good.strips h) r l

  fits : (r : ℕ) → r < seen s₁.control Regions → FitsBytes (kept r).kind (kept r).task (kept r).unit
  fits r l = fits-bytes (omega (arith, small T h)) (named r l)

  -- the tests pass, all that is read is in its range, and each region has a keeper
  keepers-pass : Passes are_kept s₁
  unfolding are_kept read_in_range
  keepers-pass = record {
    tests = report-passes T h;
    range =
        both_true
        (both_true
        (sheet-passes (seen s₁.control) s₁.area (small T h) (related T h) (invariant T h) (T.good.strips h))
        (both_true (held-pass (seen s₁.control) s₁.area (related T h) (invariant T h))
        (spares-pass (seen s₁.control) s₁.area (related T h) (invariant T h))))
        (all-pass (seen s₁.control Regions) (λ r. leb 1 (kept r).kind) (λ r l.
        le-leb 1 (kept r).kind (fits r l).some));
  }

  module _ (row : List ℕ) (long : KEEPER_BYTES * s.regions ≤ length row) where
    -- as many bytes as are written
    enough : BYTES_OF_NUMBER * (KEEPER_NUMBERS * seen s₁.control Regions) ≤ length row
    enough = omega (arith, long, T.regions h)

    -- the numbers of the region r
    first : (r : ℕ) → keeper_number (seen s₁.control) (link s₁.area) (seen s₁.control Regions)
        (KEEPER_NUMBERS * r) ≡ (kept r).kind + TASK_WEIGHT * (kept r).task
    first r = first-number (seen s₁.control) (link s₁.area) (seen s₁.control Regions) r

    second : (r : ℕ) → keeper_number (seen s₁.control) (link s₁.area) (seen s₁.control Regions)
        (KEEPER_NUMBERS * r + 1) ≡ (kept r).unit
    second r = second-number (seen s₁.control) (link s₁.area) (seen s₁.control Regions) r

    module _ (r : ℕ) (inside : r < seen s₁.control Regions) where
      kind-is : kind_at (keepers_of s₁ row).1 r ≡ (kept r).kind
      kind-is =
          let e : 4 * r ≡ BYTES_OF_NUMBER * (KEEPER_NUMBERS * r) = omega arith in
          ap (λ (at : ℕ). get_or (keepers_of s₁ row).1 at 0) e
          ∙ low_stands are_kept (KEEPER_NUMBERS * seen s₁.control Regions) keeper_number s₁ row keepers-pass enough
          (KEEPER_NUMBERS * r) (omega (arith, inside))
          ∙ omega (arith, first r, (fits r inside).kind_fits)

      both-are : get_le (keepers_of s₁ row).1 (4 * r) 2 ≡ (kept r).kind + TASK_WEIGHT * (kept r).task
      both-are =
          let e : 4 * r ≡ BYTES_OF_NUMBER * (KEEPER_NUMBERS * r) = omega arith in
          ap (λ (at : ℕ). get_le (keepers_of s₁ row).1 at 2) e
          ∙ number-stands are_kept (KEEPER_NUMBERS * seen s₁.control Regions) keeper_number s₁ row keepers-pass enough
          (KEEPER_NUMBERS * r) (omega (arith, inside))
          (omega (arith, first r, (fits r inside).kind_fits, (fits r inside).task-fits))
          ∙ first r

      task-is : task_at (keepers_of s₁ row).1 r ≡ (kept r).task
      unfolding get_le
      task-is =
          let e : suc (4 * r) ≡ 4 * r + 1 = omega arith in
          omega (arith, both-are, kind-is, ap (λ (at : ℕ). get_or (keepers_of s₁ row).1 at 0) e)

      unit-is : unit_at (keepers_of s₁ row).1 r ≡ (kept r).unit
      unit-is =
          let e : 4 * r + 2 ≡ BYTES_OF_NUMBER * (KEEPER_NUMBERS * r + 1) = omega arith in
          ap (λ (at : ℕ). get_le (keepers_of s₁ row).1 at 2) e
          ∙ number-stands are_kept (KEEPER_NUMBERS * seen s₁.control Regions) keeper_number s₁ row keepers-pass enough
          (KEEPER_NUMBERS * r + 1) (omega (arith, inside))
          (omega (arith, second r, (fits r inside).unit-fits))
          ∙ second r

    tells : KeepersTell (keepers_of s₁ row).1 s
    tells r inside =
        let l : r < seen s₁.control Regions = omega (arith, T.regions h, inside) in
        rw (kind-is r l, task-is r l, unit-is r l) (named r l)

-- ---- the keepers of a pool that a run has reached

-- "Under the premises of the two runs one always applies, and it is proved to be true of the pool": a row that is long
-- enough gets them, and the answer is 20. This holds wherever a run has come, not only right after a 13.
pub keepers-tell : {past : History} {s₁ : Memories} {s : Pool} → Reached past s₁ s → 1 ≤ s.tasks → (row : List ℕ)
    → KEEPER_BYTES * s.regions ≤ length row → ((keepers_of s₁ row).0 ≡ 20) × KeepersTell (keepers_of s₁ row).1 s
keepers-tell {s₁ = s₁} R h row long =
    let T = reached-tied R in (
      ap (λ (x : ℕ × List ℕ). x.0)
          (given are_kept (KEEPER_NUMBERS * seen s₁.control Regions) keeper_number s₁ row (keepers-pass T h)
          (enough T h row long)),
      tells T h row long,
    )

-- a row that is too short is refused with 23, and left as it is
pub keepers-short : {past : History} {s₁ : Memories} {s : Pool} → Reached past s₁ s → 1 ≤ s.tasks → (row : List ℕ)
    → length row < KEEPER_BYTES * s.regions → keepers_of s₁ row ≡ (23, row)
keepers-short {s₁ = s₁} R h row short =
    let T = reached-tied R in
    left-short are_kept (KEEPER_NUMBERS * seen s₁.control Regions) keeper_number s₁ row (keepers-pass T h)
    (omega (arith, short, T.regions h))
