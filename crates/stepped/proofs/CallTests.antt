-- The tests of a call: the first that fails refuses it, and what follows them is done where all pass.
use Prim.Native.Nat.{ℕ, ◌*◌, ◌%◌, ◌≤◌}
use mathlib.Core.Path.{◌≡◌, refl}
use mathlib.Core.Bool.{Bool, true, false}
use native.Mathlib.Omega.{arith}
use borrow.Author.Tests.{eq-eqb, ne_eqb, le-leb, lt-leb, lt-ltb, le-ltb, eqb-true, leb-true}
use lib.Dec.{eqb, leb}
use lib.ListN.{length}
use Rattle.limits.specs.Limits.{CONTROL_BYTES, REGIONS, REGION_BYTES, AREA_BYTES, TASKS, STRIPS_BYTES}
use Rattle.fields.specs.Columns.{View}
use Rattle.plain.specs.Calls.{Start, Lengths, StartLengths, StartedLengths, StartTested, StartFails, start_control}
use Rattle.plain.specs.Calls.{start_lengths, start_tasks}
use Rattle.control.specs.Layout.{Tasks, Regions}
use Rattle.stepped.specs.Outcome.{Outcome, refuse, effect, Memories}
use Rattle.stepped.specs.Ranges.{one_to}
use Rattle.stepped.specs.Calls.{tested, Tested, FirstFails, Lent, lengths, start_in, start_effect}
use Rattle.stepped.specs.Calls.{is_started_lengths, is_start_lengths}
use Rattle.stepped.specs.Calls.{control_fails, tasks_fail, not_started, regions_fail, lengths_fail, task_fails}
use Rattle.stepped.proofs.Conjunction.{both}

-- a test that does not pass fails
not-true : (b : Bool) → (b ≡ true → ⊥) → b ≡ false
not-true true h = absurd (h refl)
not-true false h = refl

-- a number that passes its test is from 1 to the most
pub one-to : (most n : ℕ) → one_to most n ≡ true → (1 ≤ n) × (n ≤ most)
one-to most n h =
    let b = both (leb 1 n) (leb n most) h in
    (leb-true 1 n b.0, leb-true n most b.1)

-- ---- the tests 1, 4, 2, 5 of a call that is no start

-- lengths that pass test 2
pub lengths-started : (lent : Lengths) (regions : ℕ) → is_started_lengths lent regions ≡ true
    → StartedLengths lent regions
lengths-started lent regions h =
    let b = both (eqb lent.area (REGION_BYTES * regions)) (eqb lent.strips STRIPS_BYTES) h in
    (eqb-true lent.area (REGION_BYTES * regions) b.0, eqb-true lent.strips STRIPS_BYTES b.1)

module _ {lent : Lengths} {v : View} {t : ℕ} (x : Outcome) where
  -- a call that fails one of them is refused
  pub failed : {n : ℕ} → FirstFails lent v t n → tested lent v t x ≡ refuse n
  unfolding tested
  failed (control_fails h) = rw (ne_eqb lent.control CONTROL_BYTES h)
  failed (tasks_fail c h) = rw (eq-eqb lent.control CONTROL_BYTES c, lt-leb (v Tasks) TASKS h)
  failed (not_started c h) =
      rw (eq-eqb lent.control CONTROL_BYTES c, le-leb (v Tasks) TASKS (omega arith), eq-eqb (v Tasks) 0 h)
  failed (regions_fail T h) = rw (
    eq-eqb lent.control CONTROL_BYTES T.0,
    le-leb (v Tasks) TASKS T.2,
    ne_eqb (v Tasks) 0 (omega (arith, T.1)),
    not-true (one_to REGIONS (v Regions)) (λ e. h (one-to REGIONS (v Regions) e)),
  )
  failed (lengths_fail T R h) = rw (
    eq-eqb lent.control CONTROL_BYTES T.0,
    le-leb (v Tasks) TASKS T.2,
    ne_eqb (v Tasks) 0 (omega (arith, T.1)),
    le-leb 1 (v Regions) R.0,
    le-leb (v Regions) REGIONS R.1,
    not-true (is_started_lengths lent (v Regions)) (λ e. h (lengths-started lent (v Regions) e)),
  )
  failed (task_fails T R a h) = rw (
    eq-eqb lent.control CONTROL_BYTES T.0,
    le-leb (v Tasks) TASKS T.2,
    ne_eqb (v Tasks) 0 (omega (arith, T.1)),
    le-leb 1 (v Regions) R.0,
    le-leb (v Regions) REGIONS R.1,
    eq-eqb lent.area (REGION_BYTES * v Regions) a.0,
    eq-eqb lent.strips STRIPS_BYTES a.1,
    le-ltb t (v Tasks) h,
  )

  -- a call that passes them does what follows
  pub passed : Tested lent v t → tested lent v t x ≡ x
  unfolding tested
  passed T = rw (
    eq-eqb lent.control CONTROL_BYTES T.control_is,
    le-leb (v Tasks) TASKS T.tasks,
    ne_eqb (v Tasks) 0 (omega (arith, T.started)),
    le-leb 1 (v Regions) T.some,
    le-leb (v Regions) REGIONS T.regions,
    eq-eqb lent.area (REGION_BYTES * v Regions) T.lengths_are.0,
    eq-eqb lent.strips STRIPS_BYTES T.lengths_are.1,
    lt-ltb t (v Tasks) T.below,
  )

-- ---- the tests 1, 2, 3 of a start

-- lengths that pass test 2
lengths-fit : (lent : Lengths) → is_start_lengths lent ≡ true → StartLengths lent
lengths-fit lent h =
    let a = both _ (eqb lent.strips STRIPS_BYTES) h in
    let b = both (eqb (lent.area % REGION_BYTES) 0) (one_to AREA_BYTES lent.area) a.0 in (
      (eqb-true (lent.area % REGION_BYTES) 0 b.0, one-to AREA_BYTES lent.area b.1),
      eqb-true lent.strips STRIPS_BYTES a.1,
    )

module _ (b : Start) (lent : Lent) (s : Memories) where
  abbrev bytes : ℕ
  bytes = length lent.area

  -- a start that fails one of them is refused
  pub start-failed : {n : ℕ} → StartFails b (lengths lent) n → start_in b lent s ≡ effect (refuse n) s
  unfolding start_in
  start-failed (start_control h) = rw (ne_eqb lent.control CONTROL_BYTES h)
  start-failed (start_lengths c h) = rw (
    eq-eqb lent.control CONTROL_BYTES c,
    not-true (is_start_lengths (lengths lent)) (λ e. h (lengths-fit (lengths lent) e)),
  )
  start-failed (start_tasks c a h) = rw (
    eq-eqb lent.control CONTROL_BYTES c,
    eq-eqb (bytes % REGION_BYTES) 0 a.0.0,
    le-leb 1 bytes a.0.1.0,
    le-leb bytes AREA_BYTES a.0.1.1,
    eq-eqb (length lent.strips) STRIPS_BYTES a.1,
    not-true (one_to TASKS b.tasks) (λ e. h (one-to TASKS b.tasks e)),
  )

  -- a start that passes them is accepted
  pub start-passed : StartTested b (lengths lent) → start_in b lent s ≡ start_effect b lent
  unfolding start_in
  start-passed T = rw (
    eq-eqb lent.control CONTROL_BYTES T.control_is,
    eq-eqb (bytes % REGION_BYTES) 0 T.lengths.0.0,
    le-leb 1 bytes T.lengths.0.1.0,
    le-leb bytes AREA_BYTES T.lengths.0.1.1,
    eq-eqb (length lent.strips) STRIPS_BYTES T.lengths.1,
    le-leb 1 b.tasks T.tasks.0,
    le-leb b.tasks TASKS T.tasks.1,
  )
