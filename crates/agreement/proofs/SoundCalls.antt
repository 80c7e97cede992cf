-- Whatever bytes the control memory holds: each field holds after a step what the step's outcome writes to it, and no
-- call of a task moves another.
use Prim.Native.Nat.{ℕ, ◌-◌, ◌/◌, ◌%◌, ◌<◌}
use mathlib.Core.Path.{◌≡◌, refl, sym, ◌∙◌}
use mathlib.Core.Logic.{◌≢◌}
use mathlib.Core.Bool.{Bool, true, false, cond, ◌&&◌}
use mathlib.Core.List.{List, [], ◌∷◌}
use native.Mathlib.Omega.{arith}
use borrow.Author.Tests.{ne_eqb, ltb-true, ltb-false}
use lib.Dec.{eqb, leb, ltb}
use lib.ListN.{length}
use Rattle.limits.specs.Limits.{CONTROL_BYTES, UNITS, TASKS, CLASSES, DESCRIPTORS, LARGEST_SIZE, LARGEST_STRIP}
use Rattle.limits.specs.Limits.{WORD_MARKS}
use Rattle.fields.specs.Columns.{Field, View, Write, ◌:=◌, assign, assigned, Has}
use Rattle.fields.specs.Little.{Bytes}
use Rattle.words.specs.Anchor.{EMPTY, anchor_of}
use Rattle.words.specs.Mark.{is_set}
use Rattle.words.proofs.Marks.{clear-below}
use Rattle.classes.specs.Geometry.{region_of, is_first}
use Rattle.classes.proofs.Sizes.{is_class}
use Rattle.pieces.proofs.StripSizes.{rounds}
use Rattle.plain.specs.Calls.{Lengths}
use Rattle.control.specs.Layout.{layout, seen, changed, Anchor, Marks, Map, Regions, DescriptorRegion, TaskUnit}
use Rattle.control.specs.Layout.{LEAVING, TaskLost}
use Rattle.control.specs.Layout.{DescriptorClass, TaskPlace}
use Rattle.control.specs.Places.{IDLE, PLACES}
use Rattle.control.proofs.Fields.{seen-changed}
use Rattle.stepped.specs.Outcome.{Outcome}
use Rattle.stepped.specs.Ranges.{is_anchor}
use Rattle.stepped.specs.Steps as Steps
use Rattle.stepped.specs.Calls as Calls
use Rattle.stepped.specs.Calls.{Tested}
use Rattle.stepped.specs.Leaving.{begin_leave}
use Rattle.plain.specs.Moves.{nothing}
use Rattle.agreement.specs.Ends.{place_after}
use Rattle.agreement.proofs.Both.{Fitting, seen-fitting}
use Rattle.agreement.proofs.SoundMoves.{Own, Owns, Fit, none, test, leave-from}
use Rattle.agreement.proofs.SoundStrips.{begin-strip}
use Rattle.agreement.proofs.SoundSteps.{step-fit}
use Rattle.agreement.proofs.Ways.{branch, tests}

-- ---- the beginnings

module _ {lent : Lengths} {v : View} (fits : Fitting v) {t : ℕ} (T : Tested lent v t) where
  task : t < TASKS
  task = omega (arith, T.below, T.tasks)

  idle-fit : (x : Outcome) → Fit t x → Fit t (Calls.when_idle v t x)
  unfolding Calls.when_idle
  idle-fit x f =
      test (ltb (v (TaskPlace t)) PLACES) (λ e. branch (Fit t) (eqb (v (TaskPlace t)) IDLE) (λ h. f) (λ h. none))

  pub allocate-fit : (size : ℕ) → Fit t (Calls.when_idle v t (Calls.begin_allocate t size))
  unfolding Calls.begin_allocate
  allocate-fit size =
      idle-fit (Calls.begin_allocate t size)
      (branch (Fit t) (eqb size 0) (λ e. none) (λ e. branch (Fit t) (ltb LARGEST_STRIP size) (λ h. none)
      (λ h. branch (Fit t) (ltb LARGEST_SIZE size)
      (λ k. record {
        sound = omega (arith, task, (rounds size (ltb-false LARGEST_STRIP size h)).within);
        own = omega arith;
      })
      (λ k. record { sound = omega (arith, task, is_class size (ltb-false LARGEST_SIZE size k)); own = omega arith }))))

  marked-fit : (u c : ℕ) → u < UNITS → c < CLASSES → Fit t (Calls.free_marked v t u c)
  unfolding Calls.free_marked
  marked-fit u c l k =
      let marks = v (Marks (u / WORD_MARKS)) in
      branch (Fit t) (is_set marks (u % WORD_MARKS))
      (λ e. record {
        sound =
            omega (
              arith,
              task,
              l,
              k,
              clear-below marks (u % WORD_MARKS) WORD_MARKS (fits (Marks (u / WORD_MARKS)) (omega (arith, l)))
                  (omega arith),
            );
        own = omega arith;
      })
      (λ e. none)

  small-fit : (u : ℕ) → Fit t (Calls.begin_free_small v (v Regions) t u)
  unfolding Calls.begin_free_small Calls.free_entry Calls.free_by Calls.free_open
  small-fit u =
      let P = Fit t in
      let entry = v (Map (region_of u)) in
      let d = entry - 1 in
      let a = v (Anchor d) in
      let r = v (DescriptorRegion d) in
      let c = v (DescriptorClass d) in
      branch P (ltb (region_of u) (v Regions)) (λ e.
      branch P (eqb entry 0) (λ f. none) (λ f. test (leb entry DESCRIPTORS) (λ f.
      test (ltb r (v Regions)) (λ g. branch P (eqb r (region_of u)) (λ h.
      test (is_anchor a) (λ i. branch P (eqb (anchor_of a).state EMPTY) (λ j. none) (λ j.
      test (ltb c CLASSES) (λ k. branch P (is_first c u)
      (λ l. marked-fit u c (omega (arith, ltb-true (region_of u) (v Regions) e, T.regions)) (ltb-true c CLASSES k))
      (λ l. none))))) (λ h. none))))) (λ e. none)

  pub free-fit : (u : ℕ) → Fit t (Calls.when_idle v t (Calls.begin_free v (v Regions) t u))
  unfolding Calls.begin_free
  free-fit u =
      idle-fit (Calls.begin_free v (v Regions) t u)
      (branch (Fit t) (ltb u UNITS) (λ e. small-fit u) (λ e. begin-strip v fits task u))

  pub leave-fit : Fit t (Calls.when_idle v t (begin_leave v t))
  leave-fit =
      idle-fit (begin_leave v t)
      (leave-from v task 0 (omega arith) nothing (TaskUnit t := LEAVING ∷ TaskLost t := 0 ∷ [])
      (record { sound = omega (arith, task); own = omega arith }))

-- ---- the bytes

-- A step on bytes, with any bytes: the task's place is afterwards the one that its outcome leads to.
module _ (lent : Lengths) (link : ℕ → ℕ) (t : ℕ) (b : List ℕ) (bytes : Bytes b) (long : lent.control ≡ length b) where
  abbrev o : Outcome
  o = Calls.step_outcome lent (seen b) link t

  -- each field of the layout holds what the outcome writes to it, or what it held; and any field, where a test of the
  -- call fails
  pub step-seen : (g : Field) → (Tested lent (seen b) t → Has layout g)
      → seen (changed o.writes b) g ≡ assigned o.writes (seen b) g
  unfolding Calls.step_outcome
  step-seen g has =
      let P : Outcome → Type 0 = λ x. seen (changed x.writes b) g ≡ assigned x.writes (seen b) g in
      tests lent (seen b) t P _ (λ n h. refl)
      (λ T. seen-changed (Steps.step_of (seen b) link (seen b Regions) t).writes b g (sym long ∙ T.control_is)
      (step-fit (seen-fitting b bytes) link T).sound (has T))

  pub step-place : seen (changed o.writes b) (TaskPlace t) ≡ place_after o (seen b) t
  step-place = step-seen (TaskPlace t) (λ T. omega (arith, T.below, T.tasks))

-- ---- the other tasks

module _ {t u : ℕ} (other : u ≢ t) where
  -- a write to no place but that of t leaves the place of u
  write_keeps : (f : Field) (x : ℕ) → Own t (f := x) → (v : View) → assign (f := x) v (TaskPlace u) ≡ v (TaskPlace u)
  write_keeps f x own v = by (eqb f.column (TaskPlace u).column) _ own
    where
      by : (b : Bool) (X : Type 0) → cond b (f.index ≡ t) X
          → cond (b && eqb f.index u) x (v (TaskPlace u)) ≡ v (TaskPlace u)
      by true X e = rw (ne_eqb f.index u (λ h. other (sym h ∙ e))) refl
      by false X e = refl

  writes-keep : (ws : List Write) → Owns t ws → (v : View) → assigned ws v (TaskPlace u) ≡ v (TaskPlace u)
  writes-keep [] own v = refl
  writes-keep ((f := x) ∷ ws) own v = writes-keep ws own.1 (assign (f := x) v) ∙ write_keeps f x own.0 v

  module _ (lent : Lengths) (b : List ℕ) (bytes : Bytes b) (long : lent.control ≡ length b) (task-is : u < TASKS) where
    -- the outcome x leaves the place of u
    abbrev Stays : Outcome → Type 0
    Stays x = seen (changed x.writes b) (TaskPlace u) ≡ seen b (TaskPlace u)

    stays : (x : Outcome) → length b ≡ CONTROL_BYTES → Fit t x → Stays x
    stays x l f =
        seen-changed x.writes b (TaskPlace u) l f.sound (omega (arith, task-is))
        ∙ writes-keep x.writes f.own (seen b)

    tested_stays : (x : Outcome) → (Tested lent (seen b) t → Fit t x)
        → Stays (Calls.tested lent (seen b) t x)
    tested_stays x f = tests lent (seen b) t Stays x (λ n h. refl) (λ T. stays x (sym long ∙ T.control_is) (f T))

    pub step-others : (link : ℕ → ℕ) → Stays (Calls.step_outcome lent (seen b) link t)
    unfolding Calls.step_outcome
    step-others link = tested_stays _ (λ T. step-fit (seen-fitting b bytes) link T)

    pub allocate-others : (size : ℕ) → Stays (Calls.allocate_outcome lent (seen b) t size)
    unfolding Calls.allocate_outcome
    allocate-others size = tested_stays _ (λ T. allocate-fit (seen-fitting b bytes) T size)

    pub free-others : (unit : ℕ) → Stays (Calls.free_outcome lent (seen b) t unit)
    unfolding Calls.free_outcome
    free-others unit = tested_stays _ (λ T. free-fit (seen-fitting b bytes) T unit)

    pub leave-others : Stays (Calls.leave_outcome lent (seen b) t)
    unfolding Calls.leave_outcome
    leave-others = tested_stays _ (λ T. leave-fit (seen-fitting b bytes) T)
