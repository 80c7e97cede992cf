-- The number that a call answers is that of the first of its tests that fails.
use mathlib.Core.Path.{◌≡◌, refl}
use mathlib.Core.Bool.{Bool, true, false, cond, not, ◌&&◌}
use mathlib.Core.List.{List, [], ◌∷◌, ◌++◌}
use Prim.Native.Nat.{ℕ, ◌*◌, ◌/◌, ◌%◌, ◌-◌}
use lib.Dec.{ltb, leb, eqb}
use lib.ListN.{length}
use Rattle.limits.specs.Limits.{CONTROL_BYTES, REGION_BYTES, AREA_BYTES, TASKS, REGIONS, CLASSES, DESCRIPTORS}
use Rattle.limits.specs.Limits.{LARGEST_SIZE, LARGEST_STRIP, WORD_MARKS, UNITS, STRIPS_BYTES}
use Rattle.control.specs.Places.{IDLE, PLACES}
use Rattle.fields.specs.Columns.{View, Write}
use Rattle.words.specs.Anchor.{EMPTY, anchor_of}
use Rattle.words.specs.Mark.{is_set}
use Rattle.classes.specs.Geometry.{region_of, is_first}
use Rattle.pieces.specs.StripUnits.{slot_of_unit, is_strip_unit}
use Rattle.strip_tree.specs.SlotStates.{FREE_BEGUN, LAST_BYTE, order_in}
use Rattle.strip_tree.specs.TreeMoves.{can_begin}
use Rattle.plain.specs.Calls.{Start, Lengths}
use Rattle.stepped.specs.Calls.{Lent, lengths}
use Rattle.control.specs.Layout.{Anchor, Marks, TaskPlace, TaskClass, DescriptorRegion, DescriptorClass, Map, Tasks}
use Rattle.control.specs.Layout.{Regions, SlotByte}
use Rattle.control.specs.Answers.{number_telling, number_with}
use Rattle.plain.specs.Moves.{nothing}
use Rattle.stepped.specs.Outcome.{Outcome, accept, Memories, Effect}
use Rattle.stepped.specs.Ranges.{one_to, is_anchor}
use Rattle.stepped.specs.StripSteps as StripSteps
use Rattle.stepped.specs.Leaving.{next_cached, count_fits, leave_from}
use Rattle.stepped.specs.Steps as Steps
use Rattle.stepped.specs.Calls as Calls
use Rattle.demands.specs.Tests.{Test, first_failed, Passes, start_tests, call_tests, idle_tests, size_tests}
use Rattle.demands.specs.Tests.{unit_tests, strip_tests, request_tests, allocate_tests, free_tests, search_tests}
use Rattle.demands.specs.Tests.{leave_tests, step_tests}

-- a test, and one that is asked the other way round, by the numbers of the two ways on
module _ {A : Type 0} (f : A → ℕ) where
  passes : (b : Bool) {m n : ℕ} (x y : A) → f x ≡ m → f y ≡ n → f (cond b x y) ≡ cond b m n
  passes true x y p q = p
  passes false x y p q = q

  fails : (b : Bool) {m n : ℕ} (y x : A) → f y ≡ n → f x ≡ m → f (cond b y x) ≡ cond (not b) m n
  fails true y x q p = q
  fails false y x q p = p

  -- two tests by one number
  twice : (a b : Bool) {m n : ℕ} (x y : A) → f x ≡ m → f y ≡ n → f (cond (a && b) x y) ≡ cond a (cond b m n) n
  twice true b x y p q = passes b x y p q
  twice false b x y p q = q

-- lost: how many exchanges the task has lost, which the number of a step that ends its request tells
module _ (lost : ℕ) (lent : Lengths) (v : View) (t : ℕ) where
  -- the number of an outcome
  abbrev numbered : Outcome → ℕ
  numbered o = number_with o.answer lost

  after-tests : (ts : List Test) (k : ℕ) (x : Outcome) → numbered x ≡ first_failed ts k
      → numbered (Calls.tested lent v t x) ≡ first_failed (call_tests lent v t ++ ts) k
  unfolding Calls.tested
  after-tests ts k x p =
      passes numbered (eqb lent.control CONTROL_BYTES) _ _
      (passes numbered (leb (v Tasks) TASKS) _ _
      (fails numbered (eqb (v Tasks) 0) _ _ refl
      (passes numbered (one_to REGIONS (v Regions)) _ _
      (twice numbered (eqb lent.area (REGION_BYTES * v Regions)) (eqb lent.strips STRIPS_BYTES) _ _
      (passes numbered (ltb t (v Tasks)) _ _ p refl)
      refl)
      refl))
      refl)
      refl

  when-idle : (ts : List Test) (k : ℕ) (x : Outcome) → numbered x ≡ first_failed ts k
      → numbered (Calls.when_idle v t x) ≡ first_failed (idle_tests v t ++ ts) k
  unfolding Calls.when_idle
  when-idle ts k x p =
      passes numbered (ltb (v (TaskPlace t)) PLACES) _ _ (passes numbered (eqb (v (TaskPlace t)) IDLE) _ _ p refl) refl

  -- an accepted beginning answers 0, whichever of the two it is
  begun : (b : Bool) (x y : List Write)
      → numbered (cond b (accept nothing x []) (accept nothing y [])) ≡ 0
  begun true x y = refl
  begun false x y = refl

  sized : (size : ℕ) → numbered (Calls.begin_allocate t size) ≡ first_failed (size_tests size) 0
  unfolding Calls.begin_allocate
  sized size =
      fails numbered (eqb size 0) _ _ refl
      (fails numbered (ltb LARGEST_STRIP size) _ _ refl (begun (ltb LARGEST_SIZE size) _ _))

  unit : (u : ℕ) → numbered (Calls.begin_free_small v (v Regions) t u) ≡ first_failed (unit_tests v u) 0
  unfolding Calls.begin_free_small Calls.free_entry Calls.free_by Calls.free_open Calls.free_marked
  unit u =
      let r = region_of u in
      let entry = v (Map r) in
      let d = entry - 1 in
      passes numbered (ltb r (v Regions)) _ _
      (fails numbered (eqb entry 0) _ _ refl
      (passes numbered (leb entry DESCRIPTORS) _ _
      (passes numbered (ltb (v (DescriptorRegion d)) (v Regions)) _ _
      (passes numbered (eqb (v (DescriptorRegion d)) r) _ _
      (passes numbered (is_anchor (v (Anchor d))) _ _
      (fails numbered (eqb (anchor_of (v (Anchor d))).state EMPTY) _ _ refl
      (passes numbered (ltb (v (DescriptorClass d)) CLASSES) _ _
      (passes numbered (is_first (v (DescriptorClass d)) u) _ _
      (passes numbered (is_set (v (Marks (u / WORD_MARKS))) (u % WORD_MARKS)) _ _ refl refl)
      refl)
      refl))
      refl)
      refl)
      refl)
      refl))
      refl

  strip : (u : ℕ) → numbered (StripSteps.begin_free_strip v t u) ≡ first_failed (strip_tests v u) 0
  unfolding StripSteps.begin_free_strip StripSteps.begin_free_at
  strip u =
      let s = slot_of_unit u in
      let x = v (SlotByte s) in
      passes numbered (is_strip_unit u) _ _
      (fails numbered (eqb x 0) _ _ refl
      (twice numbered (leb x LAST_BYTE) (can_begin s (order_in x)) _ _
      (fails numbered (leb FREE_BEGUN x) _ _ refl refl)
      refl))
      refl

  -- a small block's tests, or a strip's, by the unit
  either : (u : ℕ) → numbered (Calls.begin_free v (v Regions) t u)
      ≡ first_failed (cond (ltb u UNITS) (unit_tests v u) (strip_tests v u)) 0
  unfolding Calls.begin_free
  either u = by (ltb u UNITS)
    where
      by : (b : Bool)
          → numbered (cond b (Calls.begin_free_small v (v Regions) t u) (StripSteps.begin_free_strip v t u))
          ≡ first_failed (cond b (unit_tests v u) (strip_tests v u)) 0
      by true = unit u
      by false = strip u

  pub allocate-first : (size : ℕ) → numbered (Calls.allocate_outcome lent v t size)
      ≡ first_failed (allocate_tests lent v t size) 0
  unfolding Calls.allocate_outcome
  allocate-first size =
      after-tests (idle_tests v t ++ size_tests size) 0 _ (when-idle (size_tests size) 0 _ (sized size))

  pub free-first : (u : ℕ) → numbered (Calls.free_outcome lent v t u)
      ≡ first_failed (free_tests lent v t u) 0
  unfolding Calls.free_outcome
  free-first u =
      let ts = cond (ltb u UNITS) (unit_tests v u) (strip_tests v u) in
      after-tests (idle_tests v t ++ ts) 0 _ (when-idle ts 0 _ (either u))

  pub leave-first : numbered (Calls.leave_outcome lent v t) ≡ first_failed (leave_tests lent v t) 0
  unfolding Calls.leave_outcome leave_from
  leave-first =
      after-tests (idle_tests v t ++ search_tests v t) 0 _ (when-idle (search_tests v t) 0 _
      (passes numbered (count_fits v t (next_cached v t 0)) _ _ refl refl))

  pub step-first : (link : ℕ → ℕ)
      → numbered (Calls.step_outcome lent v link t)
      ≡ first_failed (step_tests lent v t)
      (numbered (Steps.step_at v link (v Regions) t (v (TaskClass t)) (v (TaskPlace t))))
  unfolding Calls.step_outcome Steps.step_of
  step-first link =
      after-tests (request_tests v t) _ _
      (passes numbered (ltb IDLE (v (TaskPlace t))) _ _ (passes numbered (ltb (v (TaskClass t)) CLASSES) _ _ refl refl)
      refl)

-- where all tests pass, none has failed
pub none-failed : (ts : List Test) (n : ℕ) → Passes ts → first_failed ts n ≡ n
none-failed [] n P = refl
none-failed (t ∷ ts) n P = rw (P.0, none-failed ts n P.1)

-- the later ones of tests that all pass
pub later : (ts us : List Test) → Passes (ts ++ us) → Passes us
later [] us P = P
later (t ∷ ts) us P = later ts us P.1

-- the number of an effect
abbrev answered : Effect → ℕ
answered e = number_telling e.answer e.lost

pub start_first : (b : Start) (lent : Lent) (s : Memories)
    → answered (Calls.start_in b lent s) ≡ first_failed (start_tests b (lengths lent)) 0
unfolding Calls.start_in
start_first b lent s =
    let bytes = length lent.area in
    passes answered (eqb lent.control CONTROL_BYTES) _ _
    (twice answered (eqb (bytes % REGION_BYTES) 0 && one_to AREA_BYTES bytes)
    (eqb (length lent.strips) STRIPS_BYTES) _ _
    (passes answered (one_to TASKS b.tasks) _ _ refl refl) refl)
    refl
