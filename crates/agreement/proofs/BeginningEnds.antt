-- How the beginnings of requests and a start end, in every state: by which numbers they are refused, and that a refused
-- one leaves every byte.
use Prim.Native.Nat.{ℕ, ◌-◌, ◌/◌, ◌%◌, ◌≤◌, ◌<◌}
use mathlib.Core.Path.{◌≡◌, refl, sym, ap₂}
use mathlib.Core.Logic.{◌≢◌}
use mathlib.Core.Bool.{true}
use mathlib.Core.List.{List, [], ◌∷◌, ◌++◌}
use native.Mathlib.Omega.{arith}
use borrow.Author.Tests.{eqb-false, ltb-true, ltb-false}
use lib.Dec.{eqb, leb, ltb}
use Rattle.limits.specs.Limits.{CLASSES, DESCRIPTORS, LARGEST_SIZE}
use Rattle.limits.specs.Limits.{WORD_MARKS}
use Rattle.fields.specs.Columns.{View, Write}
use Rattle.links.specs.Link.{LinkWrite}
use Rattle.words.specs.Anchor.{EMPTY, anchor_of}
use Rattle.words.specs.Mark.{is_set}
use Rattle.classes.specs.Geometry.{region_of, is_first}
use Rattle.classes.proofs.Sizes.{is_class, holds, smallest}
use Rattle.plain.specs.Moves.{Decided, nothing}
use Rattle.control.specs.Layout.{Anchor, Marks, TaskPlace, DescriptorRegion, DescriptorClass}
use Rattle.control.specs.Layout.{Map, Regions}
use Rattle.control.specs.Places.{IDLE, PLACES}
use Rattle.plain.specs.Calls.{Start, Lengths}
use Rattle.control.specs.Answers.{Answer}
use Rattle.control.specs.Answers.{Accepted, Allocated, Freed, NoDescriptor, NoRegion}
use Rattle.control.specs.Answers.{NoStrip, Refused}
use Rattle.stepped.specs.Outcome.{Outcome, refuse, accept, Memories, effect, memories_after}
use Rattle.stepped.specs.Ranges.{is_anchor}
use Rattle.stepped.specs.Calls as Calls
use Rattle.stepped.specs.Leaving.{next_cached, count_fits, leave_from}
use Rattle.agreement.specs.Ends.{WritesNothing, Leaves, one_of, test_refusals, allocate_refusals, free_refusals}
use Rattle.agreement.specs.Ends.{leave_refusals}
use Rattle.agreement.specs.Ends.{Begins, StartEnds, Cleared, BeginEnds}
use Rattle.agreement.specs.Ends.{BegunStripOutcome}
use Rattle.agreement.specs.Ends.{IsEnd, BegunOutcome}
use Rattle.stepped.specs.Calls.{Lent}
use Rattle.agreement.proofs.Ways.{branch, tests}
use Rattle.agreement.proofs.Ways.{accepted-no, more, among-tests, among-start-tests, start-tests}
use Rattle.limits.specs.Limits.{UNITS, LARGEST_STRIP}
use Rattle.pieces.specs.StripUnits.{slot_of_unit, is_strip_unit}
use Rattle.pieces.proofs.StripSizes.{rounds}
use Rattle.strip_tree.specs.TreeMoves.{can_begin}
use Rattle.strip_tree.specs.SlotStates.{FREE_BEGUN, LAST_BYTE, order_in}
use Rattle.control.specs.Layout.{SlotByte}
use Rattle.stepped.specs.StripSteps.{begin_free_strip, begin_free_at}
use mathlib.Core.Bool.{◌&&◌}

-- no start and no beginning ends a request
pub begins-no-end : (ns : List ℕ) (a : Answer) → Begins ns a → IsEnd a → ⊥
begins-no-end ns Accepted b i = i
begins-no-end ns (Allocated u) b i = b
begins-no-end ns Freed b i = b
begins-no-end ns NoDescriptor b i = b
begins-no-end ns NoRegion b i = b
begins-no-end ns NoStrip b i = b
begins-no-end ns (Refused n) b i = i

-- an outcome that writes nothing where it is refused leaves the memories as they were
pub leaves : (o : Outcome) (s : Memories) → WritesNothing o → Leaves (effect o s) s
leaves o s h n e =
    ap₂ (λ (ws : List Write) (ls : List LinkWrite).
    memories_after (effect (record { answer = o.answer; decided = o.decided; writes = ws; links = ls }) s))
    (h n e).0 (h n e).1

-- ---- beginnings

-- a beginning is refused by one of the numbers ns, or accepted
data Beginning (ns : List ℕ) (v : View) (t : ℕ) : Outcome → Type 0 where
  denied : {n : ℕ} → one_of ns n ≡ true → Beginning ns v t (refuse n)
  begun : {e : Decided} {ws : List Write} {ls : List LinkWrite} → Cleared v t ws → Beginning ns v t (accept e ws ls)

begin-ends : {ns : List ℕ} {v : View} {t : ℕ} {o : Outcome} → Beginning ns v t o → BeginEnds ns v t o
begin-ends (denied h) =
    record { nothing = λ n e. (refl, refl); answers = h; cleared = λ e. absurd (accepted-no (sym e)) }
begin-ends (begun c) = record { nothing = λ n e. absurd (accepted-no e); answers = tt; cleared = λ e. c }

-- the tests, and "6 the task has a request in hand"
begin-tests : (lent : Lengths) (v : View) (t : ℕ) (P : Outcome → Type 0) (x : Outcome) (ms : List ℕ)
    → ((n : ℕ) → one_of (test_refusals ++ (6 ∷ ms)) n ≡ true → P (refuse n)) → P x
    → P (Calls.tested lent v t (Calls.when_idle v t x))
unfolding Calls.when_idle
begin-tests lent v t P x ms r k =
    tests lent v t P _ (λ n h. r n (more test_refusals (6 ∷ ms) n (among-tests h)))
    (λ T. branch P (ltb (v (TaskPlace t)) PLACES) (λ e. branch P (eqb (v (TaskPlace t)) IDLE) (λ f. k) (λ f. r 6 refl))
    (λ e. r 14 refl))

module _ (lent : Lengths) (v : View) (t : ℕ) where
  pub allocate-ends : (size : ℕ) → BeginEnds allocate_refusals v t (Calls.allocate_outcome lent v t size)
  unfolding Calls.allocate_outcome Calls.begin_allocate
  allocate-ends size =
      let P = Beginning allocate_refusals v t in
      begin-ends (begin-tests lent v t P _ (8 ∷ 9 ∷ []) (λ n h. denied h)
      (branch P (eqb size 0) (λ e. denied refl) (λ e. branch P (ltb LARGEST_STRIP size) (λ f. denied refl)
      (λ f. branch P (ltb LARGEST_SIZE size) (λ g. begun (λ j. refl)) (λ g. begun (λ j. refl))))))

  small-begins : (u : ℕ) → Beginning free_refusals v t (Calls.begin_free_small v (v Regions) t u)
  unfolding Calls.begin_free_small Calls.free_entry Calls.free_by Calls.free_open Calls.free_marked
  small-begins u =
      let P = Beginning free_refusals v t in
      let entry = v (Map (region_of u)) in
      let d = entry - 1 in
      let a = v (Anchor d) in
      let r = v (DescriptorRegion d) in
      let c = v (DescriptorClass d) in
      branch P (ltb (region_of u) (v Regions)) (λ e.
      branch P (eqb entry 0) (λ f. denied refl) (λ f. branch P (leb entry DESCRIPTORS) (λ f.
      branch P (ltb r (v Regions)) (λ g. branch P (eqb r (region_of u)) (λ h.
      branch P (is_anchor a) (λ i. branch P (eqb (anchor_of a).state EMPTY) (λ j. denied refl) (λ j.
      branch P (ltb c CLASSES) (λ k. branch P (is_first c u) (λ l.
      branch P (is_set (v (Marks (u / WORD_MARKS))) (u % WORD_MARKS)) (λ m. begun (λ j. refl)) (λ m. denied refl))
      (λ l. denied refl)) (λ k. denied refl))) (λ i. denied refl)) (λ h. denied refl)) (λ g. denied refl))
      (λ f. denied refl)))
      (λ e. denied refl)

  strip-begins : (u : ℕ) → Beginning free_refusals v t (begin_free_strip v t u)
  unfolding begin_free_strip begin_free_at
  strip-begins u =
      let P = Beginning free_refusals v t in
      let s = slot_of_unit u in
      let x = v (SlotByte s) in
      branch P (is_strip_unit u) (λ e. branch P (eqb x 0) (λ f. denied refl) (λ f.
      branch P (leb x LAST_BYTE && can_begin s (order_in x))
      (λ g. branch P (leb FREE_BEGUN x) (λ h. denied refl) (λ h. begun (λ j. refl)))
      (λ g. denied refl)))
      (λ e. denied refl)

  pub free-ends : (u : ℕ) → BeginEnds free_refusals v t (Calls.free_outcome lent v t u)
  unfolding Calls.free_outcome Calls.begin_free
  free-ends u =
      let P = Beginning free_refusals v t in
      begin-ends (begin-tests lent v t P _ (10 ∷ 11 ∷ []) (λ n h. denied h)
      (branch P (ltb u UNITS) (λ e. small-begins u) (λ e. strip-begins u)))

  pub leave_ends : BeginEnds leave_refusals v t (Calls.leave_outcome lent v t)
  unfolding Calls.leave_outcome leave_from
  leave_ends =
      let P = Beginning leave_refusals v t in
      begin-ends (begin-tests lent v t P _ [] (λ n h. denied h)
      (branch P (count_fits v t (next_cached v t 0))
      (λ e. branch (λ ws. P (accept nothing ws [])) (eqb (next_cached v t 0) CLASSES) (λ f. begun (λ j. refl))
      (λ f. begun (λ j. refl)))
      (λ e. denied refl)))

  -- a size that is accepted has the smallest class that holds it, and that class is written
  pub smallest-class : (size : ℕ) → size ≤ LARGEST_SIZE → (Calls.allocate_outcome lent v t size).answer ≡ Accepted
      → BegunOutcome t size (Calls.allocate_outcome lent v t size)
  unfolding Calls.allocate_outcome Calls.begin_allocate
  smallest-class size l =
      let P : Outcome → Type 0 = λ o. o.answer ≡ Accepted → BegunOutcome t size o in
      begin-tests lent v t P _ [] (λ n h e. absurd (accepted-no (sym e)))
      (branch P (eqb size 0) (λ e f. absurd (accepted-no (sym f))) (λ e.
      branch P (ltb LARGEST_STRIP size) (λ f g. absurd (accepted-no (sym g))) (λ f.
      branch P (ltb LARGEST_SIZE size) (λ g h. absurd (omega (arith, ltb-true LARGEST_SIZE size g))) (λ g h.
      let z : size ≢ 0 = eqb-false size 0 e in
      record {
        from = omega arith;
        to = l;
        writes = refl;
        class = is_class size l;
        holds = holds size l;
        smallest = smallest size;
      }))))

  -- a size above 256 that is accepted has the smallest order whose strip holds it, and that order is written
  pub smallest-order : (size : ℕ) → LARGEST_SIZE < size → (Calls.allocate_outcome lent v t size).answer ≡ Accepted
      → BegunStripOutcome t size (Calls.allocate_outcome lent v t size)
  unfolding Calls.allocate_outcome Calls.begin_allocate
  smallest-order size l =
      let P : Outcome → Type 0 = λ o. o.answer ≡ Accepted → BegunStripOutcome t size o in
      begin-tests lent v t P _ [] (λ n h e. absurd (accepted-no (sym e)))
      (branch P (eqb size 0) (λ e f. absurd (accepted-no (sym f))) (λ e.
      branch P (ltb LARGEST_STRIP size) (λ f g. absurd (accepted-no (sym g))) (λ f.
      let few : size ≤ LARGEST_STRIP = ltb-false LARGEST_STRIP size f in
      branch P (ltb LARGEST_SIZE size) (λ g h. record { from = l; to = few; writes = refl; rounds = rounds size few })
      (λ g h. absurd (omega (arith, ltb-false LARGEST_SIZE size g))))))

-- ---- start

pub start-ends : (b : Start) (lent : Lent) (s : Memories) → StartEnds s (Calls.start_in b lent s)
start-ends b lent s =
    start-tests (StartEnds s) b lent s
    (λ n F. record { leaves = λ m h. refl; answers = among-start-tests F })
    (λ T. record { leaves = λ n h. absurd (accepted-no h); answers = tt })
