-- The three demands, of the exported functions. Each law takes the contract of a function, `Contract call lent left r`:
-- the call was lent the memories `lent`, left the memories `left`, and answered r. That every call ends so, whatever it
-- is lent, is what the proofs of the functions say: they ask nothing of their caller. What demand 2 says of a request's
-- end, 12, 13 and 16, is in EndingSteps.
use mathlib.Core.Path.{◌≡◌, refl, sym, ap, subst, ◌∙◌}
use mathlib.Core.Bool.{true, false≢true}
use mathlib.Core.List.{List, [], ◌∷◌}
use Prim.Native.Nat.{ℕ, ◌%◌, ◌≤◌, ◌<◌}
use native.Mathlib.Omega.{arith}
use borrow.Author.Tests.{eq-eqb, le-leb, ltb-true}
use lib.Dec.{ltb, eqb}
use Rattle.limits.specs.Limits.{CONTROL_BYTES, REGION_BYTES, AREA_BYTES, TASKS, STRIPS_BYTES, CLASSES, LARGEST_SIZE}
use Rattle.limits.specs.Limits.{LARGEST_STRIP}
use Rattle.control.specs.Places.{IDLE, A1, STRIP_TAKE, PLACES}
use Rattle.fields.specs.Columns.{View, ◌:=◌}
use Rattle.links.specs.Link.{link, with_links}
use Rattle.classes.specs.Sizes.{class_of}
use Rattle.pieces.specs.StripSizes.{order_of}
use Rattle.plain.specs.Calls.{Pool, Call, Start, start, allocate, free, leave, step, unstarted, Lengths}
use Rattle.plain.specs.Calls as Plain
use Rattle.control.specs.Layout.{seen, changed, TaskPlace, TaskClass, TaskLost, Regions}
use Rattle.control.specs.Answers.{code_of, number_with, code_in}
use Rattle.control.specs.Answers.{Answer}
use Rattle.control.proofs.AnswerNumber.{tells_none}
use Rattle.stepped.specs.Steps.{step_at}
use Rattle.stepped.specs.Outcome.{Outcome, Memories}
use Rattle.stepped.specs.Calls as Calls
use Rattle.stepped.specs.Calls.{lending, effect_of, lengths}
use Rattle.agreement.specs.Ends.{one_of, StepAnswers, allocate_refusals, place_refusals, step_refusals}
use Rattle.agreement.specs.Events.{stepped, whole, Premises, Unstarted}
use Rattle.agreement.specs.Agreement.{Agrees, Unchanged, Untouched, AgreesAt}
use Rattle.agreement.specs.Reached.{happened, Reached, from_unstarted, from_start}
use Rattle.agreement.proofs.Ways.{tests, branch, only}
use Rattle.agreement.proofs.Ends.{step-ends, effect-leaves}
use Rattle.agreement.proofs.BeginningEnds.{allocate-ends, smallest-class, smallest-order}
use Rattle.agreement.proofs.Ends.{place-answers}
use Rattle.agreement.proofs.Theorem.{reached-agrees, agreement-from-start}
use Rattle.demands.specs.AnswerKinds.{Refusal, Begun, BegunBlock, BegunStrip}
use Rattle.demands.specs.Tests.{first_failed, Passes, start_tests, call_tests, request_tests, allocate_tests}
use Rattle.demands.specs.Tests.{free_tests, leave_tests, step_tests}
use Rattle.demands.specs.Acts.{Act, on_own, on_other, write, write_strip, Contract, Happens, AllHappen}
use Rattle.demands.specs.Acts.{event_of_call, event_of_act, events_of_acts, Answered}
use Rattle.demands.specs.Acts.{OtherLeft, Tells, Told, WhereverActs}
use Rattle.demands.proofs.NumberTells.{told, refused, refused-with, refusal-code, accepted}
use Rattle.demands.proofs.Failing.{start_first, allocate-first, free-first, leave-first, step-first}
use Rattle.demands.proofs.Failing.{none-failed, later}
use Rattle.demands.proofs.Acting.{shows}
use Rattle.demands.proofs.ReachingByActs.{along-acts}

-- ---- demand 1

-- "A refused call changes no byte."
pub refused-changes-nothing : (k : Call) (lent left : Memories) (r : ℕ) → Contract k lent left r → Refusal r
    → left ≡ lent
refused-changes-nothing k lent left r C h =
    let R = refused (effect_of k lent).answer (subst Refusal (refusal-code k lent left r C h) h) in
    let L = effect-leaves k (lending lent) lent R.0 R.1 in
    (λ i. record { control = C.control_is i; area = C.area_is i; strips = C.strips_is i }) ∙ L

-- ---- demand 2

-- the beginning of an allocation writes no link
no-links : (lent : Lengths) (v : View) (t size : ℕ) → (Calls.allocate_outcome lent v t size).links ≡ []
unfolding Calls.allocate_outcome Calls.when_idle Calls.begin_allocate
no-links lent v t size =
    let P : Outcome → Type 0 = λ o. o.links ≡ [] in
    tests lent v t P _ (λ n h. refl)
    (λ T. branch P (ltb (v (TaskPlace t)) PLACES)
    (λ e. branch P (eqb (v (TaskPlace t)) IDLE)
    (λ f. branch P (eqb size 0) (λ g. refl)
    (λ g. branch P (ltb LARGEST_STRIP size) (λ h. refl)
    (λ h. branch P (ltb LARGEST_SIZE size) (λ i. refl) (λ i. refl))))
    (λ f. refl))
    (λ e. refl))

module _ (lent left : Memories) (r : ℕ) where
  -- the lengths lent
  abbrev long : Lengths
  long = lengths (lending lent)

  -- "A call is refused by the first of the paper's tests that it fails, and by nothing else": a start, and the
  -- beginning of a request, answer the number of the first test that fails, and 0 where all pass.
  pub start-refused-first : (b : Start) → Contract (start b) lent left r
      → r ≡ first_failed (start_tests b long) 0
  start-refused-first b C = C.number ∙ start_first b (lending lent) lent

  pub allocate-refused-first : (t size : ℕ) → Contract (allocate t size) lent left r
      → r ≡ first_failed (allocate_tests long (seen lent.control) t size) 0
  allocate-refused-first t size C =
      C.number
      ∙ tells_none (Calls.allocate_outcome long (seen lent.control) t size).answer
      ∙ allocate-first 0 long (seen lent.control) t size

  pub free-refused-first : (t u : ℕ) → Contract (free t u) lent left r
      → r ≡ first_failed (free_tests long (seen lent.control) t u) 0
  free-refused-first t u C =
      C.number
      ∙ tells_none (Calls.free_outcome long (seen lent.control) t u).answer
      ∙ free-first 0 long (seen lent.control) t u

  pub leave-refused-first : (t : ℕ) → Contract (leave t) lent left r
      → r ≡ first_failed (leave_tests long (seen lent.control) t) 0
  leave-refused-first t C =
      C.number
      ∙ tells_none (Calls.leave_outcome long (seen lent.control) t).answer
      ∙ leave-first 0 long (seen lent.control) t

  -- a step answers the number of the first test that fails; where all pass, that of the step at the task's place, which
  -- tells the task's count where it ends the request
  pub step-refused-first : (t : ℕ) → Contract (step t) lent left r
      → let v = seen lent.control in
      let a = (step_at v (link lent.area) (v Regions) t (v (TaskClass t)) (v (TaskPlace t))).answer in
      r ≡ first_failed (step_tests long v t) (number_with a (seen left.control (TaskLost t)))
  step-refused-first t C =
      let v = seen lent.control in
      subst
      (λ (c : List ℕ). r
      ≡ first_failed (step_tests long v t)
      (number_with (step_at v (link lent.area) (v Regions) t (v (TaskClass t)) (v (TaskPlace t))).answer
      (seen c (TaskLost t))))
      (sym C.control_is)
      (C.number ∙ step-first _ long v t (link lent.area))

  -- a step is refused by the numbers of its tests alone, and by 14, where the step at its place reads a bad value
  pub step-refused-by : (t : ℕ) → Contract (step t) lent left r → Refusal r → one_of step_refusals r ≡ true
  step-refused-by t C h =
      let o = Calls.step_outcome long (seen lent.control) (link lent.area) t in
      let e = refusal-code (step t) lent left r C h in
      let R = refused o.answer (subst Refusal e h) in
      let G =
      subst (StepAnswers step_refusals) R.1 (step-ends long (seen lent.control) (link lent.area) t).answers in
      ap (one_of step_refusals) (e ∙ ap code_of R.1) ∙ G

  -- a step that passes all of its tests is refused by 14 alone: "14 comes where the bad value is read". A place past
  -- the step list is such a value.
  pub step-refused-by-14 : (t : ℕ) → Contract (step t) lent left r
      → Passes (step_tests long (seen lent.control) t) → Refusal r → r ≡ 14
  step-refused-by-14 t C P h =
      let v = seen lent.control in
      let ts = step_tests long v t in
      let Q = later (call_tests long v t) (request_tests v t) P in
      let a = (step_at v (link lent.area) (v Regions) t (v (TaskClass t)) (v (TaskPlace t))).answer in
      let n = number_with a (seen left.control (TaskLost t)) in
      let e : r ≡ n = step-refused-first t C ∙ none-failed ts n P in
      let R = refused-with a (seen left.control (TaskLost t)) (subst Refusal e h) in
      let class = ltb-true (v (TaskClass t)) CLASSES Q.1.0 in
      let busy = ltb-true IDLE (v (TaskPlace t)) Q.0 in
      let G = place-answers long v (link lent.area) t class busy in
      let m : R.0 ≡ 14 = only 14 R.0 (subst (StepAnswers place_refusals) R.1 G) in
      omega (arith, e, ap (λ (x : Answer). number_with x (seen left.control (TaskLost t))) R.1, m)

  -- the beginning of an allocation that writes this place and this class, or order, changes no other byte
  begun_by : (t size place class : ℕ) → Contract (allocate t size) lent left r
      → (Calls.allocate_outcome long (seen lent.control) t size).writes
      ≡ (TaskPlace t := place ∷ TaskClass t := class ∷ TaskLost t := 0 ∷ [])
      → Begun t place class lent left
  begun_by t size place class C e = record {
    control_is = C.control_is ∙ ap (λ ws. changed ws lent.control) e;
    area_is =
        C.area_is
        ∙ ap (λ ls. with_links ls lent.area) (no-links long (seen lent.control) t size);
    strips_is = C.strips_is;
  }

  -- "A size gets the smallest class that holds it"; one above 256 "is rounded up to a power of two, at least 512".
  pub allocate-begins : (t size : ℕ) → Contract (allocate t size) lent left r → r ≡ 0
      → (size ≤ LARGEST_SIZE → BegunBlock t size lent left) × (LARGEST_SIZE < size → BegunStrip t size lent left)
  allocate-begins t size C h =
      let o = Calls.allocate_outcome long (seen lent.control) t size in
      let A =
      accepted allocate_refusals false≢true o.answer
      (allocate-ends long (seen lent.control) t size).answers
      (sym (told (allocate t size) lent left r C).code ∙ ap code_in h) in (
        λ l. let B = smallest-class long (seen lent.control) t size l A in
            record {
              class = class_of size;
              is_class = B.class;
              holds = B.holds;
              smallest = B.smallest;
              begun = begun_by t size A1 (class_of size) C B.writes;
            },
        λ l. let B = smallest-order long (seen lent.control) t size l A in
            record {
              order = order_of size;
              rounds = B.rounds;
              begun = begun_by t size STRIP_TAKE (order_of size) C B.writes;
            },
      )

-- ---- demand 3

-- a refused call on other memories leaves them
left_by : (a : Act) (s : Memories) → Happens a s → OtherLeft a
left_by (on_own k left r) s H = tt
left_by (on_other k lent left r) s H = refused-changes-nothing k lent left r H.0
left_by (write at b) s H = tt
left_by (write_strip at b) s H = tt

-- what the agreement says of the event of an act, it says of the act: the act left and answered what the stepped run
-- has there
tells-by : (a : Act) (s : Memories) (p : Pool) → Happens a s → AgreesAt (event_of_act a s) s p → Tells a s p
tells-by a s p H A =
    let S = shows a s H in
    let y = (stepped (event_of_act a s) s).1 in
    record {
      answered = subst (Answered a) A.0.says S.answers;
      agrees = subst (λ (z : Memories). Agrees (z, y) (whole (event_of_act a s) p)) S.leaves A.0;
      other_left = left_by a s H;
      unchanged = subst (λ (z : Memories). Unchanged s (z, y)) S.leaves A.1;
      untouched = subst (λ (z : Memories). Untouched (event_of_act a s) s (z, y) p) S.leaves A.2;
    }

-- every act, wherever a run has come
pub reached-tells : WhereverActs Tells
reached-tells h s p R a H P = tells-by a s p H (reached-agrees h s p R (event_of_act a s) P)

-- "For every list of calls with users' writes between them, the stepped run and the whole run (the plain pool) decide
-- the same moves at the same calls, give the same code and value, never 14, and have after every call the same lists,
-- chains and holders; each block of an open region is in exactly one place." "Strips count as blocks in the demands;
-- each unit of that area is in exactly one strip or free piece, and both are compared" (the request for strips). Here
-- the stepped run is made of the contracts of the exported functions, from any control memory that is not started.
pub run-told : (acts : List Act) (s : Memories) → Unstarted s → AllHappen acts s
    → Premises (events_of_acts acts s) unstarted → Told acts s unstarted
run-told acts s U R P = along-acts Tells reached-tells (from_unstarted U) acts R P

-- a start whose lengths and number of tasks are right passes its tests
accepted-tests : (b : Start) (lent : Lengths) → Plain.StartTested b lent → first_failed (start_tests b lent) 0 ≡ 0
accepted-tests b lent T = rw (
  eq-eqb lent.control CONTROL_BYTES T.control_is,
  eq-eqb (lent.area % REGION_BYTES) 0 T.lengths.0.0,
  le-leb 1 lent.area T.lengths.0.1.0,
  le-leb lent.area AREA_BYTES T.lengths.0.1.1,
  eq-eqb lent.strips STRIPS_BYTES T.lengths.1,
  le-leb 1 b.tasks T.tasks.0,
  le-leb b.tasks TASKS T.tasks.1,
)

-- What `run-told` says, from a start on any memories, whose lengths and number of tasks are right; it is accepted.
pub run-told-from-start : (acts : List Act) (s left : Memories) (b : Start) (r : ℕ) (p : Pool)
    → Plain.StartTested b (lengths (lending s)) → AllHappen (on_own (start b) left r ∷ acts) s
    → Premises (events_of_acts acts left) (whole (event_of_call (start b) s) p).0
    → (r ≡ 0) × Told (on_own (start b) left r ∷ acts) s p
run-told-from-start acts s left b r p T R P =
    let e = event_of_call (start b) s in
    let began : Reached (happened e s p ∷ []) left (whole e p).0 =
    subst (λ (z : Memories). Reached (happened e s p ∷ []) z (whole e p).0)
    (shows (on_own (start b) left r) s R.0).leaves (from_start s p b (lending s) T) in (
      start-refused-first s left r b R.0 ∙ accepted-tests b (lengths (lending s)) T,
      (
        tells-by (on_own (start b) left r) s p R.0 (agreement-from-start [] s p b (lending s) T tt).0,
        along-acts Tells reached-tells began acts R.1 P,
      ),
    )
