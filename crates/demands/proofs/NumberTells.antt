-- What the number that a call answers tells of its answer.
use mathlib.Core.Path.{◌≡◌, refl, sym, ap, subst, ◌∙◌}
use mathlib.Core.Logic.{◌≢◌, ◌⊎◌, ⊎_elim, inl, inr}
use mathlib.Core.Bool.{Bool, true, false, not, ◌&&◌, ◌||◌, false≢true}
use mathlib.Core.List.{List, [], ◌∷◌}
use Prim.Native.Nat.{ℕ, ◌+◌, ◌*◌, ◌<◌}
use native.Mathlib.Omega.{arith}
use borrow.Author.Tests.{eqb-true, ltb-true}
use lib.Dec.{eqb, ltb}
use Rattle.limits.specs.Limits.{BOTH_UNITS}
use Rattle.fields.specs.Columns.{View}
use Rattle.links.specs.Link.{link}
use Rattle.strip_tree.proofs.Found.{finds, in-level}
use Rattle.strip_tree.proofs.Powers.{slot-below}
use Rattle.plain.specs.Calls.{Call, start, allocate, free, leave, step, Lengths}
use Rattle.control.specs.Layout.{seen, Regions, TaskClass}
use Rattle.control.specs.Answers.{CODES, VALUES, ONE_LOST, code_of, value_of, lost_told, code_in, value_in, lost_in}
use Rattle.control.specs.Answers.{number_with}
use Rattle.control.specs.Answers.{Answer}
use Rattle.control.specs.Answers.{Accepted, Allocated, Freed, NoDescriptor, NoRegion}
use Rattle.control.specs.Answers.{NoStrip, Refused}
use Rattle.agreement.specs.Ends.{one_of, Begins, StepAnswers, IsEnd, start_refusals, allocate_refusals, free_refusals}
use Rattle.agreement.specs.Ends.{leave_refusals, step_refusals}
use Rattle.control.proofs.AnswerNumber.{number_is}
use Rattle.stepped.specs.Outcome.{Memories, Effect}
use Rattle.stepped.specs.StripSteps.{tree_of}
use Rattle.stepped.specs.Calls.{effect_of, step_outcome, lending, lengths}
use Rattle.stepped.proofs.Conjunction.{left-true, right-true}
use Rattle.agreement.specs.Events.{ran}
use Rattle.agreement.proofs.Ends.{step-ends, ends_by}
use Rattle.agreement.proofs.SoundAllocate.{block-max}
use Rattle.agreement.proofs.Ways.{start-tests}
use Rattle.agreement.proofs.BeginningEnds.{start-ends, allocate-ends, free-ends, leave_ends}
use Rattle.demands.specs.AnswerKinds.{Refusal, ends_request}
use Rattle.demands.specs.Acts.{Contract, Number}

-- ---- the codes are below CODES and the values below VALUES, so that the number tells both

small : List ℕ → Bool
small [] = true
small (m ∷ ms) = ltb m CODES && small ms

pick : (a b : Bool) → (a || b) ≡ true → (a ≡ true) ⊎ (b ≡ true)
pick true b h = inl refl
pick false b h = inr h

among : (ns : List ℕ) (n : ℕ) → small ns ≡ true → one_of ns n ≡ true → n < CODES
unfolding small
among [] n s h = absurd (false≢true h)
among (m ∷ ms) n s h =
    ⊎_elim (λ e. omega (arith, eqb-true n m e, ltb-true m CODES (left-true (ltb m CODES) (small ms) s)))
    (λ e. among ms n (right-true (ltb m CODES) (small ms) s) e) (pick (eqb n m) (one_of ms n) h)

-- a refusal is by one of the numbers, which are small
answer-small : (ns : List ℕ) → small ns ≡ true → (a : Answer)
    → ((n : ℕ) → a ≡ Refused n → one_of ns n ≡ true) → code_of a < CODES
answer-small ns s Accepted h = omega arith
answer-small ns s (Allocated u) h = omega arith
answer-small ns s Freed h = omega arith
answer-small ns s NoDescriptor h = omega arith
answer-small ns s NoRegion h = omega arith
answer-small ns s NoStrip h = omega arith
answer-small ns s (Refused n) h = among ns n s (h n refl)

begins-small : (ns : List ℕ) → small ns ≡ true → (a : Answer) → Begins ns a → code_of a < CODES
begins-small ns s a b = answer-small ns s a (λ n e. subst (Begins ns) e b)

-- the code of every exported call
pub code-small : (k : Call) (s : Memories) → code_of (effect_of k s).answer < CODES
unfolding small
code-small (start b) s =
    begins-small start_refusals refl (effect_of (start b) s).answer (start-ends b (lending s) s).answers
code-small (allocate t size) s =
    begins-small allocate_refusals refl (effect_of (allocate t size) s).answer
    (allocate-ends (lengths (lending s)) (seen s.control) t size).answers
code-small (free t u) s =
    begins-small free_refusals refl (effect_of (free t u) s).answer
    (free-ends (lengths (lending s)) (seen s.control) t u).answers
code-small (leave t) s =
    begins-small leave_refusals refl (effect_of (leave t) s).answer
    (leave_ends (lengths (lending s)) (seen s.control) t).answers
code-small (step t) s =
    answer-small step_refusals refl (effect_of (step t) s).answer
    (λ n e. subst (StepAnswers step_refusals) e
    (step-ends (lengths (lending s)) (seen s.control) (link s.area) t).answers)

-- a step that finishes an allocation hands out a unit of one of the two memories
unit-small : (lent : Lengths) (v : View) (links : ℕ → ℕ) (t u : ℕ) → (step_outcome lent v links t).answer ≡ Allocated u
    → u < BOTH_UNITS
unit-small lent v links t u e =
    let E = ends_by lent v links t (Allocated u) tt e in
    ⊎_elim
    (λ k. omega (arith, block-max (v Regions) (v (TaskClass t)) E.0.regions u k.is-block))
    (λ k.
    let c = v (TaskClass t) in
    let x = in-level (tree_of v) c k.node k.found-order
    (finds (tree_of v) c k.node k.found-order k.order k.found) in
    omega (arith, k.is, slot-below k.found-order k.node x.order x.from x.below))
    E.1

-- an answer has the value 0, or hands out a unit
value-by : (a : Answer) → ((u : ℕ) → a ≡ Allocated u → u < BOTH_UNITS) → value_of a < VALUES
value-by Accepted h = omega arith
value-by (Allocated u) h = omega (arith, h u refl)
value-by Freed h = omega arith
value-by NoDescriptor h = omega arith
value-by NoRegion h = omega arith
value-by NoStrip h = omega arith
value-by (Refused n) h = omega arith

begins-value : (ns : List ℕ) (a : Answer) → Begins ns a → value_of a < VALUES
begins-value ns a b = value-by a (λ u e. absurd (subst (Begins ns) e b))

-- the value of every exported call
pub value-small : (k : Call) (s : Memories) → value_of (effect_of k s).answer < VALUES
value-small (start b) s =
    begins-value start_refusals (effect_of (start b) s).answer (start-ends b (lending s) s).answers
value-small (allocate t size) s =
    begins-value allocate_refusals (effect_of (allocate t size) s).answer
    (allocate-ends (lengths (lending s)) (seen s.control) t size).answers
value-small (free t u) s =
    begins-value free_refusals (effect_of (free t u) s).answer
    (free-ends (lengths (lending s)) (seen s.control) t u).answers
value-small (leave t) s =
    begins-value leave_refusals (effect_of (leave t) s).answer
    (leave_ends (lengths (lending s)) (seen s.control) t).answers
value-small (step t) s =
    value-by (effect_of (step t) s).answer
    (λ u e. unit-small (lengths (lending s)) (seen s.control) (link s.area) t u e)

-- ---- what the number tells

-- an answer that ends no request tells no lost exchanges
told_none : (a : Answer) (n : ℕ) → ends_request (code_of a) ≡ false → lost_told a n ≡ 0
told_none Accepted n e = refl
told_none (Allocated u) n e = absurd (false≢true (sym e))
told_none Freed n e = absurd (false≢true (sym e))
told_none NoDescriptor n e = absurd (false≢true (sym e))
told_none NoRegion n e = absurd (false≢true (sym e))
told_none NoStrip n e = absurd (false≢true (sym e))
told_none (Refused m) n e = refl

-- nor does a call with such an answer
pub effect-none : (k : Call) (s : Memories) → ends_request (code_of (effect_of k s).answer) ≡ false
    → (effect_of k s).lost ≡ 0
effect-none (start b) s e =
    start-tests (λ x. x.lost ≡ 0) b (lending s) s (λ n F. refl) (λ T. refl)
effect-none (allocate t size) s e = refl
effect-none (free t u) s e = refl
effect-none (leave t) s e = refl
effect-none (step t) s e = told_none (effect_of (step t) s).answer _ e

-- The number that a call answers, by its contract, tells the code and the value of its answer, and the lost exchanges
-- that go with it.
pub record Tells (r : ℕ) (e : Effect) : Type 0 where
  pub code : code_in r ≡ code_of e.answer
  pub value : value_in r ≡ value_of e.answer
  pub lost : lost_in r ≡ e.lost

pub told : (k : Call) (lent left : Memories) (r : ℕ) → Contract k lent left r → Tells r (effect_of k lent)
told k lent left r C =
    let a = (effect_of k lent).answer in
    let n : r ≡ code_of a + CODES * value_of a + ONE_LOST * (effect_of k lent).lost =
    C.number ∙ ap (λ (m : ℕ). m + ONE_LOST * (effect_of k lent).lost) (number_is a) in
    let c = code-small k lent in
    let v = value-small k lent in
    record { code = omega (arith, n, c, v); value = omega (arith, n, c, v); lost = omega (arith, n, c, v) }

-- so it is a number of that answer
pub numbers : (k : Call) (lent left : Memories) (r : ℕ) → Contract k lent left r
    → Number r (ran (effect_of k lent)).1
numbers k lent left r C =
    let T = told k lent left r C in
    record { code = T.code; value = T.value; none_lost = λ e. T.lost ∙ effect-none k lent e }

-- a refusal's code tells the answer
pub refused : (a : Answer) → Refusal (code_of a) → (n : ℕ) × (a ≡ Refused n)
refused Accepted h = absurd (omega (arith, h.0, h.1))
refused (Allocated u) h = absurd (omega (arith, h.0, h.1))
refused Freed h = absurd (omega (arith, h.0, h.1))
refused NoDescriptor h = absurd (h.2 refl)
refused NoRegion h = absurd (h.3 refl)
refused NoStrip h = absurd (omega (arith, h.1))
refused (Refused n) h = (n, refl)

-- and so does the number of a step that refuses
pub refused-with : (a : Answer) (n : ℕ) → Refusal (number_with a n) → (m : ℕ) × (a ≡ Refused m)
refused-with Accepted n h = absurd (omega (arith, h.0, h.1))
refused-with (Allocated u) n h = absurd (omega (arith, h.0, h.1))
refused-with Freed n h = absurd (omega (arith, h.0, h.1))
refused-with NoDescriptor n h = absurd (h.2 (omega (arith, h.1)))
refused-with NoRegion n h = absurd (h.3 (omega (arith, h.1)))
refused-with NoStrip n h = absurd (omega (arith, h.1))
refused-with (Refused m) n h = (m, refl)

-- a number that refuses a call is the code of its answer
pub refusal-code : (k : Call) (lent left : Memories) (r : ℕ) → Contract k lent left r → Refusal r
    → r ≡ code_of (effect_of k lent).answer
refusal-code k lent left r C h =
    let c = (told k lent left r C).code in
    omega (arith, c, h.1)

-- the code 0 tells that a beginning is accepted, if no 0 is among the numbers that refuse it
pub accepted : (ns : List ℕ) → one_of ns 0 ≢ true → (a : Answer) → Begins ns a → code_of a ≡ 0 → a ≡ Accepted
accepted ns h Accepted b e = refl
accepted ns h (Allocated u) b e = absurd b
accepted ns h Freed b e = absurd b
accepted ns h NoDescriptor b e = absurd b
accepted ns h NoRegion b e = absurd b
accepted ns h NoStrip b e = absurd b
accepted ns h (Refused n) b e = absurd (h (ap (one_of ns) (sym e) ∙ b))

-- no other number than those of its tests refuses a step
not-among : {n : ℕ} (m : ℕ) → one_of step_refusals n ≡ true → one_of step_refusals m ≡ false → n ≡ m → ⊥
not-among m g h e = false≢true (sym h ∙ ap (one_of step_refusals) (sym e) ∙ g)

-- the codes 12, 13 and 16 tell that a step found no descriptor, no region, no strip: none is among the numbers that
-- refuse it
pub ends-told : (a : Answer) → StepAnswers step_refusals a
    → (code_of a ≡ 12 → a ≡ NoDescriptor) × (code_of a ≡ 13 → a ≡ NoRegion) × (code_of a ≡ 16 → a ≡ NoStrip)
ends-told Accepted g = (λ e. absurd (omega arith), λ e. absurd (omega arith), λ e. absurd (omega arith))
ends-told (Allocated u) g = (λ e. absurd (omega arith), λ e. absurd (omega arith), λ e. absurd (omega arith))
ends-told Freed g = (λ e. absurd (omega arith), λ e. absurd (omega arith), λ e. absurd (omega arith))
ends-told NoDescriptor g = (λ e. refl, λ e. absurd (omega arith), λ e. absurd (omega arith))
ends-told NoRegion g = (λ e. absurd (omega arith), λ e. refl, λ e. absurd (omega arith))
ends-told NoStrip g = (λ e. absurd (omega arith), λ e. absurd (omega arith), λ e. refl)
ends-told (Refused n) g = (
  λ e. absurd (not-among 12 g refl e),
  λ e. absurd (not-among 13 g refl e),
  λ e. absurd (not-among 16 g refl e),
)

-- nor is a number of both lists, which have none in common
apart : List ℕ → Bool
apart [] = true
apart (m ∷ ms) = not (one_of step_refusals m) && apart ms

among-both : (ms : List ℕ) (n : ℕ) → one_of ms n ≡ true → one_of step_refusals n ≡ true → apart ms ≡ true → ⊥
unfolding apart
among-both [] n e g h = false≢true e
among-both (m ∷ ms) n e g h =
    ⊎_elim
    (λ i. not-among {n = n} m g
    (not-true (one_of step_refusals m) (left-true (not (one_of step_refusals m)) (apart ms) h)) (eqb-true n m i))
    (λ i. among-both ms n i g (right-true (not (one_of step_refusals m)) (apart ms) h)) (pick (eqb n m) (one_of ms n) e)
  where
    not-true : (b : Bool) → not b ≡ true → b ≡ false
    not-true true i = absurd (false≢true i)
    not-true false i = refl

-- the codes of a request's end tell that it has ended
pub end-told : (a : Answer) → StepAnswers step_refusals a → ends_request (code_of a) ≡ true → IsEnd a
unfolding apart
end-told Accepted g e = absurd (false≢true e)
end-told (Allocated u) g e = tt
end-told Freed g e = tt
end-told NoDescriptor g e = tt
end-told NoRegion g e = tt
end-told NoStrip g e = tt
end-told (Refused n) g e = among-both (12 ∷ 13 ∷ 16 ∷ 20 ∷ []) n e g refl

-- the code of a finish tells that an allocation has handed out a unit, its value, or that a free is done
pub finish-told : (a : Answer) → StepAnswers step_refusals a → code_of a ≡ 20
    → ((u : ℕ) × (a ≡ Allocated u)) ⊎ (a ≡ Freed)
finish-told Accepted g e = absurd (omega (arith, e))
finish-told (Allocated u) g e = inl (u, refl)
finish-told Freed g e = inr refl
finish-told NoDescriptor g e = absurd (omega (arith, e))
finish-told NoRegion g e = absurd (omega (arith, e))
finish-told NoStrip g e = absurd (omega (arith, e))
finish-told (Refused n) g e = absurd (not-among {n = n} 20 g refl e)
