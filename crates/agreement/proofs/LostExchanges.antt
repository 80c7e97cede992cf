-- Each task's count is that of the lost exchanges in its request, after every event.
use Prim.Native.Nat.{ℕ, suc, ◌/◌, ◌≤◌, ◌<◌}
use mathlib.Core.Path.{◌≡◌, refl, sym, ap, subst, ◌∙◌}
use mathlib.Core.Logic.{◌≢◌}
use mathlib.Core.Bool.{Bool, true, false, cond, ◌&&◌, false≢true}
use mathlib.Core.List.{List, [], ◌∷◌}
use native.Mathlib.Omega.{arith}
use native.Mathlib.Decide.{dec_lt}
use borrow.Author.Tests.{ne_eqb, le-leb, lt-leb, lt-ltb, eqb-true}
use lib.Dec.{eqb}
use lib.ListN.{length}
use Rattle.limits.specs.Limits.{CONTROL_BYTES, REGION_BYTES, TASKS}
use Rattle.fields.specs.Columns.{View, assigned}
use Rattle.fields.specs.Little.{Bytes}
use Rattle.links.specs.Link.{link}
use Rattle.plain.specs.Moves.{Decided, Answer}
use Rattle.plain.specs.Moves as Moves
use Rattle.plain.specs.Calls.{Pool, Call, Start, start, allocate, free, leave, step, Lengths, StartTested}
use Rattle.plain.proofs.CallTests.{start-numbers}
use Rattle.control.specs.Layout.{seen, changed, Tasks, TaskLost}
use Rattle.control.specs.Losts.{MOST_LOST, one_more}
use Rattle.control.specs.Answers as Answers
use Rattle.control.specs.Answers.{Accepted, Allocated, Freed, NoDescriptor, NoRegion}
use Rattle.control.specs.Answers.{NoStrip, Refused}
use Rattle.control.proofs.Fields.{seen-changed}
use Rattle.stepped.specs.Outcome.{Memories, Outcome, Effect}
use Rattle.stepped.specs.Calls as Calls
use Rattle.stepped.specs.Calls.{Tested, Lent, lengths, start_effect, effect_in}
use Rattle.stepped.proofs.CallTests.{passed, start-passed}
use Rattle.agreement.specs.Events.{Event, call, write, write_strip, stepped, ran}
use Rattle.agreement.specs.Reached.{History, happened, starting}
use Rattle.agreement.specs.Ends.{one_of, test_refusals, Begins, BeginEnds, StepEnds}
use Rattle.agreement.specs.LostExchanges.{is_lost, lost_among, moves_by, request_moves, up_to_most, lost_in_request}
use Rattle.agreement.specs.LostExchanges.{AllCounted}
use Rattle.agreement.proofs.Both.{answer_of, seen-fitting}
use Rattle.agreement.proofs.StartRelated.{at-lost}
use Rattle.agreement.proofs.Starting.{image-view}
use Rattle.agreement.proofs.SoundMoves.{Fit}
use Rattle.agreement.proofs.SoundSteps.{step-fit}
use Rattle.agreement.proofs.SoundCalls.{allocate-fit, free-fit, leave-fit}
use Rattle.agreement.proofs.BeginningEnds.{allocate-ends, free-ends, leave_ends}
use Rattle.agreement.proofs.Ends.{step-ends}
use Rattle.agreement.proofs.Ways.{branch, tests, among-tests, start-tests}

-- ---- numbers

-- no more than the most are told as they are, and more as the most
few : (n : ℕ) → n ≤ MOST_LOST → up_to_most n ≡ n
few n l = rw (le-leb n MOST_LOST l) refl

many : (n : ℕ) → MOST_LOST ≤ n → up_to_most n ≡ MOST_LOST
many n l = elim (dec_lt MOST_LOST n) [
  | yes m ↦ rw (lt-leb n MOST_LOST m) refl
  | no m ↦ few n (omega (arith, m)) ∙ omega (arith, l, m)
]

-- one more lost exchange, up to the most
one-more : (n : ℕ) → one_more (up_to_most n) ≡ up_to_most (suc n)
unfolding one_more
one-more n = elim (dec_lt n MOST_LOST) [
  | yes l ↦ ap one_more (few n (omega (arith, l))) ∙ below l ∙ sym (few (suc n) (omega (arith, l)))
  | no l ↦ ap one_more (many n (omega (arith, l))) ∙ sym (many (suc n) (omega (arith, l)))
]
  where
    below : n < MOST_LOST → one_more n ≡ suc n
    below l = rw (lt-ltb n MOST_LOST l) (omega arith)

-- ---- one call

module _ (h : History) where
  -- the lost exchanges in the request of the task j after a call that answered y
  abbrev after : Call → Answer → ℕ → ℕ
  after k y j = up_to_most (lost_among (moves_by j k y (request_moves j h)))

  -- a refused call loses none
  refused-keeps : (k : Call) (n j : ℕ) → n ≢ 0 → after k (Moves.refused n) j ≡ lost_in_request j h
  refused-keeps (start b) n j z = rw (ne_eqb n 0 z) refl
  refused-keeps (allocate u size) n j z = rw (ne_eqb n 0 z) refl
  refused-keeps (free u unit) n j z = rw (ne_eqb n 0 z) refl
  refused-keeps (leave u) n j z = rw (ne_eqb n 0 z) refl
  refused-keeps (step u) n j z =
      branch (λ es. up_to_most (lost_among es) ≡ lost_in_request j h) (eqb u j) (λ e. refl) (λ e. refl)

  -- what is shown of a call that has the outcome o
  abbrev Shown : View → Call → Outcome → Type 0
  Shown v k o = (j : ℕ) → j < TASKS → assigned o.writes v (TaskLost j) ≡ after k (answer_of o) j

  module _ (v : View) (t : ℕ) (old : (j : ℕ) → j < TASKS → v (TaskLost j) ≡ lost_in_request j h) where
    -- an accepted beginning has lost none, and a refused one leaves every count
    begin-shown : (k : Call) {ns : List ℕ} {o : Outcome}
        → ((j : ℕ) (y : Answer) (es : List Decided) → moves_by j k y es ≡ cond (eqb y.code 0 && eqb t j) [] es)
        → one_of ns 0 ≡ false → BeginEnds ns v t o → Shown v k o
    begin-shown k {ns} {o} is none B j l = by o.answer refl B.answers
      where
        es : List Decided
        es = request_moves j h

        told : List Decided → ℕ
        told ds = up_to_most (lost_among ds)

        -- what the request's steps have decided behind a beginning that answered this code
        begun : ℕ → List Decided
        begun code = cond (eqb code 0 && eqb t j) [] es

        either : (b : Bool) → cond b 0 (v (TaskLost j)) ≡ told (cond b [] es)
        either true = refl
        either false = old j l

        by : (a : Answers.Answer) → o.answer ≡ a → Begins ns a
            → assigned o.writes v (TaskLost j) ≡ after k (answer_of o) j
        by Accepted e b =
            B.cleared e j
            ∙ either (eqb t j)
            ∙ ap told (sym (is j (answer_of o) es ∙ ap (λ (a : Answers.Answer). begun (Answers.code_of a)) e))
        by (Allocated u) e b = absurd b
        by Freed e b = absurd b
        by NoDescriptor e b = absurd b
        by NoRegion e b = absurd b
        by NoStrip e b = absurd b
        by (Refused n) e b =
            let z : n ≢ 0 = λ i. false≢true (sym none ∙ ap (one_of ns) (sym i) ∙ b) in
            ap (λ ws. assigned ws v (TaskLost j)) (B.nothing n e).0
            ∙ old j l
            ∙ ap told (sym (is j (answer_of o) es
            ∙ ap (λ (a : Answers.Answer). begun (Answers.code_of a)) e
            ∙ ap (λ (b : Bool). cond (b && eqb t j) [] es) (ne_eqb n 0 z)))

    -- a step counts the exchange that it loses
    step-shown : {o : Outcome} → StepEnds v t o → Shown v (step t) o
    step-shown {o} S j l = S.counted j ∙ by (eqb t j) (eqb-true t j)
      where
        es : List Decided
        es = request_moves j h

        own : (b : Bool) → t ≡ j
            → cond (b && true) (one_more (v (TaskLost t))) (v (TaskLost j))
            ≡ up_to_most (cond b (suc (lost_among es)) (lost_among es))
        own true e = ap (λ (i : ℕ). one_more (v (TaskLost i))) e ∙ ap one_more (old j l) ∙ one-more (lost_among es)
        own false e = old j l

        other : (b : Bool) → cond (b && false) (one_more (v (TaskLost t))) (v (TaskLost j)) ≡ lost_in_request j h
        other true = old j l
        other false = old j l

        by : (b : Bool) → (b ≡ true → t ≡ j)
            → cond (is_lost o.decided && b) (one_more (v (TaskLost t))) (v (TaskLost j))
            ≡ up_to_most (lost_among (cond b (o.decided ∷ es) es))
        by true e = own (is_lost o.decided) (e refl)
        by false e = other (is_lost o.decided)

-- ---- the bytes

-- the lost exchanges after a call that left this control memory and answered y
abbrev CountedBy : History → Call → Answer → List ℕ → Type 0
CountedBy h k y c = 1 ≤ seen c Tasks → (t : ℕ) → t < TASKS → seen c (TaskLost t) ≡ after h k y t

module _ (b : List ℕ) (long : length b ≡ CONTROL_BYTES) (h : History) (old : AllCounted h b) where
  -- a call that is no start: one that the tests refuse leaves every count
  tested-counted : (k : Call) (lent : Lengths) (t : ℕ) (x : Outcome) → (Tested lent (seen b) t → Fit t x)
      → (Tested lent (seen b) t → Shown h (seen b) k x)
      → let o = Calls.tested lent (seen b) t x in CountedBy h k (answer_of o) (changed o.writes b)
  tested-counted k lent t x fit shown =
      tests lent (seen b) t (λ o. CountedBy h k (answer_of o) (changed o.writes b)) x
      (λ n F started j l.
      old started j l
      ∙ sym (refused-keeps h k n j (λ z. false≢true (ap (one_of test_refusals) (sym z) ∙ among-tests F))))
      (λ T started j l.
      seen-changed x.writes b (TaskLost j) long (fit T).sound (omega (arith, l)) ∙ shown T j l)

  -- the beginning of a request of the task t
  begin-counted : (k : Call) (lent : Lengths) (t : ℕ) (x : Outcome) {ns : List ℕ}
      → ((j : ℕ) (y : Answer) (es : List Decided) → moves_by j k y es ≡ cond (eqb y.code 0 && eqb t j) [] es)
      → one_of ns 0 ≡ false → BeginEnds ns (seen b) t (Calls.tested lent (seen b) t x)
      → (Tested lent (seen b) t → Fit t x)
      → let o = Calls.tested lent (seen b) t x in CountedBy h k (answer_of o) (changed o.writes b)
  begin-counted k lent t x {ns} is none B fit =
      tested-counted k lent t x fit
      (λ T. begin-shown h (seen b) t (old T.started) k is none
      (subst (BeginEnds ns (seen b) t) (passed x T) B))

-- ---- every event

-- an accepted start has none lost
started-counted : (h : History) (b : Start) (lent : Lent) → StartTested b (lengths lent)
    → CountedBy h (start b) (ran (start_effect b lent)).1 (start_effect b lent).control
started-counted h b lent T started t l =
    image-view b (length lent.area / REGION_BYTES) T.tasks.1 (omega (arith, T.lengths.0)) (TaskLost t)
    (omega (arith, l))
    ∙ at-lost b (length lent.area / REGION_BYTES) t

call-counted : (k : Call) (lent : Lent) (s : Memories) (h : History) → length s.control ≡ CONTROL_BYTES
    → Bytes s.control → AllCounted h s.control
    → CountedBy h k (ran (effect_in k lent s)).1 (effect_in k lent s).control
unfolding Calls.allocate_outcome Calls.free_outcome Calls.leave_outcome Calls.step_outcome
call-counted (start b) lent s h long bytes old =
    start-tests (λ e. CountedBy h (start b) (ran e).1 e.control) b lent s
    (λ n F started j l. old started j l ∙ sym (refused-keeps h (start b) n j (omega (arith, (start-numbers F).0))))
    (started-counted h b lent)
call-counted (allocate t size) lent s h long bytes old =
    begin-counted s.control long h old (allocate t size) (lengths lent) t _ (λ j y es. refl) refl
    (allocate-ends (lengths lent) (seen s.control) t size)
    (λ T. allocate-fit (seen-fitting s.control bytes) T size)
call-counted (free t u) lent s h long bytes old =
    begin-counted s.control long h old (free t u) (lengths lent) t _ (λ j y es. refl) refl
    (free-ends (lengths lent) (seen s.control) t u)
    (λ T. free-fit (seen-fitting s.control bytes) T u)
call-counted (leave t) lent s h long bytes old =
    begin-counted s.control long h old (leave t) (lengths lent) t _ (λ j y es. refl) refl
    (leave_ends (lengths lent) (seen s.control) t)
    (λ T. leave-fit (seen-fitting s.control bytes) T)
call-counted (step t) lent s h long bytes old =
    tested-counted s.control long h old (step t) (lengths lent) t _
    (λ T. step-fit (seen-fitting s.control bytes) _ T)
    (λ T. step-shown h (seen s.control) t (old T.started)
    (subst (StepEnds (seen s.control) t) (passed _ T)
    (step-ends (lengths lent) (seen s.control) (link s.area) t)))

pub event-counted : (e : Event) (s : Memories) (p : Pool) (h : History) → length s.control ≡ CONTROL_BYTES
    → Bytes s.control → AllCounted h s.control → AllCounted (happened e s p ∷ h) (stepped e s).0.control
event-counted (call k lent) s p h long bytes old = call-counted k lent s h long bytes old
event-counted (write at b) s p h long bytes old = old
event-counted (write_strip at b) s p h long bytes old = old

-- an accepted start, whatever was before
pub accepted-counted : (s : Memories) (p : Pool) (b : Start) (lent : Lent) → StartTested b (lengths lent)
    → AllCounted (happened (starting b lent) s p ∷ []) (stepped (starting b lent) s).0.control
accepted-counted s p b lent T =
    subst (λ (e : Effect). CountedBy [] (start b) (ran e).1 e.control) (sym (start-passed b lent s T))
    (started-counted [] b lent T)
