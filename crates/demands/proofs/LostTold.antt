-- What the number that a call answers tells of lost exchanges, of the exported functions (the request for lost
-- exchanges): by one call, whatever the memories hold; and wherever a run has come.
use mathlib.Core.Path.{◌≡◌, refl, sym, ap, ◌∙◌}
use mathlib.Core.Bool.{Bool, true, false, cond}
use mathlib.Core.List.{List, [], ◌∷◌}
use Prim.Native.Nat.{ℕ, ◌*◌, ◌≤◌, ◌<◌}
use native.Mathlib.Omega.{arith}
use lib.Dec.{leb, eqb}
use lib.ListN.{length}
use Rattle.limits.specs.Limits.{CONTROL_BYTES, TASKS, REGIONS}
use Rattle.fields.specs.Columns.{View}
use Rattle.links.specs.Link.{link}
use Rattle.plain.specs.Moves.{Answer}
use Rattle.plain.specs.Calls.{Pool, Call, Start, start, allocate, free, leave, step, unstarted, Lengths}
use Rattle.control.specs.Layout.{seen, changed, Tasks, Regions, TaskLost}
use Rattle.control.specs.Answers.{CODES, lost_told, code_in, lost_in}
use Rattle.control.specs.Answers as Declared
use Rattle.control.specs.Answers.{Accepted, Allocated, Freed, NoDescriptor, NoRegion}
use Rattle.control.specs.Answers.{NoStrip, Refused}
use Rattle.stepped.specs.Outcome.{Outcome, bad, Memories}
use Rattle.stepped.specs.Calls.{effect_of, step_outcome, is_started_lengths, lending, lengths}
use Rattle.stepped.specs.Calls as Calls
use Rattle.stepped.specs.Ranges.{one_to}
use Rattle.reports.specs.Rows.{BYTES_OF_NUMBER, numbers_to}
use Rattle.reports.specs.Reports.{report_refusal, answered, report_of, report_on, Answers}
use Rattle.agreement.specs.Ends.{IsEnd}
use Rattle.agreement.specs.Events.{Premise, Premises, Unstarted}
use Rattle.agreement.specs.Reached.{History, happened, Reached, from_unstarted, by_event}
use Rattle.agreement.specs.LostExchanges.{lost_in_request}
use Rattle.agreement.proofs.Ends.{step-ends, ends_by}
use Rattle.agreement.proofs.Reaching.{reached-tied, reached-counted}
use Rattle.agreement.proofs.Ways.{branch, start-tests}
use Rattle.demands.specs.AnswerKinds.{ends_request}
use Rattle.demands.specs.Acts.{Act, on_own, on_other, write, write_strip, Contract, Happens}
use Rattle.demands.specs.Acts.{AllHappen, event_of_call, event_of_act, events_of_acts}
use Rattle.demands.specs.LostTold.{LostTold, AlongHistory}
use Rattle.demands.proofs.NumberTells.{told, effect-none, end-told}
use Rattle.demands.proofs.Acting.{refused-alike}
use Rattle.demands.proofs.ReachingByActs.{along-history}
use Rattle.demands.proofs.WholeStep.{whole_is}

-- ---- one call, whatever the memories hold

-- "Every other answer gives 0": a number that ends no request tells none
pub others-tell-none : (k : Call) (lent left : Memories) (r : ℕ) → Contract k lent left r
    → ends_request (code_in r) ≡ false → lost_in r ≡ 0
others-tell-none k lent left r C e =
    let T = told k lent left r C in
    T.lost ∙ effect-none k lent (ap ends_request (sym T.code) ∙ e)

-- nor does a start
start-tells-none : (b : Start) (lent left : Memories) (r : ℕ) → Contract (start b) lent left r → lost_in r ≡ 0
start-tells-none b lent left r C =
    (told (start b) lent left r C).lost
    ∙ start-tests (λ x. x.lost ≡ 0) b (lending lent) lent (λ n F. refl) (λ T. refl)

-- an answer that ends a request tells the task's count
told-all : (a : Declared.Answer) (n : ℕ) → IsEnd a → lost_told a n ≡ n
told-all Accepted n i = absurd i
told-all (Allocated u) n i = refl
told-all Freed n i = refl
told-all NoDescriptor n i = refl
told-all NoRegion n i = refl
told-all NoStrip n i = refl
told-all (Refused m) n i = absurd i

-- ---- a report, whatever the memories hold

-- a report's answer is a code alone
report-code : (lent : Lengths) (v : View) (fits : Bool) (numbers row : List ℕ)
    → (report_of lent v fits numbers row).0 < CODES
unfolding report_of report_refusal answered
report-code lent v fits numbers row =
    let Q : ℕ × List ℕ → Type 0 = λ x. x.0 < CODES in
    let P : ℕ → Type 0 = λ n. n < CODES in
    branch Q (eqb (report_refusal lent v) 0)
    (λ e. branch Q fits
    (λ f. branch Q (leb (BYTES_OF_NUMBER * length numbers) (length row)) (λ g. omega arith) (λ g. omega arith))
    (λ f. omega arith))
    (λ e. branch P (eqb lent.control CONTROL_BYTES)
    (λ f. branch P (leb (v Tasks) TASKS)
    (λ g. branch P (eqb (v Tasks) 0) (λ h. omega arith)
    (λ h. branch P (one_to REGIONS (v Regions))
    (λ i. branch P (is_started_lengths lent (v Regions)) (λ j. omega arith) (λ j. omega arith)) (λ i. omega arith)))
    (λ g. omega arith))
    (λ f. omega arith))

-- "Every other answer gives 0": nor does a report tell any, its 20 neither
pub reports-tell-none : (in_range : View → (ℕ → ℕ) → ℕ → Bool) (n : ℕ) (number : View → (ℕ → ℕ) → ℕ → ℕ → ℕ)
    (s : Memories) (row row' : List ℕ) (r : ℕ) → Answers (report_on in_range n number s row) row' r → lost_in r ≡ 0
unfolding report_on
reports-tell-none in_range n number s row row' r A =
    let v = seen s.control in
    let links = link s.area in
    let small =
    report-code (lengths (lending s)) v (in_range v links (v Regions))
    (numbers_to n (number v links (v Regions))) row in
    omega (arith, A.number, small)

-- ---- wherever a run has come

module _ {h : History} {s : Memories} {p : Pool} (R : Reached h s p) (left : Memories) (r : ℕ) where
  -- a step that ends its request tells the lost exchanges in its history
  end-tells : (t : ℕ) → Contract (step t) s left r → Premise (event_of_call (step t) s) p
      → ends_request (code_in r) ≡ true → lost_in r ≡ lost_in_request t (happened (event_of_call (step t) s) s p ∷ h)
  end-tells t C P e =
      let v = seen s.control in
      let long = lengths (lending s) in
      let o = step_outcome long v (link s.area) t in
      let N = told (step t) s left r C in
      let i =
      end-told o.answer (step-ends long v (link s.area) t).answers (ap ends_request (sym N.code) ∙ e) in
      let T = (ends_by long v (link s.area) t o.answer i refl).0 in
      let R' = by_event R (event_of_call (step t) s) P in
      let k : 1 ≤ seen (changed o.writes s.control) Tasks =
      omega (
        arith,
        ap (λ (y : Pool × Answer). y.0.tasks) (whole_is R t T),
        (reached-tied R).tasks,
        (reached-tied R').tasks,
        T.started,
      ) in
      N.lost ∙ told-all o.answer _ i ∙ reached-counted R' k t (omega (arith, T.below, T.tasks))

  own-told : (k : Call) → Contract k s left r → Premise (event_of_call k s) p
      → LostTold (on_own k left r) (happened (event_of_call k s) s p ∷ h)
  own-told (start b) C P = start-tells-none b s left r C
  own-told (allocate t size) C P = (told (allocate t size) s left r C).lost
  own-told (free t u) C P = (told (free t u) s left r C).lost
  own-told (leave t) C P = (told (leave t) s left r C).lost
  own-told (step t) C P = by (ends_request (code_in r)) refl
    where
      by : (b : Bool) → ends_request (code_in r) ≡ b
          → lost_in r ≡ cond b (lost_in_request t (happened (event_of_call (step t) s) s p ∷ h)) 0
      by true e = end-tells t C P e
      by false e = others-tell-none (step t) s left r C e

-- a call on other memories is refused, or is a start
other-told : (k : Call) (lent left : Memories) (r : ℕ) (s : Memories) (h : History)
    → Happens (on_other k lent left r) s → LostTold (on_other k lent left r) h
unfolding Calls.step_outcome
other-told (start b) lent left r s h H = start-tells-none b lent left r H.0
other-told (allocate t size) lent left r s h H = (told (allocate t size) lent left r H.0).lost
other-told (free t u) lent left r s h H = (told (free t u) lent left r H.0).lost
other-told (leave t) lent left r s h H = (told (leave t) lent left r H.0).lost
other-told (step t) lent left r s h H =
    (told (step t) lent left r H.0).lost
    ∙ ap (λ (o : Outcome). lost_told o.answer (seen (changed o.writes lent.control) (TaskLost t)))
    (refused-alike s lent t bad _ H.1).1.1

-- Wherever a run has come, the number that an act answers tells the lost exchanges that are due: "it equals the lost
-- exchanges in that request's history, or is 4,294,967,295 where there were more".
pub lost-told : {h : History} {s : Memories} {p : Pool} → Reached h s p → (a : Act) → Happens a s
    → Premise (event_of_act a s) p → LostTold a (happened (event_of_act a s) s p ∷ h)
lost-told R (on_own k left r) H P = own-told R left r k H P
lost-told {h} {s} {p} R (on_other k lent left r) H P =
    other-told k lent left r s (happened (event_of_call k lent) s p ∷ h) H
lost-told R (write at b) H P = tt
lost-told R (write_strip at b) H P = tt

-- The same along every list of acts, from any control memory that is not started: one claim over the whole list.
pub run-lost-told : (acts : List Act) (s : Memories) → Unstarted s → AllHappen acts s
    → Premises (events_of_acts acts s) unstarted → AlongHistory LostTold acts [] s unstarted
run-lost-told acts s U H P = along-history LostTold (λ h s p R. lost-told R) (from_unstarted U) acts H P
