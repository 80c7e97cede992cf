-- A report: the tests 1, 4, 2 are those that a call of task 0 makes, for every started pool has this task.
use mathlib.Core.Path.{◌≡◌, refl, sym, ap, subst, ◌∙◌}
use mathlib.Core.Logic.{◌≢◌}
use mathlib.Core.Bool.{Bool, true, false, cond, false≢true}
use mathlib.Core.List.{List, []}
use Prim.Native.Nat.{ℕ, ◌≤◌}
use native.Mathlib.Omega.{arith}
use borrow.Author.Tests.{eq-eqb, ne_eqb, lt-ltb}
use lib.Dec.{ltb, leb, eqb}
use lib.ListN.{length}
use Rattle.limits.specs.Limits.{CONTROL_BYTES, TASKS, REGIONS}
use Rattle.rows.specs.Comparisons.{same, other, same?}
use Rattle.fields.specs.Columns.{View}
use Rattle.links.specs.Link.{link}
use Rattle.plain.specs.Calls.{Lengths}
use Rattle.plain.specs.Moves.{nothing}
use Rattle.control.specs.Layout.{Tasks, Regions, seen}
use Rattle.control.specs.Answers.{code_of}
use Rattle.stepped.specs.Outcome.{Outcome, refuse, bad, accept, Memories}
use Rattle.stepped.specs.Ranges.{one_to}
use Rattle.stepped.specs.Calls.{tested, is_started_lengths, lengths, lending}
use Rattle.reports.specs.Rows.{numbers_to}
use Rattle.reports.specs.Reports.{report_refusal, answered, report_of, report_on, Answers}
use Rattle.std.specs.Prelude.{Ok, Err}
use Rattle.std.specs.declared.result.Result.{Result}
use Rattle.limits.specs.declared.refusal.Refusal.{Refusal}
use Rattle.limits.specs.declared.refusal.Refusal.TheVariants as refusal
use Rattle.control.specs.Answers.{refusal_number}
use Rattle.stepped.specs.Calls.{Tested}
use Rattle.std.specs.Result.{IsErrAnd}
use Rattle.std.proofs.lemmas.Result.{err_from_is_err_and}
use Rattle.begins.specs.TestNumber.{TestsAre}
use Rattle.reports.specs.Reports.{report_number}
use Rattle.pool.specs.Call.{lengths_of}
use Rattle.pool.proofs.Calling.{found}
use Rattle.begins.specs.declared.tests.Started.{Started}

-- ---- what the tests tell, by the number of the first that fails

-- every refusal has a number
some : (e : Refusal) → 1 ≤ refusal_number e
some refusal.ControlLength = omega arith
some refusal.AreaLength = omega arith
some refusal.TaskCount = omega arith
some refusal.NotStarted = omega arith
some refusal.NoTask = omega arith
some refusal.Busy = omega arith
some refusal.Idle = omega arith
some refusal.SizeZero = omega arith
some refusal.SizeTooLarge = omega arith
some refusal.NoBlock = omega arith
some refusal.NotInHand = omega arith
some refusal.OutOfRange = omega arith
some refusal.RowTooShort = omega arith

-- the number of the first test that fails; 0 where all pass
abbrev pub number_of_tests : Result Started Refusal → ℕ
number_of_tests (Ok s) = 0
number_of_tests (Err e) = refusal_number e

-- the number r is that of the first of the tests 1, 4, 2, 5 that fails, whatever follows them; 0 tells that they pass
pub record TestsTell (lent : Lengths) (v : View) (t r : ℕ) : Type 0 where
  pub is : (x : Outcome) → tested lent v t x ≡ cond (eqb r 0) x (refuse r)
  pub passed : r ≡ 0 → Tested lent v t

tell : {lent : Lengths} {v : View} {t : ℕ} (r : Result Started Refusal) → TestsAre lent v t r
    → TestsTell lent v t (number_of_tests r)
tell (Ok s) T = record { is = λ x. T.is x; passed = λ h. T.passed.tests }
tell (Err e) T = record {
  is = λ x. T.is x
      ∙ sym (ap (λ (b : Bool). cond b x (refuse (refusal_number e))) (ne_eqb (refusal_number e) 0 (λ z. omega (arith, z, some e))));
  passed = λ h. absurd (omega (arith, h, some e));
}

-- the tests of a control memory that has its length
pub told : (n a z : ℕ) {v : View} {t : ℕ} (r : Result Started Refusal) → n ≡ CONTROL_BYTES
    → TestsAre (record { control = CONTROL_BYTES; area = a; strips = z }) v t r
    → TestsTell (record { control = n; area = a; strips = z }) v t (number_of_tests r)
told n a z {v} {t} r e T =
    subst (λ (k : ℕ). TestsTell (record { control = k; area = a; strips = z }) v t (number_of_tests r)) (sym e) (tell r T)

-- of another length, it fails the first test
pub other_length : (n a z : ℕ) (v : View) (t : ℕ) → n ≢ CONTROL_BYTES
    → TestsTell (record { control = n; area = a; strips = z }) v t 1
unfolding tested
other_length n a z v t h = record { is = λ x. rw (ne_eqb n CONTROL_BYTES h) refl; passed = λ e. absurd (omega (arith, e)) }

-- ---- the number of the first test that fails

-- the outcome of a call whose tests tell r: the first that fails refuses it; where r is 0 all pass, and x follows
abbrev unless_refused : ℕ → Outcome → Outcome
unless_refused r x = cond (eqb r 0) x (refuse r)

-- the tests of a call and of a report, by what each finds: test 5 passes wherever test 4 does
nested : (a b c d e f : Bool) (x : Outcome) → (c ≡ false → f ≡ true)
    → cond a (cond b (cond c (refuse 4) (cond d (cond e (cond f x (refuse 5)) (refuse 2)) bad)) bad) (refuse 1)
    ≡ unless_refused (cond a (cond b (cond c 4 (cond d (cond e 0 2) 14)) 14) 1) x
nested false b c d e f x h = refl
nested true false c d e f x h = refl
nested true true true d e f x h = refl
nested true true false false e f x h = refl
nested true true false true false f x h = refl
nested true true false true true true x h = refl
nested true true false true true false x h = absurd (false≢true (h refl))

-- a call of task 0 that makes these tests, and then x
tested-by : (lent : Lengths) (v : View) (x : Outcome) → tested lent v 0 x ≡ unless_refused (report_refusal lent v) x
unfolding tested report_refusal
tested-by lent v x =
    nested (eqb lent.control CONTROL_BYTES) (leb (v Tasks) TASKS) (eqb (v Tasks) 0) (one_to REGIONS (v Regions))
    (is_started_lengths lent (v Regions)) (ltb 0 (v Tasks)) x
    (λ e. elim (same? (v Tasks) 0) [
      | same z ↦ absurd (false≢true (sym e ∙ eq-eqb (v Tasks) 0 z))
      | other n ↦ lt-ltb 0 (v Tasks) (omega arith)
    ])

-- the code of a call that the number r refuses, or that is accepted where r is 0
code_is : (r : ℕ) → code_of (unless_refused r (accept nothing [] [])).answer ≡ r
code_is r = elim (same? r 0) [
  | same e ↦ ap (λ (b : Bool). code_of (cond b (accept nothing [] []) (refuse r)).answer) (eq-eqb r 0 e) ∙ sym e
  | other n ↦ ap (λ (b : Bool). code_of (cond b (accept nothing [] []) (refuse r)).answer) (ne_eqb r 0 n)
]

-- what the tests tell is the number that refuses a report
pub refusal_is : (lent : Lengths) (v : View) (r : ℕ) → TestsTell lent v 0 r → r ≡ report_refusal lent v
refusal_is lent v r T =
    sym (code_is r)
    ∙ ap (λ (o : Outcome). code_of o.answer)
    (sym (T.is (accept nothing [] [])) ∙ tested-by lent v (accept nothing [] []))
    ∙ code_is (report_refusal lent v)

-- ---- a report by these tests

module _ (lent : Lengths) (v : View) (in_range : Bool) (numbers row : List ℕ) (r : ℕ) (T : TestsTell lent v 0 r) where
  -- the tests refuse it
  pub report-refused : r ≢ 0 → Answers (report_of lent v in_range numbers row) row r
  unfolding report_of
  report-refused n =
      rw (← (refusal_is lent v r T), ne_eqb r 0 n) (record { number = refl; row_is = refl })

  -- the tests pass, and it answers
  pub report-answers : r ≡ 0 → {n : ℕ} {row' : List ℕ} → Answers (answered in_range numbers row) row' n
      → Answers (report_of lent v in_range numbers row) row' n
  unfolding report_of
  report-answers e A = rw (← (refusal_is lent v r T), eq-eqb r 0 e) A

-- ---- on memories

module _ (in_range : View → (ℕ → ℕ) → ℕ → Bool) (number : View → (ℕ → ℕ) → ℕ → ℕ → ℕ) (s : Memories)
    (row : List ℕ) (r : ℕ) (T : TestsTell (lengths (lending s)) (seen s.control) 0 r) where
  -- the tests refuse the report
  pub on-refused : (n : ℕ) → r ≢ 0 → Answers (report_on in_range n number s row) row r
  unfolding report_on
  on-refused n d = report-refused _ _ _ _ row r T d

  -- the tests pass, and the report is that of the started regions, which may tell how many numbers it has
  pub on-answers : (n : ℕ → ℕ) (regions : ℕ) → r ≡ 0 → regions ≡ seen s.control Regions → {k : ℕ} {row' : List ℕ}
      → Answers (answered (in_range (seen s.control) (link s.area) regions)
      (numbers_to (n regions) (number (seen s.control) (link s.area) regions)) row) row' k
      → Answers (report_on in_range (n (seen s.control Regions)) number s row) row' k
  unfolding report_on
  on-answers n regions e f A = report-answers _ _ _ _ row r T e (rw f at A)

-- ---- a report on a control memory that has its length

module _ (in_range : View → (ℕ → ℕ) → ℕ → Bool) (number : View → (ℕ → ℕ) → ℕ → ℕ → ℕ) (s : Memories) (row : List ℕ)
    (l : length s.control ≡ CONTROL_BYTES) {r : Result Started Refusal}
    (T : TestsAre (lengths_of (length s.area) (length s.strips)) (seen s.control) 0 r) where
  -- the exit of the `?` behind the tests
  pub stops-at : (n : ℕ) {e : Refusal} (f : Result (Unit {0}) Refusal) → r ≡ Err e → IsErrAnd f (λ x. x ≡ e)
      → Answers (report_on in_range n number s row) row (report_number f)
  stops-at n {e} f h i =
      let p = err_from_is_err_and f i in
      let A = on-refused in_range number s row (number_of_tests r) (told _ _ _ r l T) n
      (λ z. omega (arith, some e, ap number_of_tests h, z)) in
      rw (p.1, p.2) (subst (λ (k : ℕ). Answers (report_on in_range n number s row) row k) (ap number_of_tests h) A)

  -- what the report's function did is the report
  pub fills : (n : ℕ → ℕ) {t : Started} {k : ℕ} {row' : List ℕ} → r ≡ Ok t
      → Answers (answered (in_range (seen s.control) (link s.area) t.regions)
      (numbers_to (n t.regions) (number (seen s.control) (link s.area) t.regions)) row) row' k
      → Answers (report_on in_range (n (seen s.control Regions)) number s row) row' k
  fills n h A =
      on-answers in_range number s row (number_of_tests r) (told _ _ _ r l T) n _ (ap number_of_tests h)
      (found T h).regions A

-- where the lent control memory c is another list, or has another length
pub elsewhere : (x : List ℕ → ℕ × List ℕ) {c d row' : List ℕ} {k m : ℕ} → d ≡ c → m ≡ k → Answers (x d) row' k
    → Answers (x c) row' m
elsewhere x {c = c} {row' = row'} {k = k} e f A =
    subst (λ (i : ℕ). Answers (x c) row' i) (sym f) (subst (λ (b : List ℕ). Answers (x b) row' k) e A)

-- a control memory of another length fails the first test
pub short-report : (in_range : View → (ℕ → ℕ) → ℕ → Bool) (number : View → (ℕ → ℕ) → ℕ → ℕ → ℕ) (s : Memories)
    (row : List ℕ) (n k : ℕ) → length s.control ≢ CONTROL_BYTES → k ≡ 1
    → Answers (report_on in_range n number s row) row k
short-report in_range number s row n k h e =
    subst (λ (m : ℕ). Answers (report_on in_range n number s row) row m) (sym e)
    (on-refused in_range number s row 1 (other_length _ _ _ (seen s.control) 0 h) n (λ z. omega (arith, z)))
