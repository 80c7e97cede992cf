-- What a schedule leaves of the stand's memories is beside the plain pool fed the same records, and a report is lent
-- that. The last record answers the same.
use mathlib.Core.Path.{◌≡◌, ap, ◌∙◌}
use mathlib.Core.Bool.{Bool}
use mathlib.Core.List.{List}
use Prim.Native.Nat.{ℕ, zero, suc, ◌+◌, ◌*◌, ◌%◌, ◌≤◌, ◌<◌}
use native.Mathlib.Omega.{arith}
use native.Mathlib.Decide.{dec_lt}
use borrow.Author.Tests.{lt-ltb, le-ltb, eq-eqb}
use lib.ListN.{length}
use Rattle.limits.specs.Limits.{CONTROL_BYTES}
use Rattle.fields.specs.Little.{Bytes}
use Rattle.fields.specs.Columns.{View}
use Rattle.plain.specs.Calls.{Pool, Call, unstarted}
use Rattle.control.specs.Layout.{seen, Tasks}
use Rattle.control.specs.Answers.{ONE_LOST}
use Rattle.stepped.specs.Outcome.{Memories}
use Rattle.stepped.specs.Calls.{lengths, lending}
use Rattle.reports.specs.Reports.{report_refusal, report_of, report_on, Answers}
use Rattle.schedule.specs.Records.{INPUT_BYTES, MOST_CALLS, record_at, end_of}
use Rattle.schedule.specs.Stand.{Lends, treated, played, last_answer}
use Rattle.schedule.specs.Bytes.{zeros, on_bytes, started_part, after_all, last_of}
use Rattle.schedule.specs.Plain.{regions_fed, on_plain}
use Rattle.stand_agreement.proofs.Beside.{Beside, SameAnswer, same-small, part_of, tied, lent_same}
use Rattle.stand_agreement.proofs.Table.{record-fits, same-treated, zeros-beside}

-- the plain pool after all records of a schedule
abbrev pub plain_after_all : List ℕ → Pool
plain_after_all input = played on_plain (length input) input 0 unstarted

-- its answer to the last of them: the code, and CODES times the value; 0 where there is no record
abbrev pub plain_last_of : List ℕ → ℕ
plain_last_of input = last_answer on_plain (length input) input 0 0 unstarted

module _ (input : List ℕ) (bytes : Bytes input) (long : length input ≤ INPUT_BYTES) where
  -- a state and the last answer so far, after the records from the byte `at` on: no more than f records
  abbrev ahead : {S : Type 0} → (Call → Lends → S → S × ℕ) → (f at : ℕ) → S × ℕ → S × ℕ
  ahead call f at x = (played call f input at x.0, last_answer call f input at x.1 x.0)

  -- the records from the byte `at` on leave the memories beside the plain pool, and the last answers the same
  same-played : (f at k : ℕ) (x : Memories × ℕ) (y : Pool × ℕ) → at ≤ length input → k ≤ MOST_CALLS * at
      → SameAnswer k x y
      → (n : ℕ) × SameAnswer n (ahead on_bytes f at x) (ahead on_plain f at y)
  unfolding played last_answer
  same-played zero at k x y h l S = (k, S)
  same-played (suc f) at k x y h l S =
      by (λ at' x' y' h' l' S'. same-played f at' (k + MOST_CALLS) x' y' h' l' S') (dec_lt at (length input))
    where
      by : ((at' : ℕ) (x' : Memories × ℕ) (y' : Pool × ℕ) → at' ≤ length input → k + MOST_CALLS ≤ MOST_CALLS * at'
          → SameAnswer (k + MOST_CALLS) x' y'
          → (n : ℕ) × SameAnswer n (ahead on_bytes f at' x') (ahead on_plain f at' y'))
          → Dec (at < length input)
          → (n : ℕ) × SameAnswer n (ahead on_bytes (suc f) at x) (ahead on_plain (suc f) at y)
      by rest (no g) = rw (le-ltb at (length input) (omega arith)) (k, S)
      by rest (yes g) =
          let r = record_at input at in
          let F = record-fits input at bytes g in
          rw (lt-ltb at (length input) g)
          (rest (end_of r at (length input)) (treated on_bytes r x.0) (treated on_plain r y.0) F.to
          (omega (arith, l, F.from)) (same-treated r F.most S.beside (omega (arith, l, g, long))))

  -- all records do
  same-after-all : (n : ℕ) × SameAnswer n (after_all input, last_of input) (plain_after_all input, plain_last_of input)
  same-after-all =
      same-played (length input) 0 0 (zeros, 0) (unstarted, 0) (omega arith) (omega arith)
      (record { number = same-small 0 (omega arith); beside = zeros-beside })

  -- the memories are beside the plain pool
  pub after-all : (n : ℕ) × Beside n (after_all input) (plain_after_all input)
  after-all = (same-after-all.0, same-after-all.1.beside)

  -- The last record's answer is the plain pool's, but for the lost exchanges that it tells: for every input of bytes,
  -- at most 65,536, and there is no other premise.
  pub last-is-plain : last_of input % ONE_LOST ≡ plain_last_of input
  last-is-plain = same-after-all.1.number.without-lost

  -- the part of the area that the stand lends is the one that the run has reached
  pub lent_is : started_part (after_all input) ≡ part_of (regions_fed (plain_after_all input)) (after_all input)
  lent_is = ap (λ (n : ℕ). part_of n (after_all input)) (lent_same after-all.1)

  -- before any start is accepted, every report is refused with 4, and its row is left as it is
  pub not_started : (in_range : View → (ℕ → ℕ) → ℕ → Bool) (n : ℕ) (number : View → (ℕ → ℕ) → ℕ → ℕ → ℕ)
      (row row' : List ℕ) (r : ℕ) → Answers (report_on in_range n number (started_part (after_all input)) row) row' r
      → (plain_after_all input).tasks ≡ 0 → (r ≡ 4) × (row' ≡ row)
  unfolding report_on report_of report_refusal
  not_started in_range n number row row' r A none =
      let T = tied after-all.1 in
      let tasks : seen (after_all input).control Tasks ≡ 0 = T.tasks ∙ none in
      let long = lengths (lending (started_part (after_all input))) in
      let refused : report_refusal long (seen (after_all input).control) ≡ 4 =
      rw (eq-eqb (length (after_all input).control) CONTROL_BYTES T.length, tasks) in
      (A.number ∙ rw refused, A.row_is ∙ rw refused)
