-- The table of a schedule, without the lost exchanges: the stand on bytes writes the lines and the totals of the stand
-- over the plain pool.
use Prim.Native.Nat.{ℕ, zero, suc, ◌+◌, ◌*◌, ◌/◌, ◌%◌, ◌-◌, ◌≤◌, ◌<◌}
use mathlib.Core.Path.{◌≡◌, refl, sym, ap, ◌∙◌}
use mathlib.Core.List.{List, [], ◌++◌}
use native.Mathlib.Omega.{arith}
use native.Mathlib.Decide.{ℕ_discrete, dec_lt}
use borrow.Author.Tests.{eq-eqb, ne_eqb, lt-ltb, le-ltb, leb-true}
use lib.Dec.{eqb, leb}
use lib.ListN.{length, get_or, length-replicate}
use Rattle.std.specs.Prelude.{Result, Ok, Err}
use Rattle.limits.specs.Limits.{CONTROL_BYTES, STRIPS_BYTES, TAGS}
use Rattle.fields.specs.Little.{Bytes, get_le}
use Rattle.fields.proofs.Little.{get_le-lt}
use Rattle.plain.specs.Calls.{Pool, step, unstarted}
use Rattle.fields.specs.Columns.{first_byte, width}
use Rattle.control.specs.Layout.{layout, Tasks}
use Rattle.control.specs.Answers.{CODES, VALUES, ONE_LOST}
use Rattle.stepped.specs.Outcome.{Memories}
use Rattle.agreement.proofs.Images.{zeros as zeros-are, get_le-zeros}
use Rattle.agreement.specs.Reached.{from_unstarted}
use Rattle.agreement.proofs.Ways.{branch}
use Rattle.schedule.specs.declared.record.BadRecord.{BadRecord}
use Rattle.schedule.specs.declared.record.BadRecord.TheVariants.{UnknownKind, Cut}
use Rattle.schedule.specs.declared.record.Kind.{Kind}
use Rattle.schedule.specs.declared.record.Kind.TheVariants as Kind
use Rattle.schedule.specs.declared.record.Record.{Record}
use Rattle.schedule.specs.declared.record.Record.TheVariants.{Start, Allocate, Free, Step, Run, Leave}
use Rattle.schedule.specs.declared.tally.Tally.{Tally}
use Rattle.schedule.specs.declared.treat.Line.{Line}
use Rattle.schedule.specs.Records.{INPUT_BYTES, NUMBER_AT, NUMBER_BYTES, MOST_CALLS}
use Rattle.schedule.specs.Records.{kind_of, bytes_of, body_of, whole, record_at, end_of}
use Rattle.schedule.specs.Tally.{none_counted, counted}
use Rattle.schedule.specs.Stand.{STAND_AREA}
use Rattle.schedule.specs.Stand.{as_started, runs, treated, table}
use Rattle.schedule.specs.Bytes.{zeros, on_bytes}
use Rattle.schedule.specs.Plain.{on_plain}
use Rattle.text.specs.declared.LostColumn.TheVariants.{Hidden}
use Rattle.text.specs.Lines.{line_text}
use Rattle.table.specs.Output.{rows_text}
use Rattle.stand_agreement.proofs.Beside.{part_of, Beside, later, SameAnswer, same-small, same-allocate}
use Rattle.stand_agreement.proofs.Beside.{same-free}
use Rattle.stand_agreement.proofs.Beside.{same-leave, same_step}
use Rattle.stand_agreement.proofs.BesideStart.{same_start}

-- ---- records

-- how many calls a record makes at most
abbrev pub most_of : Result Record BadRecord → ℕ
most_of (Ok (Start a b)) = 1
most_of (Ok (Allocate a b)) = 1
most_of (Ok (Free a b)) = 1
most_of (Ok (Step a)) = 1
most_of (Ok (Run a most)) = most
most_of (Ok (Leave a)) = 1
most_of (Err e) = 0

-- a record makes at most MOST_CALLS calls, has at least a byte, and ends within the schedule
pub record Fits (at end : ℕ) (r : Result Record BadRecord) : Type 0 where
  pub most : most_of r ≤ MOST_CALLS
  pub from : at < end_of r at end
  pub to : end_of r at end ≤ end

module _ (input : List ℕ) (at : ℕ) (b : Bytes input) where
  body-fits : (kind : Kind) → bytes_of kind ≤ length input - at → Fits at (length input) (Ok (body_of kind input at))
  body-fits Kind.Start h = record { most = omega arith; from = omega arith; to = omega arith }
  body-fits Kind.Allocate h = record { most = omega arith; from = omega arith; to = omega arith }
  body-fits Kind.Free h = record { most = omega arith; from = omega arith; to = omega arith }
  body-fits Kind.Step h = record { most = omega arith; from = omega arith; to = omega arith }
  body-fits Kind.Run h = record {
    most = omega (arith, get_le-lt input (at + NUMBER_AT) NUMBER_BYTES b);
    from = omega arith;
    to = omega arith;
  }
  body-fits Kind.Leave h = record { most = omega arith; from = omega arith; to = omega arith }

  module _ (l : at < length input) where
    bad-fits : (e : BadRecord) → Fits at (length input) (Err e)
    bad-fits e = record { most = omega arith; from = l; to = omega arith }

    whole-fits : (r : Result Kind BadRecord) → Fits at (length input) (whole input at r)
    whole-fits (Ok kind) =
        branch (Fits at (length input)) (leb (bytes_of kind) (length input - at))
        (λ h. body-fits kind (leb-true (bytes_of kind) (length input - at) h)) (λ h. bad-fits Cut)
    whole-fits (Err e) = bad-fits e

-- every record that begins in the input fits
pub record-fits : (input : List ℕ) (at : ℕ) → Bytes input → at < length input
    → Fits at (length input) (record_at input at)
unfolding record_at
record-fits input at b l = whole-fits input at b l (kind_of (get_or input at 0))

-- ---- runs and records

same_runs : (m n t : ℕ) (s : Memories) (p : Pool) → Beside n s p → n + m < TAGS
    → SameAnswer (n + m) (runs on_bytes 0 t m s) (runs on_plain 0 t m p)
unfolding runs
same_runs zero n t s p B l = record { number = same-small 0 (omega arith); beside = later (omega arith) B }
same_runs (suc m) n t s p B l =
    let one = same_step B (omega arith) t in
    by one (same_runs m (suc n) t (on_bytes (step t) as_started s).0 (on_plain (step t) as_started p).0 one.beside
    (omega arith))
    (ℕ_discrete (on_plain (step t) as_started p).1 0)
  where
    by : SameAnswer (suc n) (on_bytes (step t) as_started s) (on_plain (step t) as_started p)
        → SameAnswer (suc n + m) (runs on_bytes 0 t m (on_bytes (step t) as_started s).0)
        (runs on_plain 0 t m (on_plain (step t) as_started p).0)
        → Dec ((on_plain (step t) as_started p).1 ≡ 0)
        → SameAnswer (n + suc m) (runs on_bytes 0 t (suc m) s) (runs on_plain 0 t (suc m) p)
    by one rest (yes e) =
        rw (
          eq-eqb (on_bytes (step t) as_started s).1 0 (one.number.none e),
          eq-eqb (on_plain (step t) as_started p).1 0
              e,
        )
        (record { number = rest.number; beside = later (omega arith) rest.beside })
    by one rest (no k) =
        rw (
          ne_eqb (on_bytes (step t) as_started s).1 0
              (λ e. k (sym one.number.without-lost ∙ ap (λ (n : ℕ). n % ONE_LOST) e)),
          ne_eqb
              (on_plain (step t) as_started p).1 0 k,
        )
        (record { number = one.number; beside = later (omega arith) one.beside })

after : {n : ℕ} {x : Memories × ℕ} {y : Pool × ℕ} → SameAnswer (suc n) x y → SameAnswer (n + MOST_CALLS) x y
after S = record { number = S.number; beside = later (omega arith) S.beside }

-- a record in both runs
pub same-treated : {n : ℕ} {s : Memories} {p : Pool} (r : Result Record BadRecord) → most_of r ≤ MOST_CALLS → Beside n s p
    → n + MOST_CALLS < TAGS
    → SameAnswer (n + MOST_CALLS) (treated on_bytes r s) (treated on_plain r p)
same-treated (Ok (Start tasks regions)) m B l = after (same_start B (record { tasks = tasks }) regions)
same-treated (Ok (Allocate t size)) m B l = after (same-allocate B (omega arith) t size)
same-treated (Ok (Free t u)) m B l = after (same-free B (omega arith) t u)
same-treated (Ok (Step t)) m B l = after (same_step B (omega arith) t)
same-treated {n} {s} {p} (Ok (Run t most)) m B l =
    let S = same_runs most n t s p B (omega (arith, m)) in
    record { number = S.number; beside = later (omega (arith, m)) S.beside }
same-treated (Ok (Leave t)) m B l = after (same-leave B (omega arith) t)
same-treated (Err e) m B l = record { number = same-small 15 (omega arith); beside = later (omega arith) B }

-- ---- the table

-- the value stands below the lost exchanges
same-value : (x z : ℕ) → x % ONE_LOST ≡ z → x / CODES % VALUES ≡ z / CODES % VALUES
same-value x z h =
    let d : x / CODES ≡ VALUES * (x / ONE_LOST) + z / CODES = omega (arith, h) in
    let e : z / CODES < VALUES = omega (arith, h) in
    omega (arith, d, e)

-- the text of lines and totals, without the lost exchanges
abbrev text : List Line × Tally → List ℕ
text w = rows_text Hidden w.0 w.1

module _ (input : List ℕ) (bytes : Bytes input) (long : length input ≤ INPUT_BYTES) where
  same-table : (f at n k : ℕ) (y : Tally) (s : Memories) (p : Pool) → at ≤ length input → k ≤ MOST_CALLS * at
      → Beside k s p
      → text (table on_bytes f input at n y s) ≡ text (table on_plain f input at n y p)
  unfolding table rows_text line_text
  same-table zero at n k y s p h l B = refl
  same-table (suc f) at n k y s p h l B =
      by (λ at' y' s' p' h' l' B'. same-table f at' (n + 1) (k + MOST_CALLS) y' s' p' h' l' B')
      (dec_lt at (length input))
    where
      by : ((at' : ℕ) (y' : Tally) (s' : Memories) (p' : Pool) → at' ≤ length input → k + MOST_CALLS ≤ MOST_CALLS * at'
          → Beside (k + MOST_CALLS) s' p'
          → text (table on_bytes f input at' (n + 1) y' s') ≡ text (table on_plain f input at' (n + 1) y' p'))
          → Dec (at < length input)
          → text (table on_bytes (suc f) input at n y s) ≡ text (table on_plain (suc f) input at n y p)
      by rest (no g) = rw (le-ltb at (length input) (omega arith)) refl
      by rest (yes g) =
          let r = record_at input at in
          let F = record-fits input at bytes g in
          let next = end_of r at (length input) in
          let S = same-treated r F.most B (omega (arith, l, g, long)) in
          let x = treated on_bytes r s in
          let z = treated on_plain r p in
          let code : x.1 % CODES ≡ z.1 % CODES = omega (arith, S.number.without-lost) in
          let value = same-value x.1 z.1 S.number.without-lost in
          let line : ℕ → ℕ → List ℕ = λ c v.
          line_text Hidden (record { number = n; kind = get_or input at 0; code = c; value = v; lost = 0 }) in
          rw (lt-ltb at (length input) g)
          (ap (λ (c : ℕ). line c (x.1 / CODES % VALUES)
          ++ text (table on_bytes f input next (n + 1) (counted y c) x.0)) code
          ∙ ap (λ (v : ℕ). line (z.1 % CODES) v
          ++ text (table on_bytes f input next (n + 1) (counted y (z.1 % CODES)) x.0)) value
          ∙ ap (λ (t : List ℕ). line (z.1 % CODES) (z.1 / CODES % VALUES) ++ t)
          (rest next (counted y (z.1 % CODES)) x.0 z.0 F.to (omega (arith, l, F.from)) S.beside))

-- the stand's memories before the first record, and the plain pool that is not started
pub zeros-beside : Beside 0 zeros unstarted
unfolding unstarted
zeros-beside = record {
  area_is = length-replicate {A = ℕ} STAND_AREA 0;
  strips_is = length-replicate {A = ℕ} STRIPS_BYTES 0;
  few = omega arith;
  history = [];
  reached =
      from_unstarted {s₁ = part_of 0 zeros}
      (record {
        length = length-replicate {A = ℕ} CONTROL_BYTES 0;
        bytes = λ i. rw (zeros-are CONTROL_BYTES i) (omega arith);
        tasks = get_le-zeros CONTROL_BYTES (first_byte layout Tasks) (width layout Tasks);
      });
  most-won = λ h ℓ. absurd (omega arith);
}

-- On every input of at most 65,536 bytes the stand's lines and totals, without the lost exchanges, are those of the
-- plain pool fed the same records. There is no premise: no user writes, the control memory is zero at first, and the
-- input bounds the number of exchanges.
pub stand-table : (input : List ℕ) → Bytes input → length input ≤ INPUT_BYTES
    → text (table on_bytes (length input) input 0 0 none_counted zeros)
    ≡ text (table on_plain (length input) input 0 0 none_counted unstarted)
stand-table input bytes long =
    same-table input bytes long (length input) 0 0 0 none_counted zeros unstarted (omega arith) (omega arith)
    zeros-beside
