-- docs/POOL.md, "The stand"
-- The stand over any pool: what each record does, and the table of a schedule.
use Rattle.std.specs.Prelude.{ℕ, zero, suc, ◌+◌, ◌*◌, cond, List, [], ◌∷◌, Result, Ok, Err, length, ◌==◌, nat_lt}
use Rattle.limits.specs.Limits.{REGION_BYTES}
use Rattle.plain.specs.Calls.{Call, start, allocate, free, leave, step}
use Rattle.control.specs.Answers.{code_in, value_in, lost_in}
use Rattle.schedule.specs.declared.record.BadRecord.{BadRecord}
use Rattle.schedule.specs.declared.record.Record.{Record}
use Rattle.schedule.specs.declared.record.Record.TheVariants.{Start, Allocate, Free, Step, Run, Leave}
use Rattle.schedule.specs.declared.records.Entry.{Entry}
use Rattle.schedule.specs.declared.tally.Tally.{Tally}
use Rattle.schedule.specs.declared.treat.Line.{Line}
use Rattle.schedule.specs.Records.{record_at, entry_at, end_of}
use Rattle.schedule.specs.Tally.{counted}

-- "The stand keeps an area of 16,384 bytes": four regions
abbrev pub STAND_REGIONS : ℕ
STAND_REGIONS = 4

-- the bytes of the stand's area
abbrev pub STAND_AREA : ℕ
STAND_AREA = REGION_BYTES * STAND_REGIONS

-- what the stand lends to a call: so many regions, which a start's record names, or what the last accepted start was
-- lent
pub data Lends : Type 0 where
  named : (regions : ℕ) → Lends
  as_started : Lends

-- "each line, in decimal: record from 0, kind byte, code, value", and the lost exchanges, for the answer r as one
-- number
abbrev pub line_of : Entry → ℕ → Line
line_of e r = record {
  number = e.number;
  kind = e.kind;
  code = code_in r;
  value = value_in r;
  lost = lost_in r;
}

-- a pool: its state, and what a call makes of it, with the answer as one number: the code, CODES times the value, and
-- ONE_LOST times the lost exchanges that it tells
module _ {S : Type 0} (call : Call → Lends → S → S × ℕ) where
  -- "run (task, most steps ..), which stops at a finish, an end or a refusal (most 0: code 0, no call made)"; "A run
  -- shows its last call's answer". The last answer so far is a.
  unfoldable pub runs : ℕ → ℕ → ℕ → S → S × ℕ
  runs a t zero s = (s, a)
  runs a t (suc m) s =
      let x = call (step t) as_started s in
      cond (x.1 == 0) (runs 0 t m x.0) x

  -- what a record does, and its answer: "15 unknown kind or cut record"
  abbrev pub treated : Result Record BadRecord → S → S × ℕ
  treated (Ok (Start tasks regions)) s = call (start (record { tasks = tasks })) (named regions) s
  treated (Ok (Allocate t size)) s = call (allocate t size) as_started s
  treated (Ok (Free t u)) s = call (free t u) as_started s
  treated (Ok (Step t)) s = call (step t) as_started s
  treated (Ok (Run t most)) s = runs 0 t most s
  treated (Ok (Leave t)) s = call (leave t) as_started s
  treated (Err e) s = (s, 15)

  -- what a record does, and its line
  abbrev pub shown : Entry → S → S × Line
  shown e s = let x = treated e.body s in (x.0, line_of e x.1)

  -- the lines from the record at the byte `at` on, which is the record n, and the tally at the end; no more than f
  -- records
  unfoldable pub table : ℕ → List ℕ → ℕ → ℕ → Tally → S → List Line × Tally
  table zero input at n y s = ([], y)
  table (suc f) input at n y s =
      let x = shown (entry_at input at n) s in
      let rest = table f input (end_of (record_at input at) at (length input)) (n + 1) (counted y x.1.code) x.0 in
      cond (nat_lt at (length input)) (x.1 ∷ rest.0, rest.1) ([], y)

  -- the state after the records from the byte `at` on; no more than f records
  unfoldable pub played : ℕ → List ℕ → ℕ → S → S
  played zero input at s = s
  played (suc f) input at s =
      let body = record_at input at in
      cond (nat_lt at (length input)) (played f input (end_of body at (length input)) (treated body s).0) s

  -- the answer of the last record from the byte `at` on, no more than f records; where there is none, a
  unfoldable pub last_answer : ℕ → List ℕ → ℕ → ℕ → S → ℕ
  last_answer zero input at a s = a
  last_answer (suc f) input at a s =
      let body = record_at input at in
      let x = treated body s in
      cond (nat_lt at (length input)) (last_answer f input (end_of body at (length input)) x.1 x.0) a
