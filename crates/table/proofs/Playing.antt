-- The records treated one after the other: what is written and what is still ahead make up the whole output.
use Prim.Native.Nat.{ℕ, zero, suc, ◌+◌, ◌*◌, ◌-◌, ◌^◌, ◌≤◌, ◌<◌}
use mathlib.Core.Path.{◌≡◌, refl, sym, ap, ◌∙◌}
use mathlib.Core.List.{List, ◌++◌, append_assoc}
use native.Mathlib.Omega.{arith}
use borrow.Author.Tests.{lt-ltb, le-ltb}
use lib.ListN.{length, take}
use lib.Seq.{length-take-le}
use Rattle.stepped.specs.Outcome.{Memories}
use Rattle.schedule.specs.declared.records.Entry.{Entry}
use Rattle.schedule.specs.declared.records.Records.{Records}
use Rattle.schedule.specs.declared.tally.Tally.{Tally}
use Rattle.schedule.specs.declared.treat.Line.{Line}
use Rattle.schedule.specs.Records.{INPUT_BYTES, record_at, entry_at, end_of}
use Rattle.schedule.specs.Reading.{Begins, Passes}
use Rattle.schedule.specs.Tally.{none_counted, counted}
use Rattle.schedule.specs.Stand.{shown, table}
use Rattle.schedule.specs.Bytes.{on_bytes, Makes}
use Rattle.schedule.proofs.Playing.{further}
use Rattle.text.specs.declared.LostColumn.{LostColumn}
use Rattle.text.specs.Texts.{Appended}
use Rattle.text.specs.Lines.{COLUMNS_BYTES, LINE_BYTES, columns_text, line_text, total_text}
use Rattle.text.proofs.Digits.{short-columns, short-line}
use Rattle.table.specs.Output.{TABLE_BYTES, rows_text, table_text, output}

-- a table that has the lost exchanges, where b is true, or has not
module _ (b : LostColumn) (input : List ℕ) where
  -- the text from the record n at the byte `at` on, for at most f records
  abbrev ahead : ℕ → ℕ → ℕ → Tally → Memories → List ℕ
  ahead f at n y s = let t = table on_bytes f input at n y s in rows_text b t.0 t.1

  -- behind the last record only the last line is ahead
  ended : (f at n : ℕ) (y : Tally) (s : Memories) → length input ≤ at → ahead f at n y s ≡ total_text y
  unfolding table rows_text
  ended zero at n y s h = refl
  ended (suc f) at n y s h = rw (le-ltb at (length input) h) refl

  -- the line of the record at the byte `at`, and what is ahead once it is treated and counted
  treats : (f at n : ℕ) (y : Tally) (s : Memories) → at < length input →
      let x = shown on_bytes (entry_at input at n) s in
      ahead (suc f) at n y s
      ≡ line_text b x.1 ++ ahead f (end_of (record_at input at) at (length input)) (n + 1) (counted y x.1.code) x.0
  unfolding table rows_text
  treats f at n y s h = rw (lt-ltb at (length input) h) refl

  -- Where the records `ahead` are still to come, with the counts y and the memories s: the first bytes of `out`, as many
  -- as are used, and what is ahead make up the output from s₀.
  pub record TableAhead (s₀ : Memories) (used : ℕ) (to_come : Records) (y : Tally) (s : Memories) (out : List ℕ)
      : Type 0 where
    pub fuel : ℕ
    pub input_is : to_come.input.now ≡ input
    pub enough : length input - to_come.at ≤ fuel
    pub most : to_come.number ≤ length input
    pub room : used ≤ COLUMNS_BYTES + LINE_BYTES * to_come.number
    pub said : output b input s₀ ≡ take used out ++ ahead fuel to_come.at to_come.number y s

  -- what is used lies within the room for the longest table
  pub within : {s₀ s : Memories} {used : ℕ} {to_come : Records} {y : Tally} {out : List ℕ}
      → TableAhead s₀ used to_come y s out
      → length input ≤ INPUT_BYTES
      → TABLE_BYTES ≤ length out → used ≤ length out
  within A long room = omega (arith, A.room, A.most, long, room)

  -- the column names are written
  pub begins : {before out : List ℕ} {used : ℕ} {all : Records} {y : Tally} (s : Memories)
      → Appended before out 0 (columns_text b) used
      → Begins input all
      → y ≡ none_counted
      → TableAhead s used all y s out
  unfolding output table_text
  begins s w B e = record {
    fuel = length input;
    input_is = B.input_is;
    enough = omega arith;
    most = omega (arith, B.from_0);
    room = omega (arith, w.end, short-columns b);
    said = rw (e, w.text_is, B.at_first, B.from_0) refl;
  }

  -- the line of one of the first 100,000 records is short
  pub short : {s s' : Memories} {to_come behind : Records} {e : Entry} → Passes to_come e behind
      → to_come.number < 10 ^ 5
      → {line : Line} → Makes (shown on_bytes e) s s' line
      → line.kind < 256 → line.lost < 2 ^ 32 → length (line_text b line) ≤ LINE_BYTES
  short {to_come = to_come} {e = e} P few {line} D kind lost =
      short-line b line
      (omega (arith, ap (λ (l : Line). l.number) D.answer, ap (λ (x : Entry). x.number) P.entry_is, few))
      (omega (arith, kind))
      (omega (arith, ap (λ (l : Line). l.code) D.answer))
      (omega (arith, ap (λ (l : Line). l.value) D.answer))
      (omega (arith, lost))

  -- a line more is written
  module _ {s₀ s : Memories} {used : ℕ} {to_come : Records} {y : Tally} {out : List ℕ}
      (A : TableAhead s₀ used to_come y s out) where
    pub goes_on : {e : Entry} {behind : Records} → Passes to_come e behind → to_come.number ≤ to_come.at
        → {s' : Memories} {line : Line} → Makes (shown on_bytes e) s s' line
        → {out' : List ℕ} {used' : ℕ}
        → Appended out out' used (line_text b line) used' × (length (line_text b line) ≤ LINE_BYTES)
        → {z : Tally} → z ≡ counted y line.code
        → TableAhead s₀ used' behind z s' out'
    goes_on {e} {behind} P few {s'} {line} D {out'} {used'} w {z} counts = by A.fuel A.enough A.said
      where
        before : to_come.at < length input
        before = rw A.input_is at P.before_end

        is : e ≡ entry_at input to_come.at to_come.number
        is = rw A.input_is at P.entry_is

        next : behind.at ≡ end_of e.body to_come.at (length input)
        next = rw A.input_is at P.next

        by : (f : ℕ) → length input - to_come.at ≤ f
            → output b input s₀ ≡ take used out ++ ahead f to_come.at to_come.number y s
            → TableAhead s₀ used' behind z s' out'
        by zero l q = absurd (omega (arith, before))
        by (suc f) l q = record {
          fuel = f;
          input_is = P.same_input ∙ A.input_is;
          enough = omega (arith, next, further e.body to_come.at (length input) before);
          most = omega (arith, P.one_more, few, before);
          room = omega (arith, A.room, w.0.end, w.1, P.one_more);
          said =
              let x = shown on_bytes (entry_at input to_come.at to_come.number) s in
              let rest =
              ahead f (end_of (record_at input to_come.at) to_come.at (length input)) (to_come.number + 1)
              (counted y x.1.code) x.0 in
              rw (next, P.one_more, counts, D.answer, D.memories_are, is)
              (q
              ∙ ap (λ (t : List ℕ). take used out ++ t) (treats f to_come.at to_come.number y s before)
              ∙ sym (append_assoc (take used out) (line_text b x.1) rest)
              ∙ ap (λ (t : List ℕ). t ++ rest) (sym (rw (D.answer, is) at w.0.text_is)));
        }

  -- the last line is written
  pub ends : {s₀ s : Memories} {used : ℕ} {to_come : Records} {y : Tally} {before out : List ℕ}
      → TableAhead s₀ used to_come y s out
      → length to_come.input.now ≤ to_come.at
      → length out ≡ length before → {last : List ℕ} {r : ℕ} → Appended out last used (total_text y) r
      → Appended before last 0 (output b input s₀) r
  ends {s₀} {s} {used} {to_come} {y} {before} {out} A h l {last} {r} w =
      let all : length input ≤ to_come.at = rw A.input_is at h in
      let text =
      w.text_is
      ∙ sym (A.said ∙ ap (λ (t : List ℕ). take used out ++ t) (ended A.fuel to_come.at to_come.number y s all)) in
      record {
        same_length = w.same_length ∙ l;
        end = omega (arith, length-take-le r last w.within, ap length text);
        within = w.within;
        text_is = text;
      }
