-- The records played one after the other: what the whole schedule leaves is what the records still ahead leave, and the
-- last of them answers for it.
use Rattle.std.proofs.Common.{◌≡◌, ℕ, zero, suc, ◌-◌, ◌<◌, ◌≤◌, List, Result, Ok, Err, length, sym, refl, ap, ◌∙◌, arith}
use Rattle.std.proofs.Common.{le-ltb, lt-ltb}
use Rattle.stepped.specs.Outcome.{Memories}
use Rattle.schedule.specs.declared.record.BadRecord.{BadRecord}
use Rattle.schedule.specs.declared.record.Record.{Record}
use Rattle.schedule.specs.declared.record.Record.TheVariants.{Start, Allocate, Free, Step, Run, Leave}
use Rattle.schedule.specs.declared.records.Entry.{Entry}
use Rattle.schedule.specs.declared.records.Records.{Records}
use Rattle.schedule.specs.Records.{record_at, end_of}
use Rattle.schedule.specs.Reading.{Begins, Passes}
use Rattle.schedule.specs.Stand.{treated, played, last_answer}
use Rattle.schedule.specs.Bytes.{on_bytes, Makes}

-- the next record begins at least one byte further
pub further : (r : Result Record BadRecord) (at end : ℕ) → at < end → at < end_of r at end
further (Ok (Start a b)) at end h = omega arith
further (Ok (Allocate a b)) at end h = omega arith
further (Ok (Free a b)) at end h = omega arith
further (Ok (Step a)) at end h = omega arith
further (Ok (Run a b)) at end h = omega arith
further (Ok (Leave a)) at end h = omega arith
further (Err e) at end h = h

module _ (input : List ℕ) where
  -- behind the last record nothing changes any more, and its answer is the last
  ended : (f at a : ℕ) (s : Memories) → length input ≤ at
      → (played on_bytes f input at s ≡ s) × (last_answer on_bytes f input at a s ≡ a)
  unfolding played last_answer
  ended zero at a s h = (refl, refl)
  ended (suc f) at a s h = rw (le-ltb at (length input) h) (refl, refl)

  -- the record at the byte `at` is treated, and then those behind it
  treats : (f at a : ℕ) (s : Memories) → at < length input →
      let next = end_of (record_at input at) at (length input) in
      let x = treated on_bytes (record_at input at) s in
      (played on_bytes (suc f) input at s ≡ played on_bytes f input next x.0)
      × (last_answer on_bytes (suc f) input at a s ≡ last_answer on_bytes f input next x.1 x.0)
  unfolding played last_answer
  treats f at a s h = rw (lt-ltb at (length input) h) (refl, refl)

  -- Where the records `ahead` are still to come, with the last answer a and the memories s: what is ahead from here
  -- leaves what all records leave from s₀, and ends with the same answer.
  pub record PlayAhead (s₀ : Memories) (ahead : Records) (a : ℕ) (s : Memories) : Type 0 where
    pub fuel : ℕ
    pub input_is : ahead.input.now ≡ input
    pub enough : length input - ahead.at ≤ fuel
    pub said : played on_bytes (length input) input 0 s₀ ≡ played on_bytes fuel input ahead.at s
    pub answered : last_answer on_bytes (length input) input 0 0 s₀ ≡ last_answer on_bytes fuel input ahead.at a s

  -- no record is played yet
  pub begins : (s : Memories) {all : Records} → Begins input all → PlayAhead s all 0 s
  begins s B = record {
    fuel = length input;
    input_is = B.input_is;
    enough = omega arith;
    said = rw B.at_first refl;
    answered = rw B.at_first refl;
  }

  -- one record more is played
  pub goes_on : {s₀ s : Memories} {ahead : Records} {a₀ : ℕ} → PlayAhead s₀ ahead a₀ s
      → {e : Entry} {behind : Records} → Passes ahead e behind
      → {s' : Memories} {r : ℕ} → Makes (treated on_bytes e.body) s s' r → PlayAhead s₀ behind r s'
  goes_on {s₀} {s} {ahead} {a₀} A {e} {behind} P {s'} {r} D = by A.fuel A.enough A.said A.answered
    where
      before : ahead.at < length input
      before = rw A.input_is at P.before_end

      body : e.body ≡ record_at input ahead.at
      body = rw A.input_is at (ap (λ (x : Entry). x.body) P.entry_is)

      next : behind.at ≡ end_of e.body ahead.at (length input)
      next = rw A.input_is at P.next

      by : (f : ℕ) → length input - ahead.at ≤ f
          → played on_bytes (length input) input 0 s₀ ≡ played on_bytes f input ahead.at s
          → last_answer on_bytes (length input) input 0 0 s₀ ≡ last_answer on_bytes f input ahead.at a₀ s
          → PlayAhead s₀ behind r s'
      by zero l q w = absurd (omega (arith, before))
      by (suc f) l q w = record {
        fuel = f;
        input_is = P.same_input ∙ A.input_is;
        enough = omega (arith, next, further e.body ahead.at (length input) before);
        said = rw (next, D.memories_are, body) (q ∙ (treats f ahead.at a₀ s before).0);
        answered = rw (next, D.answer, D.memories_are, body) (w ∙ (treats f ahead.at a₀ s before).1);
      }

  -- all records are played
  pub ends : {s₀ s : Memories} {ahead : Records} {a : ℕ} → PlayAhead s₀ ahead a s → length ahead.input.now ≤ ahead.at
      → (s ≡ played on_bytes (length input) input 0 s₀) × (a ≡ last_answer on_bytes (length input) input 0 0 s₀)
  ends {s₀} {s} {ahead} {a} A h =
      let E = ended A.fuel ahead.at a s (rw A.input_is at h) in
      (sym (A.said ∙ E.0), sym (A.answered ∙ E.1))
