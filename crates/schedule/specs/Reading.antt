-- docs/POOL.md, "The stand"
-- The records of an input one after the other.
use Rattle.std.specs.Prelude.{◌≡◌, ℕ, ◌+◌, ◌<◌, ◌≤◌, List, Option, MatchOption, length}
use Rattle.schedule.specs.declared.records.Entry.{Entry}
use Rattle.schedule.specs.declared.records.Records.{Records}
use Rattle.schedule.specs.Records.{entry_at, end_of}

-- all records of an input are ahead
pub record Begins (input : List ℕ) (s : Records) : Type 0 where
  pub input_is : s.input.now ≡ input
  pub at_first : s.at ≡ 0
  pub from_0 : s.number ≡ 0

-- an entry is the next record with its number, and the records behind it are ahead
pub record Passes (s : Records) (e : Entry) (t : Records) : Type 0 where
  pub before_end : s.at < length s.input.now
  pub entry_is : e ≡ entry_at s.input.now s.at s.number
  pub same_input : t.input.now ≡ s.input.now
  pub next : t.at ≡ end_of e.body s.at (length s.input.now)
  pub one_more : t.number ≡ s.number + 1

-- a call of `next` on s gives r and leaves t: "After 15 it stops"
abbrev pub Reads : Records → Option Entry → Records → Type 0
Reads s r t = MatchOption r (length s.input.now ≤ s.at) (λ e. Passes s e t)
