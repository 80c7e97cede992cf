-- docs/POOL.md, "The plain pool"
-- What a task has noted at each place.
use Rattle.std.specs.Prelude.{ℕ}
use Rattle.plain.specs.State.{Note, Phase, Pop, Push, Work, a1, popping, pushing, a3-read, a3-exchange, a4, a7}
use Rattle.plain.specs.State.{a8, f1, f2, f3-read, f3-link, f3-exchange, f4-clear, strip-take, strip-give}
use Rattle.plain.specs.State.{leave-end}
use Rattle.plain.specs.State.{Place, idle, working}

-- "what it noted": of a list, by the phase of its move, which has noted nothing yet at the head read; or of an anchor
pub data Noted : Type 0 where
  unnoted : Noted
  -- "A head read notes the list's number of won exchanges": the phase has it
  pop_noted : Pop → Phase → Noted
  push_noted : Push → Phase → Noted
  -- "An anchor read notes the state and the chain's first block, if any, and length": that of the descriptor d
  anchor_noted : (d : ℕ) (n : Note) → Noted
  -- what a return's anchor read notes: that of the descriptor d, which the map names for the region of the block y
  entry_noted : (y d : ℕ) (n : Note) → Noted

-- what each place of a task at work has noted
abbrev pub noted_at : Work → Noted
noted_at (a1 c) = unnoted
noted_at (popping p φ) = pop_noted p φ
noted_at (pushing p φ) = push_noted p φ
noted_at (a3-read c d) = unnoted
noted_at (a3-exchange c d n) = anchor_noted d n
noted_at (a4 c x q) = unnoted
noted_at (a7 c d r) = unnoted
noted_at (a8 c r i) = unnoted
noted_at (f1 c u) = unnoted
noted_at (f2 c z g) = unnoted
noted_at (f3-read c z y g) = unnoted
noted_at (f3-link c z y g d n) = entry_noted y d n
noted_at (f3-exchange c z y g d n) = entry_noted y d n
noted_at (f4-clear c z d w r) = unnoted
noted_at (strip-take k) = unnoted
noted_at (strip-give s) = unnoted
noted_at leave-end = unnoted

-- an idle task has noted nothing
abbrev pub noted : Place → Noted
noted idle = unnoted
noted (working w) = noted_at w
