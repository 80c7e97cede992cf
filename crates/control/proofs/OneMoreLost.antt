-- One more lost exchange fits where the count stands.
use Prim.Native.Nat.{ℕ, ◌<◌}
use native.Mathlib.Omega.{arith}
use native.Mathlib.Decide.{dec_lt}
use borrow.Author.Tests.{lt-ltb, le-ltb}
use Rattle.control.specs.Losts.{MOST_LOST, one_more}

pub more-fits : (n : ℕ) → n < 4294967296 → one_more n < 4294967296
unfolding one_more
more-fits n h = elim (dec_lt n MOST_LOST) [
  | yes l ↦ rw (lt-ltb n MOST_LOST l) (omega (arith, l))
  | no l ↦ rw (le-ltb n MOST_LOST (omega (arith, l))) h
]
