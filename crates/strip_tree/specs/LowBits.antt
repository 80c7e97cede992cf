-- docs/POOL.md, "Strips"
-- The lowest bit of a word that is set.
use Rattle.std.specs.Prelude.{ℕ, ◌+◌, ◌/◌, ◌%◌, ◌^◌, ◌<◌, ◌≡◌, cond, eqb}
use Rattle.std.specs.Int.Count.{count_trailing_zeros}
use Rattle.limits.specs.Limits.{WORD_MARKS}

-- the place of the lowest bit of w that is set, with `from` added; 0 where none is
abbrev pub low_bit : ℕ → ℕ → ℕ
low_bit w from = cond (eqb w 0) 0 (from + count_trailing_zeros WORD_MARKS w)

-- the bits of a word from the bit p on, p of them
abbrev pub upper : ℕ → ℕ → ℕ
upper w p = w / 2 ^ p % 2 ^ p

-- r is the place of the lowest bit of w, a word of 64 bits
pub record Low (w from r : ℕ) : Type 0 where
  pub value : r ≡ low_bit w from
  pub word : w < 2 ^ WORD_MARKS
