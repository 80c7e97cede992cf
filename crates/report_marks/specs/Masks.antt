-- docs/POOL.md, "Reports"
-- The first units of a class's blocks, as masks of a region's mark words.
use Rattle.std.specs.Prelude.{◌≡◌, cond, ℕ, zero, suc, ◌+◌, ◌*◌, ◌/◌, ◌%◌, ◌^◌, ◌<◌, eqb}
use Rattle.limits.specs.Limits.{REGION_UNITS, WORD_MARKS}
use Rattle.words.specs.Mark.{is_set}
use Rattle.classes.specs.Geometry.{is_first}

-- how many mark words a region has
abbrev pub REGION_WORDS : ℕ
REGION_WORDS = REGION_UNITS / WORD_MARKS

-- a word of d bits in which the bits 0, u, 2 × u and so on are set
unfoldable pub every_bit : ℕ → ℕ → ℕ
every_bit u zero = 0
every_bit u (suc d) = every_bit u d + cond (eqb (d % u) 0) (2 ^ d) 0

-- "count of ones over masked 64-bit mark words for a region": of the region's word k the mask m has the bits of the
-- first units of the blocks of class c, and no others
pub record MaskOf (c k m : ℕ) : Type 0 where
  pub below : m < 2 ^ WORD_MARKS
  pub tells : (j : ℕ) → j < WORD_MARKS → is_set m j ≡ is_first c (WORD_MARKS * k + j)
