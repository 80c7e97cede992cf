-- docs/POOL.md, "Words"
-- The bits of a word, as numbers. One mark per unit is set while the block starting there is in a user's hands;
-- the mark of the unit u is bit u % 64 of the word u / 64.
use Rattle.std.specs.Prelude.{◌≡◌, ℕ, ◌+◌, ◌-◌, ◌/◌, ◌%◌, ◌^◌, Bool, cond, ◌≢◌, ◌==◌}

-- the bit i of w, 0 or 1
abbrev pub bit_at : ℕ → ℕ → ℕ
bit_at w i = w / 2 ^ i % 2

-- the mark at the bit i is set
abbrev pub is_set : ℕ → ℕ → Bool
is_set w i = bit_at w i == 1

-- the word with the mark at the bit i set
abbrev pub with_set : ℕ → ℕ → ℕ
with_set w i = cond (is_set w i) w (w + 2 ^ i)

-- the word with the mark at the bit i clear
abbrev pub with_clear : ℕ → ℕ → ℕ
with_clear w i = cond (is_set w i) (w - 2 ^ i) w

-- r is the word `made`; its bit i is b, and every other bit is as it was in w
pub record BitWritten (w i b made r : ℕ) : Type 0 where
  pub value : r ≡ made
  pub here : bit_at r i ≡ b
  pub others : (j : ℕ) → j ≢ i → bit_at r j ≡ bit_at w j
