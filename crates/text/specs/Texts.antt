-- docs/POOL.md, "The stand"
-- Numbers as text, and what it is to write a text into bytes.
use Rattle.std.specs.Prelude.{ℕ, zero, suc, ◌+◌, ◌/◌, ◌%◌, ◌≤◌, ◌≡◌, cond, List, [], ◌∷◌, ◌++◌, ltb, length, take}

-- the last f digits of n, the most significant first, or all of them where n has fewer; 48 is the character 0
unfoldable pub digits : ℕ → ℕ → List ℕ
digits zero n = []
digits (suc f) n = cond (ltb n 10) ((48 + n) ∷ []) (digits f (n / 10) ++ (48 + n % 10) ∷ [])

-- "in decimal"; n has no more than n + 1 digits
abbrev pub decimal : ℕ → List ℕ
decimal n = digits (suc n) n

-- What a function ensures that writes a text into `before` from the byte `at` on, which leaves `after`, and answers r.
-- With `at` 0 the first r bytes are the text.
pub record Appended (before after : List ℕ) (at : ℕ) (text : List ℕ) (r : ℕ) : Type 0 where
  pub same_length : length after ≡ length before
  pub end : r ≡ at + length text
  pub within : r ≤ length after
  pub text_is : take r after ≡ take at before ++ text
