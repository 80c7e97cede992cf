-- docs/POOL.md, "Allocate"
-- The anchors that the steps of an allocation tell apart and write.
use Rattle.std.specs.Prelude.{ℕ, Bool, eqb}
use Rattle.words.specs.Anchor.{EMPTY, anchor_of, anchor_word, full}
use Rattle.classes.specs.Classes.{per_region}

-- "EMPTY: push the descriptor on the spare list": the anchor's state, by its word
abbrev pub is_empty : ℕ → Bool
is_empty word = eqb (anchor_of word).state EMPTY

-- (FULL, n, 0), as a word, n being that of the class
abbrev pub full_word : ℕ → ℕ
full_word class = anchor_word (full (per_region class))
