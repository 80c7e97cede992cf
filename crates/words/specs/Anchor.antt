-- docs/POOL.md, "Words"
-- The anchor of a descriptor, 64 bits: state in the low 2 bits, then avail in 31 bits, then count in 31.
use Rattle.std.specs.Prelude.{ℕ, ◌+◌, ◌*◌, ◌/◌, ◌%◌, ◌<◌, ◌≤◌, Bool, cond, ◌&&◌, ◌==◌, nat_le}
use Rattle.limits.specs.Limits.{MOST_BLOCKS}
use Rattle.words.specs.declared.anchor.Anchor.{Anchor}

-- the states: "0 EMPTY"
abbrev pub EMPTY : ℕ
EMPTY = 0

-- "1 PARTIAL"
abbrev pub PARTIAL : ℕ
PARTIAL = 1

-- "2 FULL"
abbrev pub FULL : ℕ
FULL = 2

-- 0 to 2 are states; two bits hold one number more
abbrev pub is_state : ℕ → Bool
is_state s = nat_le s FULL

-- state in the low 2 bits, then avail in 31 bits, then count in 31
abbrev pub anchor_of : ℕ → Anchor
anchor_of w = record { state = w % 4; avail = w / 4 % 2147483648; count = w / 8589934592 }

-- the word of an anchor whose parts fit their bits
abbrev pub anchor_word : Anchor → ℕ
anchor_word a = a.state + a.avail * 4 + a.count * 8589934592

-- the parts fit their bits: 2, 31 and 31
pub record AnchorFits (a : Anchor) : Type 0 where
  pub state : a.state < 4
  pub avail : a.avail < 2147483648
  pub count : a.count < 2147483648

-- allocate exchanges an anchor for (FULL, n, 0), and writes a new descriptor so
abbrev pub full : ℕ → Anchor
full n = record { state = FULL; avail = n; count = 0 }

-- a group may be returned: the count would not pass n, and no class has more than MOST_BLOCKS in a region
pub record Room (a : Anchor) (group n : ℕ) : Type 0 where
  pub count : a.count + group ≤ n
  pub blocks : n ≤ MOST_BLOCKS

-- the state is EMPTY if count is now n, else PARTIAL
abbrev pub state_at : ℕ → ℕ → ℕ
state_at count n = cond (count == n) EMPTY PARTIAL

-- a group returned: avail is the group's first, count grows by the group
abbrev pub returned : Anchor → ℕ → ℕ → ℕ → Anchor
returned a first group n =
    record { state = state_at (a.count + group) n; avail = first; count = a.count + group }

-- the exchange is won exactly if all three fields are as noted
abbrev pub same_anchor : Anchor → Anchor → Bool
same_anchor a b = a.state == b.state && a.avail == b.avail && a.count == b.count
