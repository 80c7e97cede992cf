-- docs/POOL.md, "Below the pool"
-- Little-endian numbers in a list of bytes: `width` bytes from `at`, the low one first.
use Rattle.std.specs.Prelude.{ℕ, zero, suc, ◌+◌, ◌*◌, ◌/◌, ◌%◌, ◌<◌, List, get_or, set}

-- "low byte first": the number that stands there
unfoldable pub get_le : List ℕ → ℕ → ℕ → ℕ
get_le s at zero = 0
get_le s at (suc w) = get_or s at 0 + 256 * get_le s (suc at) w

-- the list with `v` written there; what of `v` does not fit in the width is dropped
unfoldable pub set_le : List ℕ → ℕ → ℕ → ℕ → List ℕ
set_le s at zero v = s
set_le s at (suc w) v = set_le (set s at (v % 256)) (suc at) w (v / 256)

-- every element of the list is a byte
abbrev pub Bytes : List ℕ → Type 0
Bytes s = (i : ℕ) → get_or s i 0 < 256
