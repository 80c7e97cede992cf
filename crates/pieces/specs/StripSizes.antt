-- docs/POOL.md, "Strips"
-- The order of a strip for a size in bytes.
use Rattle.std.specs.Prelude.{cond, ℕ, zero, suc, ◌*◌, ◌<◌, ◌≤◌, leb}
use Rattle.limits.specs.Limits.{SLOT_BYTES, WHOLE_ORDER}
use Rattle.pieces.specs.Pieces.{slots_in}

-- the bytes of a strip of order k: a power of two, "at least 512"
abbrev pub strip_bytes : ℕ → ℕ
strip_bytes k = SLOT_BYTES * slots_in k

-- the smallest order whose strip holds z bytes: of the order k and the n orders above it
unfoldable pub order_from : ℕ → ℕ → ℕ → ℕ
order_from zero k z = k
order_from (suc n) k z = cond (leb z (strip_bytes k)) k (order_from n (suc k) z)

-- "A size is rounded up to a power of two, at least 512": the order of the strip for z bytes
abbrev pub order_of : ℕ → ℕ
order_of z = order_from WHOLE_ORDER 0 z

-- "A size is rounded up to a power of two": a strip of order k holds z bytes, and one of a smaller order does not
pub record RoundsTo (z k : ℕ) : Type 0 where
  pub within : k ≤ WHOLE_ORDER
  pub holds : z ≤ strip_bytes k
  pub smallest : (j : ℕ) → j < k → strip_bytes j < z
