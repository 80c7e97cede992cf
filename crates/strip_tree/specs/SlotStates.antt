-- docs/POOL.md, "Strips"
-- What the byte of a slot says: 0 that no strip begins there, else the order and the state of the one that does.
use Rattle.std.specs.Prelude.{ℕ, ◌+◌, ◌-◌, ◌%◌}
use Rattle.limits.specs.Limits.{WHOLE_ORDER, ORDERS}

-- a strip of order k in hand has the byte IN_HAND + k
abbrev pub IN_HAND : ℕ
IN_HAND = 1

-- "one whose free has begun is 11": a strip of order k whose free has begun has the byte FREE_BEGUN + k
abbrev pub FREE_BEGUN : ℕ
FREE_BEGUN = IN_HAND + ORDERS

-- the largest byte: the whole memory, a strip whose free has begun
abbrev pub LAST_BYTE : ℕ
LAST_BYTE = FREE_BEGUN + WHOLE_ORDER

-- the order of the strip of the byte x, which is not 0
abbrev pub order_in : ℕ → ℕ
order_in x = (x - IN_HAND) % ORDERS
