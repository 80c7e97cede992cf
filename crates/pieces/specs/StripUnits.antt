-- docs/POOL.md, "Strips"
-- The units of strips: "Its units run from 8,192 to 16,383".
use Rattle.std.specs.Prelude.{ℕ, ◌+◌, ◌-◌, ◌*◌, ◌/◌, ◌%◌, Bool, ◌&&◌, ltb, leb, eqb}
use Rattle.limits.specs.Limits.{UNITS, SLOT_UNITS, BOTH_UNITS}

-- the unit where the slot s begins
abbrev pub strip_unit : ℕ → ℕ
strip_unit s = UNITS + SLOT_UNITS * s

-- the slot of a unit of the strips' memory
abbrev pub slot_of_unit : ℕ → ℕ
slot_of_unit u = (u - UNITS) / SLOT_UNITS

-- the unit u is one where a slot begins: "A unit from 8,192 where no strip starts is 10"
abbrev pub is_strip_unit : ℕ → Bool
is_strip_unit u = leb UNITS u && ltb u BOTH_UNITS && eqb (u % SLOT_UNITS) 0
