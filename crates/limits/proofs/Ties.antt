-- The limits that follow from others do: a change of one that leaves another behind does not check.
use mathlib.Core.Path.{◌≡◌, refl}
use Prim.Native.Nat.{◌+◌, ◌*◌, ◌^◌}
use Rattle.limits.specs.Limits.{REGIONS, REGION_BYTES, AREA_BYTES, UNIT_BYTES, REGION_UNITS, UNITS, MOST_BLOCKS}
use Rattle.limits.specs.Limits.{STRIPS_BYTES, SLOT_BYTES, SLOTS, SLOT_UNITS, WHOLE_ORDER, ORDERS, LARGEST_STRIP}
use Rattle.limits.specs.Limits.{BOTH_UNITS}

-- the largest area has all regions
pub area_is : REGIONS * REGION_BYTES ≡ AREA_BYTES
area_is = refl

-- a region is whole units, and the largest area has those of all regions
pub region-is : REGION_UNITS * UNIT_BYTES ≡ REGION_BYTES
region-is = refl

pub units-are : REGIONS * REGION_UNITS ≡ UNITS
units-are = refl

-- a block has at least a unit, so that no region has more blocks than units
pub blocks-are : MOST_BLOCKS ≡ REGION_UNITS
blocks-are = refl

-- the strips' memory is whole slots, a slot is whole units, and its units follow those of the largest area
pub strips-are : SLOTS * SLOT_BYTES ≡ STRIPS_BYTES
strips-are = refl

pub slot_is : SLOT_UNITS * UNIT_BYTES ≡ SLOT_BYTES
slot_is = refl

pub both-are : UNITS + SLOTS * SLOT_UNITS ≡ BOTH_UNITS
both-are = refl

-- the whole memory is one piece of the largest order, and the largest strip takes all of it
pub slots-are : 2 ^ WHOLE_ORDER ≡ SLOTS
slots-are = refl

pub orders-are : WHOLE_ORDER + 1 ≡ ORDERS
orders-are = refl

pub largest-is : LARGEST_STRIP ≡ STRIPS_BYTES
largest-is = refl
