-- docs/POOL.md, "The pool in numbers"
-- How many there are of each thing, by the customer's papers. What follows from others is tied in proofs/Ties.antt.
use Rattle.std.specs.Prelude.{ℕ, ◌+◌}

-- "Control memory is 8,192 bytes"
abbrev pub CONTROL_BYTES : ℕ
CONTROL_BYTES = 8192

-- "The area is 1 to 16 regions of 4,096 bytes": the most regions
abbrev pub REGIONS : ℕ
REGIONS = 16

-- the bytes of a region
abbrev pub REGION_BYTES : ℕ
REGION_BYTES = 4096

-- "2 area length zero, no multiple of 4,096 or above 65,536"
abbrev pub AREA_BYTES : ℕ
AREA_BYTES = 65536

-- "A unit is 8 bytes"
abbrev pub UNIT_BYTES : ℕ
UNIT_BYTES = 8

-- a region's units
abbrev pub REGION_UNITS : ℕ
REGION_UNITS = 512

-- how many units the area has: "a block is named by its first unit, 0 to 8,191"; in a cache's links 8,192 is the
-- bottom. The units of strips go on from here, up to BOTH_UNITS
abbrev pub UNITS : ℕ
UNITS = 8192

-- the marks of so many units stand in one word
abbrev pub WORD_MARKS : ℕ
WORD_MARKS = 64

-- "1 to 8 tasks"
abbrev pub TASKS : ℕ
TASKS = 8

-- "thirteen classes in all" (the request for the new processor)
abbrev pub CLASSES : ℕ
CLASSES = 13

-- "There are 64 descriptors"
abbrev pub DESCRIPTORS : ℕ
DESCRIPTORS = 64

-- the most blocks that a region has, those of the smallest class
abbrev pub MOST_BLOCKS : ℕ
MOST_BLOCKS = 512

-- "after 4,294,967,295 comes 0"
abbrev pub TAGS : ℕ
TAGS = 4294967296

-- the largest size of a small block: "blocks of 1 to 256 bytes"
abbrev pub LARGEST_SIZE : ℕ
LARGEST_SIZE = 256

-- "A second lent area of 65,536 bytes holds them" (the request for strips)
abbrev pub STRIPS_BYTES : ℕ
STRIPS_BYTES = 65536

-- the smallest strip: "A size is rounded up to a power of two, at least 512"; a slot is a place for one
abbrev pub SLOT_BYTES : ℕ
SLOT_BYTES = 512

-- how many slots the strips' memory has
abbrev pub SLOTS : ℕ
SLOTS = 128

-- a slot's units
abbrev pub SLOT_UNITS : ℕ
SLOT_UNITS = 64

-- a strip of order k has 2^k slots; that of the whole memory has this order
abbrev pub WHOLE_ORDER : ℕ
WHOLE_ORDER = 7

-- how many orders there are
abbrev pub ORDERS : ℕ
ORDERS = 8

-- the largest size of a strip: "9 now means above 65,536"
abbrev pub LARGEST_STRIP : ℕ
LARGEST_STRIP = 65536

-- "Its units run from 8,192 to 16,383": how many units both areas have
abbrev pub BOTH_UNITS : ℕ
BOTH_UNITS = 16384

-- The lists by number: that of a class's partial descriptors has the class's number, then comes that of the spare
-- descriptors.
abbrev pub SPARE_DESCRIPTORS : ℕ
SPARE_DESCRIPTORS = CLASSES

-- the list of the spare regions
abbrev pub SPARE_REGIONS : ℕ
SPARE_REGIONS = CLASSES + 1

-- how many lists there are of descriptors
abbrev pub DESCRIPTOR_LISTS : ℕ
DESCRIPTOR_LISTS = CLASSES + 1

-- how many lists there are in all
abbrev pub LISTS : ℕ
LISTS = CLASSES + 2
