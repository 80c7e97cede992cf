-- docs/POOL.md, "Calls and refusals"
-- The tests whose failure is 14: "a value read for this call is outside its field's range, or names none, or no block
-- of the class, where one is due; a count would pass n; an anchor to take a chain from is FULL, or PARTIAL with count
-- 0; or a link is outside 0 to n − 1 while more blocks are due". docs/LAYOUT.md has the ranges.
use Rattle.std.specs.Prelude.{ℕ, ◌+◌, Bool, cond, ◌&&◌, ◌||◌, ltb, leb, eqb}
use Rattle.limits.specs.Limits.{UNITS, MOST_BLOCKS}
use Rattle.words.specs.Anchor.{PARTIAL, is_state, anchor_of}
use Rattle.classes.specs.Geometry.{region_of, is_first}

-- whether x is from 1 to `most`
abbrev pub one_to : ℕ → ℕ → Bool
one_to most x = leb 1 x && leb x most

-- whether u is the first unit of a block of the class c in an area of so many regions
abbrev pub is_block : ℕ → ℕ → ℕ → Bool
is_block regions c u = ltb (region_of u) regions && is_first c u

-- whether u is the top of k cached blocks, as a cache's field or the link of the block above names it: "the unit of the
-- block below, with 8,192 at the bottom"
abbrev pub is_top : ℕ → ℕ → ℕ → ℕ → Bool
is_top regions c k u = cond (eqb k 0) (eqb u UNITS) (is_block regions c u)

-- whether w is an anchor's word: a state, and an index and a count as large as any class has
abbrev pub is_anchor : ℕ → Bool
is_anchor w = is_state (anchor_of w).state && leb (anchor_of w).avail MOST_BLOCKS && leb (anchor_of w).count MOST_BLOCKS

-- whether a chain can be taken: the state is PARTIAL, not "FULL, or PARTIAL with count 0", avail names a block, and the
-- count does not pass n
abbrev pub has_chain : ℕ → ℕ → Bool
has_chain n w = eqb (anchor_of w).state PARTIAL && one_to n (anchor_of w).count && ltb (anchor_of w).avail n

-- whether the chain has no block, or avail names one
abbrev pub has_first : ℕ → ℕ → Bool
has_first n w = eqb (anchor_of w).count 0 || ltb (anchor_of w).avail n

-- whether a group of g blocks can be put before the chain: the chain has no block, or avail names one, and the count
-- does not pass n
abbrev pub has_room : ℕ → ℕ → ℕ → Bool
has_room n g w = has_first n w && leb ((anchor_of w).count + g) n
