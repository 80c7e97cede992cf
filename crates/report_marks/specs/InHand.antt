-- docs/POOL.md, "Reports"
-- "Blocks in hand are counted from the marks" (the request for the stock sheet), and the lowest of them.
use Rattle.std.specs.Prelude.{Bool, cond, ℕ, ◌/◌, ◌%◌, ltb}
use Rattle.limits.specs.Limits.{UNITS, WORD_MARKS}
use Rattle.words.specs.Mark.{is_set}
use Rattle.classes.specs.Classes.{per_region}
use Rattle.classes.specs.Geometry.{unit_of}
use Rattle.fields.specs.Columns.{View}
use Rattle.control.specs.Layout.{Marks}
use Rattle.reports.specs.Passing.{passing, first_passing}

-- the mark of the unit u is set
abbrev pub is_marked : View → ℕ → Bool
is_marked v u = is_set (v (Marks (u / WORD_MARKS))) (u % WORD_MARKS)

-- of the n blocks of class c in the region r, how many have the mark of their first unit set
unfoldable pub blocks_in_hand : View → ℕ → ℕ → ℕ
blocks_in_hand v r c = passing (per_region c) (λ i. is_marked v (unit_of r c i))

-- "the lowest block in hand" (the request for the region's keepers): of the n blocks of class c in the region r, the
-- first that has the mark of its first unit set, by this unit; 8,192, which is no block's unit, where none has
unfoldable pub lowest_in_hand : View → ℕ → ℕ → ℕ
lowest_in_hand v r c =
    let i = first_passing (per_region c) (λ i. is_marked v (unit_of r c i)) in
    cond (ltb i (per_region c)) (unit_of r c i) UNITS
