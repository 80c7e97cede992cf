-- docs/POOL.md, "Classes" and "Strips"
-- What a finished allocation hands out.
use Rattle.std.specs.Prelude.{◌≡◌, ◌↔◌, List, ℕ, ◌+◌, ◌*◌, ◌≤◌, ◌<◌}
use Rattle.limits.specs.Limits.{CLASSES, LARGEST_SIZE, SLOTS, UNITS, WHOLE_ORDER}
use Rattle.classes.specs.Classes.{block}
use Rattle.classes.specs.Sizes.{class_of}
use Rattle.classes.specs.Geometry.{region_of, BlockOf, Aligned}
use Rattle.pieces.specs.Pieces.{slots_in, begun, Pieces}
use Rattle.pieces.specs.PieceRows.{pieces_row, AtMultiple, RowTakes, RowGives, NoneToJoin}
use Rattle.pieces.specs.StripSlots.{FreeStretch}
use Rattle.pieces.specs.StripSizes.{strip_bytes, order_of, RoundsTo}
use Rattle.pieces.specs.StripUnits.{strip_unit}
use Rattle.plain.specs.State.{Mem}
use Rattle.plain.specs.Leaving.{EmptyFrom}
use Rattle.agreement.specs.Asked.{Asked, nothing_yet, for_bytes, for_free, for_leave}

-- The unit u is the first of a block of the class c, in an area of so many regions, and the block is aligned.
pub record AlignedBlock (regions c u : ℕ) : Type 0 where
  pub is_class : c < CLASSES
  pub in-area : region_of u < regions
  pub is-block : BlockOf (region_of u) c u
  pub aligned : Aligned c u

-- What is handed out for `size` bytes: an aligned block of the smallest class that holds the size.
pub record Handed (regions size u : ℕ) : Type 0 where
  pub given : AlignedBlock regions (class_of size) u
  pub holds : size ≤ block (class_of size)
  pub smallest : (c : ℕ) → c < class_of size → block c < size

-- What is handed out for `size` bytes above 256: the strip at a slot, whose order is that of the size. "A size is
-- rounded up to a power of two, at least 512": it has at least as many bytes, and fewer than twice as many. "starting
-- from the smallest sufficient piece, at the lowest place among equals": so it comes of the pieces before, and leaves
-- those after.
pub record StripHanded (before after : Pieces WHOLE_ORDER) (size u : ℕ) : Type 0 where
  pub slot : ℕ
  pub is : u ≡ strip_unit slot
  pub fits : slot + slots_in (order_of size) ≤ SLOTS
  pub aligned : AtMultiple slot (order_of size)
  pub rounds : RoundsTo size (order_of size)
  pub less : strip_bytes (order_of size) < 2 * size
  pub taken : RowTakes (order_of size) slot (pieces_row 0 before) (pieces_row 0 after)

-- What becomes of a strip that the task t has freed, at the unit u: it and the free pieces that it is joined with are
-- one free piece. "Freed halves join whenever both are free": and none is left to join.
pub record StripGiven (before after : Pieces WHOLE_ORDER) (t u : ℕ) : Type 0 where
  pub slot : ℕ
  pub order : ℕ
  pub is : u ≡ strip_unit slot
  pub given : RowGives order slot (begun t) (pieces_row 0 before) (pieces_row 0 after)
  pub none_left : NoneToJoin (pieces_row 0 after)

-- all caches are empty: what a task that has left leaves behind
abbrev pub AllEmpty : (ℕ → List ℕ) → Type 0
AllEmpty k = EmptyFrom k 0 CLASSES

-- What a finished request of the task t gives as its value, by what the task has asked for: "the value is the unit of a
-- finished allocation, else 0". No request finishes that was not asked for. The memories are those of the plain pool
-- before and after the step.
abbrev pub Gives : (regions : ℕ) (before after : Mem) (t : ℕ) → Asked → ℕ → Type 0
Gives regions before after t nothing_yet value = ⊥
Gives regions before after t (for_bytes size) value =
    (size ≤ LARGEST_SIZE → Handed regions size value)
    × (LARGEST_SIZE < size → StripHanded before.strips after.strips size value)
Gives regions before after t (for_free unit) value =
    (value ≡ 0) × (UNITS ≤ unit → StripGiven before.strips after.strips t unit)
Gives regions before after t for_leave value = (value ≡ 0) × AllEmpty (after.task t).cache

-- "16 ends a request exactly if no aligned free stretch of the rounded size exists", slot by slot: a step of a task
-- whose request is for a strip, by the size that it has asked for and the plain pool's pieces before it
pub record EndsWith16 (before : Pieces WHOLE_ORDER) (a : Asked) (ends : Type 0) : Type 0 where
  pub size : ℕ
  pub asked_for : a ≡ for_bytes size
  pub is_strip : LARGEST_SIZE < size
  pub exactly : ends ↔ ((q : ℕ) → FreeStretch before (order_of size) q → ⊥)
