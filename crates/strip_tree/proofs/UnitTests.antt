-- The units of strips, by what the test of a unit finds.
use Prim.Native.Nat.{ℕ, ◌%◌, ◌<◌, ◌≤◌}
use mathlib.Core.Path.{◌≡◌, sym, ◌∙◌}
use mathlib.Core.Bool.{true, false, true≢false}
use native.Mathlib.Omega.{arith}
use borrow.Author.Tests.{le-leb, lt-leb, lt-ltb, le-ltb, eq-eqb, ne_eqb}
use lib.Dec.{eqb}
use Rattle.std.specs.Prelude.{cond, Some, None}
use Rattle.limits.specs.Limits.{UNITS, SLOTS, SLOT_UNITS, BOTH_UNITS}
use Rattle.rows.specs.Comparisons.{Equality, same, other, same?, Order, before, after, order?, Truth, holds, fails}
use Rattle.rows.specs.Comparisons.{true?}
use Rattle.pieces.specs.StripUnits.{strip_unit, slot_of_unit, is_strip_unit}

module _ (u : ℕ) where
  pub unit-low : u < UNITS → is_strip_unit u ≡ false
  unit-low h = rw (lt-leb _ _ h)

  pub unit-high : UNITS ≤ u → BOTH_UNITS ≤ u → is_strip_unit u ≡ false
  unit-high h l = rw (le-leb _ _ h, le-ltb _ _ l)

  pub unit-inside : UNITS ≤ u → u < BOTH_UNITS → is_strip_unit u ≡ eqb (u % SLOT_UNITS) 0
  unit-inside h l = rw (le-leb _ _ h, lt-ltb _ _ l)

  -- what a unit that passed has
  pub record StripUnit : Type 0 where
    pub from : UNITS ≤ u
    pub below : u < BOTH_UNITS
    pub first : u % SLOT_UNITS ≡ 0

  pub unit-passed : is_strip_unit u ≡ true → StripUnit
  unit-passed h = by (order? u UNITS) (order? u BOTH_UNITS) (same? (u % SLOT_UNITS) 0)
    where
      by : Order u UNITS → Order u BOTH_UNITS → Equality (u % SLOT_UNITS) 0 → StripUnit
      by (before l) b m = absurd (true≢false (sym h ∙ unit-low l))
      by (after g) (after k) m = absurd (true≢false (sym h ∙ unit-high g k))
      by (after g) (before l) (same e) = record { from = g; below = l; first = e }
      by (after g) (before l) (other d) = absurd (true≢false (sym h ∙ unit-inside g l ∙ ne_eqb _ _ d))

  -- its slot is one of the memory, and begins there
  pub slot_small : is_strip_unit u ≡ true → slot_of_unit u < SLOTS
  slot_small h = let p = unit-passed h in omega (arith, p.from, p.below)

  pub unit-of-slot-is : is_strip_unit u ≡ true → strip_unit (slot_of_unit u) ≡ u
  unit-of-slot-is h = let p = unit-passed h in omega (arith, p.from, p.first)

module _ (u : ℕ) where
  -- what a slot that begins at a unit has
  pub record Begins (s : ℕ) : Type 0 where
    pub passes : is_strip_unit u ≡ true
    pub slot : s ≡ slot_of_unit u

  -- a slot begins at the unit, or none does
  pub slot-begins : (s : ℕ) → cond (is_strip_unit u) (Some (slot_of_unit u)) None ≡ Some s → Begins s
  slot-begins s h = by (true? (is_strip_unit u))
    where
      by : Truth (is_strip_unit u) → Begins s
      by (holds e) =
          let d : Some (slot_of_unit u) ≡ Some s = rw e at h in
          record { passes = e; slot = cc }
      by (fails e) =
          let d : None ≡ Some s = rw e at h in
          let z : ◌≡◌ {A = ℕ} 0 1 = cc in
          absurd (omega arith)

  pub no-slot : cond (is_strip_unit u) (Some (slot_of_unit u)) None ≡ None → is_strip_unit u ≡ false
  no-slot h = by (true? (is_strip_unit u))
    where
      by : Truth (is_strip_unit u) → is_strip_unit u ≡ false
      by (holds e) =
          let d : Some (slot_of_unit u) ≡ None = rw e at h in
          let z : ◌≡◌ {A = ℕ} 0 1 = cc in
          absurd (omega arith)
      by (fails e) = e

module _ (s : ℕ) where
  -- the unit of a slot passes, and its slot is that one
  pub slot-passes : s < SLOTS → is_strip_unit (strip_unit s) ≡ true
  slot-passes h =
      let e : strip_unit s % SLOT_UNITS ≡ 0 = omega arith in
      unit-inside (strip_unit s) (omega arith) (omega arith) ∙ eq-eqb _ _ e

  pub slot-of-unit-is : slot_of_unit (strip_unit s) ≡ s
  slot-of-unit-is = omega arith
