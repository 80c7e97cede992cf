-- The layout is in order, so a write changes the view at its own field alone.
use Prim.Native.Nat.{ℕ}
use mathlib.Core.Path.{◌≡◌, refl}
use mathlib.Core.Bool.{true}
use mathlib.Core.List.{List}
use lib.ListN.{length}
use Rattle.limits.specs.Limits.{CONTROL_BYTES}
use Rattle.fields.specs.Columns.{in_order, Field, Write, assigned, Has, Sound}
use Rattle.fields.proofs.Layouts.{view-written}
use Rattle.control.specs.Layout.{layout, seen, changed}

-- the columns lie in the control memory, one after the other
pub in-order : in_order CONTROL_BYTES 0 layout ≡ true
in-order = refl

-- the view of a control memory after writes is its view with their fields assigned
pub seen-changed : (ws : List Write) (b : List ℕ) (g : Field) → length b ≡ CONTROL_BYTES → Sound layout ws
    → Has layout g → seen (changed ws b) g ≡ assigned ws (seen b) g
seen-changed ws b g = view-written CONTROL_BYTES layout in-order ws b g
