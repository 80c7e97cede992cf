-- The numbers are written from the last down.
use Prim.Native.Nat.{ℕ, ◌<◌}
use mathlib.Core.Path.{◌≡◌}
use Rattle.control.specs.Layout.{field_at}
use Rattle.start.proofs.StartImage.{Filling}
use Rattle.start.proofs.fill.Given as goal

abbrev pub invariant-loop-i : goal.invariant-loop-i
invariant-loop-i g l =
    (x : ℕ → ℕ) → ((i : ℕ) (y : _) → i < l.count → goal.F-post g l.number i y → g.T.Number.value y ≡ x i)
    → Filling (field_at l.column.start) x l.count l.initial.control l.i l.control
