-- docs/POOL.md, "Start"
-- What the loops of a start leave.
use Rattle.std.specs.Prelude.{List, ℕ}
use Rattle.fields.specs.Columns.{Field}
use Rattle.control.specs.Layout.{changed}
use Rattle.stepped.specs.Start.{fill}

-- a control memory in which the fields f 0 to f (n - 1) got the values x 0 to x (n - 1)
unfoldable pub filled : (ℕ → Field) → (ℕ → ℕ) → ℕ → List ℕ → List ℕ
filled f x n b = changed (fill f x n) b
