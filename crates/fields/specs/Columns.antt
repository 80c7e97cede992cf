-- docs/POOL.md, "Below the pool"
-- A memory as a table of columns, each of them a row of numbers of one width. A layout is one list of columns.
use Rattle.std.specs.Prelude.{ℕ, zero, suc, ◌+◌, ◌*◌, ◌^◌, ◌<◌, Bool, cond, ◌&&◌, List, [], ◌∷◌, leb, eqb}
use Rattle.fields.specs.Little.{get_le, set_le}

-- `count` numbers of `width` bytes each, from the byte `start` on
pub record Column : Type 0 where
  pub start : ℕ
  pub width : ℕ
  pub count : ℕ

-- i * w, written so that width 1 needs no product
abbrev pub times : ℕ → ℕ → ℕ
times i zero = 0
times i (suc zero) = i
times i (suc (suc w)) = i * suc (suc w)

-- the byte past a column's last
abbrev pub past_of : Column → ℕ
past_of k = k.start + k.count * k.width

-- the columns lie between `from` and `size`, each at or past the end of the one before
abbrev pub in_order : ℕ → ℕ → List Column → Bool
in_order size from [] = leb from size
in_order size from (k ∷ ks) = leb from k.start && in_order size (past_of k) ks

-- a field: one number of a column, which is named by its first byte
pub record Field : Type 0 where
  pub column : ℕ
  pub index : ℕ

-- what stands in each field
abbrev pub View : Type 0
View = Field → ℕ

-- a field gets a value
pub data Write : Type 0 where
  ◌:=◌ : Field → ℕ → Write

infix 68 ◌:=◌
-- the view with one field at another value
abbrev pub assign : Write → View → View
assign (f := x) v g = cond (eqb f.column g.column && eqb f.index g.index) x (v g)

-- the view after a list of writes, in their order
abbrev pub assigned : List Write → View → View
assigned [] v = v
assigned (w ∷ ws) v = assigned ws (assign w v)

-- the column of a table that starts at the byte s; where none does, one without numbers
abbrev pub column_of : List Column → ℕ → Column
column_of [] s = record { start = s; width = 0; count = 0 }
column_of (k ∷ ks) s = cond (eqb k.start s) k (column_of ks s)

module _ (table : List Column) where
  -- how many bytes a field has
  abbrev pub width : Field → ℕ
  width f = (column_of table f.column).width

  -- a field's first byte
  abbrev pub first_byte : Field → ℕ
  first_byte f = f.column + times f.index (width f)

  -- the table has the field
  pub record Has (f : Field) : Type 0 where
    pub index : f.index < (column_of table f.column).count

  -- the view of a memory
  abbrev pub view : List ℕ → View
  view b f = get_le b (first_byte f) (width f)

  -- a memory after one write
  abbrev pub write : Write → List ℕ → List ℕ
  write (f := x) b = set_le b (first_byte f) (width f) x

  -- a memory after a list of writes, in their order
  abbrev pub written : List Write → List ℕ → List ℕ
  written [] b = b
  written (w ∷ ws) b = written ws (write w b)

  -- each write is to a field of the table, and its value fits there
  abbrev pub Sound : List Write → Type 0
  Sound [] = Unit {0}
  Sound ((f := x) ∷ ws) = (Has f × (x < 256 ^ width f)) × Sound ws
