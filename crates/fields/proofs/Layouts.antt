-- A layout whose columns are in order: two fields stand apart, so a write on the bytes is an assignment on the view.
-- Proved once for every table.
use mathlib.Core.Path.{◌≡◌, refl, ◌∙◌, sym, ap}
use mathlib.Core.List.{List, [], ◌∷◌}
use mathlib.Core.Bool.{true, and-eq-true_iff}
use Prim.Native.Nat.{ℕ, zero, suc, ◌+◌, ◌*◌, ◌^◌, ◌≤◌, ◌<◌}
use native.Mathlib.Nat.{mul-zero, mul-one, suc-mul, mul-le-mul_right}
use native.Mathlib.Omega.{arith}
use native.Mathlib.Decide.{ℕ_discrete, dec_lt}
use borrow.Author.Tests.{leb-true, eq-eqb, ne_eqb}
use lib.ListN.{length}
use lib.Dec.{leb}
use Rattle.fields.specs.Little.{Bytes}
use Rattle.fields.specs.Columns.{Column, times, past_of, in_order, Field, View, Write, ◌:=◌, assign, assigned}
use Rattle.fields.specs.Columns.{column_of, first_byte, width, Has, view, write, written, Sound}
use Rattle.fields.proofs.Little.{get_le-same, length-set_le, bytes-set_le}
use Rattle.fields.proofs.Elsewhere.{get_le-other}

-- `times` is the product
times-is : (i w : ℕ) → times i w ≡ i * w
times-is i zero = sym (mul-zero i)
times-is i (suc zero) = sym (mul-one i)
times-is i (suc (suc w)) = refl

-- a field of a column ends before the next one starts
step-le : (i j w : ℕ) → i < j → times i w + w ≤ times j w
step-le i j w h = rw (times-is i w, times-is j w) (omega (arith, suc-mul i w, mul-le-mul_right w h))

-- an assigned view at a field depends on the view at that field alone
pub assigned-same : (ws : List Write) (v u : View) (g : Field) → v g ≡ u g → assigned ws v g ≡ assigned ws u g
assigned-same [] v u g e = e
assigned-same ((f := x) ∷ ws) v u g e = assigned-same ws (assign (f := x) v) (assign (f := x) u) g (rw e)

-- the byte past the last of the column that starts at s
abbrev end_of : List Column → ℕ → ℕ
end_of table s = s + (column_of table s).count * (column_of table s).width

module _ (size : ℕ) where
  -- the first column of a table in order, and the rest of it
  first : (k : Column) (ks : List Column) (from : ℕ) → in_order size from (k ∷ ks) ≡ true → from ≤ k.start
  first k ks from o = leb-true _ _ ((and-eq-true_iff (leb from k.start) (in_order size (past_of k) ks)).0 o).0

  rest : (k : Column) (ks : List Column) (from : ℕ) → in_order size from (k ∷ ks) ≡ true
      → in_order size (past_of k) ks ≡ true
  rest k ks from o = ((and-eq-true_iff (leb from k.start) (in_order size (past_of k) ks)).0 o).1

  -- every column of a table in order starts at or past `from`
  starts : (table : List Column) (from s : ℕ) → in_order size from table ≡ true → 0 < (column_of table s).count
      → from ≤ s
  starts [] from s o h = omega arith
  starts (k ∷ ks) from s o h = elim (ℕ_discrete k.start s) [
    | yes e ↦ omega (arith, first k ks from o)
    | no n ↦ omega (arith, first k ks from o, starts ks (past_of k) s (rest k ks from o) (rw (ne_eqb _ _ n) at h))
  ]

  -- of two columns the later starts at or past the end of the earlier
  later : (table : List Column) (from s t : ℕ) → in_order size from table ≡ true → s < t
      → 0 < (column_of table s).count → 0 < (column_of table t).count → end_of table s ≤ t
  later [] from s t o l hs ht = omega arith
  later (k ∷ ks) from s t o l hs ht =
      let r = rest k ks from o in
      elim (ℕ_discrete k.start s) [
        | yes e ↦ rw (eq-eqb _ _ e)
            (omega (arith, starts ks (past_of k) t r (rw (ne_eqb k.start t (omega arith)) at ht)))
        | no n ↦ elim (ℕ_discrete k.start t) [
          | yes i ↦ absurd (omega (arith, starts ks (past_of k) s r (rw (ne_eqb _ _ n) at hs)))
          | no m ↦ rw (ne_eqb _ _ n) (later ks (past_of k) s t r l (rw (ne_eqb _ _ n) at hs) (rw (ne_eqb _ _ m) at ht))
        ]
      ]

  -- every column ends within the size
  from_le : (table : List Column) (from : ℕ) → in_order size from table ≡ true → from ≤ size
  from_le [] from o = leb-true _ _ o
  from_le (k ∷ ks) from o = omega (arith, first k ks from o, from_le ks (past_of k) (rest k ks from o))

  ends : (table : List Column) (from s : ℕ) → in_order size from table ≡ true → 0 < (column_of table s).count
      → end_of table s ≤ size
  ends [] from s o h = omega arith
  ends (k ∷ ks) from s o h = elim (ℕ_discrete k.start s) [
    | yes e ↦ rw (eq-eqb _ _ e) (omega (arith, from_le ks (past_of k) (rest k ks from o)))
    | no n ↦ rw (ne_eqb _ _ n) (ends ks (past_of k) s (rest k ks from o) (rw (ne_eqb _ _ n) at h))
  ]

module _ (size : ℕ) (table : List Column) (o : in_order size 0 table ≡ true) where
  -- a field lies in its column
  within : (f : Field) → Has table f → first_byte table f + width table f ≤ end_of table f.column
  within f h =
      let k = column_of table f.column in
      omega (arith, step-le f.index k.count k.width h.index, times-is k.count k.width)

  -- a column that has a field has numbers
  some : (f : Field) → Has table f → 0 < (column_of table f.column).count
  some f h = omega (arith, h.index)

  -- two different fields of the table do not overlap
  pub apart : (f g : Field) → Has table f → Has table g → (f.column ≡ g.column → f.index ≡ g.index → ⊥)
      → first_byte table g < first_byte table f + width table f
      → first_byte table g + width table g ≤ first_byte table f
  apart f g hf hg n l = by-column (ℕ_discrete f.column g.column) (dec_lt f.column g.column)
    where
      in_row : f.column ≡ g.column → Dec (f.index ≡ g.index) → Dec (f.index < g.index)
          → first_byte table g + width table g ≤ first_byte table f
      in_row e (yes p) d = absurd (n e p)
      in_row e (no p) d =
          let w = width table f in
          let ew = ap (λ (s : ℕ). (column_of table s).width) e in
          let et = ap (λ (s : ℕ). times g.index (column_of table s).width) e in
          elim d as (λ (x : Dec (f.index < g.index)). first_byte table g + width table g ≤ first_byte table f) [
            | yes q ↦ absurd (omega (arith, step-le f.index g.index w q))
            | no q ↦ omega (arith, step-le g.index f.index w (omega arith))
          ]

      by-column : Dec (f.column ≡ g.column) → Dec (f.column < g.column)
          → first_byte table g + width table g ≤ first_byte table f
      by-column (yes e) d = in_row e (ℕ_discrete f.index g.index) (dec_lt f.index g.index)
      by-column (no p) (yes q) =
          absurd (omega (arith, within f hf, later size table 0 f.column g.column o q (some f hf) (some g hg)))
      by-column (no p) (no q) =
          omega (arith, within g hg, later size table 0 g.column f.column o (omega arith) (some g hg) (some f hf))

  -- a write leaves every other field
  pub view-other : (b : List ℕ) (f g : Field) (x : ℕ) → Has table f → Has table g
      → (f.column ≡ g.column → f.index ≡ g.index → ⊥)
      → view table (write table (f := x) b) g ≡ view table b g
  view-other b f g x hf hg n =
      get_le-other b (first_byte table f) (width table f) x (first_byte table g) (width table g) (apart f g hf hg n)

  -- a field holds what was written to it
  pub view-same : (b : List ℕ) (f : Field) (x : ℕ) → length b ≡ size → Has table f → x < 256 ^ width table f
      → view table (write table (f := x) b) f ≡ x
  view-same b f x e hf k =
      get_le-same b (first_byte table f) (width table f) x
      (omega (arith, within f hf, ends size table 0 f.column o (some f hf))) k

  -- the view of a write is the view with the field assigned
  pub view-write : (b : List ℕ) (f g : Field) (x : ℕ) → length b ≡ size → Has table f → Has table g
      → x < 256 ^ width table f
      → view table (write table (f := x) b) g ≡ assign (f := x) (view table b) g
  view-write b f g x e hf hg k = by (ℕ_discrete f.column g.column) (ℕ_discrete f.index g.index)
    where
      by : Dec (f.column ≡ g.column) → Dec (f.index ≡ g.index)
          → view table (write table (f := x) b) g ≡ assign (f := x) (view table b) g
      by (yes p) (yes q) =
          let same : f ≡ g = λ i. record { column = p i; index = q i } in
          rw (eq-eqb _ _ p, eq-eqb _ _ q, ← same) (view-same b f x e hf k)
      by (yes p) (no q) = rw (eq-eqb _ _ p, ne_eqb _ _ q) (view-other b f g x hf hg (λ _. q))
      by (no p) d = rw (ne_eqb _ _ p) (view-other b f g x hf hg (λ h _. p h))

  -- the view of a run of writes is the view with their fields assigned
  pub view-written : (ws : List Write) (b : List ℕ) (g : Field) → length b ≡ size → Sound table ws → Has table g
      → view table (written table ws b) g ≡ assigned ws (view table b) g
  view-written [] b g e s hg = refl
  view-written ((f := x) ∷ ws) b g e s hg =
      view-written ws (write table (f := x) b) g (length-set_le b (first_byte table f) (width table f) x ∙ e) s.1 hg
      ∙ assigned-same ws (view table (write table (f := x) b)) (assign (f := x) (view table b)) g
      (view-write b f g x e s.0.0 hg s.0.1)

-- writes keep the memory's length
pub length-written : (table : List Column) (ws : List Write) (b : List ℕ) → length (written table ws b) ≡ length b
length-written table [] b = refl
length-written table ((f := x) ∷ ws) b =
    length-written table ws (write table (f := x) b) ∙ length-set_le b (first_byte table f) (width table f) x

-- writes leave a memory of bytes
pub bytes-written : (table : List Column) (ws : List Write) (b : List ℕ) → Bytes b → Bytes (written table ws b)
bytes-written table [] b h = h
bytes-written table ((f := x) ∷ ws) b h =
    bytes-written table ws (write table (f := x) b) (bytes-set_le b (first_byte table f) (width table f) x h)
