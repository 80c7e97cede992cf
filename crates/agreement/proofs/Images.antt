-- What stands in the fields after a start.
use mathlib.Core.Path.{◌≡◌, refl, ap, ◌∙◌}
use mathlib.Core.Bool.{false}
use mathlib.Core.List.{List, [], ◌∷◌, ◌++◌}
use Prim.Native.Nat.{ℕ, zero, suc, ◌^◌, ◌≤◌, ◌<◌}
use native.Mathlib.Omega.{arith}
use native.Mathlib.Decide.{ℕ_discrete}
use borrow.Author.Tests.{eq-eqb, ne_eqb}
use lib.Dec.{eqb}
use lib.ListN.{get_or, replicate}
use Rattle.fields.specs.Little.{get_le}
use Rattle.fields.specs.Columns.{Column, Field, View, Write, ◌:=◌, assign, assigned, width, Has, Sound}
use Rattle.control.specs.Layout.{layout, field_of}
use Rattle.stepped.specs.Start.{fill}

-- ---- zeros

pub zeros : (n i : ℕ) → ◌≡◌ {A = ℕ} (get_or (replicate n 0) i 0) 0
zeros zero i = refl
zeros (suc n) zero = refl
zeros (suc n) (suc i) = zeros n i

pub get_le-zeros : (n at w : ℕ) → get_le (replicate n 0) at w ≡ 0
unfolding get_le
get_le-zeros n at zero = refl
get_le-zeros n at (suc w) = rw (zeros n at, get_le-zeros n (suc at) w)

-- ---- a run of writes

-- writes after writes
pub assigned-append : (ws us : List Write) (v : View) (g : Field)
    → assigned (ws ++ us) v g ≡ assigned us (assigned ws v) g
assigned-append [] us v g = refl
assigned-append (w ∷ ws) us v g = assigned-append ws us (assign w v) g

-- where the first n fields of a column are filled, those past them are left
pub past-fill : (k : Column) (x : ℕ → ℕ) (n : ℕ) (v : View) (j : ℕ) → n ≤ j
    → assigned (fill (field_of k) x n) v (field_of k j) ≡ v (field_of k j)
past-fill k x zero v j l = refl
past-fill k x (suc n) v j l =
    past-fill k x n (assign (field_of k n := x n) v) j (omega arith)
    ∙ rw (eq-eqb k.start k.start refl, ne_eqb n j (omega arith))

-- where the first n fields of a column are filled, each of them has its value
pub filled : (k : Column) (x : ℕ → ℕ) (n : ℕ) (v : View) (j : ℕ) → j < n
    → assigned (fill (field_of k) x n) v (field_of k j) ≡ x j
filled k x zero v j l = absurd (omega arith)
filled k x (suc n) v j l = elim (ℕ_discrete n j) [
  | yes e ↦ past-fill k x n (assign (field_of k n := x n) v) j (omega arith)
      ∙ rw (eq-eqb k.start k.start refl, eq-eqb n j e) (ap x e)
  | no e ↦ filled k x n (assign (field_of k n := x n) v) j (omega arith)
]

-- where fields of a column are filled, the other columns are left
pub other-fill : (k : Column) (x : ℕ → ℕ) (n : ℕ) (v : View) (e : Column) (j : ℕ) → eqb k.start e.start ≡ false
    → assigned (fill (field_of k) x n) v (field_of e j) ≡ v (field_of e j)
other-fill k x zero v e j h = refl
other-fill k x (suc n) v e j h = other-fill k x n (assign (field_of k n := x n) v) e j h ∙ rw h

-- a filled column fits, if each value does
pub fill-sound : (k : Column) (x : ℕ → ℕ) (n most bound : ℕ)
    → ((i x : ℕ) → i < most → x < bound → Has layout (field_of k i) × (x < 256 ^ width layout (field_of k i)))
    → ((i : ℕ) → i < n → x i < bound) → n ≤ most → Sound layout (fill (field_of k) x n)
fill-sound k x zero most bound h f l = tt
fill-sound k x (suc n) most bound h f l = (
  h n (x n) (omega arith) (f n (omega arith)),
  fill-sound k x n most bound h (λ i j. f i (omega arith))
      (omega arith),
)

-- writes that fit, after writes that fit
pub append-sound : (ws us : List Write) → Sound layout ws → Sound layout us → Sound layout (ws ++ us)
append-sound [] us p q = q
append-sound ((f := x) ∷ ws) us p q = (p.0, append-sound ws us p.1 q)
