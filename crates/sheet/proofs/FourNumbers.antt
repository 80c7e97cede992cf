-- The four numbers of a class and region, put where they begin; and four zeros.
use mathlib.Core.Path.{◌≡◌, refl}
use mathlib.Core.Bool.{Bool, true, false, cond}
use mathlib.Core.List.{List}
use lib.Dec.{ltb, eqb}
use Prim.Native.Nat.{ℕ, zero, suc, ◌+◌, ◌≤◌, ◌<◌}
use native.Mathlib.Omega.{arith}
use borrow.Rule.Slice.PartMut.{put_mid}
use lib.ListN.{length, get_or, length-append, length-take, length-drop}
use Rattle.std.proofs.Common.{rules}
use Rattle.std.proofs.lemmas.List.{places}
use Rattle.report_marks.specs.InHand.{blocks_in_hand}
use Rattle.report_regions.specs.Opened.{Opened, Closed, Open, Outside, opened_of}
use Rattle.sheet.specs.Sheet.{COLUMNS, four_zeros, four_by, four_with}
use Rattle.fields.specs.Columns.{View}

-- a choice of four numbers and four others
cond-long : (b : Bool) (x y : List ℕ) → length x ≡ COLUMNS → length y ≡ COLUMNS → length (cond b x y) ≡ COLUMNS
cond-long true x y e f = e
cond-long false x y e f = f

-- a class and region have four numbers
pub four-long : (v : View) (regions caches requests c r : ℕ)
    → length (four_with v regions caches requests c r) ≡ COLUMNS
unfolding four_with
four-long v regions caches requests c r = cond-long (ltb r regions) _ _ (read (opened_of v regions r)) refl
  where
    read : (o : Opened) → length (four_by (blocks_in_hand v r c) caches requests c o) ≡ COLUMNS
    read Closed = refl
    read (Open d k) = cond-long (eqb d c) _ _ refl refl
    read Outside = refl

module _ (ns four : List ℕ) (at k : ℕ) (there : at + k ≤ length ns) (four_are : length four ≡ k) where
  -- the list has as many numbers as before
  pub four-length : length (put_mid at k ns four) ≡ length ns
  four-length = simp (length-append, length-take, length-drop) (omega arith)

  -- every other number is as it was
  pub four-elsewhere : (i : ℕ) → (at ≤ i → at + k ≤ i) → get_or (put_mid at k ns four) i 0 ≡ get_or ns i 0
  four-elsewhere i h = search (rules, places)

  -- the four stand one behind the other
  pub four-there : (j : ℕ) → j < k → get_or (put_mid at k ns four) (at + j) 0 ≡ get_or four j 0
  four-there j h = search (rules, places)

-- each of four zeros
pub zero-there : (j : ℕ) → get_or four_zeros j 0 ≡ 0
zero-there zero = refl
zero-there (suc zero) = refl
zero-there (suc (suc zero)) = refl
zero-there (suc (suc (suc zero))) = refl
zero-there (suc (suc (suc (suc j)))) = refl
