-- The numbers of a class and region, one law for each way out.
use mathlib.Core.Path.{◌≡◌, refl, ◌∙◌}
use mathlib.Core.Logic.{◌≢◌}
use mathlib.Core.Bool.{true}
use mathlib.Core.List.{List, [], ◌∷◌}
use Prim.Native.Nat.{ℕ, ◌≤◌, ◌<◌}
use borrow.Author.Tests.{lt-ltb, le-ltb, eq-eqb, ne_eqb}
use Rattle.std.specs.Prelude.{Ok, Err}
use Rattle.limits.specs.declared.index.OutOfRange.{OutOfRange}
use Rattle.fields.specs.Columns.{View}
use Rattle.report_marks.specs.InHand.{blocks_in_hand}
use Rattle.report_regions.specs.Opened.{Opened, Closed, Open, Outside, opened_of, is_inside}
use Rattle.sheet.specs.Sheet.{four_zeros, four_by, four_with}
use Rattle.sheet.specs.Filling.{region_fits, FourAre}

module _ (v : View) (regions caches requests c r : ℕ) where
  -- a region that is not in the area
  pub four-beyond : regions ≤ r → FourAre v regions caches requests c r (Ok four_zeros)
  unfolding region_fits four_with
  four-beyond l =
      record { passed = rw (le-ltb r regions l); failed = tt; numbers = rw (le-ltb r regions l) }

  module _ (l : r < regions) where
    -- by what is read of a region of the area
    four-read : (o : Opened) → o ≡ opened_of v regions r → is_inside o ≡ true → {x : List ℕ}
        → x ≡ four_by (blocks_in_hand v r c) caches requests c o → FourAre v regions caches requests c r (Ok x)
    unfolding region_fits four_with
    four-read o e i n = record {
      passed = rw (lt-ltb r regions l, ← e) i;
      failed = tt;
      numbers = n ∙ rw (lt-ltb r regions l, ← e);
    }

    -- it is not open
    pub four-closed : Closed ≡ opened_of v regions r → FourAre v regions caches requests c r (Ok four_zeros)
    four-closed o = four-read Closed o refl refl

    -- it is open in another class
    pub four-other : {d k : ℕ} → Open d k ≡ opened_of v regions r → d ≢ c
        → FourAre v regions caches requests c r (Ok four_zeros)
    four-other {d} {k} o n = four-read (Open d k) o refl (rw (ne_eqb d c n))

    -- it is open in the class
    pub four-open : {d k : ℕ} → Open d k ≡ opened_of v regions r → d ≡ c → {hand : ℕ} → hand ≡ blocks_in_hand v r c
        → FourAre v regions caches requests c r (Ok (hand ∷ caches ∷ requests ∷ k ∷ []))
    four-open {d} {k} o n e = four-read (Open d k) o refl (rw (e, eq-eqb d c n))

    -- a value is out of its range
    pub four-outside : (e : OutOfRange) → Outside ≡ opened_of v regions r
        → FourAre v regions caches requests c r (Err e)
    unfolding region_fits
    four-outside e o = record { passed = tt; failed = rw (lt-ltb r regions l, ← o); numbers = tt }
