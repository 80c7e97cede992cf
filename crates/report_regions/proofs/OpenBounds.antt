-- What is told of a region: its class is one of the classes, and its chain has at most as many blocks as a region.
use mathlib.Core.Path.{◌≡◌, refl, subst}
use mathlib.Core.Bool.{Bool, true, false, cond}
use Prim.Native.Nat.{ℕ, ◌-◌, ◌≤◌, ◌<◌}
use native.Mathlib.Omega.{arith}
use lib.Dec.{ltb, leb, eqb}
use borrow.Author.Tests.{ltb-true, leb-true}
use Rattle.limits.specs.Limits.{CLASSES, DESCRIPTORS, MOST_BLOCKS}
use Rattle.words.specs.Anchor.{EMPTY, anchor_of}
use Rattle.fields.specs.Columns.{View}
use Rattle.classes.specs.Classes.{per_region}
use Rattle.classes.proofs.Tables.{per_region-high}
use Rattle.control.specs.Layout.{Anchor, DescriptorRegion, DescriptorClass, Map}
use Rattle.stepped.specs.Ranges.{is_anchor}
use Rattle.report_regions.specs.Opened.{Opened}
use Rattle.report_regions.specs.Opened.{Closed, Open, Outside}
use Rattle.report_regions.specs.Opened.{open_as, open_by, opened_of}
use Rattle.report_regions.specs.OpenClasses.{chain_in, open_chain}

-- the class that is told is one of the classes
abbrev InClasses : Opened → Type 0
InClasses Closed = Unit {0}
InClasses (Open c k) = c < CLASSES
InClasses Outside = Unit {0}

-- what is told has such a class, and a chain of at most so many blocks
record Short (o : Opened) : Type 0 where
  class : InClasses o
  most : chain_in o ≤ MOST_BLOCKS

-- what is chosen by a test is such where each of the two is
by-test : (b : Bool) {x y : Opened} → (b ≡ true → Short x) → Short y → Short (cond b x y)
by-test true f g = f refl
by-test false f g = g

none : Short Closed
none = record { class = tt; most = omega arith }

out : Short Outside
out = record { class = tt; most = omega arith }

module _ (v : View) (regions r : ℕ) where
  as_short : (d k : ℕ) → Short (open_as v d k)
  unfolding open_as
  as_short d k =
      let c = v (DescriptorClass d) in
      by-test (ltb c CLASSES)
      (λ l. by-test (leb k (per_region c)) (λ h. record {
        class = ltb-true c CLASSES l;
        most = omega (arith, leb-true k (per_region c) h, per_region-high c);
      }) out) out

  by-short : (d : ℕ) → Short (open_by v regions r d)
  unfolding open_by
  by-short d =
      let a = anchor_of (v (Anchor d)) in
      by-test (ltb (v (DescriptorRegion d)) regions)
      (λ l. by-test (eqb (v (DescriptorRegion d)) r)
      (λ e. by-test (is_anchor (v (Anchor d)))
      (λ i. by-test (eqb a.state EMPTY) (λ z. none) (as_short d a.count)) out) none) out

  of-short : Short (opened_of v regions r)
  unfolding opened_of
  of-short =
      let entry = v (Map r) in
      by-test (eqb entry 0) (λ e. none) (by-test (leb entry DESCRIPTORS) (λ l. by-short (entry - 1)) out)

  -- whatever the memory holds
  pub chain-most : open_chain v regions r ≤ MOST_BLOCKS
  unfolding open_chain
  chain-most = of-short.most

  pub class-below : (c k : ℕ) → opened_of v regions r ≡ Open c k → c < CLASSES
  class-below c k e = subst InClasses e of-short.class
