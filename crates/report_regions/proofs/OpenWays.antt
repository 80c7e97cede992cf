-- One law for each way out of the tests of a region.
use mathlib.Core.Path.{◌≡◌}
use mathlib.Core.Logic.{◌≢◌}
use mathlib.Core.Bool.{true, false, false≢true}
use Prim.Native.Nat.{ℕ, ◌-◌, ◌≤◌, ◌<◌}
use native.Mathlib.Omega.{arith}
use borrow.Author.Tests.{lt-ltb, le-ltb, le-leb, lt-leb, eq-eqb, ne_eqb}
use lib.Dec.{leb}
use Rattle.std.specs.Prelude.{Ok, Err}
use Rattle.std.specs.Result.{IsErr}
use Rattle.std.specs.declared.option.Option.{Option}
use Rattle.std.specs.declared.result.Result.{Result}
use Rattle.limits.specs.Limits.{CLASSES, DESCRIPTORS}
use Rattle.limits.specs.declared.index.OutOfRange.{OutOfRange}
use Rattle.words.specs.Anchor.{EMPTY, anchor_of}
use Rattle.fields.specs.Columns.{View}
use Rattle.classes.specs.Classes.{per_region}
use Rattle.control.specs.Layout.{Anchor, DescriptorRegion, DescriptorClass, Map}
use Rattle.stepped.specs.Ranges.{is_anchor}
use Rattle.report_regions.specs.declared.OpenRegion.{OpenRegion}
use Rattle.report_regions.specs.Opened.{Opened, Closed, Open, Outside, opened_in, open_as, open_by, opened_of}

-- an error tells that a value is out of its range
pub told-outside : (r : Result (Option OpenRegion) OutOfRange) {o : Opened} → IsErr r → Outside ≡ o → opened_in r ≡ o
told-outside (Err d) i e = e
told-outside (Ok x) i e = absurd (false≢true i)

module _ (v : View) (d k : ℕ) {c : ℕ} (class : c ≡ v (DescriptorClass d)) where
  -- the class is past the table
  pub no-class : CLASSES ≤ c → Outside ≡ open_as v d k
  unfolding open_as
  no-class h = rw (le-ltb (v (DescriptorClass d)) CLASSES (omega arith))

  -- the chain has more blocks than n
  pub past-n : c < CLASSES → leb k (per_region c) ≡ false → Outside ≡ open_as v d k
  unfolding open_as
  past-n h l = rw (← class, lt-ltb c CLASSES h, l)

  -- class and chain are in range
  pub is-chain : c < CLASSES → leb k (per_region c) ≡ true → Open c k ≡ open_as v d k
  unfolding open_as
  is-chain h l = rw (← class, lt-ltb c CLASSES h, l)

module _ (v : View) (regions r d : ℕ) {x : ℕ} (region : x ≡ v (DescriptorRegion d)) where
  -- the descriptor's region is past the area
  pub outside : regions ≤ x → Outside ≡ open_by v regions r d
  unfolding open_by
  outside h = rw (← region, le-ltb x regions h)

  -- the descriptor names another region
  pub other-region : x < regions → x ≢ r → Closed ≡ open_by v regions r d
  unfolding open_by
  other-region h n = rw (← region, lt-ltb x regions h, ne_eqb x r n)

  module _ (h : x < regions) (e : x ≡ r) {w : ℕ} (word : w ≡ v (Anchor d)) where
    -- the anchor's word is out of its range
    pub no-anchor : is_anchor w ≡ false → Outside ≡ open_by v regions r d
    unfolding open_by
    no-anchor b = rw (← region, ← word, lt-ltb x regions h, eq-eqb x r e, b)

    -- the anchor is EMPTY
    pub is-empty : is_anchor w ≡ true → (anchor_of w).state ≡ EMPTY → Closed ≡ open_by v regions r d
    unfolding open_by
    is-empty b z = rw (← region, ← word, lt-ltb x regions h, eq-eqb x r e, b, eq-eqb (anchor_of w).state EMPTY z)

    -- the anchor is in range and not EMPTY
    pub is_open : is_anchor w ≡ true → (anchor_of w).state ≢ EMPTY
        → open_as v d (anchor_of w).count ≡ open_by v regions r d
    unfolding open_by
    is_open b z = rw (← region, ← word, lt-ltb x regions h, eq-eqb x r e, b, ne_eqb (anchor_of w).state EMPTY z)

module _ (v : View) (regions r : ℕ) {x : ℕ} (entry : x ≡ v (Map r)) where
  -- the map names no descriptor
  pub no-entry : x ≡ 0 → Closed ≡ opened_of v regions r
  unfolding opened_of
  no-entry z = rw (← entry, eq-eqb x 0 z)

  -- the map names one past the last
  pub bad-entry : DESCRIPTORS < x → Outside ≡ opened_of v regions r
  unfolding opened_of
  bad-entry h = rw (← entry, ne_eqb x 0 (omega arith), lt-leb x DESCRIPTORS h)

  -- the map names a descriptor
  pub by-entry : x ≢ 0 → x ≤ DESCRIPTORS → open_by v regions r (x - 1) ≡ opened_of v regions r
  unfolding opened_of
  by-entry n h = rw (← entry, ne_eqb x 0 n, le-leb x DESCRIPTORS h)
