-- What a test that passed tells of the value.
use mathlib.Core.Path.{◌≡◌, sym, ap, ◌∙◌}
use mathlib.Core.Bool.{Bool, true, false, not, ◌&&◌}
use mathlib.Core.Logic.{◌⊎◌, inl, inr}
use Prim.Native.Nat.{ℕ, ◌+◌, ◌*◌, ◌≤◌, ◌<◌}
use native.Mathlib.Omega.{arith}
use native.Mathlib.Decide.{dec_lt}
use borrow.Author.Tests.{ltb-true, leb-true, eqb-true, not-true, not-false}
use lib.Dec.{ltb, leb, eqb}
use Rattle.limits.specs.Limits.{REGION_UNITS, UNITS, MOST_BLOCKS}
use Rattle.words.specs.Anchor.{PARTIAL, FULL, is_state, anchor_of}
use Rattle.classes.specs.Geometry.{region_of, is_first}
use Rattle.stepped.specs.Ranges.{one_to, is_block, is_top, is_anchor, has_chain, has_first, has_room}
use Rattle.stepped.proofs.Conjunction.{both}
use Rattle.ranges.proofs.RangeTests.{top-of-none, top-of-some}

-- ---- a function's answer b, tested as `!b`

pub failed : {b t : Bool} → b ≡ t → not b ≡ true → t ≡ false
failed {b} e h = sym e ∙ not-true b h

pub passed : {b t : Bool} → b ≡ t → not b ≡ false → t ≡ true
passed {b} e h = sym e ∙ not-false b h

-- ---- an answer b, tested as it is

pub shown-at : (test : ℕ → Bool) {x y : ℕ} {b s : Bool} → x ≡ y → b ≡ test x → b ≡ s → test y ≡ s
shown-at test e d h = ap test (sym e) ∙ sym d ∙ h

-- ---- an answer b, tested as `!b`, where the value x that was tested is the field's, y

pub failed-at : (test : ℕ → Bool) {x y : ℕ} {b : Bool} → x ≡ y → b ≡ test x → not b ≡ true → test y ≡ false
failed-at test e d h = ap test (sym e) ∙ failed d h

pub passed-at : (test : ℕ → Bool) {x y : ℕ} {b : Bool} → x ≡ y → b ≡ test x → not b ≡ false → test y ≡ true
passed-at test e d h = ap test (sym e) ∙ passed d h

-- the value x, tested for n, is the field's, y, and n is the class's, m
pub failed-for : (test : ℕ → ℕ → Bool) {n m x y : ℕ} {b : Bool} → n ≡ m → x ≡ y → b ≡ test n x → not b ≡ true
    → test m y ≡ false
failed-for test {n} {m} {x} {y} f e d h = ap (λ k. test k y) (sym f) ∙ failed-at (test n) e d h

pub passed-for : (test : ℕ → ℕ → Bool) {n m x y : ℕ} {b : Bool} → n ≡ m → x ≡ y → b ≡ test n x → not b ≡ false
    → test m y ≡ true
passed-for test {n} {m} {x} {y} f e d h = ap (λ k. test k y) (sym f) ∙ passed-at (test n) e d h

-- the top x of k cached blocks that was tested is the field's, y, and k is the field's, m
pub failed-top : (regions c k m x y : ℕ) {b : Bool} → k ≡ m → x ≡ y → b ≡ is_top regions c k x → not b ≡ true
    → is_top regions c m y ≡ false
failed-top regions c k m x y f e d h = failed-for (is_top regions c) f e d h

pub passed-top : (regions c k m x y : ℕ) {b : Bool} → k ≡ m → x ≡ y → b ≡ is_top regions c k x → not b ≡ false
    → is_top regions c m y ≡ true
passed-top regions c k m x y f e d h = passed-for (is_top regions c) f e d h

-- ---- the tests

-- a block's first unit lies in the area, with its link
pub block-passed : (regions c u : ℕ) → is_block regions c u ≡ true → u < REGION_UNITS * regions
block-passed regions c u e =
    omega (arith, ltb-true (region_of u) regions (both (ltb (region_of u) regions) (is_first c u) e).0)

-- a cache's top is a unit of the area, or 8,192
pub top-passed : (regions c k u : ℕ) → is_top regions c k u ≡ true → (u ≡ UNITS) ⊎ (u < REGION_UNITS * regions)
top-passed regions c k u e = elim (dec_lt 0 k) [
  | yes h ↦ inr (block-passed regions c u (top-of-some regions c k u (λ z. omega arith) ∙ e))
  | no h ↦ inl (eqb-true u UNITS (top-of-none regions c k u (omega arith) ∙ e))
]

-- the parts of an anchor are as small as those of any class
pub record Small (w : ℕ) : Type 0 where
  pub state : (anchor_of w).state ≤ FULL
  pub avail : (anchor_of w).avail ≤ MOST_BLOCKS
  pub count : (anchor_of w).count ≤ MOST_BLOCKS

pub anchor-passed : (w : ℕ) → is_anchor w ≡ true → Small w
anchor-passed w e =
    let p = both (is_state (anchor_of w).state && leb (anchor_of w).avail MOST_BLOCKS)
    (leb (anchor_of w).count MOST_BLOCKS) e in
    let q = both (is_state (anchor_of w).state) (leb (anchor_of w).avail MOST_BLOCKS) p.0 in
    record {
      state = leb-true (anchor_of w).state FULL q.0;
      avail = leb-true (anchor_of w).avail MOST_BLOCKS q.1;
      count = leb-true (anchor_of w).count MOST_BLOCKS p.1;
    }

-- a chain that can be taken
pub record Chain (n w : ℕ) : Type 0 where
  pub state : (anchor_of w).state ≡ PARTIAL
  pub some : 1 ≤ (anchor_of w).count
  pub most : (anchor_of w).count ≤ n
  pub first : (anchor_of w).avail < n

pub chain-passed : (n w : ℕ) → has_chain n w ≡ true → Chain n w
chain-passed n w e =
    let p = both (eqb (anchor_of w).state PARTIAL && one_to n (anchor_of w).count) (ltb (anchor_of w).avail n) e in
    let q = both (eqb (anchor_of w).state PARTIAL) (one_to n (anchor_of w).count) p.0 in
    let k = both (leb 1 (anchor_of w).count) (leb (anchor_of w).count n) q.1 in
    record {
      state = eqb-true (anchor_of w).state PARTIAL q.0;
      some = leb-true 1 (anchor_of w).count k.0;
      most = leb-true (anchor_of w).count n k.1;
      first = ltb-true (anchor_of w).avail n p.1;
    }

-- a group that can be put before the chain
pub room-passed : (n g w : ℕ) → has_room n g w ≡ true → (anchor_of w).count + g ≤ n
room-passed n g w e =
    leb-true ((anchor_of w).count + g) n (both (has_first n w) (leb ((anchor_of w).count + g) n) e).1
