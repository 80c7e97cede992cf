-- What a request has of one region, test by test.
use mathlib.Core.Path.{◌≡◌, sym, ap, ◌∙◌}
use mathlib.Core.Logic.{◌≢◌}
use mathlib.Core.Bool.{Bool, true, false, true≢false}
use Prim.Native.Nat.{ℕ, zero, suc, ◌+◌}
use native.Mathlib.Omega.{arith}
use borrow.Author.Tests.{eq-eqb, ne_eqb, le-leb}
use lib.Dec.{leb, eqb}
use Rattle.std.specs.Prelude.{Ok, Some}
use Rattle.limits.specs.Limits.{UNITS}
use Rattle.rows.specs.Comparisons.{same, other, same?}
use Rattle.rows.specs.Weights.{when, one}
use Rattle.rows.proofs.Weights.{when-same, when-other}
use Rattle.classes.specs.Geometry.{region_of}
use Rattle.report_requests.specs.declared.RequestBlocks.{RequestBlocks}
use Rattle.report_requests.specs.UnderWay.{own_in, in_request}

-- ---- the blocks that were found

-- blocks of another region
pub row-elsewhere : (r z k : ℕ) → z ≢ r → leb 1 (when r z k) ≡ false
row-elsewhere r z k d = ap (leb 1) (when-other r z k (λ e. d (sym e)))

-- blocks of the region
pub row-there : (r z k : ℕ) → z ≡ r → leb 1 (when r z k) ≡ leb 1 k
row-there r z k e = rw e (ap (leb 1) (when-same r k))

-- the region z of a unit is k, which is r, or another
pub region-tells : (r u : ℕ) {z k : ℕ} → z ≡ region_of u → k ≡ r → eqb z k ≡ leb 1 (one r (region_of u))
region-tells r u {z} f e = elim (same? z r) [
  | same d ↦ rw (e, eq-eqb z r d, ← f, d, when-same r 1)
  | other d ↦ rw (e, ne_eqb z r d, ← f, when-other r z 1 (λ e. d (sym e)))
]

-- the block being freed, of the region z, is of the region k, which is r, or of another
pub own-tells : (r u : ℕ) {z k : ℕ} → u ≢ UNITS → z ≡ region_of u → k ≡ r
    → eqb z k ≡ leb 1 (own_in r (Some u))
own-tells r u n f e = rw (ne_eqb u UNITS n) (region-tells r u f e)

-- none of them is of the class
pub blocks-other : (c r : ℕ) (q : RequestBlocks) → c ≢ q.class → leb 1 (in_request c r (Ok q)) ≡ false
unfolding in_request
blocks-other c r q d = rw (when-other c q.class (when r q.region q.blocks + own_in r q.own) d)

-- one of two numbers is not 0
first_some : (x y : ℕ) → leb 1 x ≡ true → leb 1 (x + y) ≡ true
first_some zero y e = absurd (true≢false (sym e))
first_some (suc x) y e = le-leb 1 (suc x + y) (omega arith)

-- the first is 0
second-tells : (x y : ℕ) → leb 1 x ≡ false → leb 1 (x + y) ≡ leb 1 y
second-tells zero y e =
    let z : 0 + y ≡ y = omega arith in
    rw z
second-tells (suc x) y e = absurd (true≢false (sym (le-leb 1 (suc x) (omega arith)) ∙ e))

module _ (c r : ℕ) (q : RequestBlocks) (e : c ≡ q.class) where
  -- they are of the class
  counted : leb 1 (in_request c r (Ok q)) ≡ leb 1 (when r q.region q.blocks + own_in r q.own)
  unfolding in_request
  counted =
      rw e (ap (leb 1) (when-same q.class (when r q.region q.blocks + own_in r q.own)))

  -- some are of the region,
  pub blocks-row : leb 1 (when r q.region q.blocks) ≡ true → true ≡ leb 1 (in_request c r (Ok q))
  blocks-row h = sym (counted ∙ first_some (when r q.region q.blocks) (own_in r q.own) h)

  -- and else the block being freed tells
  pub blocks-own : {b : Bool} → leb 1 (when r q.region q.blocks) ≡ false → b ≡ leb 1 (own_in r q.own)
      → b ≡ leb 1 (in_request c r (Ok q))
  blocks-own h f = f ∙ sym (counted ∙ second-tells (when r q.region q.blocks) (own_in r q.own) h)
