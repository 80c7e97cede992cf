-- The law of the factors: a test of the units of a region, which antt computes for each class.
use mathlib.Core.Path.{◌≡◌, refl, sym, ◌∙◌, subst⁻¹}
use mathlib.Core.Bool.{Bool, true, false, not, ◌&&◌}
use Prim.Native.Nat.{ℕ, ◌*◌, ◌%◌, ◌<◌}
use native.Mathlib.Omega.{arith}
use native.Mathlib.Nat.{mul-le-mul_left}
use mathlib.Core.List.{List}
use lib.Dec.{T, ltb, ltb→lt}
use lib.ListN.{get_or}
use Rattle.limits.specs.Limits.{REGION_UNITS, CLASSES}
use Rattle.classes.specs.Geometry.{is_first}
use Rattle.classes.specs.Factors.{PRODUCT_MODULUS, FIRST_PRODUCTS, Factor}
use Rattle.classes.proofs.Below.{all, at, both}

-- two tests answer the same
abbrev alike : Bool → Bool → Bool
alike true b = b
alike false b = not b

same : (a b : Bool) → T (alike a b) → a ≡ b
same true true t = refl
same true false t = absurd t
same false true t = absurd t
same false false t = refl

-- the product tells whether unit o is a first one
abbrev tells : ℕ → ℕ → ℕ → Bool
tells c f o = alike (ltb (o * f % PRODUCT_MODULUS) FIRST_PRODUCTS) (is_first c o)

-- a number below 2^32 that tells it at each of the units of a region is a factor
pub is-factor : (c f : ℕ) → T (ltb f PRODUCT_MODULUS) → T (all (tells c f) REGION_UNITS) → Factor c f
is-factor c f l t = record {
  below = ltb→lt f PRODUCT_MODULUS l;
  tells = λ o h. same (ltb (o * f % PRODUCT_MODULUS) FIRST_PRODUCTS) (is_first c o) (at (tells c f) REGION_UNITS t o h);
}

-- the factor of class k is that of every class that is k
pub factor-at : (c k : ℕ) {f : ℕ} → Factor k f → c ≡ k → Factor c f
factor-at c k {f} h e = subst⁻¹ (λ (n : ℕ). Factor n f) e h

-- the test of an entry of the row of factors
abbrev passes : List ℕ → ℕ → Bool
passes fs c = ltb (get_or fs c 0) PRODUCT_MODULUS && all (tells c (get_or fs c 0)) REGION_UNITS

-- a row whose entries all pass their test has, at an index c that is the class d, a factor of d
pub factor-in : (fs : List ℕ) → T (all (passes fs) CLASSES) → (c d : ℕ) → c < CLASSES → c ≡ d
    → Factor d (get_or fs c 0)
factor-in fs t c d h e =
    let p = both (ltb (get_or fs c 0) PRODUCT_MODULUS) (all (tells c (get_or fs c 0)) REGION_UNITS)
    (at (passes fs) CLASSES t c h) in
    factor-at d c (is-factor c (get_or fs c 0) p.0 p.1) (sym e)

-- the first units are the same in each region
pub told : (c f u : ℕ) → Factor c f → ltb (u % REGION_UNITS * f % PRODUCT_MODULUS) FIRST_PRODUCTS ≡ is_first c u
unfolding is_first
told c f u h =
    h.tells (u % REGION_UNITS) (omega arith)
    ∙ (let e : u % REGION_UNITS % REGION_UNITS ≡ u % REGION_UNITS = omega arith in rw e refl)

-- the product of a unit's offset and a factor fits in a word
pub small : (c f u : ℕ) → Factor c f → u % REGION_UNITS * f < REGION_UNITS * PRODUCT_MODULUS
small c f u h = omega (arith, mul-le-mul_left (u % REGION_UNITS) h.below)
