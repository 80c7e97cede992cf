-- The lowest block of a region in a cache that is in its range: what is left of the row gives the whole's.
use mathlib.Core.Path.{◌≡◌, refl, sym, ap, subst, ◌∙◌}
use mathlib.Core.Logic.{◌≢◌}
use mathlib.Core.Bool.{true, ◌&&◌}
use mathlib.Core.List.{List, [], ◌∷◌}
use Prim.Native.Nat.{ℕ, zero, suc, ◌*◌, ◌≤◌, ◌<◌}
use native.Mathlib.Omega.{arith}
use borrow.Author.Tests.{eq-eqb, ne_eqb, lt-ltb, le-ltb}
use lib.Dec.{leb}
use Rattle.std.specs.Prelude.{None, Some, unwrap_or, IfSome, IfNone}
use Rattle.std.specs.declared.option.Option.{Option}
use Rattle.limits.specs.Limits.{UNITS, REGION_UNITS}
use Rattle.rows.specs.Comparisons.{same, other, same?, before, after, order?}
use Rattle.rows.specs.Counting.{count}
use Rattle.rows.proofs.Counting.{count-first}
use Rattle.rows.proofs.Weights.{when-other}
use Rattle.fields.specs.Columns.{View}
use Rattle.classes.specs.Classes.{per_region}
use Rattle.classes.specs.Geometry.{region_of}
use Rattle.control.specs.Layout.{CacheTop, CacheCount}
use Rattle.stepped.specs.Ranges.{is_block}
use Rattle.stepped.proofs.Conjunction.{both}
use Rattle.ranges.proofs.Passed.{block-passed}
use Rattle.report_caches.specs.CacheRows.{is_cache_row, row_from, is_cache, lower_of, lowest_in, lowest_cached}

-- ---- the lower of two

-- a block of another region is not named
pub lower-elsewhere : (r u low : ℕ) → region_of u ≢ r → lower_of r u low ≡ low
unfolding lower_of
lower-elsewhere r u low d = rw (ne_eqb (region_of u) r d)

-- a block of the region that is lower is named,
pub lower-there : (r u low : ℕ) → region_of u ≡ r → u < low → lower_of r u low ≡ u
unfolding lower_of
lower-there r u low e l = rw (eq-eqb (region_of u) r e, lt-ltb u low l)

-- and one that is not lower is not
pub lower-behind : (r u low : ℕ) → region_of u ≡ r → low ≤ u → lower_of r u low ≡ low
unfolding lower_of
lower-behind r u low e l = rw (eq-eqb (region_of u) r e, le-ltb u low l)

-- what is named is not above `low`
pub lower-most : (r u low : ℕ) → lower_of r u low ≤ low
lower-most r u low = elim (same? (region_of u) r) [
  | same e ↦ elim (order? u low) [
    | before l ↦ omega (arith, lower-there r u low e l)
    | after l ↦ omega (arith, lower-behind r u low e l)
  ]
  | other d ↦ omega (arith, lower-elsewhere r u low d)
]

-- ---- the walk

-- Of the cache of the task t for the class c, `left` blocks are left from the unit u on; the lowest of the region r
-- before it is `low`.
pub record LowestTo (v : View) (link : ℕ → ℕ) (regions t c r u left low : ℕ) : Type 0 where
  pub row : is_cache_row link regions c left u ≡ true
  pub most : low ≤ UNITS
  pub whole : lowest_in r (row_from link u left) low ≡ lowest_cached v link t c r

module _ {v : View} {link : ℕ → ℕ} {regions t c r : ℕ} where
  -- the walk begins at the top
  pub lowest-begins : {u k : ℕ} → is_cache v link regions t c ≡ true → u ≡ v (CacheTop t c) → k ≡ v (CacheCount t c)
      → LowestTo v link regions t c r u k UNITS
  unfolding is_cache lowest_cached
  lowest-begins {u} {k} e top count =
      rw (top, count)
      (record {
        row =
            (both (leb (v (CacheCount t c)) (per_region c))
            (is_cache_row link regions c (v (CacheCount t c)) (v (CacheTop t c))) e).1;
        most = omega arith;
        whole = refl;
      })

  module _ {u left more low : ℕ} (L : LowestTo v link regions t c r u left low) (some : left ≡ suc more) where
    -- the next block is one, and those below it are the rest of the row
    next : (is_block regions c u && is_cache_row link regions c more (link u)) ≡ true
    unfolding is_cache_row
    next = ap (λ (n : ℕ). is_cache_row link regions c n u) (sym some) ∙ L.row

    -- it lies in the area
    pub lowest-inside : u < REGION_UNITS * regions
    lowest-inside =
        block-passed regions c u (both (is_block regions c u) (is_cache_row link regions c more (link u)) next).0

    -- it is passed: the code reads its link x, and finds the lower one y
    pub lowest-goes : {x y : ℕ} → y ≡ lower_of r u low → x ≡ link u → LowestTo v link regions t c r x more y
    unfolding lowest_in
    lowest-goes e f =
        rw (e, f)
        (record {
          row = (both (is_block regions c u) (is_cache_row link regions c more (link u)) next).1;
          most = omega (arith, lower-most r u low, L.most);
          whole = ap (λ (n : ℕ). lowest_in r (row_from link u n) low) (sym some) ∙ L.whole;
        })

  -- at the end it is the lowest of all
  pub lowest-ends : {u left low : ℕ} → LowestTo v link regions t c r u left low → left ≡ 0
      → low ≡ lowest_cached v link t c r
  unfolding lowest_in
  lowest-ends {left = zero} L e = L.whole
  lowest-ends {left = suc left} L e = absurd (omega arith)

-- ---- what is found

-- a number that stands for a block is the block's unit,
pub found-is : (o : Option ℕ) {n : ℕ} → unwrap_or o UNITS ≡ n → IfSome o (λ u. u ≡ n)
found-is None e = tt
found-is (Some u) e = e

-- and 8,192 where there is none
pub none-found : (o : Option ℕ) {n : ℕ} → unwrap_or o UNITS ≡ n → IfNone o (n ≡ UNITS)
none-found None e = sym e
none-found (Some u) e = tt

-- ---- the lowest of a row

-- x is the lowest of `low` and the blocks of the row q that lie in the region r
pub record LowestOf (r : ℕ) (q : List ℕ) (low x : ℕ) : Type 0 where
  pub most : x ≤ low
  pub least : (u : ℕ) → 1 ≤ count u q → region_of u ≡ r → x ≤ u
  pub is : x < low → (region_of x ≡ r) × (1 ≤ count x q)

-- what is defined is that
pub lowest-of : (r : ℕ) (q : List ℕ) (low : ℕ) → LowestOf r q low (lowest_in r q low)
unfolding lowest_in
lowest-of r [] low = record {
  most = omega arith;
  least = λ u h e. absurd (omega arith);
  is = λ h. absurd (omega arith);
}
lowest-of r (u ∷ q) low =
    let L = lowest-of r q (lower_of r u low) in
    record {
      most = omega (arith, L.most, lower-most r u low);
      least = λ w h e. elim (same? w u) [
        | same f ↦ (let z : region_of u ≡ r = sym (ap region_of f) ∙ e in
            elim (order? u low) [
              | before l ↦ omega (arith, f, L.most, lower-there r u low z l)
              | after l ↦ omega (arith, f, L.most, lower-behind r u low z l)
            ])
        | other d ↦ L.least w (omega (arith, when-other w u 1 d)) e
      ];
      is = λ h. elim (order? (lowest_in r q (lower_of r u low)) (lower_of r u low)) [
        | before l ↦ ((L.is l).0, omega (arith, (L.is l).1))
        | after l ↦ (let e : lowest_in r q (lower_of r u low) ≡ lower_of r u low = omega (arith, L.most) in
            named (lowest_in r q (lower_of r u low)) e h)
      ];
    }
  where
    -- `low` is passed, so that it is the block u
    named : (x : ℕ) → x ≡ lower_of r u low → x < low → (region_of x ≡ r) × (1 ≤ count x (u ∷ q))
    named x e h = elim (same? (region_of u) r) [
      | same z ↦ elim (order? u low) [
        | before l ↦ (let f : x ≡ u = e ∙ lower-there r u low z l in
            subst (λ w. (region_of w ≡ r) × (1 ≤ count w (u ∷ q))) (sym f) (z, count-first u q))
        | after l ↦ absurd (omega (arith, e, lower-behind r u low z l))
      ]
      | other d ↦ absurd (omega (arith, e, lower-elsewhere r u low d))
    ]
