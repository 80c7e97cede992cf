-- The list of spare regions, walked from its head on: what is left of it gives the whole's answer.
use mathlib.Core.Path.{◌≡◌, refl}
use mathlib.Core.Logic.{◌≢◌}
use mathlib.Core.Bool.{true, false}
use Prim.Native.Nat.{ℕ, zero, suc, ◌-◌, ◌≤◌, ◌<◌}
use native.Mathlib.Omega.{arith}
use borrow.Author.Tests.{eq-eqb, ne_eqb, le-leb, lt-leb, leb-true}
use lib.Dec.{eqb, leb}
use Rattle.limits.specs.Limits.{SPARE_REGIONS}
use Rattle.words.specs.Head.{item_of}
use Rattle.fields.specs.Columns.{View}
use Rattle.control.specs.Layout.{Head, RegionNext}
use Rattle.stepped.proofs.Conjunction.{both}
use Rattle.report_regions.specs.SpareList.{is_list_from, is_on_from, is_spare_list, is_spare}

module _ (v : View) (regions : ℕ) where
  -- ---- whether it is a list

  -- at most n items are left, from the item x on
  abbrev pub ListLeft : ℕ → ℕ → Type 0
  ListLeft n x = is_list_from v regions n x ≡ is_spare_list v regions

  pub list-begins : {x : ℕ} → x ≡ item_of (v (Head SPARE_REGIONS)) → ListLeft regions x
  unfolding is_spare_list
  list-begins e = rw e

  -- its end is reached,
  pub list-ends : (n : ℕ) {x : ℕ} → ListLeft n x → 0 < n → x ≡ 0 → true ≡ is_spare_list v regions
  unfolding is_list_from
  list-ends zero L h e = absurd (omega arith)
  list-ends (suc n) {x} L h e = rw (eq-eqb x 0 e) at L

  -- an item is no region of the area,
  pub list-breaks : (n : ℕ) {x : ℕ} → ListLeft n x → 0 < n → x ≢ 0 → regions < x → false ≡ is_spare_list v regions
  unfolding is_list_from
  list-breaks zero L h d l = absurd (omega arith)
  list-breaks (suc n) {x} L h d l = rw (ne_eqb x 0 d, lt-leb x regions l) at L

  -- one is passed,
  pub list-goes : (n : ℕ) {x y : ℕ} → ListLeft n x → 0 < n → x ≢ 0 → x ≤ regions → y ≡ v (RegionNext (x - 1))
      → ListLeft (n - 1) y
  unfolding is_list_from
  list-goes zero L h d l e = absurd (omega arith)
  list-goes (suc n) {x} L h d l e =
      let s : suc n - 1 ≡ n = omega arith in
      rw (s, e) (rw (ne_eqb x 0 d, le-leb x regions l) at L)

  -- and behind the last the end is due
  pub list_over : (n x : ℕ) → ListLeft n x → n ≡ 0 → eqb x 0 ≡ is_spare_list v regions
  unfolding is_list_from
  list_over zero x L e = L
  list_over (suc n) x L e = absurd (omega arith)

  -- ---- whether a region is on it

  module _ (r : ℕ) where
    -- at most n items are left, from the item x on; they are in their ranges
    pub record OnLeft (n x : ℕ) : Type 0 where
      pub list : is_list_from v regions n x ≡ true
      pub whole : is_on_from v r n x ≡ is_spare v regions r

    pub on-begins : {x : ℕ} → is_spare_list v regions ≡ true → x ≡ item_of (v (Head SPARE_REGIONS)) → OnLeft regions x
    unfolding is_spare_list is_spare
    on-begins f e = rw e (record { list = f; whole = refl })

    -- the end is reached
    pub on-ends : (n : ℕ) {x : ℕ} → OnLeft n x → 0 < n → x ≡ 0 → false ≡ is_spare v regions r
    unfolding is_on_from
    on-ends zero L h e = absurd (omega arith)
    on-ends (suc n) {x} L h e = rw (eq-eqb x 0 e) at L.whole

    -- an item is the region
    pub on-found : (n : ℕ) {x : ℕ} → OnLeft n x → 0 < n → x ≢ 0 → x - 1 ≡ r → true ≡ is_spare v regions r
    unfolding is_on_from
    on-found zero L h d e = absurd (omega arith)
    on-found (suc n) {x} L h d e = rw (ne_eqb x 0 d, eq-eqb (x - 1) r e) at L.whole

    -- an item is a region of the area,
    pub on-inside : (n : ℕ) {x : ℕ} → OnLeft n x → 0 < n → x ≢ 0 → x ≤ regions
    unfolding is_list_from
    on-inside zero L h d = absurd (omega arith)
    on-inside (suc n) {x} L h d =
        leb-true x regions
        (both (leb x regions) (is_list_from v regions n (v (RegionNext (x - 1)))) (rw (ne_eqb x 0 d) at L.list)).0

    -- and one that is another region is passed
    pub on-goes : (n : ℕ) {x y : ℕ} → OnLeft n x → 0 < n → x ≢ 0 → x - 1 ≢ r → y ≡ v (RegionNext (x - 1))
        → OnLeft (n - 1) y
    unfolding is_list_from is_on_from
    on-goes zero L h d n e = absurd (omega arith)
    on-goes (suc n) {x} L h d o e =
        let s : suc n - 1 ≡ n = omega arith in
        rw (s, e)
        (record {
          list =
              (both (leb x regions) (is_list_from v regions n (v (RegionNext (x - 1))))
              (rw (ne_eqb x 0 d) at L.list)).1;
          whole = rw (ne_eqb x 0 d, ne_eqb (x - 1) r o) at L.whole;
        })

    -- behind the last there is none
    pub on-over : (n : ℕ) {x : ℕ} → OnLeft n x → n ≡ 0 → false ≡ is_spare v regions r
    unfolding is_on_from
    on-over zero L e = L.whole
    on-over (suc n) L e = absurd (omega arith)
