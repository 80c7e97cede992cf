-- A cache that is walked from its top down: what is left of it gives the whole's tests and counts.
use mathlib.Core.Path.{◌≡◌, refl, sym, ap, ◌∙◌}
use mathlib.Core.Bool.{true, false, ◌&&◌}
use mathlib.Core.List.{List}
use Prim.Native.Nat.{ℕ, zero, suc, ◌+◌, ◌-◌, ◌≤◌, ◌<◌}
use native.Mathlib.Nat.{sub-zero}
use native.Mathlib.Omega.{arith}
use lib.Dec.{leb, eqb}
use lib.ListN.{length, get_or, set, length-set}
use borrow.Author.Tests.{leb-true}
use Rattle.std.specs.Prelude.{Ok, Err}
use Rattle.std.specs.declared.result.Result.{Result}
use Rattle.limits.specs.declared.index.OutOfRange.{OutOfRange}
use Rattle.limits.specs.Limits.{UNITS, REGIONS, MOST_BLOCKS}
use Rattle.rows.specs.Weights.{one}
use Rattle.rows.proofs.Weights.{when-same}
use Rattle.fields.specs.Columns.{View}
use Rattle.classes.specs.Classes.{per_region}
use Rattle.classes.specs.Geometry.{region_of}
use Rattle.classes.proofs.Tables.{per_region-high}
use Rattle.control.specs.Layout.{CacheTop, CacheCount}
use Rattle.stepped.specs.Ranges.{is_block}
use Rattle.stepped.proofs.Conjunction.{both}
use Rattle.ranges.proofs.Passed.{block-passed}
use Rattle.reports.specs.ByRegion.{in_region, Counted, CanGrow}
use Rattle.reports.proofs.ByRegion.{region-max, count-grows}
use Rattle.report_caches.specs.CacheRows.{is_cache_row, row_from, cache_row, is_cache}

-- ---- a row of k blocks

-- it has k blocks, so no region has more of them
pub row-max : (link : ℕ → ℕ) (u k r : ℕ) → in_region r (row_from link u k) ≤ k
row-max link u k r = omega (arith, region-max r (row_from link u k), row-length link u k)
  where
    row-length : (link : ℕ → ℕ) (u k : ℕ) → length (row_from link u k) ≡ k
    row-length link u zero = refl
    row-length link u (suc k) = ap suc (row-length link (link u) k)

-- ---- the walk

-- the region of a block has a count
pub region-counted : (regions c u : ℕ) {r : ℕ} → regions ≤ REGIONS → is_block regions c u ≡ true → r ≡ region_of u
    → r < REGIONS
region-counted regions c u few e f = omega (arith, block-passed regions c u e, f)

-- Of the row with the top `top` and k blocks, those that are left begin at the unit u; the i blocks before it are
-- blocks, and are counted.
pub record Walking (link : ℕ → ℕ) (regions c top k : ℕ) (from : List ℕ) (u i : ℕ) (counts : List ℕ) : Type 0 where
  pub tested : is_cache_row link regions c (k - i) u ≡ is_cache_row link regions c k top
  pub whole : length counts ≡ REGIONS
  pub sums : (r : ℕ)
      → get_or counts r 0 + in_region r (row_from link u (k - i)) ≡ get_or from r 0 + in_region r (row_from link top k)

-- what the walk of the whole row ensures
abbrev pub Walked : (ℕ → ℕ) → ℕ → ℕ → ℕ → ℕ → List ℕ → Result (List ℕ) OutOfRange → Type 0
Walked link regions c top k from counted =
    Counted (is_cache_row link regions c k top) (λ r. get_or from r 0 + in_region r (row_from link top k)) counted

module _ {link : ℕ → ℕ} {regions c top k : ℕ} {from : List ℕ} where
  -- the walk begins at the top
  pub walk_begins : length from ≡ REGIONS → Walking link regions c top k from top 0 from
  walk_begins e =
      let all : k - 0 ≡ k = sub-zero k in
      record { tested = rw all; whole = e; sums = λ r. rw all }

  module _ {u i : ℕ} {counts : List ℕ} (w : Walking link regions c top k from u i counts) where
    module _ (more : i < k) where
      -- one block and those behind it are left
      left : k - i ≡ suc (k - (i + 1))
      left = omega (arith, more)

      -- so that they are tested one after the other
      next : is_cache_row link regions c k top ≡ (is_block regions c u && is_cache_row link regions c (k - (i + 1)) (link u))
      unfolding is_cache_row
      next = sym w.tested ∙ ap (λ (n : ℕ). is_cache_row link regions c n u) left

      -- and counted
      sum : (r : ℕ) → get_or counts r 0 + (one r (region_of u) + in_region r (row_from link (link u) (k - (i + 1))))
          ≡ get_or from r 0 + in_region r (row_from link top k)
      sum r = ap (λ (n : ℕ). get_or counts r 0 + in_region r (row_from link u n)) (sym left) ∙ w.sums r

      -- the count of the block's region can grow by one
      pub walk-room : {r : ℕ} → k ≤ per_region c → CanGrow from → r ≡ region_of u → get_or counts r 0 + 1 ≤ 65535
      walk-room most room e =
          let z = region_of u in
          rw e (omega (arith, sum z, when-same z 1, row-max link top k z, per_region-high c, room z))

      -- a block is passed: the code reads its region r and its link x, and writes the count anew
      pub walk-goes : {r x : ℕ} → regions ≤ REGIONS → is_block regions c u ≡ true → r ≡ region_of u → x ≡ link u
          → Walking link regions c top k from x (i + 1) (set counts r (get_or counts r 0 + 1))
      walk-goes small e f g =
          let z = region_of u in
          let inside : z < length counts = omega (arith, block-passed regions c u e, w.whole) in
          rw (f, g)
          (record {
            tested = sym (next ∙ rw e);
            whole = length-set counts z (get_or counts z 0 + 1) ∙ w.whole;
            sums = λ r. omega (arith, sum r, count-grows counts z 1 r inside);
          })

      -- what is no block is refused
      pub walk-stops : {o : OutOfRange} → is_block regions c u ≡ false → Walked link regions c top k from (Err o)
      walk-stops e = record { counts = tt; in_range_is = tt; out_of_range = next ∙ rw e }

    module _ (done : k ≤ i) where
      -- at the end 8,192 is due
      last : is_cache_row link regions c k top ≡ eqb u UNITS
      unfolding is_cache_row
      last =
          let none : k - i ≡ 0 = omega (arith, done) in
          sym w.tested ∙ ap (λ (n : ℕ). is_cache_row link regions c n u) none

      -- all blocks are counted
      pub walk_ends : eqb u UNITS ≡ true → Walked link regions c top k from (Ok counts)
      walk_ends e =
          let none : k - i ≡ 0 = omega (arith, done) in
          record {
            counts = λ r l.
                omega (
                  arith,
                  ap (λ (n : ℕ). get_or counts r 0 + in_region r (row_from link u n)) (sym none) ∙ w.sums r,
                );
            in_range_is = last ∙ e;
            out_of_range = tt;
          }

      -- another link is refused
      pub walk-fails : {o : OutOfRange} → eqb u UNITS ≡ false → Walked link regions c top k from (Err o)
      walk-fails e = record { counts = tt; in_range_is = tt; out_of_range = last ∙ e }

-- ---- the cache of a task and class: its fields are k and u

module _ (v : View) (link : ℕ → ℕ) (regions t c : ℕ) (from : List ℕ) {n k : ℕ} (is_n : n ≡ per_region c)
    (is_count : k ≡ v (CacheCount t c)) where
  -- a count past n is refused
  pub cache-long : {o : OutOfRange} → leb k n ≡ false
      → Counted (is_cache v link regions t c) (λ r. get_or from r 0 + in_region r (cache_row v link t c)) (Err o)
  unfolding is_cache
  cache-long h = record { counts = tt; in_range_is = tt; out_of_range = rw (← is_count, ← is_n, h) }

  -- else the cache is what is walked
  pub cache-walked : {u : ℕ} {counted : Result (List ℕ) OutOfRange} → u ≡ v (CacheTop t c) → leb k n ≡ true
      → Walked link regions c u k from counted
      → Counted (is_cache v link regions t c) (λ r. get_or from r 0 + in_region r (cache_row v link t c)) counted
  unfolding is_cache
  cache-walked is_top h w = rw (← is_count, ← is_top, ← is_n, h) w

-- a cache in range has at most n blocks in a region
pub cache-max : (v : View) (link : ℕ → ℕ) (regions t c r : ℕ) → is_cache v link regions t c ≡ true
    → in_region r (cache_row v link t c) ≤ MOST_BLOCKS + 1
unfolding is_cache
cache-max v link regions t c r e =
    let k = v (CacheCount t c) in
    let u = v (CacheTop t c) in
    omega (
      arith,
      row-max link u k r,
      leb-true k (per_region c) (both (leb k (per_region c)) (is_cache_row link regions c k u) e).0,
      per_region-high c,
    )
