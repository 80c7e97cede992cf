-- What every request keeps within, also one that is out of range: its blocks and its own block can be counted.
use mathlib.Core.Path.{◌≡◌, refl, sym, subst}
use mathlib.Core.Bool.{Bool, true, false, cond, ◌&&◌}
use Prim.Native.Nat.{ℕ, ◌+◌, ◌≤◌, ◌<◌}
use native.Mathlib.Omega.{arith}
use lib.Dec.{ltb, leb, eqb}
use borrow.Author.Tests.{ltb-true, leb-true}
use Rattle.std.specs.Prelude.{Ok, Err, None, Some, IfOk, IfSome}
use Rattle.std.specs.declared.option.Option.{Option}
use Rattle.std.specs.declared.result.Result.{Result}
use Rattle.limits.specs.declared.index.OutOfRange.{OutOfRange}
use Rattle.limits.specs.Limits.{UNITS, REGIONS, MOST_BLOCKS, CLASSES}
use Rattle.rows.specs.Weights.{when, one}
use Rattle.rows.proofs.Weights.{when-max}
use Rattle.fields.specs.Columns.{View}
use Rattle.classes.specs.Classes.{per_region}
use Rattle.classes.specs.Geometry.{region_of}
use Rattle.classes.proofs.Tables.{per_region-high}
use Rattle.control.specs.Layout.{TaskUnit, TaskPlace, TaskClass, TaskRegion}
use Rattle.control.specs.Places.{PLACES}
use Rattle.stepped.specs.Ranges.{is_block}
use Rattle.stepped.proofs.Conjunction.{both}
use Rattle.ranges.proofs.Passed.{block-passed}
use Rattle.report_requests.specs.declared.RequestBlocks.{RequestBlocks}
use Rattle.report_requests.specs.UnderWay.{count_at, least_at, is_freeing, is_without, has, outside, with_own}
use Rattle.report_requests.specs.UnderWay.{in_area, request_blocks_at, request_blocks, own_in, in_request}

-- its region and that of its own block have a count, and it has at most as many blocks as a region; one that is out of
-- range has none
pub record BoundedBlocks (q : RequestBlocks) : Type 0 where
  pub region : q.region < REGIONS
  pub blocks : q.blocks ≤ MOST_BLOCKS
  pub own : IfSome q.own (λ u. region_of u < REGIONS)

pub record Bounded (q : Result RequestBlocks OutOfRange) : Type 0 where
  pub found : IfOk q BoundedBlocks

-- a request that is chosen by a test is bounded where each of the two is
by-test : (b : Bool) {x y : Result RequestBlocks OutOfRange} → (b ≡ true → Bounded x) → (b ≡ false → Bounded y)
    → Bounded (cond b x y)
by-test true f g = f refl
by-test false f g = g refl

-- k blocks of a region that has a count, and no own block
without-own : (c z k : ℕ) → z < REGIONS → k ≤ MOST_BLOCKS → Bounded (has c z k None)
without-own c z k l h = record { found = record { region = l; blocks = h; own = tt } }

-- a value out of its range
outside-bounded : Bounded outside
outside-bounded = record { found = tt }

module _ (v : View) (regions t : ℕ) (small : regions ≤ REGIONS) where
  -- with the block being freed, which lies in the area
  own-bounded : (c p z k : ℕ) → z < REGIONS → k ≤ MOST_BLOCKS → Bounded (with_own v regions t p c z k)
  unfolding with_own
  own-bounded c p z k l h =
      let u = v (TaskUnit t) in
      by-test (is_freeing v t p)
      (λ f. by-test (is_block regions c u)
      (λ b. record { found = record { region = l; blocks = h; own = omega (arith, block-passed regions c u b) } })
      (λ b. outside-bounded))
      (λ f. without-own c z k l h)

  -- with a region of the area, or no block
  area-bounded : (c p k : ℕ) → k ≤ MOST_BLOCKS → Bounded (in_area v regions t c p k)
  unfolding in_area
  area-bounded c p k h =
      let z = v (TaskRegion t) in
      by-test (eqb k 0) (λ e. own-bounded c p 0 0 (omega arith) (omega arith))
      (λ e. by-test (ltb z regions) (λ l. own-bounded c p _ k (omega (arith, ltb-true z regions l)) h)
      (λ l. outside-bounded))

  -- with at most n blocks
  at-bounded : (c p : ℕ) → Bounded (request_blocks_at v regions t c p)
  unfolding request_blocks_at
  at-bounded c p =
      let k = count_at v t (per_region c) p in
      by-test (leb (least_at p) k && leb k (per_region c))
      (λ e. area-bounded c p k (omega (
        arith,
        leb-true k (per_region c) (both (leb (least_at p) k) (leb k (per_region c)) e).1,
        per_region-high c,
      )))
      (λ e. outside-bounded)

  -- every task's request is bounded
  pub request-bounded : Bounded (request_blocks v regions t)
  unfolding request_blocks
  request-bounded =
      let p = v (TaskPlace t) in
      let c = v (TaskClass t) in
      by-test (is_without p) (λ e. without-own 0 0 0 (omega arith) (omega arith))
      (λ e. by-test (ltb p PLACES && ltb c CLASSES) (λ l. at-bounded c p) (λ l. outside-bounded))

-- so is one that was read
pub read-bounded : (v : View) (regions t : ℕ) {q : RequestBlocks} → Ok q ≡ request_blocks v regions t
    → regions ≤ REGIONS → BoundedBlocks q
read-bounded v regions t e h = (subst Bounded (sym e) (request-bounded v regions t h)).found

-- the block being freed is one, or there is none
own-max : (r : ℕ) (own : Option ℕ) → own_in r own ≤ 1
own-max r None = omega arith
own-max r (Some u) = at_most_one (eqb u UNITS) (one r (region_of u)) (when-max r (region_of u) 1)
  where
    at_most_one : (b : Bool) (n : ℕ) → n ≤ 1 → cond b 0 n ≤ 1
    at_most_one true n h = omega arith
    at_most_one false n h = h

-- a bounded request has at most so many blocks of a class in a region
pub request-max : (c r : ℕ) (q : Result RequestBlocks OutOfRange) → Bounded q → in_request c r q ≤ MOST_BLOCKS + 1
unfolding in_request
request-max c r (Ok q) b =
    omega (
      arith,
      when-max c q.class (when r q.region q.blocks + own_in r q.own),
      when-max r q.region q.blocks,
      own-max r q.own,
      b.found.blocks,
    )
request-max c r (Err e) b = omega arith
