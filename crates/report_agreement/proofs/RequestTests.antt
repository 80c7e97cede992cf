-- From a task's fields to what is told of its request: the tests pass, and the numbers are those of the blocks that the
-- plain pool has under way.
use mathlib.Core.Path.{◌≡◌, sym, ap, ◌∙◌}
use mathlib.Core.Logic.{◌≢◌}
use mathlib.Core.Bool.{Bool, true, false, cond, not}
use mathlib.Core.List.{List, [], ◌∷◌, ◌++◌}
use Prim.Native.Nat.{ℕ, zero, suc, ◌+◌, ◌≤◌, ◌<◌}
use native.Mathlib.Omega.{arith}
use lib.Dec.{ltb, eqb}
use lib.ListN.{length}
use borrow.Author.Tests.{lt-ltb, le-leb, eq-eqb, ne_eqb}
use Rattle.std.specs.Prelude.{None, Some, is_ok}
use Rattle.std.specs.declared.result.Result.{Result}
use Rattle.limits.specs.declared.index.OutOfRange.{OutOfRange}
use Rattle.limits.specs.Limits.{REGIONS, UNITS, CLASSES}
use Rattle.rows.specs.Comparisons.{same, other, same?}
use Rattle.rows.specs.Weights.{when, one}
use Rattle.rows.specs.Counting.{count}
use Rattle.rows.proofs.Counting.{count-first}
use Rattle.rows.proofs.Weights.{when-add, when-zero}
use Rattle.fields.specs.Columns.{View}
use Rattle.classes.specs.Classes.{per_region}
use Rattle.classes.specs.Geometry.{region_of}
use Rattle.classes.proofs.BlockUnits.{region-again}
use Rattle.plain.specs.State.{Place}
use Rattle.plain.specs.Held.{class_at, under_way, own_blocks}
use Rattle.plain.specs.Blocks.{blocks_from}
use Rattle.control.specs.Layout.{TaskUnit, LEAVING, TaskPlace, TaskClass, TaskRegion}
use Rattle.control.specs.Places.{PLACES}
use Rattle.stepped.specs.Ranges.{is_block}
use Rattle.ranges.proofs.Passed.{block-passed}
use Rattle.agreement.specs.Contents.{purpose_of}
use Rattle.agreement.proofs.Purposes.{is-leaving, is-freeing}
use Rattle.reports.specs.ByRegion.{in_region}
use Rattle.report_requests.specs.declared.RequestBlocks.{RequestBlocks}
use Rattle.report_requests.specs.UnderWay.{count_at, least_at, is_freeing, is_without, has, with_own, in_area}
use Rattle.report_requests.specs.UnderWay.{request_blocks_at, request_blocks}
use Rattle.report_requests.specs.UnderWay.{in_request}

-- what is told of the request of a task at the place p: it is in its range, and of each class and region it has as many
-- blocks as the plain pool has under way
pub record RequestTold (q : Result RequestBlocks OutOfRange) (p : Place) : Type 0 where
  pub fits : is_ok q ≡ true
  pub number : (c r : ℕ) → in_request c r q ≡ when c (class_at p) (in_region r (under_way p))

-- ---- rows of one region

-- a row of blocks of the region z
pub one-region : (r z : ℕ) (q : List ℕ) → ((u : ℕ) → 1 ≤ count u q → region_of u ≡ z)
    → in_region r q ≡ when r z (length q)
one-region r z [] h = sym (when-zero r z)
one-region r z (u ∷ q) h =
    let e : 1 + length q ≡ suc (length q) = omega arith in
    rw (h u (count-first u q), one-region r z q (λ v g. h v (omega arith)))
    (sym (when-add r z 1 (length q)) ∙ ap (when r z) e)

-- the blocks of the region z that are still to be carved
pub carved-region : (r z c i k : ℕ) → i + k ≤ per_region c → in_region r (blocks_from z c i k) ≡ when r z k
carved-region r z c i zero h = sym (when-zero r z)
carved-region r z c i (suc k) h =
    let e : 1 + k ≡ suc k = omega arith in
    rw (region-again z c i (omega arith), carved-region r z c (suc i) k (omega arith))
    (sym (when-add r z 1 k) ∙ ap (when r z) e)

-- ---- what is read by the place

-- whether a task at the place has none under way, of whatever class, and whether the place is one of the step list; how
-- many blocks are under way there, how many are due at least, and whether a block is being freed
pub record Line : Type 0 where
  pub without : Bool
  pub known : Bool
  pub blocks : ℕ
  pub least : ℕ
  pub freeing : Bool

-- what is read of the task t at the place p
abbrev pub line_of : View → ℕ → ℕ → Line
line_of v t p = record {
  without = is_without p;
  known = ltb p PLACES;
  blocks = count_at v t (per_region (v (TaskClass t))) p;
  least = least_at p;
  freeing = is_freeing v t p;
}

-- a request with k blocks, of which some are due, and with the block being freed or without
abbrev pub line_with : ℕ → ℕ → Bool → Line
line_with k least f = record { without = false; known = true; blocks = k; least = least; freeing = f }

-- ---- the tests pass

-- the fields of a task at work are in their ranges
pub record InRange (v : View) (regions t k least : ℕ) (f : Bool) : Type 0 where
  pub line : line_of v t (v (TaskPlace t)) ≡ line_with k least f
  pub class : v (TaskClass t) < CLASSES
  pub due : least ≤ k
  pub most : k ≤ per_region (v (TaskClass t))
  pub region : 1 ≤ k → v (TaskRegion t) < regions

-- where no block is under way but the one being freed, the class alone is tested
pub no-blocks : {v : View} {regions t : ℕ} {f : Bool} → line_of v t (v (TaskPlace t)) ≡ line_with 0 0 f
    → v (TaskClass t) < CLASSES → InRange v regions t 0 0 f
no-blocks e class = record {
  line = e;
  class = class;
  due = omega arith;
  most = omega arith;
  region = λ h. absurd (omega arith);
}

-- the region of k blocks: it is not read where there is none
abbrev region_for : View → ℕ → ℕ → ℕ
region_for v t k = cond (eqb k 0) 0 (v (TaskRegion t))

-- of no blocks every region has as many
same_number : (v : View) (t k r : ℕ) → when r (region_for v t k) k ≡ when r (v (TaskRegion t)) k
same_number v t k r = elim (same? k 0) [
  | same e ↦ rw e (when-zero r 0 ∙ sym (when-zero r (v (TaskRegion t))))
  | other d ↦ rw (ne_eqb k 0 d)
]

module _ {v : View} {regions t k least : ℕ} {f : Bool} (w : InRange v regions t k least f) where
  -- the test of the region passes
  in-area : in_area v regions t (v (TaskClass t)) (v (TaskPlace t)) k
      ≡ with_own v regions t (v (TaskPlace t)) (v (TaskClass t)) (region_for v t k) k
  unfolding in_area
  in-area = elim (same? k 0) [
    | same e ↦ rw e
    | other d ↦ rw (ne_eqb k 0 d, lt-ltb (v (TaskRegion t)) regions (w.region (omega arith)))
  ]

  -- the tests of the place, the class and the number pass
  passes : request_blocks v regions t
      ≡ with_own v regions t (v (TaskPlace t)) (v (TaskClass t)) (region_for v t k) k
  unfolding request_blocks request_blocks_at
  passes =
      let p = v (TaskPlace t) in
      let c = v (TaskClass t) in
      let without : is_without p ≡ false = ap (λ (x : Line). x.without) w.line in
      let known : ltb p PLACES ≡ true = ap (λ (x : Line). x.known) w.line in
      let blocks : count_at v t (per_region c) p ≡ k = ap (λ (x : Line). x.blocks) w.line in
      let least-is : least_at p ≡ least = ap (λ (x : Line). x.least) w.line in
      rw (
        without,
        known,
        lt-ltb c CLASSES w.class,
        blocks,
        least-is,
        le-leb least k w.due,
        le-leb k (per_region c) w.most,
      ) in-area

  -- whether a block is being freed
  freeing-is : is_freeing v t (v (TaskPlace t)) ≡ f
  freeing-is = ap (λ (x : Line). x.freeing) w.line

  -- what is told without a block being freed, and with one
  without-own : f ≡ false → request_blocks v regions t ≡ has (v (TaskClass t)) (region_for v t k) k None
  unfolding with_own
  without-own e = passes ∙ rw (freeing-is ∙ e)

  with-own : f ≡ true → is_block regions (v (TaskClass t)) (v (TaskUnit t)) ≡ true
      → request_blocks v regions t ≡ has (v (TaskClass t)) (region_for v t k) k (Some (v (TaskUnit t)))
  unfolding with_own
  with-own e b = passes ∙ rw (freeing-is ∙ e, b)

  -- ---- what is told

  -- no block is being freed
  pub row_told : {p : Place} → f ≡ false
      → ((c r : ℕ) → when c (v (TaskClass t)) (when r (v (TaskRegion t)) k)
      ≡ when c (class_at p) (in_region r (under_way p)))
      → RequestTold (request_blocks v regions t) p
  unfolding in_request
  row_told e n = record {
    fits = ap (λ (q : Result RequestBlocks OutOfRange). is_ok q) (without-own e);
    number = λ c r.
        let none : when r (region_for v t k) k + 0 ≡ when r (v (TaskRegion t)) k = omega (arith, same_number v t k r) in
        ap (in_request c r) (without-own e) ∙ ap (when c (v (TaskClass t))) none ∙ n c r;
  }

  -- a block is being freed, and q is under way beside it
  pub freed-told : {p : Place} (q : List ℕ) → regions ≤ REGIONS → f ≡ true
      → is_block regions (class_at p) (v (TaskUnit t)) ≡ true → class_at p ≡ v (TaskClass t)
      → under_way p ≡ v (TaskUnit t) ∷ q → ((r : ℕ) → when r (v (TaskRegion t)) k ≡ in_region r q)
      → RequestTold (request_blocks v regions t) p
  unfolding in_request
  freed-told {p} q small e b c-is under n =
      let u = v (TaskUnit t) in
      let there = with-own e (rw (← c-is) b) in
      let d : u ≢ UNITS = λ z. omega (arith, block-passed regions (class_at p) u b) in
      record {
        fits = ap (λ (q : Result RequestBlocks OutOfRange). is_ok q) there;
        number = λ c r.
            let both : when r (region_for v t k) k + one r (region_of u) ≡ in_region r (u ∷ q) =
            omega (arith, same_number v t k r, n r) in
            ap (in_request c r) there
            ∙ rw (ne_eqb u UNITS d, both, c-is, under);
      }

-- the places of a return: the block that is being freed, or none where the task leaves, and q under way beside it
pub return-told : {v : View} {regions t k least : ℕ} {p : Place} (q : List ℕ) → regions ≤ REGIONS
    → InRange v regions t k least (not (eqb (v (TaskUnit t)) LEAVING))
    → ((u : ℕ) → 1 ≤ count u (under_way p) → is_block regions (class_at p) u ≡ true)
    → class_at p ≡ v (TaskClass t) → under_way p ≡ own_blocks (purpose_of (v (TaskUnit t))) ++ q
    → ((r : ℕ) → when r (v (TaskRegion t)) k ≡ in_region r q)
    → RequestTold (request_blocks v regions t) p
return-told {v} {regions} {t} {p = p} q small w blocks c-is under n =
    let u = v (TaskUnit t) in
    elim (same? u LEAVING) [
      | same e ↦
          (let alone : under_way p ≡ q = rw (is-leaving e) at under in
          row_told w {p = p} (rw (eq-eqb u LEAVING e)) (λ c r. rw (n r, c-is, alone)))
      | other d ↦
          (let own : under_way p ≡ u ∷ q = rw (is-freeing d) at under in
          freed-told w {p = p} q small (rw (ne_eqb u LEAVING d))
          (blocks u (omega (arith, ap (count u) own, count-first u q))) c-is own n)
    ]
