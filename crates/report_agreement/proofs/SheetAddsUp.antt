-- "the four numbers of an open region add up to its n, and each is the number of blocks with that holder": in the plain
-- pool.
use mathlib.Core.Path.{◌≡◌, sym, ap, subst, ◌∙◌}
use mathlib.Core.Logic.{◌≢◌}
use Prim.Native.Nat.{ℕ, suc, ◌+◌, ◌≤◌, ◌<◌}
use native.Mathlib.Omega.{arith}
use lib.ListN.{length}
use Rattle.limits.specs.Limits.{TASKS, CLASSES}
use Rattle.rows.specs.Comparisons.{same, other, same?, before, after, order?}
use Rattle.rows.specs.Branch.{if}
use Rattle.rows.specs.Weights.{when}
use Rattle.rows.specs.Counting.{count}
use Rattle.rows.specs.Totals.{total}
use Rattle.rows.proofs.Weights.{when-same, when-other}
use Rattle.rows.proofs.Totals.{total-one, total-only, total-same, total-add, total-zero}
use Rattle.classes.specs.Classes.{per_region}
use Rattle.classes.specs.Geometry.{unit_of, region_of, BlockOf}
use Rattle.classes.proofs.BlockUnits.{block_at, region-again}
use Rattle.plain.specs.State.{Mem}
use Rattle.plain.specs.Calls.{opens?}
use Rattle.plain.specs.Held.{class_at, under_way}
use Rattle.plain.specs.HolderWeights.{row_weight, block_class_weight}
use Rattle.plain.specs.Invariant.{Invariant}
use Rattle.plain.proofs.Homes.{Home, home}
use Rattle.agreement.specs.Contents.{Contents}
use Rattle.agreement.specs.Observe.{plain_class_by, plain_class, plain_chain, SameObserved}
use Rattle.reports.specs.ByRegion.{in_region}
use Rattle.report_agreement.specs.Sums.{sum}
use Rattle.report_agreement.specs.Whereabouts.{times_in_hand, times_cached, times_running, times_chained, blocks_there}
use Rattle.report_agreement.specs.Whereabouts.{times_cached_by, times_running_by}
use Rattle.report_agreement.proofs.Sums.{sum_same, sum-add, sum_ones, sum-passing, sum-total, row-blocks}
use Rattle.report_agreement.proofs.Sums.{row-length}

-- the class of a descriptor that opens a region
if-class : {P : Type 0} (q : Dec P) (x c : ℕ) → if q (suc x) 0 ≡ suc c → x ≡ c
if-class (yes p) x c e = omega arith
if-class (no n) x c e = absurd (omega arith)

-- ---- the blocks that the tasks have of a region that is open in the class c

module _ {regions : ℕ} {m : Mem} (I : Invariant regions m) where
  -- what a task has for a class is a block of an open region of that class
  pub has-home : (t e v : ℕ) → t < TASKS → 1 ≤ block_class_weight e v t (m.task t) → Home m e v
  has-home t e v l h =
      home I e v (omega (arith, I.block_classes e v, total-one TASKS (block_class_weight e v) m.task t l))

  -- what a task has under way is a block of its place's class
  pub under-home : (t v : ℕ) → t < TASKS → 1 ≤ count v (under_way (m.task t).place)
      → Home m (class_at (m.task t).place) v
  under-home t v l h =
      let p = (m.task t).place in
      has-home t (class_at p) v l (omega (arith, when-same (class_at p) (count v (under_way p))))

module _ {regions : ℕ} {m : Mem} (I : Invariant regions m) (r c : ℕ) (opened : plain_class m r ≡ suc c) where
  -- in this region the class is the region's
  pub one_class : (e v : ℕ) → region_of v ≡ r → Home m e v → e ≡ c
  one_class e v i H =
      let d = H.d in
      let n : m.map r ≡ suc d = subst (λ (x : ℕ). m.map x ≡ suc d) i H.named in
      sym H.class
      ∙ if-class (opens? (m.descriptor d) r) (m.descriptor d).class c
      (ap (λ (z : ℕ). plain_class_by z r m) (sym n) ∙ opened)

  pub home-block : (v : ℕ) → region_of v ≡ r → Home m c v → BlockOf r c v
  home-block v i H =
      subst (λ (x : ℕ). BlockOf x c v) (H.region ∙ i)
      (subst (λ (x : ℕ). BlockOf (m.descriptor H.d).region x v) H.class H.block)

  module _ (t : ℕ) (l : t < TASKS) where
    -- the caches of other classes do not have a block of this region
    pub cache-only : (v : ℕ) → region_of v ≡ r → c < CLASSES
        → total CLASSES (row_weight v) (m.task t).cache ≡ count v ((m.task t).cache c)
    cache-only v i k = total-only CLASSES (row_weight v) (m.task t).cache c k (λ e j d.
        elim (order? 0 (count v ((m.task t).cache e))) [
          | before h ↦ absurd (d (one_class e v i (has-home I t e v l (omega arith))))
          | after h ↦ omega arith
        ])

    -- the blocks of a task's caches, one by one
    cache-sum : c < CLASSES
        → sum (per_region c) (λ i. total CLASSES (row_weight (unit_of r c i)) (m.task t).cache)
        ≡ in_region r ((m.task t).cache c)
    cache-sum k =
        sum_same (per_region c) (λ i. total CLASSES (row_weight (unit_of r c i)) (m.task t).cache)
        (λ i. count (unit_of r c i) ((m.task t).cache c))
        (λ i h. cache-only (unit_of r c i) (region-again r c i h) k)
        ∙ row-blocks r c ((m.task t).cache c) (λ u h e. home-block u e (has-home I t c u l (omega arith)))

    -- what is under way for another class is not in this region
    other-class : class_at (m.task t).place ≢ c → (v : ℕ) → region_of v ≡ r → count v (under_way (m.task t).place) ≡ 0
    other-class d v i = elim (order? 0 (count v (under_way (m.task t).place))) [
      | before h ↦ absurd (d (one_class (class_at (m.task t).place) v i (under-home I t v l h)))
      | after h ↦ omega arith
    ]

    -- the blocks that a task has under way, one by one
    request-sum : sum (per_region c) (λ i. count (unit_of r c i) (under_way (m.task t).place))
        ≡ when c (class_at (m.task t).place) (in_region r (under_way (m.task t).place))
    request-sum =
        let p = (m.task t).place in
        elim (same? c (class_at p)) [
          | same e ↦
              row-blocks r c (under_way p) (λ u h i. home-block u i
              (subst (λ (x : ℕ). Home m x u) (sym e) (under-home I t u l h)))
              ∙ sym (ap (λ (x : ℕ). when c x (in_region r (under_way p))) (sym e)
              ∙ when-same c (in_region r (under_way p)))
          | other d ↦
              total-zero (per_region c) (λ i x. x) (λ i. count (unit_of r c i) (under_way p)) (λ i h.
              other-class (λ e. d (sym e)) (unit_of r c i) (region-again r c i h))
              ∙ sym (when-other c (class_at p) (in_region r (under_way p)) d)
        ]

-- ---- the four numbers of a region that is open in the class c

module _ {regions : ℕ} {a : Contents} {m : Mem} (S : SameObserved regions a m) (I : Invariant regions m)
    (r c : ℕ) (inside : r < regions) (class : c < CLASSES) (opened : plain_class m r ≡ suc c) where
  -- the block i is in a user's hands, in a cache, under way or in the chain, and that once
  once : (i : ℕ) → i < per_region c
      → times_in_hand m (unit_of r c i) + (times_cached m (unit_of r c i) + times_running m (unit_of r c i))
      + times_chained m r (unit_of r c i)
      ≡ 1
  once i h =
      let v = unit_of r c i in
      ap (λ (x : ℕ). m.hands v + x + count v (plain_chain m r))
      (sym (total-add TASKS (λ t T. total CLASSES (row_weight v) T.cache) (λ t T. count v (under_way T.place))
      m.task))
      ∙ S.plain_one_place r c v inside opened (block_at r c i h)

  -- where no block is counted more than once, the blocks there are the sum
  there : (often : ℕ → ℕ) → ((i : ℕ) → i < per_region c → often (unit_of r c i) ≤ 1)
      → sum (per_region c) (λ i. often (unit_of r c i)) ≡ blocks_there often r c
  there often h = sum-passing (per_region c) (λ i. often (unit_of r c i)) h

  hands-there : sum (per_region c) (λ i. times_in_hand m (unit_of r c i)) ≡ blocks_there (times_in_hand m) r c
  hands-there = there (times_in_hand m) (λ i h. omega (arith, once i h))

  cached-there : sum (per_region c) (λ i. times_cached m (unit_of r c i)) ≡ blocks_there (times_cached m) r c
  cached-there = there (times_cached m) (λ i h. omega (arith, once i h))

  running-there : sum (per_region c) (λ i. times_running m (unit_of r c i)) ≡ blocks_there (times_running m) r c
  running-there = there (times_running m) (λ i h. omega (arith, once i h))

  times_chained-there :
      sum (per_region c) (λ i. times_chained m r (unit_of r c i)) ≡ blocks_there (times_chained m r) r c
  times_chained-there = there (times_chained m r) (λ i h. omega (arith, once i h))

  module _ (t : ℕ) (task : t < TASKS) where
    -- the number in the cache of one task is that of blocks there
    pub cache-there : in_region r ((m.task t).cache c) ≡ blocks_there (times_cached_by (m.task t)) r c
    cache-there =
        sym (cache-sum I r c opened t task class)
        ∙ there (times_cached_by (m.task t)) (λ i h. omega (
          arith,
          once i h,
          total-one TASKS (λ t T. times_cached_by T (unit_of r c i)) m.task t task,
        ))

    -- the number that the request of one task has under way is that of blocks there
    pub request-there : when c (class_at (m.task t).place) (in_region r (under_way (m.task t).place))
        ≡ blocks_there (times_running_by (m.task t)) r c
    request-there =
        sym (request-sum I r c opened t task)
        ∙ there (times_running_by (m.task t)) (λ i h. omega (
          arith,
          once i h,
          total-one TASKS (λ t T. times_running_by T (unit_of r c i)) m.task t task,
        ))

  -- the number in the tasks' caches of the class is that of blocks there
  pub caches-there : total TASKS (λ t T. in_region r (T.cache c)) m.task ≡ blocks_there (times_cached m) r c
  caches-there =
      total-same TASKS (λ t T. in_region r (T.cache c)) m.task
      (λ t T. sum (per_region c) (λ i. total CLASSES (row_weight (unit_of r c i)) T.cache)) m.task
      (λ t l. sym (cache-sum I r c opened t l class))
      ∙ sym (sum-total (per_region c) TASKS (λ i t T. total CLASSES (row_weight (unit_of r c i)) T.cache) m.task)
      ∙ cached-there

  -- the number that the requests of the class have under way is that of blocks there
  pub requests-there : total TASKS (λ t T. when c (class_at T.place) (in_region r (under_way T.place))) m.task
      ≡ blocks_there (times_running m) r c
  requests-there =
      total-same TASKS (λ t T. when c (class_at T.place) (in_region r (under_way T.place))) m.task
      (λ t T. sum (per_region c) (λ i. count (unit_of r c i) (under_way T.place))) m.task
      (λ t l. sym (request-sum I r c opened t l))
      ∙ sym (sum-total (per_region c) TASKS (λ i t T. count (unit_of r c i) (under_way T.place)) m.task)
      ∙ running-there

  -- the length of the chain is the number of blocks there
  pub chain-there : length (plain_chain m r) ≡ blocks_there (times_chained m r) r c
  chain-there =
      let own : (u : ℕ) → 1 ≤ count u (plain_chain m r) → BlockOf r c u = λ u h. S.own-blocks r c u inside opened h in
      sym (row-length r c (plain_chain m r) own)
      ∙ sym (row-blocks r c (plain_chain m r) (λ u h e. own u h))
      ∙ times_chained-there

  -- "the four numbers of an open region add up to its n"
  pub adds_up :
      blocks_there (times_in_hand m) r c + blocks_there (times_cached m) r c + blocks_there (times_running m) r c
      + blocks_there (times_chained m r) r c ≡ per_region c
  adds_up =
      let n = per_region c in
      let h : ℕ → ℕ = λ i. times_in_hand m (unit_of r c i) in
      let k : ℕ → ℕ = λ i. times_cached m (unit_of r c i) in
      let q : ℕ → ℕ = λ i. times_running m (unit_of r c i) in
      let ch : ℕ → ℕ = λ i. times_chained m r (unit_of r c i) in
      omega (
        arith,
        hands-there,
        cached-there,
        running-there,
        times_chained-there,
        sum-add n k q,
        sum-add n h (λ i. k i + q i),
        sum-add n (λ i. h i + (k i + q i)) ch,
        sum_ones n (λ i. h i + (k i + q i) + ch i) once,
      )
