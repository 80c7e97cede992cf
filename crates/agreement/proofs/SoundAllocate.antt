-- Every write of a step of an allocation that is no list move is to a field of the layout, its value fits there, and it
-- is to no other task's place, whatever the two memories hold.
use Prim.Native.Nat.{ℕ, ◌+◌, ◌-◌, ◌/◌, ◌%◌, ◌≤◌, ◌<◌}
use mathlib.Core.Path.{◌≡◌}
use mathlib.Core.Bool.{Bool, true, ◌&&◌}
use native.Mathlib.Omega.{arith}
use borrow.Author.Tests.{leb-true, ltb-true, eqb-true}
use lib.Dec.{eqb, leb, ltb}
use Rattle.limits.specs.Limits.{REGIONS, UNITS, TASKS, CLASSES, DESCRIPTORS, MOST_BLOCKS, WORD_MARKS}
use Rattle.fields.specs.Columns.{View}
use Rattle.words.specs.Anchor.{EMPTY, PARTIAL, anchor_of, anchor_word, full}
use Rattle.words.proofs.Anchors.{anchor-below}
use Rattle.words.proofs.Marks.{set_below}
use Rattle.classes.specs.Classes.{per_region}
use Rattle.classes.specs.Geometry.{unit_of, region_of, is_first}
use Rattle.classes.proofs.Tables.{per_region-high}
use Rattle.classes.proofs.BlockUnits.{block_at, unit-below}
use Rattle.control.specs.Layout.{Anchor, Marks, CacheTop, CacheCount, DescriptorRegion}
use Rattle.control.specs.Layout.{TaskIndex, TaskLeft, TaskAnchor, TaskDescriptor, TaskRegion}
use Rattle.stepped.specs.Ranges.{one_to, is_block, is_top, is_anchor, has_chain}
use Rattle.stepped.specs.Allocate as Allocate
use Rattle.stepped.proofs.Conjunction.{both, left-true, right-true}
use Rattle.agreement.proofs.Both.{Fitting}
use Rattle.agreement.proofs.SoundMoves.{Fit, test, loses}
use Rattle.agreement.proofs.Ways.{branch}

module _ (regions c : ℕ) (few : regions ≤ REGIONS) where
  -- a block's unit
  pub block-max : (u : ℕ) → is_block regions c u ≡ true → u < UNITS
  block-max u h =
      omega (arith, few, ltb-true (region_of u) regions (left-true (ltb (region_of u) regions) (is_first c u) h))

  -- a top, of however many blocks
  pub top-max : (k u : ℕ) → is_top regions c k u ≡ true → u ≤ UNITS
  top-max k u =
      branch (λ (b : Bool). b ≡ true → u ≤ UNITS) (eqb k 0) (λ e h. omega (arith, eqb-true u UNITS h))
      (λ e h. omega (arith, block-max u h))

module _ (v : View) (fits : Fitting v) (link : ℕ → ℕ) {regions t c : ℕ} (few : regions ≤ REGIONS) (task : t < TASKS)
    (class : c < CLASSES) where
  abbrev n : ℕ
  n = per_region c

  a1-take : (k u : ℕ) → k ≤ n → Fit t (Allocate.a1_take v link regions t c k u)
  unfolding Allocate.a1_take
  a1-take k u l =
      let top = is_top regions c (k - 1) (link u) in
      test (is_block regions c u && top) (λ h.
      let u-max = block-max regions c few u (left-true (is_block regions c u) top h) in
      record {
        sound = omega (
          arith,
          task,
          class,
          l,
          per_region-high c,
          top-max regions c few (k - 1) (link u) (right-true (is_block regions c u) top h),
          u-max,
          set_below (v (Marks (u / WORD_MARKS))) (u % WORD_MARKS) WORD_MARKS
              (fits (Marks (u / WORD_MARKS)) (omega (arith, u-max))) (omega arith),
        );
        own = omega arith;
      })

  pub a1 : Fit t (Allocate.a1 v link regions t c)
  unfolding Allocate.a1
  a1 =
      let k = v (CacheCount t c) in
      branch (Fit t) (eqb k 0) (λ e. record { sound = omega (arith, task); own = omega arith })
      (λ e. test (leb k n) (λ h. a1-take k (v (CacheTop t c)) (leb-true k n h)))

  pub a3-read : Fit t (Allocate.a3_read v link regions t c)
  unfolding Allocate.a3_read Allocate.a3_read_of
  a3-read =
      let d = v (TaskDescriptor t) in
      let word = v (Anchor d) in
      test (ltb d DESCRIPTORS) (λ h. test (is_anchor word) (λ i.
      branch (Fit t) (eqb (anchor_of word).state EMPTY) (λ e. record { sound = omega (arith, task); own = omega arith })
      (λ e.
      test (has_chain n word)
      (λ j. record {
        sound = omega (arith, task, fits (Anchor d) (omega (arith, ltb-true d DESCRIPTORS h)));
        own = omega
            arith;
      }))))

  -- what a chain to be taken has
  chain-max : (word : ℕ) → has_chain n word ≡ true
      → ((anchor_of word).avail < MOST_BLOCKS) × ((anchor_of word).count ≤ MOST_BLOCKS)
  chain-max word h =
      let a = anchor_of word in
      let p = both (eqb a.state PARTIAL && one_to n a.count) (ltb a.avail n) h in
      let q = both (leb 1 a.count) (leb a.count n)
      (right-true (eqb a.state PARTIAL) (one_to n a.count) p.0) in (
        omega (arith, per_region-high c, ltb-true a.avail n p.1),
        omega
            (arith, per_region-high c, leb-true a.count n q.1),
      )

  -- the anchor (FULL, n, 0)
  full-below : anchor_word (full n) < 18446744073709551616
  full-below = anchor-below (full n) (omega (arith, per_region-high c))

  pub a3-exchange : Fit t (Allocate.a3_exchange v link regions t c)
  unfolding Allocate.a3_exchange Allocate.a3_exchange_of
  a3-exchange =
      let d = v (TaskDescriptor t) in
      let word = v (TaskAnchor t) in
      let r = v (DescriptorRegion d) in
      test (ltb d DESCRIPTORS && has_chain n word) (λ h. test (is_anchor (v (Anchor d))) (λ i.
      branch (Fit t) (eqb (v (Anchor d)) word)
      (λ e. test (ltb r regions) (λ j.
      let p = both (ltb d DESCRIPTORS) (has_chain n word) h in
      record {
        sound =
            omega (
              arith,
              task,
              few,
              ltb-true d DESCRIPTORS p.0,
              ltb-true r regions j,
              chain-max word p.1,
              full-below,
            );
        own = omega arith;
      }))
      (λ e. loses v fits task _ _ (omega arith))))

  -- a block on top of a cache
  a4-move : (u left k top : ℕ) → u < UNITS → left ≤ MOST_BLOCKS → k < MOST_BLOCKS
      → Fit t (Allocate.a4_move v link regions t c u left k top)
  unfolding Allocate.a4_move
  a4-move u left k top a b d =
      branch (Fit t) (eqb left 1) (λ e. record { sound = omega (arith, task, class, a, d); own = omega arith })
      (λ e. test (ltb (link u) n) (λ h.
      record {
        sound = omega (arith, task, class, a, b, d, per_region-high c, ltb-true (link u) n h);
        own = omega arith;
      }))

  -- the unit of a block of a region of the area
  unit-max : (r i : ℕ) → r < regions → i < n → unit_of r c i < UNITS
  unit-max r i h l = unit-below (block_at r c i l) (omega (arith, few, h))

  pub a4 : Fit t (Allocate.a4 v link regions t c)
  unfolding Allocate.a4
  a4 =
      let r = v (TaskRegion t) in
      let i = v (TaskIndex t) in
      let left = v (TaskLeft t) in
      let k = v (CacheCount t c) in
      let top = v (CacheTop t c) in
      let a = ltb r regions in
      let b = ltb i n in
      let d = one_to n left in
      let e = ltb k n in
      test (a && b && d && e && is_top regions c k top) (λ h.
      let p = both (a && b && d) e (left-true (a && b && d && e) (is_top regions c k top) h) in
      let q = both (a && b) d p.0 in
      let s = both a b q.0 in
      a4-move (unit_of r c i) left k top (unit-max r i (ltb-true r regions s.0) (ltb-true i n s.1))
      (omega (arith, per_region-high c, leb-true left n (right-true (leb 1 left) (leb left n) q.1)))
      (omega (arith, per_region-high c, ltb-true k n p.1)))

  pub a7 : Fit t (Allocate.a7 v link regions t c)
  unfolding Allocate.a7
  a7 =
      let d = v (TaskDescriptor t) in
      let r = v (TaskRegion t) in
      test (ltb d DESCRIPTORS && ltb r regions) (λ h.
      let p = both (ltb d DESCRIPTORS) (ltb r regions) h in
      record {
        sound = omega
            (arith, task, class, few, ltb-true d DESCRIPTORS p.0, ltb-true r regions p.1, full-below);
        own =
            omega arith;
      })

  a8-put : (u i k top : ℕ) → u < UNITS → i < MOST_BLOCKS → k < MOST_BLOCKS
      → Fit t (Allocate.a8_put v link regions t c u i k top)
  unfolding Allocate.a8_put
  a8-put u i k top a b d =
      branch (Fit t) (eqb (i + 1) n) (λ e. record { sound = omega (arith, task, class, a, d); own = omega arith })
      (λ e. record { sound = omega (arith, task, class, a, b, d); own = omega arith })

  pub a8 : Fit t (Allocate.a8 v link regions t c)
  unfolding Allocate.a8
  a8 =
      let r = v (TaskRegion t) in
      let i = v (TaskIndex t) in
      let k = v (CacheCount t c) in
      let top = v (CacheTop t c) in
      let a = ltb r regions in
      let b = ltb i n in
      let e = ltb k n in
      test (a && b && e && is_top regions c k top) (λ h.
      let p = both (a && b) e (left-true (a && b && e) (is_top regions c k top) h) in
      let q = both a b p.0 in
      let l = ltb-true i n q.1 in
      a8-put (unit_of r c i) i k top (unit-max r i (ltb-true r regions q.0) l) (omega (arith, per_region-high c, l))
      (omega (arith, per_region-high c, ltb-true k n p.1)))
