-- Every write of a step of a free that is no list move is to a field of the layout, its value fits there, and it is to
-- no other task's place, whatever the two memories hold.
use Prim.Native.Nat.{ℕ, ◌+◌, ◌-◌, ◌%◌, ◌≤◌, ◌<◌}
use mathlib.Core.Path.{◌≡◌}
use mathlib.Core.Bool.{true, ◌&&◌}
use mathlib.Core.List.{[], ◌∷◌}
use native.Mathlib.Omega.{arith}
use native.Mathlib.Nat.{div-le_self}
use borrow.Author.Tests.{leb-true, ltb-true}
use lib.Dec.{eqb, leb, ltb}
use Rattle.limits.specs.Limits.{REGIONS, REGION_UNITS, TASKS, CLASSES, DESCRIPTORS, MOST_BLOCKS}
use Rattle.fields.specs.Columns.{View, ◌:=◌, Sound}
use Rattle.words.specs.Anchor.{FULL, is_state, anchor_of, anchor_word, returned}
use Rattle.words.proofs.Anchors.{anchor-below, returned-fits}
use Rattle.classes.specs.Classes.{units, per_region}
use Rattle.classes.specs.Geometry.{region_of, index_of}
use Rattle.classes.proofs.Tables.{per_region-high}
use Rattle.control.specs.Layout.{layout, Anchor, CacheTop, CacheCount, Map}
use Rattle.control.specs.Layout.{TaskUnit, TaskAnchor, TaskDescriptor, TaskRegion, TaskState, GroupFirst, GroupLast}
use Rattle.control.specs.Layout.{GroupCount}
use Rattle.stepped.specs.Ranges.{one_to, is_block, is_top, is_anchor, has_first, has_room}
use Rattle.stepped.specs.Free as Free
use Rattle.stepped.proofs.Conjunction.{both, left-true, right-true}
use Rattle.agreement.proofs.Both.{Fitting}
use Rattle.agreement.proofs.SoundMoves as Moves
use Rattle.agreement.proofs.SoundMoves.{Fit, test, loses}
use Rattle.agreement.proofs.SoundAllocate.{block-max, top-max}
use Rattle.agreement.proofs.Ways.{branch}

module _ (v : View) (fits : Fitting v) (link : ℕ → ℕ) {regions t c : ℕ} (few : regions ≤ REGIONS) (task : t < TASKS)
    (class : c < CLASSES) where
  abbrev n : ℕ
  n = per_region c

  pub f1 : Fit t (Free.f1 v link regions t c)
  unfolding Free.f1 Free.f1_put
  f1 =
      let k = v (CacheCount t c) in
      let u = v (TaskUnit t) in
      let top = v (CacheTop t c) in
      test (leb k n) (λ h. branch (Fit t) (ltb k n)
      (λ i. test (is_block regions c u && is_top regions c k top) (λ j.
      record {
        sound = omega (
          arith,
          task,
          class,
          per_region-high c,
          ltb-true k n i,
          block-max regions c few u (left-true (is_block regions c u) (is_top regions c k top) j),
        );
        own = omega arith;
      }))
      (λ i. record { sound = omega (arith, task); own = omega arith }))

  -- a block's index in its region
  index-max : (u : ℕ) → index_of c u < MOST_BLOCKS
  index-max u = omega (arith, div-le_self (u % REGION_UNITS) (units c))

  f2-first : (k u : ℕ) → k ≤ n → is_block regions c u ≡ true → Fit t (Free.f2_first v link regions t c k u)
  unfolding Free.f2_first
  f2-first k u l b =
      test (is_top regions c (k - 1) (link u)) (λ h.
      record {
        sound = omega (
          arith,
          task,
          class,
          l,
          per_region-high c,
          block-max regions c few u b,
          index-max u,
          top-max regions c few (k - 1) (link u) h,
        );
        own = omega arith;
      })

  f2-more : (k u g r : ℕ) → k ≤ n → Fit t (Free.f2_more v link regions t c k u g r)
  unfolding Free.f2_more
  f2-more k u g r l =
      let last = v (GroupLast t) in
      let top = is_top regions c (k - 1) (link u) in
      test (ltb g n && ltb last n && top) (λ h.
      let p = both (ltb g n && ltb last n) top h in
      record {
        sound = omega (
          arith,
          task,
          class,
          l,
          per_region-high c,
          index-max u,
          ltb-true g n (left-true (ltb g n) (ltb last n) p.0),
          top-max regions c few (k - 1) (link u) p.1,
        );
        own = omega arith;
      })

  f2-close : Fit t (Free.f2_close v link regions t c)
  f2-close = record { sound = omega (arith, task); own = omega arith }

  pub f2 : Fit t (Free.f2 v link regions t c)
  unfolding Free.f2 Free.f2_top
  f2 =
      let k = v (CacheCount t c) in
      let g = v (GroupCount t) in
      let u = v (CacheTop t c) in
      let r = v (TaskRegion t) in
      test (leb k n && leb g n) (λ h.
      let l = leb-true k n (left-true (leb k n) (leb g n) h) in
      branch (Fit t) (eqb k 0) (λ e. f2-close) (λ e. test (is_block regions c u) (λ b.
      branch (Fit t) (eqb g 0) (λ i. f2-first k u l b) (λ i. test (ltb r regions) (λ j.
      branch (Fit t) (eqb (region_of u) r) (λ s. f2-more k u g r l) (λ s. f2-close))))))

  pub f3-read : Fit t (Free.f3_read v link regions t c)
  unfolding Free.f3_read Free.f3_read_by Free.f3_read_of
  f3-read =
      let r = v (TaskRegion t) in
      let g = v (GroupCount t) in
      let entry = v (Map r) in
      let word = v (Anchor (entry - 1)) in
      test (ltb r regions && one_to n g) (λ h. test (one_to DESCRIPTORS entry) (λ i.
      test (is_anchor word && has_room n g word) (λ j.
      let l = leb-true entry DESCRIPTORS (right-true (leb 1 entry) (leb entry DESCRIPTORS) i) in
      let m = leb-true 1 entry (left-true (leb 1 entry) (leb entry DESCRIPTORS) i) in
      record {
        sound = omega (arith, task, l, m, fits (Anchor (entry - 1)) (omega (arith, l, m)));
        own = omega arith;
      })))

  pub f3-link : Fit t (Free.f3_link v link regions t c)
  unfolding Free.f3_link
  f3-link =
      let word = v (TaskAnchor t) in
      test (ltb (v (TaskRegion t)) regions && ltb (v (GroupLast t)) n && is_anchor word && has_first n word) (λ h.
      record { sound = omega (arith, task); own = omega arith })

  -- the anchor with a group returned
  returned-below : (word first g : ℕ) → first < n → has_room n g word ≡ true
      → anchor_word (returned (anchor_of word) first g n) < 18446744073709551616
  returned-below word first g l h =
      let a = anchor_of word in
      let m = leb-true (a.count + g) n (right-true (has_first n word) (leb (a.count + g) n) h) in
      anchor-below (returned a first g n)
      (returned-fits a first g n (omega (arith, l, per_region-high c))
      (record { count = m; blocks = per_region-high c }))

  -- a word that is an anchor has one of the three states
  state-max : (word : ℕ) → is_anchor word ≡ true → (anchor_of word).state ≤ FULL
  state-max word h =
      let a = anchor_of word in
      let p = left-true (is_state a.state && leb a.avail MOST_BLOCKS) (leb a.count MOST_BLOCKS) h in
      leb-true a.state FULL (left-true (is_state a.state) (leb a.avail MOST_BLOCKS) p)

  pub f3-exchange : Fit t (Free.f3_exchange v link regions t c)
  unfolding Free.f3_exchange Free.f3_exchange_of Free.f3_won
  f3-exchange =
      let d = v (TaskDescriptor t) in
      let word = v (TaskAnchor t) in
      let first = v (GroupFirst t) in
      let g = v (GroupCount t) in
      let a = anchor_of word in
      let b = ltb d DESCRIPTORS in
      let f = ltb first n in
      let o = one_to n g in
      let i = is_anchor word in
      let z = has_room n g word in
      test (b && f && o && i && z) (λ h. test (is_anchor (v (Anchor d))) (λ j.
      branch (Fit t) (eqb (v (Anchor d)) word)
      (λ e.
      let p = both (b && f && o && i) z h in
      let q = both b f (left-true (b && f) o (left-true (b && f && o) i p.0)) in
      let m = state-max word (right-true (b && f && o) i p.0) in
      let s : Sound layout (Anchor d := anchor_word (returned a first g n) ∷ TaskState t := a.state ∷ []) =
      omega (
        arith,
        task,
        ltb-true d DESCRIPTORS q.0,
        returned-below word first g (ltb-true first n q.1)
            p.1,
      ) in
      branch (Fit t) (eqb (a.count + g) n) (λ k. record { sound = (omega (arith, task), s); own = omega (arith, m) })
      (λ k. Moves.f5 v fits few task class a.state _ _ (record { sound = s; own = omega (arith, m) })))
      (λ e. loses v fits task _ _ (omega arith))))

  pub f4-clear : Fit t (Free.f4_clear v link regions t c)
  unfolding Free.f4_clear
  f4-clear =
      let r = v (TaskRegion t) in
      test (ltb r regions) (λ h. record { sound = omega (arith, task, few, ltb-true r regions h); own = omega arith })
