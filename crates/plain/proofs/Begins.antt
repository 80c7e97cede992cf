-- The invariant after the beginning of a request.
use mathlib.Core.Path.{◌≡◌, refl, ap}
use mathlib.Core.Logic.{◌≢◌}
use Prim.Native.Nat.{ℕ, zero, suc, ◌+◌, ◌≤◌, ◌<◌}
use native.Mathlib.Omega.{arith}
use native.Mathlib.Decide.{ℕ_discrete, dec_lt}
use Rattle.limits.specs.Limits.{TASKS, CLASSES, DESCRIPTORS, LARGEST_SIZE, LARGEST_STRIP}
use Rattle.rows.specs.Comparisons.{Equality, same, other, same?}
use Rattle.rows.specs.Branch.{both}
use Rattle.rows.specs.Weights.{when, one}
use Rattle.rows.specs.Counting.{count}
use Rattle.rows.specs.Totals.{total}
use Rattle.rows.proofs.Weights.{when-same, when-other, when-max, when-zero, weight-update}
use Rattle.rows.proofs.Totals.{total-le, total-one}
use Rattle.classes.specs.Geometry.{region_of, BlockOf}
use Rattle.classes.proofs.Sizes.{is_class}
use Rattle.pieces.specs.Pieces.{free, held, begun}
use Rattle.pieces.specs.Strips.{StripStart, nowhere, here, strip_starts, free_begun}
use Rattle.pieces.proofs.PieceLengths.{some}
use Rattle.pieces.proofs.StripGiving.{strip-fits}
use Rattle.pieces.proofs.StripSizes.{rounds}
use Rattle.plain.specs.State.{idle, f1, strip-give, Task, Mem, working}
use Rattle.plain.specs.Calls.{begin_allocate, Opens, opens?, First, first?, free_in, free_entry}
use Rattle.plain.specs.Calls.{free_strip_at, begin_leave}
use Rattle.plain.specs.Steps.{at_place}
use Rattle.plain.specs.Blocks.{count_block}
use Rattle.plain.specs.ByState.{IsOpen}
use Rattle.plain.specs.Held.{class_at, under_way}
use Rattle.plain.specs.HolderWeights.{row_weight, inside_class_weight, chain_weight, chain_class_weight, block_weight}
use Rattle.plain.specs.HolderWeights.{block_class_weight}
use Rattle.plain.specs.Invariant.{OpenDescriptor, Invariant}
use Rattle.plain.proofs.CallTests.{either, KeepsInvariant}
use Rattle.plain.proofs.Blocks.{block-counts, first-is-block}
use Rattle.plain.proofs.ByState.{open-le, open_is, open-holds}
use Rattle.plain.proofs.Homes.{inside-open}
use Rattle.plain.proofs.NotesKept.{as_before}
use Rattle.plain.proofs.Turn.{Turn, fewer, as-mapped, turn-inv}
use Rattle.plain.proofs.PlaceAlone.{task_of, turn_at, lengths, placed_alike, placed-empty}
use Rattle.plain.proofs.Continues.{leaves_to, leaves-held, leaves-holds, leaves-note}
use Rattle.plain.proofs.StripChanges.{strips-aside}

-- What a task has for a class, it has.
class-block : (c v : ℕ) (T : Task) → c < CLASSES → block_class_weight c v 0 T ≤ block_weight v 0 T
class-block c v T l = omega (
  arith,
  total-one CLASSES (row_weight v) T.cache c l,
  when-max c (class_at T.place) (count v (under_way T.place)),
)

-- ---- the block of a free, u, is in a user's hands; d opens its region

module _ {area : ℕ} {m : Mem} (I : Invariant area m) (d u : ℕ) (l : d < DESCRIPTORS)
    (b : Opens (m.descriptor d) (region_of u) × First (m.descriptor d).class u) where
  region-open : IsOpen (m.descriptor d).state
  region-open = open_is (m.descriptor d).state b.0.1

  opened : OpenDescriptor (m.descriptor d)
  opened = open-holds (m.descriptor d).state region-open (I.chains d l)

  -- The block of the free is a block of an open region of the class.
  is_block : 1 ≤ total DESCRIPTORS (inside_class_weight (m.descriptor d).class u) m.descriptor
  is_block =
      let D = m.descriptor d in
      let B : BlockOf D.region D.class u = rw b.0.0 (first-is-block D.class u b.1) in
      omega (
        arith,
        total-one DESCRIPTORS (inside_class_weight D.class u) m.descriptor d l,
        region-open (when D.class D.class (count_block u D.region D.class)),
        when-same D.class (count_block u D.region D.class),
        block-counts B,
      )

  -- The block of the free is in a user's hands once, and nowhere else.
  in-hands : m.hands u ≢ 0
      → (m.hands u ≡ 1) × (total TASKS (block_weight u) m.task ≡ 0)
      × (total DESCRIPTORS (chain_weight u) m.descriptor ≡ 0)
  in-hands n = omega (arith, I.blocks u, inside-open I u)

  -- No task has the block of the free for the class, nor is it in a chain of the class.
  for-no-class : m.hands u ≢ 0 → (total TASKS (block_class_weight (m.descriptor d).class u) m.task ≡ 0)
      × (total DESCRIPTORS (chain_class_weight (m.descriptor d).class u) m.descriptor ≡ 0)
  for-no-class n =
      let c = (m.descriptor d).class in
      omega (
        arith,
        in-hands n,
        total-le TASKS (block_class_weight c u) (block_weight u) m.task
            (λ i g. class-block c u (m.task i) opened.fits),
        total-le DESCRIPTORS (chain_class_weight c u) (chain_weight u) m.descriptor (λ i g.
            let E = m.descriptor i in
            open-le E.state (when-max c E.class (count u E.chain))),
      )

  -- One more block of the class may be under way.
  one-under-way : m.hands u ≢ 0 → (f v : ℕ) → Equality v u → Equality f (m.descriptor d).class
      → total TASKS (block_class_weight f v) m.task + when f (m.descriptor d).class (one v u + 0)
      + total DESCRIPTORS (chain_class_weight f v) m.descriptor
      ≤ total DESCRIPTORS (inside_class_weight f v) m.descriptor
  one-under-way n f v (same x) (same z) =
      let c = (m.descriptor d).class in
      rw (x, z) (omega (arith, is_block, for-no-class n, when-max c c (one u u + 0), when-same u 1))
  one-under-way n f v (same x) (other z) =
      omega (arith, I.block_classes f v, when-other f (m.descriptor d).class (one v u + 0) z)
  one-under-way n f v (other x) z =
      let c = (m.descriptor d).class in
      omega (arith, I.block_classes f v, ap (λ (i : ℕ). when f c (i + 0)) (when-other v u 1 x), when-zero f c)

-- ---- the beginnings

module _ {area : ℕ} {m : Mem} (t : ℕ) (l : t < TASKS) (I : Invariant area m) (e : (m.task t).place ≡ idle) where
  turn : Turn area m t (task_of idle (m.task t).cache)
  turn = turn_at I l e

  -- The beginning of an allocate keeps the invariant.
  pub allocate-inv : (size : ℕ) → KeepsInvariant area (begin_allocate t size m)
  allocate-inv size =
      either (KeepsInvariant area) (ℕ_discrete size 0) _ _ (λ a. I)
      (λ a. either (KeepsInvariant area) (dec_lt LARGEST_STRIP size) _ _ (λ b. I)
      (λ b. either (λ w. Invariant area (at_place t (m.task t).cache (working w) m)) (dec_lt LARGEST_SIZE size) _ _
      (λ c. placed-empty turn _ refl refl (omega (arith, (rounds size (omega arith)).within)) tt)
      (λ c. placed-empty turn _ refl refl (is_class size (omega arith)) tt)))

  -- The beginning of leaving keeps the invariant.
  pub leave-inv : KeepsInvariant area (begin_leave t m)
  leave-inv =
      let k = (m.task t).cache in
      let to = leaves_to k CLASSES 0 in
      placed_alike turn _ (leaves-held 0 to) (leaves-holds k (lengths turn) (omega arith) to)
      (leaves-note m.row m.won m.map k to)

  -- The beginning of a strip's free keeps it.
  pub free-strip-inv : (s : ℕ) (x : StripStart) → strip_starts m.strips s ≡ x
      → KeepsInvariant area (free_strip_at x t s m)
  free-strip-inv s nowhere e' = I
  free-strip-inv s (here k free) e' = I
  free-strip-inv s (here k held) e' =
      strips-aside (free_begun t s m.strips) (placed-empty turn (working (strip-give s)) refl refl
      (omega (arith, strip-fits m.strips s k held e', some k)) tt)
  free-strip-inv s (here k (begun u)) e' = I

  -- The beginning of a free keeps the invariant: the block leaves the user's hands and is under way.
  pub free-inv : (d u : ℕ) → d < DESCRIPTORS → KeepsInvariant area (free_in (m.descriptor d) t u m)
  free-inv d u h =
      let D = m.descriptor d in
      either (KeepsInvariant area) (both (opens? D (region_of u)) (first? D.class u)) _ _
      (λ b. either (KeepsInvariant area) (ℕ_discrete (m.hands u) 0) _ _ (λ n. I)
      (λ n. turn-inv turn _ (task_of (working (f1 D.class u)) (m.task t).cache) refl (record {
        descriptors = λ x. omega arith;
        regions = λ r. omega arith;
        classes = λ c x g. fewer (omega (arith, when-zero c 0, when-zero c D.class));
        spares = λ x. fewer (omega arith);
        blocks = λ v. omega (
          arith,
          weight-update (λ i. i) m.hands u 0 v,
          ap (when v u) (in-hands I d u h b n).0,
          when-zero v u,
        );
        block_classes = λ f v.
            omega (arith, one-under-way I d u h b n f v (same? v u) (same? f D.class), when-zero f 0);
        chains = I.chains;
        closed = I.closed;
        maps = I.maps;
        entries = I.entries;
        unmapped = λ r. as-mapped (omega arith) refl;
        own = record { lengths = (I.tasks t l).lengths; place = (opened I d u h b).fits; note = tt };
        kept = λ r g. refl;
        exchanges = λ ℓ. as_before refl refl;
      })))
      (λ b. I)

  -- The beginning of a free, by the map's entry of the unit's region, keeps the invariant.
  pub free-by-inv : (u z : ℕ) → z ≤ DESCRIPTORS → KeepsInvariant area (free_entry z t u m)
  free-by-inv u zero h = I
  free-by-inv u (suc d) h = free-inv d u h
