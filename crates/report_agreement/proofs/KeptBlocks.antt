-- The blocks of one region in the plain pool: in a user's hands, in caches and with requests. Each is a block of the
-- class in which the region is open; of a region that is not open there is none.
use mathlib.Core.Path.{◌≡◌, ap, subst}
use Prim.Native.Nat.{ℕ, suc, ◌≤◌, ◌<◌}
use native.Mathlib.Omega.{arith}
use Rattle.limits.specs.Limits.{TASKS, CLASSES, DESCRIPTORS}
use Rattle.rows.specs.Counting.{count}
use Rattle.rows.proofs.Weights.{when-same}
use Rattle.rows.proofs.Totals.{total-one, total-found}
use Rattle.classes.specs.Geometry.{region_of, BlockOf}
use Rattle.plain.specs.State.{Mem}
use Rattle.plain.specs.Blocks.{count_block}
use Rattle.plain.specs.ByState.{if_open}
use Rattle.plain.specs.Held.{class_at}
use Rattle.plain.specs.HolderWeights.{row_weight, inside_weight, inside_class_weight}
use Rattle.plain.specs.Invariant.{Invariant}
use Rattle.plain.proofs.Homes.{Home, home}
use Rattle.agreement.specs.Observe.{plain_class}
use Rattle.report_agreement.specs.Whereabouts.{times_in_hand, times_cached_by, times_running_by}
use Rattle.report_agreement.specs.KeepersTell.{HandHas, CacheHas}
use Rattle.report_agreement.proofs.SheetAddsUp.{has-home, under-home, one_class, home-block, cache-only}
use Rattle.report_agreement.proofs.NoneLeftOut.{region-open}

module _ {regions : ℕ} {m : Mem} (I : Invariant regions m) where
  -- a block in a user's hands has a home
  hand-home : (u : ℕ) → 1 ≤ times_in_hand m u → (c : ℕ) × Home m c u
  hand-home u h =
      let f = total-found DESCRIPTORS (inside_weight u) m.descriptor (omega (arith, I.blocks u)) in
      let D = m.descriptor f.at in
      let k = count_block u D.region D.class in (
        D.class,
        home I D.class u
            (omega (
              arith,
              f.has,
              ap (if_open D.state) (when-same D.class k),
              total-one DESCRIPTORS (inside_class_weight D.class u) m.descriptor f.at f.fits,
            )),
      )

  -- and so has a cached block
  cached-home : (t u : ℕ) → t < TASKS → 1 ≤ times_cached_by (m.task t) u → (c : ℕ) × Home m c u
  cached-home t u l h =
      let f = total-found CLASSES (row_weight u) (m.task t).cache h in
      (f.at, has-home I t f.at u l (omega (arith, f.has)))

  module _ (r : ℕ) where
    -- ---- a region that is not open

    module _ (closed : plain_class m r ≡ 0) where
      homeless : {c u : ℕ} → region_of u ≡ r → Home m c u → ⊥
      homeless {u = u} e H =
          absurd (omega (arith, closed, ap (plain_class m) e, region-open I {v = u} H))

      pub none-in-hand : (u : ℕ) → HandHas m r u → ⊥
      none-in-hand u h = homeless h.0 (hand-home u h.1).1

      pub none-cached : (t u : ℕ) → t < TASKS → CacheHas m r t u → ⊥
      none-cached t u l h = homeless h.0 (cached-home t u l h.1).1

      pub none-running : (t u : ℕ) → t < TASKS → region_of u ≡ r → 1 ≤ times_running_by (m.task t) u → ⊥
      none-running t u l e h = homeless e (under-home I t u l h)

    -- ---- a region that is open in the class c

    module _ (c : ℕ) (opened : plain_class m r ≡ suc c) where
      block_here : {e u : ℕ} → region_of u ≡ r → Home m e u → BlockOf r c u
      block_here {e} {u} i H =
          home-block I r c opened u i
          (subst (λ (x : ℕ). Home m x u) (one_class I r c opened e u i H) H)

      pub hand-block : (u : ℕ) → HandHas m r u → BlockOf r c u
      hand-block u h = block_here h.0 (hand-home u h.1).1

      pub cached-block : (t u : ℕ) → t < TASKS → CacheHas m r t u → BlockOf r c u
      cached-block t u l h = block_here h.0 (cached-home t u l h.1).1

      -- it is in the cache of the class
      pub cached-here : (t u : ℕ) → t < TASKS → c < CLASSES → region_of u ≡ r
          → times_cached_by (m.task t) u ≡ count u ((m.task t).cache c)
      cached-here t u l class e = cache-only I r c opened t l u e class

      -- a request that has one is of the class
      pub running-class : (t u : ℕ) → t < TASKS → region_of u ≡ r → 1 ≤ times_running_by (m.task t) u
          → class_at (m.task t).place ≡ c
      running-class t u l e h = one_class I r c opened (class_at (m.task t).place) u e (under-home I t u l h)
