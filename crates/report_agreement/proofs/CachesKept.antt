-- The lowest cached block of a task that is read is the plain pool's.
use mathlib.Core.Path.{◌≡◌, sym, subst}
use mathlib.Core.List.{List}
use Prim.Native.Nat.{ℕ, suc, ◌≤◌, ◌<◌}
use native.Mathlib.Omega.{arith}
use Rattle.limits.specs.Limits.{REGIONS, UNITS, TASKS, CLASSES}
use Rattle.rows.specs.Comparisons.{before, after, order?}
use Rattle.fields.specs.Columns.{View}
use Rattle.links.specs.Link.{link}
use Rattle.classes.proofs.BlockUnits.{unit-below}
use Rattle.plain.specs.State.{Mem}
use Rattle.plain.specs.Invariant.{Invariant}
use Rattle.agreement.specs.Contents.{contents_of}
use Rattle.agreement.specs.Relation.{Related}
use Rattle.agreement.specs.Observe.{plain_class}
use Rattle.report_caches.specs.CacheRows.{lowest_in, lowest_cached}
use Rattle.report_caches.proofs.LowestBlocks.{LowestOf, lowest-of}
use Rattle.report_agreement.specs.KeepersTell.{CacheHas}
use Rattle.report_agreement.proofs.CachesTold.{cache-is}
use Rattle.report_agreement.proofs.KeptBlocks.{cached-block, cached-here}

-- u is the lowest block of the region r in the caches of the task t; or it is 8,192, and there is none
pub data LowestCache (m : Mem) (r t u : ℕ) : Type 0 where
  a_block : u < UNITS → CacheHas m r t u → ((x : ℕ) → CacheHas m r t x → u ≤ x) → LowestCache m r t u
  no_block : u ≡ UNITS → ((x : ℕ) → CacheHas m r t x → ⊥) → LowestCache m r t u

module _ {regions : ℕ} {m : Mem} (v : View) (area : List ℕ) (small : regions ≤ REGIONS)
    (R : Related regions (contents_of v area) m) (I : Invariant regions m) (r c : ℕ) (inside : r < regions)
    (class : c < CLASSES) (opened : plain_class m r ≡ suc c) (t : ℕ) (task : t < TASKS) where
  -- what is read is the lowest of the plain pool's cache of the class
  is-lowest : LowestOf r ((m.task t).cache c) UNITS (lowest_cached v (link area) t c r)
  unfolding lowest_cached
  is-lowest =
      subst (λ (q : List ℕ). LowestOf r ((m.task t).cache c) UNITS (lowest_in r q UNITS))
      (sym (cache-is v area small R I t c task class)) (lowest-of r ((m.task t).cache c) UNITS)

  pub lowest-cache : LowestCache m r t (lowest_cached v (link area) t c r)
  lowest-cache =
      let L = is-lowest in
      let u = lowest_cached v (link area) t c r in
      let least : (x : ℕ) → CacheHas m r t x → u ≤ x = λ x h.
      L.least x (omega (arith, h.1, cached-here I r c opened t x task class h.0)) h.0 in
      elim (order? u UNITS) [
        | before l ↦ (let e = L.is l in
            a_block l (e.0, omega (arith, e.1, cached-here I r c opened t u task class e.0)) least)
        | after l ↦ no_block (omega (arith, L.most)) (λ x h.
            absurd (omega (
              arith,
              least x h,
              unit-below (cached-block I r c opened t x task h) (omega (arith, small, inside)),
            )))
      ]
