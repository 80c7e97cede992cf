-- "one always applies": a region of the area is on the list of spare regions, with a task, or open; and of an open
-- region some block is not in its chain.
use mathlib.Core.Path.{◌≡◌, sym, ap, subst, ◌∙◌}
use mathlib.Core.List.{[]}
use Prim.Native.Nat.{ℕ, zero, suc, ◌+◌, ◌≤◌, ◌<◌}
use native.Mathlib.Omega.{arith}
use lib.Dec.{leb}
use lib.ListN.{length}
use Rattle.limits.specs.Limits.{TASKS, CLASSES, DESCRIPTORS, SPARE_REGIONS}
use Rattle.rows.specs.Comparisons.{before, after, order?}
use Rattle.rows.specs.Branch.{if}
use Rattle.rows.specs.Weights.{one}
use Rattle.rows.specs.Counting.{count}
use Rattle.rows.specs.Totals.{total}
use Rattle.rows.proofs.Branch.{if_yes}
use Rattle.rows.proofs.Weights.{when-is, below-yes}
use Rattle.rows.proofs.Totals.{total-found}
use Rattle.classes.specs.Classes.{per_region}
use Rattle.classes.specs.Geometry.{unit_of, region_of}
use Rattle.classes.proofs.BlockUnits.{region-again}
use Rattle.classes.proofs.Tables.{per_region-low}
use Rattle.plain.specs.State.{State, EMPTY, PARTIAL, FULL, Mem}
use Rattle.plain.specs.Calls.{NotEmpty, Opens, opens?}
use Rattle.plain.specs.HolderWeights.{region_weight, open_weight}
use Rattle.plain.specs.Invariant.{Invariant, ChainLength}
use Rattle.plain.proofs.ByState.{open_is, is_open, open_counts, open-holds}
use Rattle.agreement.specs.Contents.{Contents}
use Rattle.agreement.specs.Observe.{plain_class_by, plain_chain_by, plain_class, plain_chain, SameObserved}
use Rattle.reports.specs.Passing.{weigh, passing}
use Rattle.report_agreement.specs.Whereabouts.{times_in_hand, times_cached_by, times_cached, times_running_by}
use Rattle.report_agreement.specs.Whereabouts.{times_running, times_chained, blocks_there}
use Rattle.report_agreement.specs.KeepersTell.{HandHas, CacheHas}
use Rattle.report_agreement.proofs.SheetAddsUp.{chain-there, adds_up}

-- ---- a region that is not open

module _ {regions : ℕ} {m : Mem} (I : Invariant regions m) (r : ℕ) where
  -- no descriptor opens it
  unopened : plain_class m r ≡ 0 → total DESCRIPTORS (open_weight r) m.descriptor ≡ 0
  unopened closed = elim (order? 0 (total DESCRIPTORS (open_weight r) m.descriptor)) [
    | after h ↦ omega arith
    | before h ↦ (let f = total-found DESCRIPTORS (open_weight r) m.descriptor h in
        let D = m.descriptor f.at in
        let g = open_counts D.state (one r D.region) f.has in
        let z : r ≡ D.region = (when-is r D.region 1 g.0).0 in
        let named : m.map r ≡ suc f.at =
        ap m.map z ∙ open-holds D.state g.1 (I.maps f.at f.fits) in
        let here : plain_class m r ≡ suc D.class =
        ap (λ (x : ℕ). plain_class_by x r m) named
        ∙ if_yes (opens? D r) (suc D.class) 0 (sym z, is_open D.state g.1) in
        absurd (omega (arith, closed, here)))
  ]

  -- it is on the list of spare regions, or a task holds it
  pub spare-or-held : r < regions → plain_class m r ≡ 0
      → count r (m.row SPARE_REGIONS) + total TASKS (region_weight r) m.task ≡ 1
  spare-or-held l closed = omega (arith, I.regions r, unopened closed, below-yes r regions l)

-- ---- a region that is open in the class c

-- of the numbers below n that pass, one is found
one_passes : (n : ℕ) (often : ℕ → ℕ) → 1 ≤ passing n (λ i. leb 1 (often i)) → (i : ℕ) × (i < n) × (1 ≤ often i)
one_passes n often h =
    let f = total-found n weigh (λ i. leb 1 (often i)) h in
    (f.at, f.fits, some f.at (often f.at) f.has)
  where
    some : (i x : ℕ) → 1 ≤ weigh i (leb 1 x) → 1 ≤ x
    some i zero h = absurd (omega arith)
    some i (suc x) h = omega arith

-- a chain is shorter than n
shorter : (z : State) (n k : ℕ) → 1 ≤ n → NotEmpty z → ChainLength z n k → k < n
shorter EMPTY n k l h s = absurd h
shorter PARTIAL n k l h s = s.1
shorter FULL n k l h s = omega arith

module _ {regions : ℕ} {m : Mem} (I : Invariant regions m) (r c : ℕ) where
  chain-shorter : (z : ℕ) → z ≤ DESCRIPTORS → plain_class_by z r m ≡ suc c
      → length (plain_chain_by z r m) < per_region c
  chain-shorter zero l e = absurd (omega arith)
  chain-shorter (suc d) l e = by (opens? (m.descriptor d) r) e
    where
      by : (q : Dec (Opens (m.descriptor d) r)) → if q (suc (m.descriptor d).class) 0 ≡ suc c
          → length (if q (m.descriptor d).chain []) < per_region c
      by (no q) f = absurd (omega arith)
      by (yes q) f =
          let D = m.descriptor d in
          let O = open-holds D.state (open_is D.state q.1) (I.chains d l) in
          let z : D.class ≡ c = omega arith in
          subst (λ (x : ℕ). length D.chain < per_region x) z
          (shorter D.state (per_region D.class) (length D.chain) (omega (arith, per_region-low D.class))
          q.1 O.sized)

module _ {regions : ℕ} {a : Contents} {m : Mem} (S : SameObserved regions a m) (I : Invariant regions m)
    (r c : ℕ) (inside : r < regions) (class : c < CLASSES) (opened : plain_class m r ≡ suc c) where
  -- a block that is in a user's hands, in a cache, or with a request
  pub data SomeBlock : Type 0 where
    handed : (u : ℕ) → HandHas m r u → SomeBlock
    cached : (t u : ℕ) → t < TASKS → CacheHas m r t u → SomeBlock
    running : (t u : ℕ) → t < TASKS → region_of u ≡ r → 1 ≤ times_running_by (m.task t) u → SomeBlock

  -- there is one
  pub some_block : SomeBlock
  some_block =
      let sum = adds_up S I r c inside class opened in
      let short : length (plain_chain m r) < per_region c = chain-shorter I r c (m.map r) (I.entries r) opened in
      let few : blocks_there (times_chained m r) r c < per_region c =
      omega (arith, short, chain-there S I r c inside class opened) in
      elim (order? 0 (blocks_there (times_in_hand m) r c)) [
        | before h ↦ (let f = one_passes (per_region c) (λ i. times_in_hand m (unit_of r c i)) h in
            handed (unit_of r c f.0) (region-again r c f.0 f.1, f.2))
        | after h ↦ elim (order? 0 (blocks_there (times_cached m) r c)) [
          | before k ↦ (let f = one_passes (per_region c) (λ i. times_cached m (unit_of r c i)) k in
              let u = unit_of r c f.0 in
              let g = total-found TASKS (λ t T. times_cached_by T u) m.task f.2 in
              cached g.at u g.fits (region-again r c f.0 f.1, g.has))
          | after k ↦ (let some : 1 ≤ blocks_there (times_running m) r c = omega (arith, sum, few) in
              let f = one_passes (per_region c) (λ i. times_running m (unit_of r c i)) some in
              let u = unit_of r c f.0 in
              let g = total-found TASKS (λ t T. times_running_by T u) m.task f.2 in
              running g.at u g.fits (region-again r c f.0 f.1) g.has)
        ]
      ]
