-- Every block that a task has for a class lies in a region that is open in the class, so a sum over these leaves none
-- out.
use mathlib.Core.Path.{◌≡◌, sym, ap, subst, ◌∙◌}
use mathlib.Core.List.{List, [], ◌∷◌}
use Prim.Native.Nat.{ℕ, suc, ◌+◌, ◌≤◌, ◌<◌}
use native.Mathlib.Omega.{arith}
use lib.ListN.{length}
use Rattle.limits.specs.Limits.{TASKS}
use Rattle.rows.specs.Comparisons.{same, other, same?}
use Rattle.rows.specs.Weights.{when, one}
use Rattle.rows.specs.Counting.{count}
use Rattle.rows.specs.Totals.{total}
use Rattle.rows.proofs.Branch.{if_yes}
use Rattle.rows.proofs.Weights.{when-same, when-other, when-zero, when-add}
use Rattle.rows.proofs.Counting.{count-first}
use Rattle.rows.proofs.Totals.{total-only, total-zero, total-add, total-same}
use Rattle.classes.specs.Geometry.{region_of}
use Rattle.plain.specs.State.{Mem}
use Rattle.plain.specs.Calls.{opens?}
use Rattle.plain.specs.Held.{class_at, under_way}
use Rattle.plain.specs.Invariant.{Invariant}
use Rattle.plain.proofs.ByState.{is_open}
use Rattle.plain.proofs.Homes.{Home}
use Rattle.agreement.specs.Observe.{plain_class_by, plain_class}
use Rattle.agreement.proofs.TurnInBoth.{region-below}
use Rattle.reports.specs.ByRegion.{in_region}
use Rattle.report_agreement.proofs.SheetAddsUp.{has-home, under-home}

module _ {regions : ℕ} {m : Mem} (I : Invariant regions m) where
  -- the region of a block that has a home is one of the area's,
  pub region-inside : {c v : ℕ} → Home m c v → region_of v < regions
  region-inside {v = v} H =
      rw (← H.region)
      (region-below I {v = v} (record { d = H.d; fits = H.fits; counts = H.counts; block = H.block }))

  -- and is open in the block's class
  pub region-open : {c v : ℕ} → Home m c v → plain_class m (region_of v) ≡ suc c
  region-open {v = v} H =
      let D = m.descriptor H.d in
      ap (λ (z : ℕ). plain_class_by z (region_of v) m) H.named
      ∙ if_yes (opens? D (region_of v)) (suc D.class) 0 (H.region, is_open D.state H.counts)
      ∙ ap suc H.class

  module _ (c : ℕ) where
    -- one block is counted once
    one-counted : (u : ℕ) → Home m c u
        → total regions (λ r z. when (suc c) z (one r (region_of u))) (plain_class m) ≡ 1
    one-counted u H =
        total-only regions (λ r z. when (suc c) z (one r (region_of u))) (plain_class m) (region_of u) (region-inside H)
        (λ r l d. ap (when (suc c) (plain_class m r)) (when-other r (region_of u) 1 d)
        ∙ when-zero (suc c) (plain_class m r))
        ∙ rw (region-open H, when-same (region_of u) 1, when-same (suc c) 1)

    -- so the blocks of a row, over all regions that are open in the class, are all of the row
    pub none_left : (q : List ℕ) → ((u : ℕ) → 1 ≤ count u q → Home m c u)
        → total regions (λ r z. when (suc c) z (in_region r q)) (plain_class m) ≡ length q
    none_left [] h =
        total-zero regions (λ r z. when (suc c) z 0) (plain_class m) (λ r l. when-zero (suc c) (plain_class m r))
    none_left (u ∷ q) h =
        total-same regions (λ r z. when (suc c) z (one r (region_of u) + in_region r q)) (plain_class m)
        (λ r z. when (suc c) z (one r (region_of u)) + when (suc c) z (in_region r q)) (plain_class m)
        (λ r l. when-add (suc c) (plain_class m r) (one r (region_of u)) (in_region r q))
        ∙ total-add regions (λ r z. when (suc c) z (one r (region_of u))) (λ r z. when (suc c) z (in_region r q))
        (plain_class m)
        ∙ rw (one-counted u (h u (count-first u q)), none_left q (λ v g. h v (omega arith))) (omega arith)

  module _ (t c : ℕ) (task : t < TASKS) where
    -- all blocks of a task's cache
    pub cache-whole : total regions (λ r z. when (suc c) z (in_region r ((m.task t).cache c))) (plain_class m)
        ≡ length ((m.task t).cache c)
    cache-whole = none_left c ((m.task t).cache c) (λ u h. has-home I t c u task (omega arith))

    -- all blocks that its request has under way, if the request is of the class
    pub request-whole : total regions
        (λ r z. when (suc c) z (when c (class_at (m.task t).place) (in_region r (under_way (m.task t).place))))
        (plain_class m)
        ≡ when c (class_at (m.task t).place) (length (under_way (m.task t).place))
    request-whole =
        let p = (m.task t).place in
        let q = under_way p in
        elim (same? c (class_at p)) [
          | same e ↦
              total-same regions (λ r z. when (suc c) z (when c (class_at p) (in_region r q))) (plain_class m)
              (λ r z. when (suc c) z (in_region r q)) (plain_class m) (λ r l.
              ap (when (suc c) (plain_class m r)) (as-it-is e (in_region r q)))
              ∙ none_left c q (λ u h. subst (λ (x : ℕ). Home m x u) (sym e) (under-home I t u task h))
              ∙ sym (as-it-is e (length q))
          | other d ↦
              total-zero regions (λ r z. when (suc c) z (when c (class_at p) (in_region r q))) (plain_class m) (λ r l.
              ap (when (suc c) (plain_class m r)) (when-other c (class_at p) (in_region r q) d)
              ∙ when-zero (suc c) (plain_class m r))
              ∙ sym (when-other c (class_at p) (length q) d)
        ]
      where
        as-it-is : {x y : ℕ} → x ≡ y → (n : ℕ) → when x y n ≡ n
        as-it-is {x} e n = ap (λ (z : ℕ). when x z n) (sym e) ∙ when-same x n
