-- The invariant after a start.
use mathlib.Core.Path.{◌≡◌, refl, sym, ap, subst, ◌∙◌}
use Prim.Native.Nat.{ℕ, zero, suc, ◌+◌, ◌≤◌, ◌<◌}
use native.Mathlib.Omega.{arith}
use native.Mathlib.Decide.{ℕ_discrete}
use lib.ListN.{length}
use mathlib.Core.List.{[]}
use Rattle.limits.specs.Limits.{TASKS, CLASSES, DESCRIPTORS, SPARE_DESCRIPTORS, SPARE_REGIONS}
use Rattle.rows.specs.Comparisons.{same, other, same?}
use Rattle.rows.specs.Weights.{below}
use Rattle.rows.specs.Counting.{count}
use Rattle.rows.proofs.Branch.{if_yes, if_no}
use Rattle.rows.proofs.Weights.{when-same, when-other, when-zero, below-yes, below-no, below-max}
use Rattle.rows.proofs.Totals.{total-suc, total-zero}
use Rattle.plain.specs.State.{EMPTY, Descriptor, idle, Task}
use Rattle.plain.specs.Calls.{rising, start_row, start_mem}
use Rattle.plain.specs.HolderWeights.{row_weight, inside_weight, chain_weight, chain_class_weight, open_weight}
use Rattle.plain.specs.HolderWeights.{full_weight}
use Rattle.plain.specs.HolderWeights.{block_weight, block_class_weight, descriptor_weight, descriptor_class_weight}
use Rattle.plain.specs.HolderWeights.{spare_weight, region_weight}
use Rattle.plain.specs.Invariant.{never_opened, Invariant}

-- ---- the n items from i on

-- An item before i is not among the n items from i on.
rising-before : (n i d : ℕ) → d < i → count d (rising n i) ≡ 0
unfolding rising
rising-before zero i d h = refl
rising-before (suc n) i d h =
    omega (arith, rising-before n (suc i) d (omega arith), when-other d i 1 (omega arith))

-- An item from i on is among the n items from i on once, if it is below i + n, and else not.
rising-from : (n i d : ℕ) → i ≤ d → count d (rising n i) ≡ below d (i + n)
unfolding rising
rising-from zero i d h = sym (below-no d (i + 0) (omega arith))
rising-from (suc n) i d h = elim (same? d i) [
  | same e ↦ subst (λ x. count x (rising (suc n) i) ≡ below x (i + suc n)) (sym e) (omega (
    arith,
    when-same i 1,
    rising-before n (suc i) i (omega arith),
    below-yes i (i + suc n) (omega arith),
  ))
  | other e ↦ (let f : suc i + n ≡ i + suc n = omega arith in
      omega (arith, when-other d i 1 e, rising-from n (suc i) d (omega arith), ap (below d) f))
]

-- The row of n items from 0 on has each number below n once, and no other.
pub rising-count : (n d : ℕ) → count d (rising n 0) ≡ below d n
rising-count n d = rising-from n 0 d (omega arith) ∙ ap (below d) (omega arith)

-- The row of n items from i on has n items.
pub length-rising : (n i : ℕ) → length (rising n i) ≡ n
unfolding rising
length-rising zero i = refl
length-rising (suc n) i = ap suc (length-rising n (suc i))

-- ---- the lists at a start

partial-row : (area ℓ : ℕ) → ℓ < CLASSES → start_row area ℓ ≡ []
partial-row area ℓ h =
    if_no (ℕ_discrete ℓ SPARE_DESCRIPTORS) (rising DESCRIPTORS 0) _ (omega arith)
    ∙ if_no (ℕ_discrete ℓ SPARE_REGIONS) (rising area 0) [] (omega arith)

spare-row : (area : ℕ) → start_row area SPARE_DESCRIPTORS ≡ rising DESCRIPTORS 0
spare-row area = if_yes (ℕ_discrete SPARE_DESCRIPTORS SPARE_DESCRIPTORS) (rising DESCRIPTORS 0) _ refl

region-row : (area : ℕ) → start_row area SPARE_REGIONS ≡ rising area 0
region-row area =
    if_no (ℕ_discrete SPARE_REGIONS SPARE_DESCRIPTORS) (rising DESCRIPTORS 0) _ (omega arith)
    ∙ if_yes (ℕ_discrete SPARE_REGIONS SPARE_REGIONS) (rising area 0) [] refl

-- A start makes the invariant true.
pub start-inv : (area : ℕ) → Invariant area (start_mem area)
unfolding start_mem
start-inv area = record {
  descriptors = λ d. omega (
    arith,
    total-suc CLASSES (row_weight d) (start_row area),
    total-zero CLASSES (row_weight d) (start_row area) (λ i l. ap (count d) (partial-row area i l)),
    ap (count d) (spare-row area),
    rising-count DESCRIPTORS d,
    total-zero TASKS (descriptor_weight d) tasks (λ i l. refl),
    total-zero DESCRIPTORS (full_weight d) descriptors (λ i l. when-zero d i),
  );
  regions = λ r. omega (
    arith,
    ap (count r) (region-row area),
    rising-count area r,
    total-zero TASKS (region_weight r) tasks (λ i l. refl),
    total-zero DESCRIPTORS (open_weight r) descriptors (λ i l. refl),
  );
  classes = λ c d l. omega (
    arith,
    ap (count d) (partial-row area c l),
    total-zero TASKS (descriptor_class_weight c d) tasks (λ i l. when-zero c 0),
  );
  spares = λ d. omega (
    arith,
    ap (count d) (spare-row area),
    rising-count DESCRIPTORS d,
    below-max d DESCRIPTORS,
    total-zero TASKS (spare_weight d) tasks (λ i l. refl),
  );
  blocks = λ v. omega (
    arith,
    total-zero TASKS (block_weight v) tasks
        (λ i l. omega (arith, total-zero CLASSES (row_weight v) (λ (c : ℕ). []) (λ i l. refl))),
    total-zero DESCRIPTORS (chain_weight v) descriptors (λ i l. refl),
    total-zero DESCRIPTORS (inside_weight v) descriptors (λ i l. refl),
  );
  block_classes = λ c v. omega (
    arith,
    total-zero TASKS (block_class_weight c v) tasks (λ i l. omega (arith, when-zero c 0)),
    total-zero DESCRIPTORS (chain_class_weight c v) descriptors (λ i l. refl),
  );
  chains = λ d l. tt;
  closed = λ d l. never_opened refl;
  maps = λ d l. tt;
  entries = λ r. omega arith;
  unmapped = λ r h. refl;
  tasks = λ t l. record { lengths = λ c. omega arith; place = tt; note = tt };
}
  where
    tasks : ℕ → Task
    tasks t = record { place = idle; cache = λ c. [] }

    descriptors : ℕ → Descriptor
    descriptors d = record { state = EMPTY; region = 0; class = 0; chain = [] }
