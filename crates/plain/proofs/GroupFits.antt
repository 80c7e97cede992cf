-- The group of a free: with its region's chain it has at most n blocks, and if it has n, all of the region's.
use mathlib.Core.Path.{◌≡◌, sym, ap, ◌∙◌}
use mathlib.Core.List.{List, ◌∷◌, ◌++◌}
use Prim.Native.Nat.{ℕ, suc, ◌+◌, ◌≤◌}
use native.Mathlib.Omega.{arith}
use lib.ListN.{length}
use Rattle.limits.specs.Limits.{TASKS, DESCRIPTORS}
use Rattle.rows.specs.Comparisons.{same, other, same?, before, after, order?}
use Rattle.rows.specs.Counting.{count}
use Rattle.rows.proofs.Weights.{when-same, when-other}
use Rattle.rows.proofs.Counting.{count-append}
use Rattle.rows.proofs.Totals.{total-one}
use Rattle.rows.proofs.Pigeonhole.{pigeonhole, pigeonhole-full}
use Rattle.classes.specs.Classes.{per_region}
use Rattle.classes.specs.Geometry.{region_of}
use Rattle.plain.specs.State.{Place, Mem, Purpose}
use Rattle.plain.specs.Blocks.{blocks_from, count_block}
use Rattle.plain.specs.Held.{class_at, under_way, own_blocks}
use Rattle.plain.specs.HolderWeights.{chain_weight, block_weight}
use Rattle.plain.specs.TaskHolds.{Together}
use Rattle.plain.specs.Invariant.{OpenDescriptor}
use Rattle.plain.proofs.Blocks.{length-blocks, is_block-row, block-counts}
use Rattle.plain.proofs.ByState.{open-holds}
use Rattle.plain.proofs.Homes.{inside-open}
use Rattle.plain.proofs.Turn.{Turn}
use Rattle.plain.proofs.PlaceAlone.{task_of}
use Rattle.plain.proofs.Owners.{home_of, Owner, owner}

-- a place of the class c that has under way the block being freed, if there is one, and a group, y and g, whose
-- region's entry in the map names the descriptor d
pub record Grouped (m : Mem) (p : Place) (c : ℕ) (z : Purpose) (y : ℕ) (g : List ℕ) (d : ℕ) : Type 0 where
  pub blocks : under_way p ≡ own_blocks z ++ (y ∷ g)
  pub class : class_at p ≡ c
  pub together : Together y g
  pub named : m.map (region_of y) ≡ suc d

module _ {area : ℕ} {m : Mem} {t : ℕ} {p : Place} {k : ℕ → List ℕ} {c : ℕ} {z : Purpose} {y : ℕ}
    {g : List ℕ} {d : ℕ} (w : Turn area m t (task_of p k)) (G : Grouped m p c z y g d) where
  -- how often a block is under way
  counted : (v : ℕ) → count v (under_way p) ≡ count v (own_blocks z) + count v (y ∷ g)
  counted v = ap (count v) G.blocks ∙ count-append v (own_blocks z) (y ∷ g)

  -- The descriptor opens the group's region for the class.
  pub group-owner : Owner m c y d
  group-owner =
      let o = owner w y d (omega (arith, counted y, when-same y 1)) G.named in
      record { fits = o.fits; counts = o.counts; class = o.class ∙ G.class; region = o.region }

  -- What holds of the descriptor of an open region holds of that of the group's region.
  pub group-opened : OpenDescriptor (m.descriptor d)
  group-opened = open-holds (m.descriptor d).state group-owner.counts (w.inv.chains d group-owner.fits)

  -- A block is once in the group, or in the chain, or being freed.
  once : (v : ℕ) → count v (own_blocks z) + count v (y ∷ g) + count v (m.descriptor d).chain ≤ 1
  once v = omega (
    arith,
    counted v,
    w.inv.blocks v,
    inside-open w.inv v,
    total-one TASKS (block_weight v) m.task t w.fits,
    ap (block_weight v t) w.is,
    total-one DESCRIPTORS (chain_weight v) m.descriptor d group-owner.fits,
    group-owner.counts (count v (m.descriptor d).chain),
  )

  -- The group lies in the first block's region.
  same-region : (v : ℕ) → 1 ≤ count v (y ∷ g) → region_of v ≡ region_of y
  same-region v h = elim (same? v y) [
    | same e ↦ ap region_of e
    | other e ↦ G.together v (omega (arith, when-other v y 1 e))
  ]

  -- A block of the group is one of the region's.
  of-group : (v : ℕ) → 1 ≤ count v (y ∷ g) → count_block v (m.descriptor d).region (m.descriptor d).class ≡ 1
  of-group v h =
      let f = home_of w v (omega (arith, counted v)) in
      let e : f.d ≡ d = omega (arith, f.named, ap m.map (same-region v h), G.named) in
      block-counts (rw (← e) f.block)

  -- The group and the chain together have blocks of the region alone, each once, and the block being freed is not among
  -- them.
  pub group-joined : (v : ℕ)
      → (count v (y ∷ (g ++ (m.descriptor d).chain)) ≡ count v (y ∷ g) + count v (m.descriptor d).chain)
      × (count v (y ∷ (g ++ (m.descriptor d).chain)) ≤ count_block v (m.descriptor d).region (m.descriptor d).class)
      × (count v (own_blocks z) + count v (y ∷ (g ++ (m.descriptor d).chain)) ≤ 1)
  group-joined v =
      let e = count-append v g (m.descriptor d).chain in
      let o = once v in
      elim (order? 0 (count v (y ∷ g))) [
        | before h ↦ omega (arith, of-group v h)
        | after h ↦ omega (arith, group-opened.inside v)
      ]

  -- the region's blocks as a row
  abbrev all : List ℕ
  all = blocks_from (m.descriptor d).region (m.descriptor d).class 0 (per_region (m.descriptor d).class)

  among : (v : ℕ) → count v (y ∷ (g ++ (m.descriptor d).chain)) ≤ count v all
  among v = omega (arith, group-joined v, is_block-row v (m.descriptor d).region (m.descriptor d).class)

  all-length : length all ≡ per_region c
  all-length =
      length-blocks (m.descriptor d).region (m.descriptor d).class 0 (per_region (m.descriptor d).class)
      ∙ ap per_region group-owner.class

  -- The group and the chain have at most n blocks.
  pub group-fits : length (y ∷ (g ++ (m.descriptor d).chain)) ≤ per_region c
  group-fits = omega (arith, pigeonhole (y ∷ (g ++ (m.descriptor d).chain)) all among, all-length)

  -- If the group and the chain have n blocks, they are all of the region's blocks.
  pub group-whole : length (y ∷ (g ++ (m.descriptor d).chain)) ≡ per_region c → (v : ℕ)
      → count_block v (m.descriptor d).region (m.descriptor d).class ≡ count v (y ∷ (g ++ (m.descriptor d).chain))
  group-whole e v =
      is_block-row v (m.descriptor d).region (m.descriptor d).class
      ∙ sym (pigeonhole-full (y ∷ (g ++ (m.descriptor d).chain)) all among (e ∙ sym all-length) v)
