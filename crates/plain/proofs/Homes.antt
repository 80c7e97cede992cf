-- Where a block lives: the open region that has it, and its descriptor.
use mathlib.Core.Path.{◌≡◌, sym}
use Prim.Native.Nat.{ℕ, suc, ◌≤◌, ◌<◌}
use native.Mathlib.Omega.{arith}
use Rattle.limits.specs.Limits.{TASKS, DESCRIPTORS}
use Rattle.rows.specs.Weights.{when}
use Rattle.rows.specs.Counting.{count}
use Rattle.rows.specs.Totals.{total}
use Rattle.rows.proofs.Weights.{when-same, when-max, when-is, below-max}
use Rattle.rows.proofs.Totals.{total-le, total-one, total-found}
use Rattle.classes.specs.Geometry.{region_of, BlockOf}
use Rattle.classes.proofs.BlockUnits.{region-is}
use Rattle.plain.specs.State.{Mem}
use Rattle.plain.specs.Blocks.{count_block}
use Rattle.plain.specs.ByState.{IsOpen}
use Rattle.plain.specs.Held.{class_at, under_way}
use Rattle.plain.specs.HolderWeights.{inside_weight, inside_class_weight, open_weight, block_class_weight}
use Rattle.plain.specs.Invariant.{Invariant}
use Rattle.plain.proofs.Blocks.{counts-block, is_block-region}
use Rattle.plain.proofs.ByState.{open-le, open_counts, open-holds}

-- a block v of the class c, and the descriptor d that opens its region; the map names d
pub record Home (m : Mem) (c v : ℕ) : Type 0 where
  pub d : ℕ
  pub fits : d < DESCRIPTORS
  pub counts : IsOpen (m.descriptor d).state
  pub class : (m.descriptor d).class ≡ c
  pub region : (m.descriptor d).region ≡ region_of v
  pub block : BlockOf (m.descriptor d).region (m.descriptor d).class v
  pub named : m.map (region_of v) ≡ suc d

module _ {area : ℕ} {m : Mem} (I : Invariant area m) where
  -- What counts as a block of the class in an open region has a home.
  pub home : (c v : ℕ) → 1 ≤ total DESCRIPTORS (inside_class_weight c v) m.descriptor → Home m c v
  home c v e =
      let f = total-found DESCRIPTORS (inside_class_weight c v) m.descriptor e in
      let D = m.descriptor f.at in
      let g = open_counts D.state (when c D.class (count_block v D.region D.class)) f.has in
      let s = when-is c D.class (count_block v D.region D.class) g.0 in
      let b : BlockOf D.region D.class v = counts-block D.region D.class v s.1 in
      record {
        d = f.at;
        fits = f.fits;
        counts = g.1;
        class = sym s.0;
        region = sym (region-is b);
        block = b;
        named = rw (region-is b) (open-holds D.state g.1 (I.maps f.at f.fits));
      }

  -- A unit is a block of an open region only if its own region is open, and that by one descriptor.
  pub inside-open : (v : ℕ)
      → (total DESCRIPTORS (inside_weight v) m.descriptor
      ≤ total DESCRIPTORS (open_weight (region_of v)) m.descriptor)
      × (total DESCRIPTORS (open_weight (region_of v)) m.descriptor ≤ 1)
  inside-open v = (
    total-le DESCRIPTORS (inside_weight v) (open_weight (region_of v)) m.descriptor (λ i l.
        let D = m.descriptor i in
        open-le D.state (is_block-region D.region D.class v)),
    omega (arith, I.regions (region_of v), below-max (region_of v) area),
  )

  -- A block of the class in an open region is a block in an open region.
  pub class-inside : (c v : ℕ)
      → total DESCRIPTORS (inside_class_weight c v) m.descriptor ≤ total DESCRIPTORS (inside_weight v) m.descriptor
  class-inside c v =
      total-le DESCRIPTORS (inside_class_weight c v) (inside_weight v) m.descriptor (λ i l.
      let D = m.descriptor i in
      open-le D.state (when-max c D.class (count_block v D.region D.class)))

  -- What a task has under way is of its place's class, in an open region.
  pub under_way-class : (t v : ℕ) → t < TASKS
      → count v (under_way (m.task t).place)
      ≤ total DESCRIPTORS (inside_class_weight (class_at (m.task t).place) v) m.descriptor
  under_way-class t v h =
      let p = (m.task t).place in
      omega (
        arith,
        total-one TASKS (block_class_weight (class_at p) v) m.task t h,
        I.block_classes (class_at p) v,
        when-same (class_at p) (count v (under_way p)),
      )
