-- The open region that a task's block belongs to, and its descriptor.
use mathlib.Core.Path.{◌≡◌, ap}
use mathlib.Core.List.{List}
use Prim.Native.Nat.{ℕ, suc, ◌≤◌, ◌<◌}
use native.Mathlib.Omega.{arith}
use Rattle.limits.specs.Limits.{TASKS, DESCRIPTORS}
use Rattle.rows.specs.Counting.{count}
use Rattle.rows.proofs.Weights.{when-same}
use Rattle.rows.proofs.Totals.{total-one}
use Rattle.classes.specs.Geometry.{region_of}
use Rattle.plain.specs.State.{Place, Mem}
use Rattle.plain.specs.ByState.{IsOpen}
use Rattle.plain.specs.Held.{class_at, under_way}
use Rattle.plain.specs.HolderWeights.{block_class_weight}
use Rattle.plain.proofs.Homes.{Home, home}
use Rattle.plain.proofs.Turn.{Turn}
use Rattle.plain.proofs.PlaceAlone.{task_of}

module _ {area : ℕ} {m : Mem} {t : ℕ} {p : Place} {k : ℕ → List ℕ} (w : Turn area m t (task_of p k)) where
  -- What a place has under way is of its class, so it has a home.
  pub home_of : (v : ℕ) → 1 ≤ count v (under_way p) → Home m (class_at p) v
  home_of v h = home w.inv (class_at p) v (omega (
    arith,
    w.inv.block_classes (class_at p) v,
    total-one TASKS (block_class_weight (class_at p) v) m.task t w.fits,
    ap (block_class_weight (class_at p) v t) w.is,
    when-same (class_at p) (count v (under_way p)),
  ))

-- the descriptor d opens the region of the block y for the class c
pub record Owner (m : Mem) (c y d : ℕ) : Type 0 where
  pub fits : d < DESCRIPTORS
  pub counts : IsOpen (m.descriptor d).state
  pub class : (m.descriptor d).class ≡ c
  pub region : (m.descriptor d).region ≡ region_of y

module _ {area : ℕ} {m : Mem} {t : ℕ} {p : Place} {k : ℕ → List ℕ} (w : Turn area m t (task_of p k)) where
  -- The descriptor that the map names for the region of a block under way opens it.
  pub owner : (y d : ℕ) → 1 ≤ count y (under_way p) → m.map (region_of y) ≡ suc d → Owner m (class_at p) y d
  owner y d h e =
      let f = home_of w y h in
      let g : f.d ≡ d = omega (arith, f.named) in
      record {
        fits = rw (← g) f.fits;
        counts = rw (← g) f.counts;
        class = rw (← g) f.class;
        region = rw (← g) f.region;
      }
