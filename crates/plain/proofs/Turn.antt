-- One task's turn: what a step has to show of what it changes, and that the invariant then holds again.
use mathlib.Core.Path.{◌≡◌, refl, sym, ap, subst, ◌∙◌}
use mathlib.Core.Logic.{◌≢◌}
use Prim.Native.Nat.{ℕ, suc, ◌+◌, ◌≤◌, ◌<◌}
use native.Mathlib.Omega.{arith}
use Rattle.limits.specs.Limits.{TASKS, CLASSES, DESCRIPTORS, SPARE_DESCRIPTORS, SPARE_REGIONS, DESCRIPTOR_LISTS}
use Rattle.rows.specs.Update.{update}
use Rattle.rows.specs.Weights.{one}
use Rattle.rows.specs.Counting.{count}
use Rattle.rows.specs.Totals.{total}
use Rattle.rows.proofs.Update.{update_all}
use Rattle.rows.proofs.Weights.{below-max}
use Rattle.rows.proofs.Totals.{total-le, total-one, total-update}
use Rattle.classes.specs.Geometry.{region_of}
use Rattle.plain.specs.State.{Task, Mem, set_task}
use Rattle.plain.specs.ByState.{IfOpen, IfEmpty, one_if_empty}
use Rattle.plain.specs.Held.{class_at, under_way, held}
use Rattle.plain.specs.HolderWeights.{row_weight, inside_weight, inside_class_weight, chain_weight, chain_class_weight}
use Rattle.plain.specs.HolderWeights.{open_weight, full_weight, block_weight, block_class_weight, descriptor_weight}
use Rattle.plain.specs.HolderWeights.{descriptor_class_weight, spare_weight, region_weight, unmapped_weight}
use Rattle.plain.specs.TaskHolds.{TaskHolds}
use Rattle.plain.specs.Invariant.{OpenDescriptor, ClosedDescriptor, Invariant}
use Rattle.plain.specs.Noted.{noted}
use Rattle.plain.proofs.Held.{spare-held, class-held, unmapped-held}
use Rattle.plain.proofs.Homes.{inside-open, class-inside, under_way-class}
use Rattle.plain.proofs.NotesKept.{Exchanges, as_before, note-kept}

-- the task t, which is T, is about to take a step in a memory that has the invariant
pub record Turn (area : ℕ) (m : Mem) (t : ℕ) (T : Task) : Type 0 where
  pub inv : Invariant area m
  pub fits : t < TASKS
  pub is : m.task t ≡ T

-- Two of the laws say n ≤ e, of a descriptor that is on some list or held in some way. After a step n' ≤ e'
-- holds if no more is asked, or if e' is 1 or the descriptor is FULL (f'), since it has one place at most.
pub data Bounded (n n' e e' f' : ℕ) : Type 0 where
  fewer : n' + e ≤ n + e' → Bounded n n' e e' f'
  enough : 1 ≤ e' + f' → Bounded n n' e e' f'

-- A region that is spare, or held without an entry, n' times in all, has the entry z' = 0: no more is asked than
-- before and its entry stays; or it has none; or it is open now (o'), and so neither spare nor held.
pub data Unmapped (n n' z z' o' : ℕ) : Type 0 where
  as-mapped : n' ≤ n → z' ≡ z → Unmapped n n' z z' o'
  no-entry : z' ≡ 0 → Unmapped n n' z z' o'
  opens : 1 ≤ o' → Unmapped n n' z z' o'

-- what a step has to show, after which the memory is m', and the task T'
pub record Balanced (m : Mem) (t : ℕ) (T : Task) (m' : Mem) (T' : Task) : Type 0 where
  pub descriptors : (x : ℕ)
      → total DESCRIPTOR_LISTS (row_weight x) m'.row + descriptor_weight x t T'
      + total DESCRIPTORS (full_weight x) m'.descriptor
      ≡ total DESCRIPTOR_LISTS (row_weight x) m.row + descriptor_weight x t T
      + total DESCRIPTORS (full_weight x) m.descriptor
  pub regions : (r : ℕ)
      → count r (m'.row SPARE_REGIONS) + region_weight r t T' + total DESCRIPTORS (open_weight r) m'.descriptor
      ≡ count r (m.row SPARE_REGIONS) + region_weight r t T + total DESCRIPTORS (open_weight r) m.descriptor
  pub classes : (c x : ℕ) → c < CLASSES → Bounded
      (count x (m.row c) + descriptor_class_weight c x t T)
      (count x (m'.row c) + descriptor_class_weight c x t T')
      (one c (m.descriptor x).class)
      (one c (m'.descriptor x).class)
      (total DESCRIPTORS (full_weight x) m'.descriptor)
  pub spares : (x : ℕ) → Bounded
      (count x (m.row SPARE_DESCRIPTORS) + spare_weight x t T)
      (count x (m'.row SPARE_DESCRIPTORS) + spare_weight x t T')
      (one_if_empty (m.descriptor x).state)
      (one_if_empty (m'.descriptor x).state)
      (total DESCRIPTORS (full_weight x) m'.descriptor)
  pub blocks : (v : ℕ)
      → m'.hands v + block_weight v t T' + total DESCRIPTORS (chain_weight v) m'.descriptor
      + total DESCRIPTORS (inside_weight v) m.descriptor
      ≡ m.hands v + block_weight v t T + total DESCRIPTORS (chain_weight v) m.descriptor
      + total DESCRIPTORS (inside_weight v) m'.descriptor
  pub block_classes : (c v : ℕ)
      → total TASKS (block_class_weight c v) m.task + block_class_weight c v t T'
      + total DESCRIPTORS (chain_class_weight c v) m'.descriptor
      ≤ block_class_weight c v t T + total DESCRIPTORS (inside_class_weight c v) m'.descriptor
  pub chains : (d : ℕ) → d < DESCRIPTORS → IfOpen (m'.descriptor d).state (OpenDescriptor (m'.descriptor d))
  pub closed : (d : ℕ) → d < DESCRIPTORS → IfEmpty (m'.descriptor d).state (ClosedDescriptor (m'.descriptor d))
  pub maps : (d : ℕ) → d < DESCRIPTORS → IfOpen (m'.descriptor d).state (m'.map (m'.descriptor d).region ≡ suc d)
  pub entries : (r : ℕ) → m'.map r ≤ DESCRIPTORS
  pub unmapped : (r : ℕ) → Unmapped
      (count r (m.row SPARE_REGIONS) + unmapped_weight r t T)
      (count r (m'.row SPARE_REGIONS) + unmapped_weight r t T')
      (m.map r)
      (m'.map r)
      (total DESCRIPTORS (open_weight r) m'.descriptor)
  pub own : TaskHolds m' T'
  -- the map's entries of open regions stay
  pub kept : (r : ℕ) → 1 ≤ total DESCRIPTORS (open_weight r) m.descriptor → m'.map r ≡ m.map r
  pub exchanges : (ℓ : ℕ) → Exchanges (m.won ℓ) (m.row ℓ) (m'.won ℓ) (m'.row ℓ)

module _ {area : ℕ} {m : Mem} {t : ℕ} {T : Task} (w : Turn area m t T) where
  -- What the invariant says of the task itself.
  pub task_holds : TaskHolds m T
  task_holds = rw w.is at (w.inv.tasks t w.fits)

  -- The region of what a task has under way is open.
  under_way-open : (j y : ℕ) → j < TASKS → 1 ≤ count y (under_way (m.task j).place)
      → 1 ≤ total DESCRIPTORS (open_weight (region_of y)) m.descriptor
  under_way-open j y l h =
      let c = class_at (m.task j).place in
      omega (arith, under_way-class w.inv j y l, class-inside w.inv c y, inside-open w.inv y)

  -- A step that shows what it has to show keeps the invariant.
  pub turn-inv : (m' : Mem) (T' : Task) → m'.task ≡ update m.task t T' → Balanced m t T m' T' → Invariant area m'
  turn-inv m' T' e s = record {
    descriptors = λ x. omega (arith, w.inv.descriptors x, retask (descriptor_weight x), s.descriptors x);
    regions = λ r. omega (arith, w.inv.regions r, retask (region_weight r), s.regions r);
    classes = λ c x l. classes c x l (s.classes c x l);
    spares = λ x. spares x (s.spares x);
    blocks = λ v. omega (arith, w.inv.blocks v, retask (block_weight v), s.blocks v);
    block_classes = λ c v. omega (arith, retask (block_class_weight c v), s.block_classes c v);
    chains = s.chains;
    closed = s.closed;
    maps = s.maps;
    entries = s.entries;
    unmapped = λ r. unmapped r (s.unmapped r);
    tasks = subst (λ (f : ℕ → Task). (j : ℕ) → j < TASKS → TaskHolds m' (f j)) (sym e)
        (update_all (λ j U. j < TASKS → TaskHolds m' U) m.task t T' (λ l. s.own) others);
  }
    where
      -- a weight summed over the tasks, after the task's change
      retask : (z : ℕ → Task → ℕ) → total TASKS z m'.task + z t T ≡ total TASKS z m.task + z t T'
      retask z = omega (
        arith,
        total-update TASKS z m.task t T' w.fits,
        ap (z t) w.is,
        ap (λ (f : ℕ → Task). total TASKS z f) e,
      )

      -- A descriptor is on the list ℓ, or held, or FULL, but once; z is a way to hold it.
      once : (z : ℕ → Task → ℕ) (x ℓ : ℕ) → ℓ < DESCRIPTOR_LISTS
          → ((i : ℕ) → z i (m'.task i) ≤ descriptor_weight x i (m'.task i))
          → count x (m'.row ℓ) + total TASKS z m'.task + total DESCRIPTORS (full_weight x) m'.descriptor ≤ 1
      once z x ℓ l h = omega (
        arith,
        w.inv.descriptors x,
        retask (descriptor_weight x),
        s.descriptors x,
        total-one DESCRIPTOR_LISTS (row_weight x) m'.row ℓ l,
        total-le TASKS z (descriptor_weight x) m'.task (λ i g. h i),
        below-max x DESCRIPTORS,
      )

      classes : (c x : ℕ) → c < CLASSES → Bounded
          (count x (m.row c) + descriptor_class_weight c x t T)
          (count x (m'.row c) + descriptor_class_weight c x t T')
          (one c (m.descriptor x).class)
          (one c (m'.descriptor x).class)
          (total DESCRIPTORS (full_weight x) m'.descriptor)
          → count x (m'.row c) + total TASKS (descriptor_class_weight c x) m'.task ≤ one c (m'.descriptor x).class
      classes c x l (fewer h) = omega (arith, w.inv.classes c x l, retask (descriptor_class_weight c x))
      classes c x l (enough h) =
          let z = descriptor_class_weight c x in
          omega (arith, once z x c (omega arith) (λ i. class-held c x (m'.task i).place))

      spares : (x : ℕ) → Bounded
          (count x (m.row SPARE_DESCRIPTORS) + spare_weight x t T)
          (count x (m'.row SPARE_DESCRIPTORS) + spare_weight x t T')
          (one_if_empty (m.descriptor x).state)
          (one_if_empty (m'.descriptor x).state)
          (total DESCRIPTORS (full_weight x) m'.descriptor)
          → count x (m'.row SPARE_DESCRIPTORS) + total TASKS (spare_weight x) m'.task
          ≤ one_if_empty (m'.descriptor x).state
      spares x (fewer h) = omega (arith, w.inv.spares x, retask (spare_weight x))
      spares x (enough h) =
          omega (arith, once (spare_weight x) x SPARE_DESCRIPTORS (omega arith) (λ i. spare-held x (m'.task i).place))

      unmapped : (r : ℕ) → Unmapped
          (count r (m.row SPARE_REGIONS) + unmapped_weight r t T)
          (count r (m'.row SPARE_REGIONS) + unmapped_weight r t T')
          (m.map r)
          (m'.map r)
          (total DESCRIPTORS (open_weight r) m'.descriptor)
          → 1 ≤ count r (m'.row SPARE_REGIONS) + total TASKS (unmapped_weight r) m'.task → m'.map r ≡ 0
      unmapped r (as-mapped l f) h = f ∙ w.inv.unmapped r (omega (arith, retask (unmapped_weight r)))
      unmapped r (no-entry f) h = f
      unmapped r (opens o) h = absurd (omega (
        arith,
        w.inv.regions r,
        retask (region_weight r),
        s.regions r,
        total-le TASKS (unmapped_weight r) (region_weight r) m'.task (λ i g. unmapped-held r (m'.task i).place),
        below-max r area,
      ))

      others : (j : ℕ) → j ≢ t → j < TASKS → TaskHolds m' (m.task j)
      others j d l =
          let o = w.inv.tasks j l in
          record {
            lengths = o.lengths;
            place = o.place;
            note = note-kept m m' (held (m.task j).place) (noted (m.task j).place) s.exchanges
                (λ y h. s.kept (region_of y) (under_way-open j y l h)) o.note;
          }

-- ---- a step that changes the task alone

-- what a step that changes the task alone has to show
pub record Within (t : ℕ) (T T' : Task) : Type 0 where
  pub blocks : (v : ℕ) → block_weight v t T' ≡ block_weight v t T
  pub block_classes : (c v : ℕ) → block_class_weight c v t T' ≤ block_class_weight c v t T
  pub descriptors : (x : ℕ) → descriptor_weight x t T' ≡ descriptor_weight x t T
  pub classes : (c x : ℕ) → descriptor_class_weight c x t T' ≤ descriptor_class_weight c x t T
  pub spares : (x : ℕ) → spare_weight x t T' ≤ spare_weight x t T
  pub regions : (r : ℕ) → region_weight r t T' ≡ region_weight r t T
  pub unmapped : (r : ℕ) → unmapped_weight r t T' ≤ unmapped_weight r t T

module _ {area : ℕ} {m : Mem} {t : ℕ} {T : Task} (w : Turn area m t T) where
  -- A step that changes the task alone, and shows what it has to show, keeps the invariant.
  pub within : (T' : Task) → Within t T T' → TaskHolds m T' → Invariant area (set_task t T' m)
  within T' s o = turn-inv w _ T' refl (record {
    descriptors = λ x. omega (arith, s.descriptors x);
    regions = λ r. omega (arith, s.regions r);
    classes = λ c x l. fewer (omega (arith, s.classes c x));
    spares = λ x. fewer (omega (arith, s.spares x));
    blocks = λ v. omega (arith, s.blocks v);
    block_classes = λ c v. omega (arith, s.block_classes c v, w.inv.block_classes c v);
    chains = w.inv.chains;
    closed = w.inv.closed;
    maps = w.inv.maps;
    entries = w.inv.entries;
    unmapped = λ r. as-mapped (omega (arith, s.unmapped r)) refl;
    own = record { lengths = o.lengths; place = o.place; note = o.note };
    kept = λ r h. refl;
    exchanges = λ ℓ. as_before refl refl;
  })
