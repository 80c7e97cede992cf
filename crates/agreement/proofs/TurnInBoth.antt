-- One task's turn in both pools: what is its own and apart from the others', and the relation after a change of its own
-- part, its caches or a link.
use mathlib.Core.Path.{◌≡◌, refl, ap, subst}
use mathlib.Core.Logic.{◌≢◌}
use mathlib.Core.List.{List, [], ◌∷◌}
use Prim.Native.Nat.{ℕ, ◌*◌, ◌^◌, ◌≤◌, ◌<◌}
use native.Mathlib.Omega.{arith}
use lib.ListN.{length}
use Rattle.limits.specs.Limits.{REGIONS, REGION_BYTES, TASKS, DESCRIPTORS}
use Rattle.rows.specs.Counting.{count}
use Rattle.rows.specs.Linked.{LinksAgree}
use Rattle.rows.specs.Comparisons.{other, same, same?}
use Rattle.rows.specs.Totals.{total}
use Rattle.rows.specs.Weights.{one}
use Rattle.rows.proofs.Totals.{total-found, total-one, total-two}
use Rattle.rows.proofs.Weights.{below-is, below-max, when-same}
use Rattle.classes.specs.Geometry.{BlockOf}
use Rattle.classes.proofs.BlockUnits.{inside}
use Rattle.classes.proofs.Tables.{units-low}
use Rattle.links.specs.Link.{LINK_BYTES, ◌⇒◌, link, with_link}
use Rattle.links.proofs.Links.{length-linked, link-other, link-same}
use Rattle.plain.specs.State.{Mem, Place, Task, set_task}
use Rattle.plain.specs.Blocks.{count_block}
use Rattle.plain.specs.Held.{holds_descriptor, holds_region}
use Rattle.plain.specs.Invariant.{Invariant}
use Rattle.plain.specs.ByState.{IsOpen}
use Rattle.plain.specs.HolderWeights.{block_weight, chain_weight, descriptor_weight, inside_weight, open_weight}
use Rattle.plain.specs.HolderWeights.{region_weight}
use Rattle.plain.proofs.Blocks.{counts-block}
use Rattle.plain.proofs.Homes.{inside-open}
use Rattle.plain.proofs.PlaceAlone.{task_of}
use Rattle.plain.proofs.ByState.{open_counts}
use Rattle.plain.proofs.Turn.{Turn}
use Rattle.agreement.specs.Contents.{Contents, Slot}
use Rattle.agreement.specs.Relation.{Core, Related, SlotRelated}
use Rattle.agreement.proofs.Frames.{after, lists-kept}
use Rattle.agreement.proofs.RelatedParts.{links-related, core-lists, core-links}
use Rattle.agreement.proofs.Sets.{set_link, set_slot}

-- the relation, and the plain pool's own invariant, at the turn of the task t, which is at the place p with the caches
-- k
pub record Pair (regions : ℕ) (a : Contents) (m : Mem) (t : ℕ) (p : Place) (k : ℕ → List ℕ) : Type 0 where
  pub rel : Related regions a m
  pub turn : Turn regions m t (task_of p k)
  pub small : regions ≤ REGIONS

-- ---- blocks of open regions
pub record Valid (m : Mem) (v : ℕ) : Type 0 where
  pub d : ℕ
  pub fits : d < DESCRIPTORS
  pub counts : IsOpen (m.descriptor d).state
  pub block : BlockOf (m.descriptor d).region (m.descriptor d).class v

pub valid : (m : Mem) (v : ℕ) → 1 ≤ total DESCRIPTORS (inside_weight v) m.descriptor → Valid m v
valid m v h =
    let f = total-found DESCRIPTORS (inside_weight v) m.descriptor h in
    let g =
    open_counts (m.descriptor f.at).state
    (count_block v (m.descriptor f.at).region (m.descriptor f.at).class) f.has in
    record {
      d = f.at;
      fits = f.fits;
      counts = g.1;
      block = counts-block (m.descriptor f.at).region
          (m.descriptor f.at).class v g.0;
    }

module _ {regions : ℕ} {m : Mem} (I : Invariant regions m) where
  same-descriptor : {u v : ℕ} (b : Valid m u) (c : Valid m v)
      → (m.descriptor b.d).region ≡ (m.descriptor c.d).region
      → b.d ≡ c.d
  same-descriptor b c e = elim (same? b.d c.d) [
    | same i ↦ i
    | other n ↦ absurd (let r = (m.descriptor b.d).region in
        omega (
          arith,
          total-two DESCRIPTORS (open_weight r) m.descriptor b.d c.d n b.fits c.fits,
          I.regions r,
          below-max r regions,
          b.counts (one r r),
          c.counts (one r (m.descriptor c.d).region),
          when-same r 1,
          ap (one r) e,
        ))
  ]

  pub same_class : {u v : ℕ} (b : Valid m u) (c : Valid m v)
      → (m.descriptor b.d).region ≡ (m.descriptor c.d).region
      → (m.descriptor b.d).class ≡ (m.descriptor c.d).class
  same_class b c e = ap (λ (i : ℕ). (m.descriptor i).class) (same-descriptor b c e)

  pub region-below : {v : ℕ} (b : Valid m v) → (m.descriptor b.d).region < regions
  region-below b =
      let r = (m.descriptor b.d).region in
      below-is r regions
      (omega (
        arith,
        total-one DESCRIPTORS (open_weight r) m.descriptor b.d b.fits,
        I.regions r,
        b.counts
            (one r r),
        when-same r 1,
      ))

  pub reads : (a : List ℕ) (u x : ℕ) → length a ≡ REGION_BYTES * regions
      → 1 ≤ total DESCRIPTORS (inside_weight u) m.descriptor → x < 256 ^ LINK_BYTES → link (with_link a u x) u ≡ x
  reads a u x l p h =
      let b = valid m u p in
      link-same a u x (omega (arith, region-below b, inside b.block, units-low (m.descriptor b.d).class)) h

module _ {regions : ℕ} {a : Contents} {m : Mem} {t : ℕ} {p : Place} {k : ℕ → List ℕ} (w : Pair regions a m t p k) where
  pub mine : SlotRelated regions a m (a.slot t) (task_of p k)
  mine = subst (SlotRelated regions a m (a.slot t)) w.turn.is (w.rel.slots t w.turn.fits)

  -- what this task holds, no other does: of anything that at most one holds
  apart : (f : ℕ → Task → ℕ) → total TASKS f m.task ≤ 1 → (j : ℕ) → j < TASKS → j ≢ t
      → 1 ≤ f t (task_of p k) → f j (m.task j) ≡ 0
  apart f once j l d h =
      omega (arith, once, total-two TASKS f m.task j t d l w.turn.fits, ap (f t) w.turn.is)

  pub descriptor-apart : (x j : ℕ) → j < TASKS → j ≢ t → 1 ≤ holds_descriptor x p
      → holds_descriptor x (m.task j).place ≡ 0
  descriptor-apart x =
      apart (descriptor_weight x) (omega (arith, w.turn.inv.descriptors x, below-max x DESCRIPTORS))

  pub region-apart : (x j : ℕ) → j < TASKS → j ≢ t → 1 ≤ holds_region x p → holds_region x (m.task j).place ≡ 0
  region-apart x = apart (region_weight x) (omega (arith, w.turn.inv.regions x, below-max x regions))

  -- a block of this task: once there, and nowhere else
  pub own_block : (u : ℕ) → 1 ≤ block_weight u t (task_of p k)
      → (1 ≤ total DESCRIPTORS (inside_weight u) m.descriptor) × (block_weight u t (task_of p k) ≡ 1) × (m.hands u ≡ 0)
      × (total DESCRIPTORS (chain_weight u) m.descriptor ≡ 0)
  own_block u h = omega (
    arith,
    w.turn.inv.blocks u,
    inside-open w.turn.inv u,
    total-one TASKS (block_weight u) m.task t w.turn.fits,
    ap (block_weight u t) w.turn.is,
  )

  pub block_apart : (u v j : ℕ) → j < TASKS → j ≢ t → 1 ≤ block_weight u t (task_of p k)
      → 1 ≤ block_weight v 0 (m.task j)
      → (v ≢ u) × (1 ≤ total DESCRIPTORS (inside_weight v) m.descriptor)
  block_apart u v j l d h g = (
    (λ e. absurd (omega (
      arith,
      w.turn.inv.blocks u,
      inside-open w.turn.inv u,
      total-two TASKS (block_weight u) m.task j t d l w.turn.fits,
      ap (block_weight u t) w.turn.is,
      ap (λ (z : ℕ). block_weight z 0 (m.task j)) e,
    ))),
    omega (arith, w.turn.inv.blocks v, total-one TASKS (block_weight v) m.task j l),
  )

  -- all but the tasks, as it was
  pub kept-core : (s : Slot) (T : Task) → Core regions (set_slot t s a) (set_task t T m)
  kept-core s T = core-lists w.rel.core w.rel.core.lists

  -- ---- the task's part alone
  pub quiet : (s : Slot) (T : Task) → SlotRelated regions (set_slot t s a) (set_task t T m) s T
      → Related regions (set_slot t s a) (set_task t T m)
  quiet s T own =
      after {a = a} {m = m} t s T refl refl
      (kept-core s T)
      own
      (λ j l d. record { lists = lists-kept; links = λ v h. refl; regions = λ x h. refl })
      w.rel.slots

  -- ---- a link of a block of the task is written
  pub linking : (u x : ℕ) (s : Slot) (T : Task) → 1 ≤ block_weight u t (task_of p k)
      → SlotRelated regions (set_slot t s (set_link u x a)) (set_task t T m) s T
      → Related regions (set_slot t s (set_link u x a)) (set_task t T m)
  linking u x s T o own =
      let C = w.rel.core in
      let I = w.turn.inv in
      let b = own_block u o in
      after {a = a} {m = m} t s T refl refl
      (core-links C
      (links-related C.descriptors (link (with_link a.area u x)) (λ d l g v h. link-other a.area u x v
      (λ e. absurd (omega (
        arith,
        b.3,
        total-one DESCRIPTORS (chain_weight u) m.descriptor d l,
        g (count u (m.descriptor d).chain),
        ap (λ (z : ℕ). count z (m.descriptor d).chain) e,
      )))))
      (length-linked (u ⇒ x ∷ []) a.area))
      own
      (λ j l d. record {
        lists = lists-kept;
        links = λ v h. (let z = block_apart u v j l d o h in link-other a.area u x v z.0);
        regions = λ x h. refl;
      })
      w.rel.slots

  -- ---- what a written link leaves of a row of the task
  pub agrees : (u x : ℕ) (q : List ℕ) → 1 ≤ block_weight u t (task_of p k)
      → ((v : ℕ) → count v q ≤ block_weight v t (task_of p k)) → count u q ≡ 0
      → LinksAgree (link a.area) (link (with_link a.area u x)) q
  agrees u x q o sub n v e =
      link-other a.area u x v (λ f. absurd (omega (arith, ap (λ (z : ℕ). count z q) f)))

  pub written : (u x : ℕ) → 1 ≤ block_weight u t (task_of p k) → x < 256 ^ LINK_BYTES
      → link (with_link a.area u x) u ≡ x
  written u x o h = reads w.turn.inv a.area u x w.rel.core.length (own_block u o).0 h
