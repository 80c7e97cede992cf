-- Blocks in a task's hand: where they lie, and what a written link leaves of the task's rows.
use mathlib.Core.Path.{◌≡◌, sym, ap, subst}
use mathlib.Core.Logic.{⊎_elim}
use mathlib.Core.Bool.{true}
use mathlib.Core.List.{List, [], ◌∷◌}
use Prim.Native.Nat.{ℕ, suc, ◌≤◌, ◌<◌}
use native.Mathlib.Omega.{arith}
use borrow.Author.Tests.{lt-ltb, eq-eqb, ne_eqb}
use lib.ListN.{length}
use Rattle.limits.specs.Limits.{UNITS, TASKS, CLASSES, DESCRIPTORS}
use Rattle.rows.specs.Counting.{count}
use Rattle.rows.specs.Linked.{LinksAgree, Linked, ends, links}
use Rattle.rows.specs.Totals.{total}
use Rattle.rows.specs.Update.{update}
use Rattle.rows.proofs.Linked.{linked-frame}
use Rattle.rows.proofs.Totals.{total-one}
use Rattle.rows.proofs.Update.{update-all₂}
use Rattle.rows.proofs.Weights.{when-same}
use Rattle.classes.specs.Geometry.{BlockOf, region_of}
use Rattle.classes.proofs.BlockUnits.{block-first, region-is}
use Rattle.links.specs.Link.{link, with_link}
use Rattle.plain.specs.State.{Mem, Place}
use Rattle.plain.specs.Held.{class_at, under_way, own_blocks}
use Rattle.plain.specs.HolderWeights.{block_class_weight, block_weight, inside_weight, row_weight}
use Rattle.plain.proofs.Homes.{Home, home}
use Rattle.plain.proofs.Owners.{home_of}
use Rattle.plain.proofs.PlaceAlone.{task_of}
use Rattle.stepped.specs.Ranges
use Rattle.stepped.specs.Ranges.{is_top}
use Rattle.agreement.specs.Contents.{TaskCaches, Contents, Slot, purpose_of}
use Rattle.agreement.specs.Relation.{CachesRelated, PlaceRelated, SlotRelated}
use Rattle.control.specs.Layout.{LEAVING}
use Rattle.agreement.proofs.BothPass.{both_true}
use Rattle.agreement.proofs.Purposes.{owned}
use Rattle.agreement.proofs.Slots.{to_cache}
use Rattle.agreement.proofs.TurnInBoth
use Rattle.agreement.proofs.TurnInBoth.{Pair, agrees, mine, own_block, region-below}

-- a block of a region of the area passes the test of a block
pub block-tested : {regions r c v : ℕ} → BlockOf r c v → r < regions → Ranges.is_block regions c v ≡ true
block-tested {r = r} {c = c} {v = v} b l = both_true (lt-ltb (region_of v) _ (rw (region-is b) l)) (block-first b)

module _ {regions : ℕ} {a : Contents} {m : Mem} {t : ℕ} {p : Place} {k : ℕ → List ℕ} (w : Pair regions a m t p k) where
  home-region : {c v : ℕ} (h : Home m c v) → (m.descriptor h.d).region < regions
  home-region {v = v} h =
      region-below w.turn.inv {v = v} (record { d = h.d; fits = h.fits; counts = h.counts; block = h.block })

  home-unit : {c v : ℕ} → Home m c v → Ranges.is_block regions c v ≡ true
  home-unit {c} {v} h = block-tested (rw h.class at h.block) (home-region h)

  pub home_below : {c v : ℕ} → Home m c v → region_of v < regions
  home_below h = rw (← h.region) (home-region h)

  pub cached-home : (c v : ℕ) → 1 ≤ count v (k c) → Home m c v
  cached-home c v h =
      home w.turn.inv c v
      (omega (
        arith,
        w.turn.inv.block_classes c v,
        total-one TASKS (block_class_weight c v) m.task t w.turn.fits,
        ap (block_class_weight c v t) w.turn.is,
      ))

  pub cached-unit : (c v : ℕ) → 1 ≤ count v (k c) → Ranges.is_block regions c v ≡ true
  cached-unit c v h = home-unit (cached-home c v h)

  pub under-unit : (v : ℕ) → 1 ≤ count v (under_way p) → Ranges.is_block regions (class_at p) v ≡ true
  under-unit v h = home-unit (home_of w.turn v h)

  -- the top of a cache is a unit, or the bottom
  pub top-max : (c f : ℕ) (q : List ℕ) → Linked (link a.area) (λ u. u) UNITS f q
      → ((v : ℕ) → count v q ≤ count v (k c)) → f ≤ UNITS
  top-max c f q (ends e) h = omega arith
  top-max c f q (links {u = u} e i) h =
      omega (arith, w.small, home_below (cached-home c u (omega (arith, h u, when-same u 1))))

  -- a block under way: its link may be written, and the task's caches keep theirs
  pub mine-under : (u : ℕ) → 1 ≤ count u (under_way p)
      → (1 ≤ block_weight u t (task_of p k)) × (total CLASSES (row_weight u) k ≡ 0) × (count u (under_way p) ≡ 1)
  mine-under u h = omega (arith, own_block w u (omega arith))

  pub cache-agrees : (u x : ℕ) → 1 ≤ count u (under_way p) → (c : ℕ) → c < CLASSES
      → LinksAgree (link a.area) (link (with_link a.area u x)) (k c)
  cache-agrees u x h c l =
      agrees w u x (k c) (mine-under u h).0 (λ v. omega (arith, total-one CLASSES (row_weight v) k c l))
      (omega (arith, mine-under u h, total-one CLASSES (row_weight u) k c l))

  -- a row under way that does not have u
  pub row-agrees : (u x : ℕ) (q : List ℕ) → 1 ≤ count u (under_way p) → ((v : ℕ) → count v q ≤ count v (under_way p))
      → count u q ≡ 0 → LinksAgree (link a.area) (link (with_link a.area u x)) q
  row-agrees u x q h sub n = agrees w u x q (mine-under u h).0 (λ v. omega (arith, sub v)) n

  pub wrote : (u x : ℕ) → 1 ≤ count u (under_way p) → x ≤ UNITS → link (with_link a.area u x) u ≡ x
  wrote u x h l = TurnInBoth.written w u x (mine-under u h).0 (omega arith)

  -- the caches with a new one of the class c
  pub re-cache : (a' : Contents) (m' : Mem) (s : Slot) (p' : Place) (c b n : ℕ) (q : List ℕ)
      → ((e : ℕ) → e < CLASSES → LinksAgree (link a.area) (link a'.area) (k e)) → s.class ≡ (a.slot t).class
      → s.caches ≡ (to_cache c b n (a.slot t)).caches → Linked (link a'.area) (λ u. u) UNITS b q → n ≡ length q
      → PlaceRelated regions a' m' s p' → SlotRelated regions a' m' s (task_of p' (update k c q))
  re-cache a' m' s p' c b n q g f i l en pl = record {
    fits = rw f (mine w).fits;
    place = pl;
    caches = subst (λ (z : TaskCaches). CachesRelated (link a'.area) z (update k c q)) (sym i) (record {
      tops =
          update-all₂ (λ e x r. e < CLASSES → Linked (link a'.area) (λ u. u) UNITS x r) (a.slot t).caches.top k c
          b q
          (λ i. l) (λ e d i. linked-frame (g e i) ((mine w).caches.tops e i));
      counts = update-all₂ (λ e x r. e < CLASSES → x ≡ length r) (a.slot t).caches.count k c n q
          (λ i. en) (λ e d i. (mine w).caches.counts e i);
    });
  }

  -- the caches as they were, after a link under way is written
  pub re-link : (a' : Contents) (m' : Mem) (s : Slot) (p' : Place)
      → ((e : ℕ) → e < CLASSES → LinksAgree (link a.area) (link a'.area) (k e)) → s.class < CLASSES
      → s.caches ≡ (a.slot t).caches → PlaceRelated regions a' m' s p' → SlotRelated regions a' m' s (task_of p' k)
  re-link a' m' s p' g f i pl = record {
    fits = f;
    place = pl;
    caches = subst (λ (z : TaskCaches). CachesRelated (link a'.area) z k) (sym i) (record {
      tops = λ e i. linked-frame (g e i) ((mine w).caches.tops e i);
      counts = (mine w).caches.counts;
    });
  }

  -- the caches as they were, and any of the classes
  pub re-slot : (a' : Contents) (m' : Mem) (s : Slot) (p' : Place) → a'.area ≡ a.area → s.class < CLASSES
      → s.caches ≡ (a.slot t).caches → PlaceRelated regions a' m' s p' → SlotRelated regions a' m' s (task_of p' k)
  re-slot a' m' s p' e f g pl = re-link a' m' s p' (λ c l u i. ap (λ (z : List ℕ). link z u) e) f g pl

  -- the link below the top of a cache, with the row q below it
  pub below-tested : (c b : ℕ) (q : List ℕ) → ((v : ℕ) → count v q ≤ count v (k c))
      → Linked (link a.area) (λ u. u) UNITS b q
      → is_top regions c (length q) b ≡ true
  below-tested c b [] h (ends e) = eq-eqb b UNITS e
  below-tested c b (y ∷ q) h (links e l) =
      rw (ne_eqb (suc (length q)) 0 (omega arith), e) (cached-unit c y (omega (arith, h y, when-same y 1)))

  -- a block of the task is in no user's hands
  pub mine-apart : (u : ℕ) → 1 ≤ block_weight u t (task_of p k)
      → (m.hands u ≡ 0) × (1 ≤ total DESCRIPTORS (inside_weight u) m.descriptor)
  mine-apart u o = ((own_block w u o).2, (own_block w u o).0)

  -- the unit of a task that returns a cache is in its range: that of its own block, or none
  pub unit-fits : {u : ℕ} → ((x : ℕ) → count x (own_blocks (purpose_of u)) ≤ count x (under_way p)) → u ≤ LEAVING
  unit-fits {u} h =
      ⊎_elim (λ e. omega arith) (λ o. omega (arith, w.small, home_below (home_of w.turn u o)))
      (owned u (under_way p) h)
