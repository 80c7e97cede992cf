-- The fields of a task are in their ranges, by its place in the plain pool.
use Prim.Native.Nat.{ℕ, ◌≤◌, ◌<◌}
use mathlib.Core.Path.{◌≡◌, sym, subst, ◌∙◌}
use mathlib.Core.Bool.{true}
use mathlib.Core.List.{List}
use native.Mathlib.Omega.{arith}
use native.Mathlib.Decide.{dec_lt}
use lib.ListN.{length}
use Rattle.limits.specs.Limits.{UNITS, CLASSES, DESCRIPTORS}
use Rattle.rows.specs.Counting.{count}
use Rattle.rows.specs.Linked.{Linked}
use Rattle.rows.proofs.Branch.{if_yes}
use Rattle.fields.specs.Columns.{View}
use Rattle.links.specs.Link.{link}
use Rattle.words.specs.Anchor.{FULL}
use Rattle.plain.specs.State.{Place, Mem}
use Rattle.plain.specs.Held.{class_at, under_way}
use Rattle.plain.proofs.Turn.{task_holds}
use Rattle.control.specs.Layout.{CacheTop, CacheCount, TaskUnit, TaskPlace, TaskClass, TaskDescriptor}
use Rattle.control.specs.Layout.{TaskState}
use Rattle.control.specs.Places.{PUSH_RELEASE, PUSH_OFFER, A3_READ, F1, F2, F4_CLEAR}
use Rattle.stepped.specs.Ranges.{is_block, is_top}
use mathlib.Core.Logic.{⊎_map}
use Rattle.agreement.proofs.Purposes.{Owned}
use Rattle.agreement.specs.Contents.{slot_of, contents_of}
use Rattle.agreement.specs.Relation.{PlaceRelated}
use Rattle.agreement.specs.InRange.{TaskInRange, ReturnUnit}
use Rattle.agreement.proofs.ListTops.{descriptor-in-hand}
use Rattle.agreement.proofs.TurnInBoth.{Pair, mine}
use Rattle.agreement.proofs.TaskBlocks.{under-unit, below-tested, top-max}
use Rattle.agreement.proofs.FreeUnderWay.{Freeing, allocates, fills, past-frees, puts, returns, owes}
use Rattle.agreement.proofs.NumbersInRange.{numbers-at}
use mathlib.Core.Path.{ap, subst⁻¹}
use Prim.Native.Nat.{suc}
use Rattle.limits.specs.Limits.{ORDERS, SLOTS}
use Rattle.pieces.specs.StripUnits.{strip_unit, slot_of_unit, is_strip_unit}
use Rattle.strip_tree.specs.SlotStates.{FREE_BEGUN}
use Rattle.strips_agreement.specs.StripsAgree.{StartAgrees}
use Rattle.strips_agreement.proofs.StripsAgree.{start-agrees}
use Rattle.plain.specs.State.{Task, working}
use Rattle.plain.specs.Requests.{frees_strip}
use Rattle.plain.specs.TaskHolds.{HoldsAt}
use Rattle.plain.specs.Invariant.{StripsHold}
use Rattle.plain.proofs.PlaceAlone.{place_holds}
use Rattle.control.specs.Layout.{SlotByte}
use Rattle.control.specs.Places.{STRIP_TAKE, STRIP_GIVE}
use Rattle.stepped.specs.StripSteps.{tree_of}
use Rattle.agreement.specs.Relation.{r_idle, r_working}
use Rattle.agreement.proofs.WorkKinds as Kinds
use Rattle.agreement.proofs.WorkKinds.{Works, gives_back, takes, works}
use Rattle.agreement.proofs.StripsBoth.{unit-is, slot_is}

-- ---- a task

module _ (regions : ℕ) (v : View) (area : List ℕ) (m : Mem) (t : ℕ) where
  abbrev u : ℕ
  u = v (TaskUnit t)

  abbrev d : ℕ
  d = v (TaskDescriptor t)

  -- ---- a strip's request

  -- the order of the strip that is to be taken
  order-at : {p : Place} {k : ℕ → List ℕ} → Pair regions (contents_of v area) m t p k
      → PlaceRelated regions (contents_of v area) m (slot_of v t) p → v (TaskPlace t) ≡ STRIP_TAKE
      → v (TaskClass t) < ORDERS
  order-at w (r_idle e) h = absurd (omega arith)
  order-at {k = k} w (r_working {w = q} W) h = by (works W)
    where
      by : Works (slot_of v t) q → v (TaskClass t) < ORDERS
      by (Kinds.allocates e n l) = absurd (omega arith)
      by (Kinds.frees e n l) = absurd (omega arith)
      by (Kinds.leaves e i j l) = absurd (omega arith)
      by (Kinds.ends-leaving e l) = absurd (omega arith)
      by (takes e l) = subst (HoldsAt k) e (place_holds w.turn)
      by (gives_back z e i l) = absurd (omega arith)

  -- the strip that is freed, by its slot
  record FreedStrip (p : Place) : Type 0 where
    slot : ℕ
    fits : slot < SLOTS
    is : u ≡ strip_unit slot
    frees : frees_strip p ≡ suc slot

  freed-at : {p : Place} {k : ℕ → List ℕ} → Pair regions (contents_of v area) m t p k
      → PlaceRelated regions (contents_of v area) m (slot_of v t) p → v (TaskPlace t) ≡ STRIP_GIVE → FreedStrip p
  freed-at w (r_idle e) h = absurd (omega arith)
  freed-at {k = k} w (r_working {w = q} W) h = by (works W)
    where
      by : Works (slot_of v t) q → FreedStrip (working q)
      by (Kinds.allocates e n l) = absurd (omega arith)
      by (Kinds.frees e n l) = absurd (omega arith)
      by (Kinds.leaves e i j l) = absurd (omega arith)
      by (Kinds.ends-leaving e l) = absurd (omega arith)
      by (takes e l) = absurd (omega arith)
      by (gives_back z e i l) = record {
        slot = z;
        fits = subst (HoldsAt k) e (place_holds w.turn);
        is = i;
        frees = ap (λ x. frees_strip (working x)) e;
      }

  -- its free has begun
  begun-at : {p : Place} {k : ℕ → List ℕ} → Pair regions (contents_of v area) m t p k → StripsHold m
      → (F : FreedStrip p) → FREE_BEGUN ≤ v (SlotByte F.slot)
  begun-at w H F =
      let B = H.begun_by t F.slot w.turn.fits
      (ap (λ (T : Task). frees_strip T.place) w.turn.is ∙ F.frees) in
      let A = subst (StartAgrees (tree_of v) (λ s. v (SlotByte s)) m.strips F.slot) B.1
      (start-agrees (tree_of v) (λ s. v (SlotByte s)) m.strips w.rel.core.strips F.slot F.fits) in
      omega (arith, A.is)

  module _ {p : Place} {k : ℕ → List ℕ} (w : Pair regions (contents_of v area) m t p k) where
    abbrev c : ℕ
    c = v (TaskClass t)

    -- the block that is freed is one of its class
    freed-unit : class_at p ≡ c → 1 ≤ count u (under_way p) → is_block regions c u ≡ true
    freed-unit e h = subst (λ (z : ℕ). is_block regions z u ≡ true) e (under-unit w u h)

    -- or it is none
    returned-unit : class_at p ≡ c → Owned u (under_way p) → ReturnUnit regions v t
    returned-unit e o = ⊎_map (λ i. i) (freed-unit e) o

    -- at step 1 of a free
    put-at : Freeing v t p → v (TaskPlace t) ≡ F1 → is_block regions c u ≡ true
    put-at (allocates h) i = absurd (omega arith)
    put-at (fills h g) i = absurd (omega arith)
    put-at (past-frees h) i = absurd (omega arith)
    put-at (puts h e o) i = freed-unit e o
    put-at (returns h g n e o) i = absurd (n i)
    put-at (owes f n e o) i = absurd (n i)

    -- at the places of a return: the two pushes, and its own steps
    unit-at : Freeing v t p → PUSH_RELEASE ≤ v (TaskPlace t) → (A3_READ ≤ v (TaskPlace t) → F2 ≤ v (TaskPlace t))
        → v (TaskPlace t) ≤ F4_CLEAR → ReturnUnit regions v t
    unit-at (allocates h) i j l = absurd (omega arith)
    unit-at (fills h g) i j l = absurd (omega (arith, j h))
    unit-at (past-frees h) i j l = absurd (omega arith)
    unit-at (puts h e o) i j l = absurd (omega (arith, j (omega arith)))
    unit-at (returns h g n e o) i j l = returned-unit e o
    unit-at (owes f n e o) i j l = returned-unit e o

    -- at those where a descriptor may be owed: the map entry is cleared, and the region released
    owed-at : Freeing v t p → PUSH_RELEASE ≤ v (TaskPlace t)
        → (PUSH_OFFER ≤ v (TaskPlace t) → F4_CLEAR ≤ v (TaskPlace t)) → v (TaskPlace t) ≤ F4_CLEAR
        → v (TaskState t) ≡ FULL → d < DESCRIPTORS
    owed-at (allocates h) i j n f = absurd (omega arith)
    owed-at (fills h l) i j n f = absurd (omega (arith, j (omega arith)))
    owed-at (past-frees h) i j n f = absurd (omega arith)
    owed-at (puts h e o) i j n f = absurd (omega (arith, j (omega arith)))
    owed-at (returns h l b e o) i j n f = absurd (omega (arith, j h))
    owed-at (owes g b e o) i j n f = descriptor-in-hand w.turn d (g f)

    -- a cache's two fields
    module _ (e : ℕ) (l : e < CLASSES) where
      abbrev row : List ℕ
      row = k e

      count-is : v (CacheCount t e) ≡ length row
      count-is = sym (if_yes (dec_lt e CLASSES) (v (CacheCount t e)) 0 l) ∙ (mine w).caches.counts e l

      top-linked : Linked (link area) (λ x. x) UNITS (v (CacheTop t e)) row
      top-linked =
          subst (λ (z : ℕ). Linked (link area) (λ x. x) UNITS z row) (if_yes (dec_lt e CLASSES) (v (CacheTop t e)) 0 l)
          ((mine w).caches.tops e l)

      top-is : is_top regions e (v (CacheCount t e)) (v (CacheTop t e)) ≡ true
      top-is = rw count-is (below-tested w e (v (CacheTop t e)) row (λ x. omega arith) top-linked)

      top_below : v (CacheTop t e) ≤ UNITS
      top_below = top-max w e (v (CacheTop t e)) row top-linked (λ x. omega arith)

    pub task-in-range : StripsHold m → PlaceRelated regions (contents_of v area) m (slot_of v t) p
        → TaskInRange regions v t
    task-in-range H P =
        let N = numbers-at regions v area m t k w P in
        let F = N.2 in
        record {
          class = (mine w).fits;
          lists = N.0;
          hand = N.1.0;
          chains = N.1.1;
          unit_put = λ i j. put-at F (omega arith);
          unit_pushing = λ i j. unit-at F i (λ h. absurd (omega arith)) (omega arith);
          unit = λ i j. unit-at F (omega arith) (λ h. i) j;
          strip_order = λ i j. order-at w P (omega arith);
          strip-unit = λ i j.
              let G = freed-at w P (omega arith) in
              ap is_strip_unit G.is ∙ unit-is G.slot G.fits;
          strip-freed = λ i j.
              let G = freed-at w P (omega arith) in
              subst⁻¹ (λ (n : ℕ). FREE_BEGUN ≤ v (SlotByte n)) (ap slot_of_unit G.is ∙ slot_is G.slot)
              (begun-at w H G);
          descriptor_released = λ i j. owed-at F i (λ h. absurd (omega arith)) (omega arith);
          descriptor_cleared = λ i j. owed-at F (omega arith) (λ h. i) j;
          counts = λ e l. omega (arith, count-is e l, (task_holds w.turn).lengths e);
          tops = top-is;
          tops_max = top_below;
        }
