-- Step 7 of allocate, in both pools: a spare descriptor and a spare region in hand become an open region.
use mathlib.Core.Path.{◌≡◌, refl, sym, ap, subst, ◌∙◌}
use mathlib.Core.Bool.{◌&&◌}
use mathlib.Core.List.{List, [], ◌∷◌}
use Prim.Native.Nat.{ℕ, suc, ◌+◌, ◌≤◌, ◌<◌}
use native.Mathlib.Omega.{arith}
use native.Mathlib.Numerals.{add-one}
use borrow.Author.Tests.{eq-eqb, ne_eqb, lt-ltb}
use lib.Dec.{ltb}
use Rattle.limits.specs.Limits.{TASKS, CLASSES, DESCRIPTORS, MOST_BLOCKS}
use Rattle.rows.specs.Linked.{ends}
use Rattle.rows.specs.Comparisons.{same, other, same?}
use Rattle.rows.specs.Update.{update}
use Rattle.rows.proofs.Totals.{total-one}
use Rattle.rows.proofs.Update.{update_same, update_other, update_all}
use Rattle.rows.proofs.Weights.{when-same}
use Rattle.fields.specs.Columns.{View, ◌:=◌, assigned}
use Rattle.words.specs.Anchor.{anchor_word, full}
use Rattle.words.proofs.Anchors.{anchor-below}
use Rattle.words.specs.declared.anchor.Anchor.{Anchor}
use Rattle.classes.specs.Classes.{per_region}
use Rattle.classes.proofs.Tables.{per_region-high}
use Rattle.links.specs.Link.{link}
use Rattle.plain.specs.State.{State, EMPTY, PARTIAL, FULL, Descriptor, Place, a7, a8, Mem, Task, set_task}
use Rattle.plain.specs.State.{set_descriptor}
use Rattle.plain.specs.State.{set_map, working}
use Rattle.plain.specs.Steps as Steps
use Rattle.plain.specs.Held.{holds_descriptor, held}
use Rattle.plain.specs.ByState.{one_if_empty}
use Rattle.plain.specs.HolderWeights.{spare_weight}
use Rattle.plain.specs.Noted.{Noted, unnoted, pop_noted, push_noted, anchor_noted, entry_noted, noted}
use Rattle.plain.specs.TaskHolds.{NotedHolds}
use Rattle.plain.proofs.Owners.{owner}
use Rattle.plain.proofs.PlaceAlone.{task_of}
use Rattle.plain.proofs.ByState.{open-not-empty}
use Rattle.plain.proofs.Turn.{Turn}
use Rattle.control.specs.Layout
use Rattle.control.specs.Layout.{TaskPlace, TaskClass, TaskDescriptor, TaskRegion, TaskIndex, TaskLeft}
use Rattle.control.specs.Layout.{DescriptorRegion, DescriptorClass, Map}
use Rattle.control.specs.Places.{A8}
use Rattle.stepped.specs.Allocate as Allocate
use Rattle.agreement.specs.Contents.{Contents, Slot, slot_of, contents_of}
use Rattle.agreement.specs.Relation.{DescriptorRelated, SlotRelated, Core, Related, r_a8, r_working}
use Rattle.agreement.proofs.BothPass.{both_true}
use Rattle.agreement.proofs.Slots.{to_place, to_chain}
use Rattle.agreement.proofs.Sets.{with_slots, set_slot, set_owner}
use Rattle.agreement.proofs.AssignedContents.{owner-written}
use Rattle.agreement.proofs.ListTops.{descriptor-in-hand, region-in-hand}
use Rattle.agreement.proofs.Frames.{Reads, after, lists-kept}
use Rattle.agreement.proofs.RelatedParts.{map-related, core-descriptors, core-entries}
use Rattle.agreement.proofs.TurnInBoth.{Pair, mine, descriptor-apart}
use Rattle.agreement.proofs.Both.{Both, pass}
use Rattle.agreement.proofs.Turns.{At}
use Rattle.agreement.proofs.Sharing.{shares}
use Rattle.agreement.proofs.AllocateAnchor.{full-parts, full-read}

-- a descriptor that a task noted the anchor of is in its hand, or open
reads-open : {regions : ℕ} {m : Mem} {j : ℕ} {p : Place} {k : ℕ → List ℕ} (w : Turn regions m j (task_of p k)) (x : ℕ)
    (n : Noted) → NotedHolds m.row m.won m.map (held p) n → Reads x n → holds_descriptor x p ≡ 0
    → one_if_empty (m.descriptor x).state ≡ 0
reads-open w x unnoted N h o = absurd h
reads-open w x (pop_noted p φ) N h o = absurd h
reads-open w x (push_noted p φ) N h o = absurd h
reads-open {p = p} w x (anchor_noted d n) N h o = absurd (omega (arith, N, ap (λ (z : ℕ). holds_descriptor z p) h))
reads-open {m = m} w x (entry_noted y d n) N h o =
    rw h (open-not-empty (m.descriptor d).state (owner w y d N.0 N.1).counts)

empty-max : (s : State) → one_if_empty s ≤ 1
empty-max EMPTY = omega arith
empty-max PARTIAL = omega arith
empty-max FULL = omega arith

-- the new descriptor
abbrev opened : ℕ → ℕ → Descriptor
opened r c = record { state = FULL; region = r; class = c; chain = [] }

-- the change over records: the descriptor d is written whole, and the map's entry e of the region r names it
opening : {regions : ℕ} {a : Contents} {m : Mem} {t c d r : ℕ} {k : ℕ → List ℕ}
    (w : Pair regions a m t (working (a7 c d r)) k) (e : ℕ)
    (s : Slot) (T : Task) → c < CLASSES → e ≡ suc d
    → SlotRelated regions (set_slot t s (set_owner d (full (per_region c)) r c e a))
    (set_task t T (set_map r (suc d) (set_descriptor d (opened r c) m))) s T
    → Related regions (set_slot t s (set_owner d (full (per_region c)) r c e a))
    (set_task t T (set_map r (suc d) (set_descriptor d (opened r c) m)))
opening {regions} {a} {m} {t} {c} {d} {r} w e s T low i own =
    let C = w.rel.core in
    let lr = region-in-hand w.turn r (omega (arith, when-same r 1)) in
    let empty : one_if_empty (m.descriptor d).state ≡ 1 =
    omega (
      arith,
      w.turn.inv.spares d,
      total-one TASKS (spare_weight d) m.task t w.turn.fits,
      ap (spare_weight d t) w.turn.is,
      when-same d 1,
      empty-max (m.descriptor d).state,
    ) in
    after {a = a} {m = m} t s T refl refl
    (core-entries
    (core-descriptors C {slots = a.slot} {tasks = m.task} (record {
      each = descriptors C;
      avails =
          update_all (λ j x. j < DESCRIPTORS → x.avail ≤ MOST_BLOCKS) a.descriptors.anchor d (full (per_region c))
          (λ l. per_region-high c) (λ j n. C.descriptors.avails j);
      chain_counts =
          update_all (λ j x. j < DESCRIPTORS → x.count ≤ MOST_BLOCKS) a.descriptors.anchor d (full (per_region c))
          (λ l. omega arith) (λ j n. C.descriptors.chain_counts j);
      region_numbers = update_all (λ j x. j < DESCRIPTORS → x < regions) a.descriptors.region d r (λ l. lr)
          (λ j n. C.descriptors.region_numbers j);
      class_numbers = update_all (λ j x. j < DESCRIPTORS → x < CLASSES) a.descriptors.class d c (λ l. low)
          (λ j n. C.descriptors.class_numbers j);
    }))
    (map-related C.entries r e (suc d) i))
    own
    (λ j l n. record {
      lists = lists-kept;
      links = λ y h. refl;
      regions = λ x h. ap (λ (F : Descriptor). F.region) (update_other m.descriptor d (opened r c) x (λ f.
          let z : holds_descriptor x (m.task j).place ≡ 0 =
          subst (λ (y : ℕ). holds_descriptor y (m.task j).place ≡ 0) (sym f)
          (descriptor-apart w d j l n (omega (arith, when-same d 1))) in
          absurd (omega (
            arith,
            reads-open {k = (m.task j).cache} (record { inv = w.turn.inv; fits = l; is = refl }) x
                (noted (m.task j).place) (w.turn.inv.tasks j l).note h z,
            ap (λ (y : ℕ). one_if_empty (m.descriptor y).state) f,
          ))));
    })
    w.rel.slots
  where
    descriptors : Core regions a m → (j : ℕ) → j < DESCRIPTORS
        → DescriptorRelated (link a.area) (update a.descriptors.anchor d (full (per_region c)) j)
        (update a.descriptors.region d r j)
        (update a.descriptors.class d c j) (update m.descriptor d (opened r c) j)
    descriptors C j l = elim (same? j d) [
      | same e ↦ rw (
        e,
        update_same a.descriptors.anchor d (full (per_region c)),
        update_same a.descriptors.region d r,
        update_same a.descriptors.class d c,
        update_same m.descriptor d (opened r c),
      )
          (record { state = refl; region = refl; class = refl; chain = record { linked = ends refl; counts = refl } })
      | other n ↦ rw (
        update_other a.descriptors.anchor d (full (per_region c)) j n,
        update_other a.descriptors.region d r j n,
        update_other a.descriptors.class d c j n,
        update_other m.descriptor d (opened r c) j n,
      )
          (C.descriptors.each j l)
    ]

module _ {regions : ℕ} {v : View} {area : List ℕ} {m : Mem} {t : ℕ} {k : ℕ → List ℕ} where
  pub a7-both : At regions v area m t (working (a7 (v (TaskClass t)) (v (TaskDescriptor t)) (v (TaskRegion t)))) k
      → Both regions v area m (Allocate.a7 v (link area) regions t (v (TaskClass t)))
      (Steps.step_at t k (a7 (v (TaskClass t)) (v (TaskDescriptor t)) (v (TaskRegion t))) m)
  unfolding Allocate.a7
  a7-both w =
      let c = v (TaskClass t) in
      let d = v (TaskDescriptor t) in
      let r = v (TaskRegion t) in
      let ld = descriptor-in-hand w.pair.turn d (omega (arith, when-same d 1)) in
      let lr = region-in-hand w.pair.turn r (omega (arith, when-same r 1)) in
      let s = to_place A8 (to_chain r 0 (v (TaskLeft t)) (slot_of v t)) in
      let S = slot_of (assigned (TaskPlace t := A8 ∷ TaskIndex t := 0 ∷ []) v) in
      let word = anchor_word (full (per_region c)) in
      let writes = Layout.Anchor d := word ∷ DescriptorRegion d := r ∷ DescriptorClass d := c ∷ Map r := (d + 1) ∷ [] in
      pass (ltb d DESCRIPTORS && ltb r regions) (both_true (lt-ltb d DESCRIPTORS ld) (lt-ltb r regions lr)) (record {
        says = refl;
        keeps = (refl, refl);
        rel = shares w
            (TaskPlace t := A8 ∷ TaskIndex t := 0 ∷ writes) s (working (a8 c r 0))
            (set_owner d (full (per_region c)) r c (d + 1) (contents_of v area))
            (set_map r (suc d) (set_descriptor d (opened r c) m))
            (opening w.pair (d + 1) s (task_of (working (a8 c r 0)) k) (mine w.pair).fits (add-one d))
            (owner-written v S area d word r c (d + 1)
            ∙ ap (λ (z : Anchor). with_slots S (set_owner d z r c (d + 1) (contents_of v area))) (full-read c))
            refl refl (rw (eq-eqb t t refl)) (λ j n. rw (ne_eqb t j n)) (mine w.pair).fits refl
            (r_working (r_a8 refl));
        sound = omega (
          arith,
          w.pair.turn.fits,
          w.pair.small,
          (mine w.pair).fits,
          ld,
          lr,
          anchor-below (full (per_region c)) (full-parts c),
        );
        apart = tt;
      })
