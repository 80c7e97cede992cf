-- The fields of a task are in their ranges, by its place.
use Prim.Native.Nat.{ℕ, suc, ◌+◌, ◌-◌, ◌≤◌, ◌<◌}
use mathlib.Core.Path.{◌≡◌, refl, sym, ap, ◌∙◌}
use mathlib.Core.List.{List, ◌∷◌, []}
use native.Mathlib.Omega.{arith}
use Rattle.limits.specs.Limits.{DESCRIPTORS}
use Rattle.rows.specs.Counting.{count}
use Rattle.rows.specs.Weights.{one}
use Rattle.rows.proofs.Weights.{when-same}
use Rattle.fields.specs.Columns.{View}
use Rattle.words.specs.Anchor.{FULL, anchor_of}
use Rattle.words.specs.declared.anchor.Anchor.{Anchor}
use Rattle.classes.specs.Classes.{per_region}
use Rattle.classes.specs.Geometry.{BlockOf, unit_of}
use Rattle.classes.proofs.BlockUnits.{block_at, index_below, region-is}
use Rattle.plain.specs.State.{State, state_number, Place, Note, Mem, Work, working}
use Rattle.plain.specs.Held.{owed, class_at, under_way, holds_descriptor, holds_region, own_blocks}
use Rattle.plain.specs.Blocks.{blocks_from}
use Rattle.plain.specs.TaskHolds.{Together}
use Rattle.plain.proofs.Blocks.{counts-block}
use Rattle.plain.proofs.Owners.{home_of, owner}
use Rattle.plain.proofs.PlaceAlone.{place_holds, note_holds}
use Rattle.control.specs.Layout.{TaskAnchor, TaskIndex, GroupFirst, GroupLast, GroupCount, TaskPlace, TaskClass}
use Rattle.control.specs.Layout.{TaskDescriptor, TaskRegion, TaskUnit, TaskState}
use Rattle.control.specs.Places.{POP_PARTIAL, PUSH_OFFER, A3_READ, F3_LINK, F3_EXCHANGE, F1}
use Rattle.control.specs.declared.moves.Pop.TheVariants.{Partial, Spare, Region}
use Rattle.control.specs.declared.moves.Push.TheVariants.{Retire, Back, Release, Offer}
use mathlib.Core.Logic.{◌≢◌}
use Rattle.agreement.proofs.Purposes.{group-in, own_in, owned}
use Rattle.agreement.specs.Contents.{Slot, slot_of, contents_of, purpose_of}
use Rattle.agreement.specs.Relation.{NoteRelated, GroupRelated, WorkRelated, r_a1, r_popping, r_pushing}
use Rattle.agreement.specs.Relation.{r_a3_read, r_a3_exchange, r_a4, r_a7, r_a8, r_f1, r_f2, r_f2_more, r_f3_read}
use Rattle.agreement.specs.Relation.{r_f3_link, r_f3_exchange, r_f4_clear, PlaceRelated, r_idle, r_working}
use Rattle.agreement.specs.InRange.{ListsInRange, HandInRange, ChainsInRange}
use Rattle.agreement.proofs.WorkPlaces.{span}
use Rattle.agreement.proofs.FreeUnderWay.{Freeing, allocates, fills, puts, returns, owes, owed-one}
use Rattle.agreement.proofs.ListsInRange.{none, of-pop, of-push}
use Rattle.agreement.proofs.ListTops.{first_of, descriptor-in-hand, region-in-hand}
use Rattle.agreement.proofs.TurnInBoth.{Pair}
use Rattle.agreement.proofs.TaskBlocks.{home_below}
use Rattle.agreement.proofs.GroupBlocks.{first_below, last-below, region-below}
use Rattle.agreement.proofs.NotedAnchors.{first-max, number-max}
use Rattle.agreement.specs.Relation.{r_strip_take, r_strip_give, r_leave_end}
use Rattle.agreement.proofs.FreeUnderWay.{past-frees}

-- a noted anchor
note-in : {m : Mem} {c d : ℕ} {n : Note} {b : Anchor} → NoteRelated m c d n b
    → (b.state ≤ FULL) × (b.avail ≤ per_region c)
note-in {m} {c} {d} {n} N =
    omega (
      arith,
      N.state,
      N.avail,
      number-max n.state,
      first-max (m.descriptor d).region c n.first
          N.first,
    )

module _ (regions : ℕ) (v : View) (area : List ℕ) (m : Mem) (t : ℕ) (k : ℕ → List ℕ) where
  abbrev c : ℕ
  c = v (TaskClass t)

  abbrev d : ℕ
  d = v (TaskDescriptor t)

  abbrev r : ℕ
  r = v (TaskRegion t)

  abbrev s : Slot
  s = slot_of v t

  -- what omega shows at each place
  abbrev Numbers : Type 0
  Numbers = HandInRange regions v t × ChainsInRange v t

  abbrev Turning : Place → Type 0
  Turning p = Pair regions (contents_of v area) m t p k

  -- the descriptor and the region in hand
  descriptor-held : {p : Place} → Turning p → one d d ≤ holds_descriptor d p → d < DESCRIPTORS
  descriptor-held w h = descriptor-in-hand w.turn d (omega (arith, when-same d 1))

  region-held : {p : Place} → Turning p → one r r ≤ holds_region r p → r < regions
  region-held w h = region-in-hand w.turn r (omega (arith, when-same r 1))

  -- a block of the task's region that is under way
  under-region : {p : Place} {u : ℕ} → Turning p → BlockOf r c u → 1 ≤ count u (under_way p) → r < regions
  under-region {u = u} w b o = rw (← (region-is b)) (home_below w (home_of w.turn u o))

  -- the group that is under way
  record GroupFound : Type 0 where
    some : 1 ≤ v (GroupCount t)
    first : v (GroupFirst t) < per_region c
    last : v (GroupLast t) < per_region c
    region : r < regions

  grouped : {p : Place} {y : ℕ} {g : List ℕ} → Turning p → GroupRelated (contents_of v area) s y g
      → ((x : ℕ) → count x (y ∷ g) ≤ count x (under_way p)) → class_at p ≡ c → Together y g → GroupFound
  grouped w G sub class together = record {
    some = omega (arith, G.counts);
    first = first_below w G sub class together;
    last = last-below w G sub class together;
    region = region-below w G sub class together;
  }

  -- a group that is about to return to the chain of the noted anchor
  joins : {n : Note} → F3_LINK ≤ v (TaskPlace t) → v (TaskPlace t) ≤ F3_EXCHANGE → GroupFound → d < DESCRIPTORS
      → NoteRelated m c d n (anchor_of (v (TaskAnchor t)))
      → v (GroupCount t) + (anchor_of (v (TaskAnchor t))).count ≤ per_region c → Numbers
  joins i j F f N l = let a = note-in N in (omega arith, omega arith)

  abbrev u : ℕ
  u = v (TaskUnit t)

  -- what the task returns for
  abbrev own : List ℕ
  own = own_blocks (purpose_of u)

  -- the block that is freed, if there is one, alone or with what follows it
  returning : {p : Place} → PUSH_OFFER ≤ v (TaskPlace t) → v (TaskPlace t) ≤ F3_EXCHANGE → v (TaskPlace t) ≢ F1
      → class_at p ≡ c → ((x : ℕ) → count x own ≤ count x (under_way p)) → Freeing v t p
  returning {p} i j n e h = returns i j n e (owned u (under_way p) h)

  -- the block that is freed, if there is one, and the descriptor that is owed where the anchor was found FULL
  owing : {p : Place} (z : State) → v (TaskState t) ≡ state_number z → count d (owed z d) ≤ holds_descriptor d p
      → v (TaskPlace t) ≢ F1 → class_at p ≡ c → ((x : ℕ) → count x own ≤ count x (under_way p)) → Freeing v t p
  owing {p} z i o n e h = owes (λ f. omega (arith, owed-one z d (sym i ∙ f))) n e (owned u (under_way p) h)

  abbrev ListsAt : Type 0
  ListsAt = ListsInRange regions v t

  -- what is shown at each place: of what was noted of a list, of what is in hand, and of what a free has under way
  abbrev RangedAt : Place → Type 0
  RangedAt p = ListsAt × Numbers × Freeing v t p

  -- no move of a list is under way
  no_move : (POP_PARTIAL ≤ v (TaskPlace t) → v (TaskPlace t) < A3_READ → ⊥) → ListsAt
  no_move h = none regions v m t h

  numbers-at-work : {p : Work} → Turning (working p) → WorkRelated regions (contents_of v area) m s p
      → RangedAt (working p)
  numbers-at-work w (r_a1 e) = (no_move (omega arith), (omega arith, omega arith), allocates (omega arith))
  numbers-at-work w (r_popping Partial h) =
      let i = span h in
      (of-pop regions v m t Partial h, (omega arith, omega arith), allocates (omega arith))
  numbers-at-work w (r_popping Spare h) =
      let i = span h in
      (of-pop regions v m t Spare h, (omega arith, omega arith), allocates (omega arith))
  numbers-at-work w (r_popping Region h) =
      let i = span h in
      let f = descriptor-held w (omega arith) in
      (of-pop regions v m t Region h, (omega arith, omega arith), allocates (omega arith))
  numbers-at-work w (r_pushing Retire z e h) =
      let i = span h in
      let f = descriptor-held w (omega arith) in
      (of-push regions v m t Retire h, (omega arith, omega arith), allocates (omega arith))
  numbers-at-work w (r_pushing Back z e h) =
      let i = span h in
      let f = descriptor-held w (omega arith) in
      (of-push regions v m t Back h, (omega arith, omega arith), allocates (omega arith))
  numbers-at-work w (r_pushing Release z e h) =
      let f = region-held w (omega arith) in
      let i = span h in
      let n : v (TaskState t) ≤ FULL = omega (arith, number-max z, e) in (
        of-push regions v m t Release h,
        (omega arith, omega arith),
        owing z e (omega arith) (λ g. omega arith) refl
            (λ x. omega arith),
      )
  numbers-at-work w (r_pushing Offer z e h) =
      let i = span h in
      let f = descriptor-held w (omega arith) in (
        of-push regions v m t Offer h,
        (omega arith, omega arith),
        returning (omega arith) (omega arith) (λ g. omega arith) refl (λ x. omega arith),
      )
  numbers-at-work w (r_a3_read e) =
      let f = descriptor-held w (omega arith) in
      (no_move (omega arith), (omega arith, omega arith), fills (omega arith) (omega arith))
  numbers-at-work w (r_a3_exchange e N i j l o) =
      let f = descriptor-held w (omega arith) in
      (no_move (omega arith), (omega arith, omega arith), fills (omega arith) (omega arith))
  numbers-at-work w (r_a4 {x = x} e l n h) =
      let b : BlockOf r c x = counts-block r c x (omega (arith, h x, when-same x 1)) in
      let o : r < regions = under-region w b (omega (arith, when-same x 1)) in
      let i : v (TaskIndex t) < per_region c = omega (arith, first_of l, index_below b) in
      let f = (place_holds w.turn).1 in
      (no_move (omega arith), (omega arith, omega arith), fills (omega arith) (omega arith))
  numbers-at-work w (r_a7 e) =
      let f = descriptor-held w (omega arith) in
      let g = region-held w (omega arith) in
      (no_move (omega arith), (omega arith, omega arith), fills (omega arith) (omega arith))
  numbers-at-work w (r_a8 e) =
      let i = v (TaskIndex t) in
      let h : i < per_region c = (place_holds w.turn).2 in
      let f : per_region c - i ≡ suc (per_region c - suc i) = omega arith in
      let u = unit_of r c i in
      let b : 1 ≤ count u (blocks_from r c i (per_region c - i)) =
      omega (arith, ap (λ (n : ℕ). count u (blocks_from r c i n)) f, when-same u 1) in
      let o : r < regions = under-region w (block_at r c i h) b in
      (no_move (omega arith), (omega arith, omega arith), fills (omega arith) (omega arith))
  numbers-at-work w (r_f1 e) =
      (no_move (omega arith), (omega arith, omega arith), puts e refl (omega (arith, when-same u 1)))
  numbers-at-work w (r_f2 e z) = (
    no_move (omega arith),
    (omega arith, omega arith),
    returning (omega arith) (omega arith) (λ g. omega arith) refl (own_in (purpose_of u) []),
  )
  numbers-at-work w (r_f2_more {y = y} {g = g} e G) =
      let o = place_holds w.turn in
      let F = grouped w G (group-in (purpose_of u) (y ∷ g)) refl o.3 in
      let n : v (GroupCount t) ≤ per_region c = omega (arith, G.counts, o.2) in (
        no_move (omega arith),
        (omega arith, omega arith),
        returning (omega arith) (omega arith) (λ g. omega arith) refl (own_in (purpose_of u) (y ∷ g)),
      )
  numbers-at-work w (r_f3_read {y = y} {g = g} e G) =
      let o = place_holds w.turn in
      let F = grouped w G (group-in (purpose_of u) (y ∷ g)) refl o.2 in
      let n : v (GroupCount t) ≤ per_region c = omega (arith, G.counts, o.1) in (
        no_move (omega arith),
        (omega arith, omega arith),
        returning (omega arith) (omega arith) (λ g. omega arith) refl (own_in (purpose_of u) (y ∷ g)),
      )
  numbers-at-work w (r_f3_link {y = y} {g = g} e G N l) =
      let n = note_holds w.turn in
      let F = grouped w G (group-in (purpose_of u) (y ∷ g)) refl (place_holds w.turn).2 in (
        no_move (omega arith),
        joins (omega arith) (omega arith) F (owner w.turn y d n.0 n.1).fits N l,
        returning (omega arith) (omega arith) (λ h. omega arith) refl (own_in (purpose_of u) (y ∷ g)),
      )
  numbers-at-work w (r_f3_exchange {y = y} {g = g} e G N l i) =
      let n = note_holds w.turn in
      let F = grouped w G (group-in (purpose_of u) (y ∷ g)) refl (place_holds w.turn).2 in (
        no_move (omega arith),
        joins (omega arith) (omega arith) F (owner w.turn y d n.0 n.1).fits N l,
        returning (omega arith) (omega arith) (λ h. omega arith) refl (own_in (purpose_of u) (y ∷ g)),
      )
  numbers-at-work w (r_f4_clear {w = z} e i) =
      let f = region-held w (omega arith) in
      let n : v (TaskState t) ≤ FULL = omega (arith, number-max z, i) in (
        no_move (omega arith),
        (omega arith, omega arith),
        owing z i (omega arith) (λ g. omega arith) refl
            (λ x. omega arith),
      )
  numbers-at-work w (r_strip_take e) = (no_move (omega arith), (omega arith, omega arith), past-frees (omega arith))
  numbers-at-work w (r_strip_give e i) = (no_move (omega arith), (omega arith, omega arith), past-frees (omega arith))
  numbers-at-work w (r_leave_end e) = (no_move (omega arith), (omega arith, omega arith), past-frees (omega arith))

  -- every place
  pub numbers-at : {p : Place} → Turning p → PlaceRelated regions (contents_of v area) m s p → RangedAt p
  numbers-at w (r_idle e) = (no_move (omega arith), (omega arith, omega arith), allocates (omega arith))
  numbers-at w (r_working W) = numbers-at-work w W
