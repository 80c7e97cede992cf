-- One task's part with some columns changed. The columns of what it noted, has in hand or grouped are named in the
-- setters of that part alone, and all parts in `through` alone, beside `slot_of`, which reads them off a view.
use Prim.Native.Nat.{ℕ}
use Rattle.rows.specs.Update.{update}
use Rattle.words.specs.declared.head.Head.{Head}
use Rattle.words.specs.declared.anchor.Anchor.{Anchor}
use Rattle.agreement.specs.Contents.{TaskNotes, TaskHand, TaskGroup, TaskCaches, Slot}
use Rattle.agreement.proofs.Parts.{first, behind}

-- ---- the parts

-- the parts, each with those behind it: first the place, the class and the unit of the request
abbrev SlotParts : Type 0
SlotParts = (ℕ × (ℕ × ℕ)) × (TaskNotes × (TaskHand × (TaskGroup × (TaskCaches × Unit {0}))))

-- a task's part after a change of one of the parts: here alone they are all named, and a further one comes last
abbrev through : (SlotParts → SlotParts) → Slot → Slot
through f s =
    let p = f ((s.place, (s.class, s.unit)), (s.noted, (s.hand, (s.group, (s.caches, tt))))) in
    record {
      place = p.0.0;
      class = p.0.1.0;
      unit = p.0.1.1;
      noted = p.1.0;
      hand = p.1.1.0;
      group = p.1.1.1.0;
      caches = p.1.1.1.1.0;
    }

-- a task's part with another place, class and unit, as a request begins
abbrev pub to_request : ℕ → ℕ → ℕ → Slot → Slot
to_request n c u = through (first (λ x. (n, (c, u))))

-- a task's part with other notes
abbrev with_notes : TaskNotes → Slot → Slot
with_notes n = through (behind (first (λ x. n)))

-- a task's part with other things in hand
abbrev with_hand : TaskHand → Slot → Slot
with_hand h = through (behind (behind (first (λ x. h))))

-- a task's part with another group
abbrev with_group : TaskGroup → Slot → Slot
with_group g = through (behind (behind (behind (first (λ x. g)))))

-- a task's part with other caches
abbrev pub with_caches : TaskCaches → Slot → Slot
with_caches k = through (behind (behind (behind (behind (first (λ x. k))))))

-- ---- the columns

-- a task's part at another place
abbrev pub to_place : ℕ → Slot → Slot
to_place n s = to_request n s.class s.unit s

-- a task's part with another noted head
abbrev pub to_head : Head → Slot → Slot
to_head h s = with_notes (record { head = h; next = s.noted.next; anchor = s.noted.anchor }) s

-- a task's part with another noted next
abbrev pub to_next : ℕ → Slot → Slot
to_next n s = with_notes (record { head = s.noted.head; next = n; anchor = s.noted.anchor }) s

-- a task's part with another noted anchor
abbrev pub to_anchor : Anchor → Slot → Slot
to_anchor b s = with_notes (record { head = s.noted.head; next = s.noted.next; anchor = b }) s

-- a task's part with another descriptor in hand
abbrev pub to_descriptor : ℕ → Slot → Slot
to_descriptor d s =
    let h = s.hand in
    with_hand (record { descriptor = d; region = h.region; index = h.index; left = h.left; state = h.state }) s

-- a task's part with another chain to move: its region, the index of its next block, how many are left
abbrev pub to_chain : ℕ → ℕ → ℕ → Slot → Slot
to_chain r i l s =
    with_hand (record { descriptor = s.hand.descriptor; region = r; index = i; left = l; state = s.hand.state }) s

-- a task's part with another region in hand
abbrev pub to_region : ℕ → Slot → Slot
to_region r s = to_chain r s.hand.index s.hand.left s

-- a task's part with another state in which a free found the anchor
abbrev pub to_state : ℕ → Slot → Slot
to_state w s =
    let h = s.hand in
    with_hand (record { descriptor = h.descriptor; region = h.region; index = h.index; left = h.left; state = w }) s

-- a task's part with another group: its region, the indexes of its first and last block, how many it has
abbrev pub to_group : ℕ → ℕ → ℕ → ℕ → Slot → Slot
to_group r f l g s = to_region r (with_group (record { first = f; last = l; count = g }) s)

-- a task's part with another number of blocks in the group
abbrev pub to_grouped : ℕ → Slot → Slot
to_grouped g s = with_group (record { first = s.group.first; last = s.group.last; count = g }) s

-- a task's part with another cache of the class c: its top and how many it has
abbrev pub to_cache : ℕ → ℕ → ℕ → Slot → Slot
to_cache c u n s =
    with_caches (record { top = update s.caches.top c u; count = update s.caches.count c n }) s
