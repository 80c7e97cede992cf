-- The two memories with one part changed, and with some columns of a part changed. A part's other columns are named in
-- the setters of that part alone, and all parts in `through` alone, beside `contents_of`, which reads them off a view.
use mathlib.Core.List.{List}
use Prim.Native.Nat.{ℕ}
use Rattle.rows.specs.Update.{update}
use Rattle.links.specs.Link.{with_link}
use Rattle.words.specs.declared.head.Head.{Head}
use Rattle.words.specs.declared.anchor.Anchor.{Anchor}
use Rattle.agreement.specs.Contents.{Slot, Lists, Descriptors, Entries, StripFields, Contents}
use Rattle.strip_tree.specs.declared.tree.Tree.{Tree}
use Rattle.agreement.proofs.Parts.{first, behind}

-- ---- the parts

-- the parts, each with those behind it
abbrev Parts : Type 0
Parts = Lists × (Descriptors × (Entries × ((ℕ → Slot) × (List ℕ × (StripFields × Unit {0})))))

-- the memories after a change of one part: here alone the parts are all named, and a further one comes last
abbrev through : (Parts → Parts) → Contents → Contents
through f a =
    let p = f (a.lists, (a.descriptors, (a.entries, (a.slot, (a.area, (a.strips, tt)))))) in
    record {
      lists = p.0;
      descriptors = p.1.0;
      entries = p.1.1.0;
      slot = p.1.1.1.0;
      area = p.1.1.1.1.0;
      strips = p.1.1.1.1.1.0;
    }

-- the memories with other lists
abbrev pub on_lists : (Lists → Lists) → Contents → Contents
on_lists f = through (first f)

-- the memories with other descriptors
abbrev pub on_descriptors : (Descriptors → Descriptors) → Contents → Contents
on_descriptors f = through (behind (first f))

-- the memories with another map or other marks
abbrev pub on_entries : (Entries → Entries) → Contents → Contents
on_entries f = through (behind (behind (first f)))

-- the memories with other parts of the tasks
abbrev pub with_slots : (ℕ → Slot) → Contents → Contents
with_slots S = through (behind (behind (behind (first (λ x. S)))))

-- the memories with another area
abbrev pub with_area : List ℕ → Contents → Contents
with_area b = through (behind (behind (behind (behind (first (λ x. b))))))

-- the memories with another tree of free pieces and other bytes of the slots
abbrev pub with_strips : Tree → (ℕ → ℕ) → Contents → Contents
with_strips t b = through (behind (behind (behind (behind (behind (first (λ x. record { tree = t; byte = b })))))))

-- ---- a part with another column

abbrev pub with_heads : (ℕ → Head) → Lists → Lists
with_heads f l = record { head = f; descriptor_next = l.descriptor_next; region_next = l.region_next }

abbrev pub with_descriptor_nexts : (ℕ → ℕ) → Lists → Lists
with_descriptor_nexts f l = record { head = l.head; descriptor_next = f; region_next = l.region_next }

abbrev pub with_region_nexts : (ℕ → ℕ) → Lists → Lists
with_region_nexts f l = record { head = l.head; descriptor_next = l.descriptor_next; region_next = f }

abbrev pub with_anchors : (ℕ → Anchor) → Descriptors → Descriptors
with_anchors f D = record { anchor = f; region = D.region; class = D.class }

abbrev pub with_map : (ℕ → ℕ) → Entries → Entries
with_map f e = record { map = f; mark = e.mark }

abbrev pub with_marks : (ℕ → ℕ) → Entries → Entries
with_marks f e = record { map = e.map; mark = f }

-- ---- one item of a column

-- the memories with another part of the task t
abbrev pub set_slot : ℕ → Slot → Contents → Contents
set_slot t s a = with_slots (update a.slot t s) a

-- the memories with another head of the list ℓ
abbrev pub set_head : ℕ → Head → Contents → Contents
set_head ℓ h = on_lists (λ l. with_heads (update l.head ℓ h) l)

-- the memories with another next of the descriptor d
abbrev pub set_descriptor_next : ℕ → ℕ → Contents → Contents
set_descriptor_next d n = on_lists (λ l. with_descriptor_nexts (update l.descriptor_next d n) l)

-- the memories with another next of the region r
abbrev pub set_region_next : ℕ → ℕ → Contents → Contents
set_region_next r n = on_lists (λ l. with_region_nexts (update l.region_next r n) l)

-- the memories with another anchor of the descriptor d
abbrev pub set_anchor : ℕ → Anchor → Contents → Contents
set_anchor d b = on_descriptors (λ D. with_anchors (update D.anchor d b) D)

-- the memories with the descriptor d written whole
abbrev pub set_descriptor : ℕ → Anchor → ℕ → ℕ → Contents → Contents
set_descriptor d b r c = on_descriptors (λ D. record {
  anchor = update D.anchor d b;
  region = update D.region d r;
  class = update D.class d c;
})

-- the memories with another map entry of the region r
abbrev pub set_map : ℕ → ℕ → Contents → Contents
set_map r e = on_entries (λ E. with_map (update E.map r e) E)

-- the memories with the descriptor d written whole, and the map entry e of its region
abbrev pub set_owner : ℕ → Anchor → ℕ → ℕ → ℕ → Contents → Contents
set_owner d b r c e a = set_map r e (set_descriptor d b r c a)

-- the memories with another mark of the unit u
abbrev pub set_mark : ℕ → ℕ → Contents → Contents
set_mark u b = on_entries (λ e. with_marks (update e.mark u b) e)

-- the memories with another link of the block at u
abbrev pub set_link : ℕ → ℕ → Contents → Contents
set_link u x a = with_area (with_link a.area u x) a
