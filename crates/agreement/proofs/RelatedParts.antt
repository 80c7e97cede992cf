-- The relation of one part of the memories after a change in that part: of the lists, the descriptors, the map and the
-- marks; and of all but the tasks with one part related anew.
use mathlib.Core.Path.{◌≡◌, refl, sym, subst, ◌∙◌}
use Prim.Native.Nat.{ℕ, suc, ◌*◌, ◌≤◌, ◌<◌}
use mathlib.Core.List.{List}
use lib.ListN.{length}
use Rattle.limits.specs.Limits.{UNITS, REGION_BYTES, DESCRIPTORS, MOST_BLOCKS, SPARE_REGIONS, LISTS, DESCRIPTOR_LISTS}
use Rattle.limits.specs.Limits.{WHOLE_ORDER}
use Rattle.pieces.specs.Pieces.{Pieces}
use Rattle.strip_tree.specs.declared.tree.Tree.{Tree}
use Rattle.strips_agreement.specs.TreeFollows.{Follows}
use Rattle.words.specs.declared.anchor.Anchor.{Anchor}
use Rattle.words.specs.declared.head.Head.{Head}
use Rattle.rows.specs.Counting.{count}
use Rattle.rows.specs.Linked.{LinksAgree, Linked}
use Rattle.rows.specs.Update.{update}
use Rattle.rows.proofs.Linked.{linked-frame, linked-update}
use Rattle.rows.proofs.Update.{update_all, update-all₂}
use Rattle.links.specs.Link.{link}
use Rattle.plain.specs.State.{Descriptor, Mem, Task, state_number}
use Rattle.plain.specs.ByState.{IfOpen, IsOpen}
use Rattle.plain.proofs.ByState.{open-map}
use Rattle.agreement.specs.Contents.{Slot, Lists, Descriptors, Entries, Contents}
use Rattle.agreement.specs.Relation.{ChainRelated, Core, DescriptorRelated, DescriptorsRelated, EntriesRelated}
use Rattle.agreement.specs.Relation.{ListsRelated, StripsRelated, wrap}
use Rattle.agreement.proofs.Parts.{first, behind}
use Rattle.agreement.proofs.Sets.{with_heads, with_descriptor_nexts, with_region_nexts, with_anchors, with_map}
use Rattle.agreement.proofs.Sets.{with_marks, on_lists, on_descriptors, on_entries, with_slots, with_area, with_strips}

-- ---- the lists
module _ {regions : ℕ} {l : Lists} {won : ℕ → ℕ} {row : ℕ → List ℕ} (R : ListsRelated regions l won row) where
  -- a head, whose list has the row q after n won exchanges
  pub head-related : (ℓ : ℕ) (h : Head) (n : ℕ) (q : List ℕ) → h.tag ≡ wrap n
      → (ℓ < DESCRIPTOR_LISTS → Linked l.descriptor_next suc 0 h.item q)
      → (ℓ ≡ SPARE_REGIONS → Linked l.region_next suc 0 h.item q)
      → ListsRelated regions (with_heads (update l.head ℓ h) l) (update won ℓ n) (update row ℓ q)
  head-related ℓ h n q e f g = record {
    tags = update-all₂ (λ j x y. j < LISTS → x.tag ≡ wrap y) l.head won ℓ h n (λ i. e) (λ j d. R.tags j);
    rows =
        update-all₂ (λ j x r. j < DESCRIPTOR_LISTS → Linked l.descriptor_next suc 0 x.item r) l.head row ℓ h q f
        (λ j d. R.rows j);
    spare_row = update-all₂ (λ j x r. j ≡ SPARE_REGIONS → Linked l.region_next suc 0 x.item r) l.head row ℓ h q g
        (λ j d i. subst (λ (z : ℕ). Linked l.region_next suc 0 (l.head z).item (row z)) (sym i) R.spare_row)
        SPARE_REGIONS refl;
    descriptor_nexts = R.descriptor_nexts;
    region_nexts = R.region_nexts;
  }

  -- the next of a descriptor that is in no list
  pub descriptor_next-related : (x n : ℕ) → ((ℓ : ℕ) → ℓ < DESCRIPTOR_LISTS → count x (row ℓ) ≡ 0) → n ≤ DESCRIPTORS
      → ListsRelated regions (with_descriptor_nexts (update l.descriptor_next x n) l) won row
  descriptor_next-related x n off b = record {
    tags = R.tags;
    rows = λ ℓ i. linked-update x n (off ℓ i) (R.rows ℓ i);
    spare_row = R.spare_row;
    descriptor_nexts =
        update_all (λ d y. d < DESCRIPTORS → y ≤ DESCRIPTORS) l.descriptor_next x n (λ i. b)
        (λ d e. R.descriptor_nexts d);
    region_nexts = R.region_nexts;
  }

  -- the next of a region that is not spare
  pub region_next-related : (x n : ℕ) → count x (row SPARE_REGIONS) ≡ 0 → n ≤ regions
      → ListsRelated regions (with_region_nexts (update l.region_next x n) l) won row
  region_next-related x n off b = record {
    tags = R.tags;
    rows = R.rows;
    spare_row = linked-update x n off R.spare_row;
    descriptor_nexts = R.descriptor_nexts;
    region_nexts = update_all (λ d y. d < regions → y ≤ regions) l.region_next x n (λ i. b) (λ d e. R.region_nexts d);
  }

-- ---- the descriptors
module _ {regions : ℕ} {nx : ℕ → ℕ} {D : Descriptors} {P : ℕ → Descriptor} (R : DescriptorsRelated regions nx D P) where
  -- an anchor: the region and the class stay
  pub anchor-related : (d : ℕ) (b : Anchor) (E : Descriptor) → d < DESCRIPTORS → b.state ≡ state_number E.state
      → E.region ≡ (P d).region → E.class ≡ (P d).class → IfOpen E.state (ChainRelated nx b E)
      → b.avail ≤ MOST_BLOCKS → b.count ≤ MOST_BLOCKS
      → DescriptorsRelated regions nx (with_anchors (update D.anchor d b) D) (update P d E)
  anchor-related d b E l e f g c i₁ i₂ = record {
    each =
        update-all₂ (λ j x F. j < DESCRIPTORS → DescriptorRelated nx x (D.region j) (D.class j) F) D.anchor P d b E
        (λ i. record { state = e; region = (R.each d l).region ∙ sym f; class = (R.each d l).class ∙ sym g; chain = c })
        (λ j n. R.each j);
    avails =
        update_all (λ j x. j < DESCRIPTORS → x.avail ≤ MOST_BLOCKS) D.anchor d b (λ i. i₁) (λ j n. R.avails j);
    chain_counts =
        update_all (λ j x. j < DESCRIPTORS → x.count ≤ MOST_BLOCKS) D.anchor d b (λ i. i₂)
        (λ j n. R.chain_counts j);
    region_numbers = R.region_numbers;
    class_numbers = R.class_numbers;
  }

  -- other links, which are as they were in the chains of open descriptors
  pub links-related : (nx' : ℕ → ℕ) → ((d : ℕ) → d < DESCRIPTORS → IsOpen (P d).state → LinksAgree nx nx' (P d).chain)
      → DescriptorsRelated regions nx' D P
  links-related nx' same = record {
    each = λ d l. record {
      state = (R.each d l).state;
      region = (R.each d l).region;
      class = (R.each d l).class;
      chain = open-map (P d).state
          (λ o C. record { linked = linked-frame (same d l o) C.linked; counts = C.counts }) (R.each d l).chain;
    };
    avails = R.avails;
    chain_counts = R.chain_counts;
    region_numbers = R.region_numbers;
    class_numbers = R.class_numbers;
  }

-- ---- the map and the marks
module _ {regions : ℕ} {E : Entries} {map hands : ℕ → ℕ} (R : EntriesRelated regions E map hands) where
  pub map-related : (r x y : ℕ) → x ≡ y → EntriesRelated regions (with_map (update E.map r x) E) (update map r y)
      hands
  map-related r x y e = record {
    maps = update-all₂ (λ j x y. j < regions → x ≡ y) E.map map r x y (λ l. e) (λ j n. R.maps j);
    marks = R.marks;
  }

  pub mark-related : (u b : ℕ) → EntriesRelated regions (with_marks (update E.mark u b) E) map (update hands u b)
  mark-related u b = record {
    maps = R.maps;
    marks = update-all₂ (λ j x y. j < UNITS → x ≡ y) E.mark hands u b b (λ l. refl) (λ j n. R.marks j);
  }

-- ---- all but the tasks, with one part related anew, beside any parts of the tasks

-- the plain pool with other parts
abbrev pub plain_with : (won : ℕ → ℕ) (row : ℕ → List ℕ) (P : ℕ → Descriptor) (map hands : ℕ → ℕ) (task : ℕ → Task)
    (strips : Pieces WHOLE_ORDER) → Mem
plain_with won row P map hands task strips =
    record { row = row; won = won; descriptor = P; map = map; hands = hands; task = task; strips = strips }

-- what relates the parts, each with what relates those behind it
abbrev CoreParts : ℕ → Contents → Mem → Type 0
CoreParts regions a m =
    ListsRelated regions a.lists m.won m.row
    × (DescriptorsRelated regions (link a.area) a.descriptors m.descriptor
    × ((length a.area ≡ REGION_BYTES * regions)
    × (EntriesRelated regions a.entries m.map m.hands
    × (StripsRelated a.strips m.strips × Unit {0}))))

-- all of it, and the other way round: here alone the parts are all named, and a further one comes last
core-parts : {regions : ℕ} {a : Contents} {m : Mem} → Core regions a m → CoreParts regions a m
core-parts C = (C.lists, (C.descriptors, (C.length, (C.entries, (C.strips, tt)))))

core-of : {regions : ℕ} {a : Contents} {m : Mem} → CoreParts regions a m → Core regions a m
core-of p = record {
  lists = p.0;
  descriptors = p.1.0;
  length = p.1.1.0;
  entries = p.1.1.1.0;
  strips = p.1.1.1.1.0;
}

module _ {regions : ℕ} {a : Contents} {m : Mem} (C : Core regions a m) {slots : ℕ → Slot} {tasks : ℕ → Task} where
  -- the lists
  pub core-lists : {l : Lists} {won : ℕ → ℕ} {row : ℕ → List ℕ} → ListsRelated regions l won row
      → Core regions (with_slots slots (on_lists (λ x. l) a))
      (plain_with won row m.descriptor m.map m.hands tasks m.strips)
  core-lists L = core-of (first (λ x. L) (core-parts C))

  -- the descriptors
  pub core-descriptors : {D : Descriptors} {P : ℕ → Descriptor} → DescriptorsRelated regions (link a.area) D P
      → Core regions (with_slots slots (on_descriptors (λ x. D) a))
      (plain_with m.won m.row P m.map m.hands tasks m.strips)
  core-descriptors R = core-of (behind (first (λ x. R)) (core-parts C))

  -- the links, in an area of the same length
  pub core-links : {b : List ℕ} → DescriptorsRelated regions (link b) a.descriptors m.descriptor
      → length b ≡ length a.area
      → Core regions (with_slots slots (with_area b a))
      (plain_with m.won m.row m.descriptor m.map m.hands tasks m.strips)
  core-links R e = core-of (behind (λ p. (R, first (λ l. e ∙ l) p.1)) (core-parts C))

  -- the map and the marks
  pub core-entries : {E : Entries} {map hands : ℕ → ℕ} → EntriesRelated regions E map hands
      → Core regions (with_slots slots (on_entries (λ x. E) a))
      (plain_with m.won m.row m.descriptor map hands tasks m.strips)
  core-entries R = core-of (behind (behind (behind (first (λ x. R)))) (core-parts C))

  -- the strips
  pub core-strips : {t : Tree} {b : ℕ → ℕ} {p : Pieces WHOLE_ORDER} → Follows t b p
      → Core regions (with_slots slots (with_strips t b a))
      (plain_with m.won m.row m.descriptor m.map m.hands tasks p)
  core-strips F = core-of (behind (behind (behind (behind (first (λ x. F))))) (core-parts C))
