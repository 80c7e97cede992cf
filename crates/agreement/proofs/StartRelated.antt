-- The relation after a start, on any bytes.
use mathlib.Core.Path.{◌≡◌, refl, sym, ap, subst⁻¹, ◌∙◌}
use mathlib.Core.Bool.{Bool, true, false, cond}
use mathlib.Core.List.{List, [], ◌∷◌, ◌++◌}
use Prim.Native.Nat.{ℕ, zero, suc, ◌+◌, ◌*◌, ◌/◌, ◌%◌, ◌^◌, ◌≤◌, ◌<◌}
use native.Mathlib.Nat.{zero-div}
use native.Mathlib.Omega.{arith}
use native.Mathlib.Decide.{dec_lt, ℕ_discrete}
use borrow.Author.Tests.{eq-eqb, ne_eqb}
use lib.Dec.{eqb}
use lib.ListN.{length}
use Rattle.limits.specs.Limits.{REGIONS, REGION_BYTES, UNITS, CLASSES, DESCRIPTORS, SPARE_DESCRIPTORS, SPARE_REGIONS}
use Rattle.limits.specs.Limits.{DESCRIPTOR_LISTS, WORD_MARKS}
use Rattle.rows.specs.Branch.{if}
use Rattle.rows.specs.Linked.{Linked, ends, links}
use Rattle.rows.proofs.Branch.{if_yes}
use Rattle.fields.specs.Columns.{Column, Field, View, ◌:=◌, assigned}
use Rattle.words.specs.Head.{item_of, tag_of}
use Rattle.words.specs.Anchor.{anchor_of}
use Rattle.words.specs.Mark.{bit_at}
use Rattle.plain.specs.Steps.{top}
use Rattle.plain.specs.Calls.{rising, start_mem, Start}
use Rattle.control.specs.Layout.{CACHES, field_of, Head, Tasks, Regions, DescriptorNext, RegionNext, TopOfCache}
use Rattle.control.specs.Layout.{TaskState, TaskLost, FreeNodes}
use Rattle.control.specs.Layout
use Rattle.pieces.specs.Pieces.{one_piece}
use Rattle.strip_tree.specs.declared.tree.Tree.{Tree}
use Rattle.strip_tree.specs.Trees.{WHOLE_FREE}
use Rattle.strips_agreement.specs.TreeFollows.{Follows, start_tree}
use Rattle.strips_agreement.proofs.StripsAgree.{same-follows}
use Rattle.strips_agreement.proofs.StartFollows.{start-follows}
use Rattle.stepped.specs.StripSteps.{tree_of}
use Rattle.stepped.specs.Start.{fill, next_up, start_writes}
use Rattle.agreement.specs.Contents.{contents_of}
use Rattle.agreement.specs.Relation.{Related, r_idle}
use Rattle.agreement.proofs.Images.{assigned-append, filled, other-fill}

-- the view of a memory of zeros
abbrev pub zeroed : View
zeroed g = 0

module _ (b : Start) (regions : ℕ) where
  -- the fields after a start, in the order of the writes
  abbrev first : View
  first =
      assigned
      (Tasks := b.tasks
      ∷ Regions := regions
      ∷ Head SPARE_DESCRIPTORS := 1
      ∷ Head SPARE_REGIONS := 1
      ∷ FreeNodes 0 := WHOLE_FREE
      ∷ [])
      zeroed

  abbrev second : View
  second = assigned (fill DescriptorNext (next_up DESCRIPTORS) DESCRIPTORS) first

  abbrev third : View
  third = assigned (fill RegionNext (next_up regions) regions) second

  abbrev pub start_view : View
  start_view = assigned (fill TopOfCache (λ i. UNITS) CACHES) third

  -- `start_view` has all the writes of a start
  pub start-view : (g : Field) → assigned (start_writes b regions) zeroed g ≡ start_view g
  unfolding start_writes
  start-view g =
      assigned-append (fill DescriptorNext (next_up DESCRIPTORS) DESCRIPTORS)
      (fill RegionNext (next_up regions) regions ++ fill TopOfCache (λ i. UNITS) CACHES) first g
      ∙ assigned-append (fill RegionNext (next_up regions) regions) (fill TopOfCache (λ i. UNITS) CACHES) second g

  -- a column that is not filled
  unfilled : (e : Column) (j : ℕ) → eqb (Layout.cache_tops).start e.start ≡ false
      → eqb (Layout.region_nexts).start e.start ≡ false → eqb (Layout.descriptor_nexts).start e.start ≡ false
      → start_view (field_of e j) ≡ first (field_of e j)
  unfilled e j p q r =
      other-fill Layout.cache_tops (λ i. UNITS) CACHES third e j p
      ∙ other-fill Layout.region_nexts (next_up regions) regions second e j q
      ∙ other-fill Layout.descriptor_nexts (next_up DESCRIPTORS) DESCRIPTORS first e j r

  -- ---- the columns

  pub at-tasks : start_view Tasks ≡ b.tasks
  at-tasks = unfilled Layout.started_tasks 0 refl refl refl

  pub at-regions : start_view Regions ≡ regions
  at-regions = unfilled Layout.started_regions 0 refl refl refl

  pub at-state : (t : ℕ) → start_view (TaskState t) ≡ 0
  at-state t = unfilled Layout.task_states t refl refl refl

  pub at-lost : (t : ℕ) → start_view (TaskLost t) ≡ 0
  at-lost t = unfilled Layout.task_losts t refl refl refl

  -- the tree of free pieces
  at-tree : tree_of start_view ≡ start_tree
  at-tree = λ i. record {
    a = unfilled Layout.free_nodes 0 refl refl refl i;
    b = unfilled Layout.free_nodes 1 refl refl refl i;
    c = unfilled Layout.free_nodes 2 refl refl refl i;
    d = unfilled Layout.free_nodes 3 refl refl refl i;
  }

  at_head : (ℓ : ℕ) → start_view (Head ℓ) ≡ cond (eqb SPARE_REGIONS ℓ) 1 (cond (eqb SPARE_DESCRIPTORS ℓ) 1 0)
  at_head ℓ = unfilled Layout.heads ℓ refl refl refl

  at_next : (d : ℕ) → d < DESCRIPTORS → start_view (DescriptorNext d) ≡ next_up DESCRIPTORS d
  at_next d l =
      other-fill Layout.cache_tops (λ i. UNITS) CACHES third Layout.descriptor_nexts d refl
      ∙ other-fill Layout.region_nexts (next_up regions) regions second Layout.descriptor_nexts d refl
      ∙ filled Layout.descriptor_nexts (next_up DESCRIPTORS) DESCRIPTORS first d l

  at-region-next : (r : ℕ) → r < regions → start_view (RegionNext r) ≡ next_up regions r
  at-region-next r l =
      other-fill Layout.cache_tops (λ i. UNITS) CACHES third Layout.region_nexts r refl
      ∙ filled Layout.region_nexts (next_up regions) regions second r l

  at_top : (i : ℕ) → i < CACHES → start_view (TopOfCache i) ≡ UNITS
  at_top i l = filled Layout.cache_tops (λ i. UNITS) CACHES third i l

-- ---- the lists

-- the items i to n - 1, rising
rises : (nx : ℕ → ℕ) (n k i : ℕ) → ((j : ℕ) → j < n → nx j ≡ next_up n j) → i + k ≡ n → (f : ℕ) → f ≡ top (rising k i)
    → Linked nx suc 0 f (rising k i)
unfolding rising
rises nx n zero i h e f g = ends g
rises nx n (suc zero) i h e f g = links g (ends (h i (omega arith) ∙ rw (eq-eqb (i + 1) n (omega arith))))
rises nx n (suc (suc k)) i h e f g =
    links g (rises nx n (suc k) (suc i) h (omega arith) (nx i)
    (h i (omega arith) ∙ rw (ne_eqb (i + 1) n (omega arith)) (omega arith)))

pub next-max : (n x : ℕ) → x < n → next_up n x ≤ n
next-max n x h = elim (ℕ_discrete (x + 1) n) [
  | yes e ↦ rw (eq-eqb (x + 1) n e) (omega arith)
  | no e ↦ rw (ne_eqb (x + 1) n e) (omega arith)
]

top-rising : (n : ℕ) → 1 ≤ n → 1 ≡ top (rising n 0)
unfolding rising
top-rising zero h = absurd (omega arith)
top-rising (suc n) h = refl

module _ (b : Start) (regions : ℕ) (few : 1 ≤ regions) where
  abbrev v : View
  v = start_view b regions

  row : (ℓ : ℕ) → ℓ < DESCRIPTOR_LISTS → (d : Dec (ℓ ≡ SPARE_DESCRIPTORS)) (e : Dec (ℓ ≡ SPARE_REGIONS))
      → Linked (λ (x : ℕ). v (DescriptorNext x)) suc 0 (item_of (v (Head ℓ)))
      (if d (rising DESCRIPTORS 0) (if e (rising regions 0) []))
  row ℓ l (yes d) e =
      let one : v (Head ℓ) ≡ 1 =
      at_head b regions ℓ ∙ rw (ne_eqb SPARE_REGIONS ℓ (omega arith), eq-eqb SPARE_DESCRIPTORS ℓ (sym d)) in
      rises (λ (x : ℕ). v (DescriptorNext x)) DESCRIPTORS DESCRIPTORS 0 (at_next b regions) refl
      (item_of (v (Head ℓ)))
      (ap item_of one ∙ top-rising DESCRIPTORS (omega arith))
  row ℓ l (no d) (yes e) = absurd (omega arith)
  row ℓ l (no d) (no e) =
      let none : v (Head ℓ) ≡ 0 =
      at_head b regions ℓ ∙ rw
      (ne_eqb SPARE_REGIONS ℓ (omega arith), ne_eqb SPARE_DESCRIPTORS ℓ (λ i. d (sym i))) in
      ends (ap item_of none)

  spare : (d : Dec (◌≡◌ {A = ℕ} SPARE_REGIONS SPARE_DESCRIPTORS)) (e : Dec (◌≡◌ {A = ℕ} SPARE_REGIONS SPARE_REGIONS))
      → Linked (λ (x : ℕ). v (RegionNext x)) suc 0 (item_of (v (Head SPARE_REGIONS)))
      (if d (rising DESCRIPTORS 0) (if e (rising regions 0) []))
  spare (yes d) e = absurd (omega arith)
  spare (no d) (no e) = absurd (e refl)
  spare (no d) (yes e) =
      rises (λ (x : ℕ). v (RegionNext x)) regions regions 0 (at-region-next b regions) (omega arith)
      (item_of (v (Head SPARE_REGIONS)))
      (ap item_of (at_head b regions SPARE_REGIONS) ∙ top-rising regions few)

  tags : (ℓ : ℕ) (p q : Bool) → tag_of (cond p 1 (cond q 1 0)) ≡ 0
  tags ℓ true q = refl
  tags ℓ false true = refl
  tags ℓ false false = refl

  -- the relation between the control memory that a start leaves, with any area of the length, and the plain pool after
  -- a start
  pub start-related : (area : List ℕ) → length area ≡ REGION_BYTES * regions → regions ≤ REGIONS
      → Related regions (contents_of v area) (start_mem regions)
  unfolding start_mem
  start-related area e h = record {
    core = record {
      lists = record {
        tags = λ ℓ l. ap tag_of (at_head b regions ℓ) ∙ tags ℓ (eqb SPARE_REGIONS ℓ) (eqb SPARE_DESCRIPTORS ℓ);
        rows = λ ℓ l. row ℓ l (ℕ_discrete ℓ SPARE_DESCRIPTORS) (ℕ_discrete ℓ SPARE_REGIONS);
        spare_row = spare (ℕ_discrete SPARE_REGIONS SPARE_DESCRIPTORS) (ℕ_discrete SPARE_REGIONS SPARE_REGIONS);
        descriptor_nexts = λ d l. rw (at_next b regions d l) (next-max DESCRIPTORS d l);
        region_nexts = λ r l. rw (at-region-next b regions r l) (next-max regions r l);
      };
      descriptors = record {
        each = λ d l. record {
          state = ap (λ (x : ℕ). (anchor_of x).state) (unfilled b regions Layout.anchors d refl refl refl);
          region = unfilled b regions Layout.descriptor_regions d refl refl refl;
          class = unfilled b regions Layout.descriptor_classes d refl refl refl;
          chain = tt;
        };
        avails = λ d l. rw (unfilled b regions Layout.anchors d refl refl refl) (omega arith);
        chain_counts = λ d l. rw (unfilled b regions Layout.anchors d refl refl refl) (omega arith);
        region_numbers = λ d l. rw (unfilled b regions Layout.descriptor_regions d refl refl refl) few;
        class_numbers = λ d l. rw (unfilled b regions Layout.descriptor_classes d refl refl refl) (omega arith);
      };
      entries = record {
        maps = λ r l. unfilled b regions Layout.map_entries r refl refl refl;
        marks =
            λ u l. ap (λ (x : ℕ). bit_at x (u % WORD_MARKS))
            (unfilled b regions Layout.unit_marks (u / WORD_MARKS) refl refl refl)
            ∙ no-bit (u % WORD_MARKS);
      };
      length = e;
      strips =
          subst⁻¹ (λ (t : Tree). Follows t (λ s. v (Layout.SlotByte s)) one_piece) (at-tree b regions)
          (same-follows start_tree (λ s. 0) (λ s. v (Layout.SlotByte s)) one_piece
          (λ s l. unfilled b regions Layout.bytes_of_slots s refl refl refl) start-follows);
    };
    slots = λ t l. record {
      fits = rw (unfilled b regions Layout.task_classes t refl refl refl) (omega arith);
      place = r_idle (unfilled b regions Layout.task_places t refl refl refl);
      caches = record {
        tops =
            λ c i. ends
            (if_yes (dec_lt c CLASSES) _ _ i ∙ at_top b regions (Layout.CacheTop t c).index (omega arith));
        counts =
            λ c i. if_yes (dec_lt c CLASSES) _ _ i ∙ unfilled b regions Layout.cache_counts
            (Layout.CacheCount t c).index refl refl refl;
      };
    };
  }
    where
      no-bit : (i : ℕ) → bit_at 0 i ≡ 0
      no-bit i = rw (zero-div (2 ^ i))
