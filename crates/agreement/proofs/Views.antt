-- The relation speaks of the fields of the layout alone: two views that agree there are related alike.
use mathlib.Core.Path.{◌≡◌, refl, sym, subst, fun_ext}
use mathlib.Core.List.{List}
use Prim.Native.Nat.{ℕ, ◌/◌, ◌≤◌, ◌<◌}
use native.Mathlib.Omega.{arith}
use native.Mathlib.Decide.{dec_lt}
use Rattle.limits.specs.Limits.{REGIONS, TASKS, CLASSES, DESCRIPTORS, SPARE_REGIONS, LISTS, WORD_MARKS}
use Rattle.rows.specs.Branch.{if}
use Rattle.rows.proofs.Linked.{linked-frame}
use Rattle.fields.specs.Columns.{Field, View, Has}
use Rattle.words.specs.Head.{head_of}
use Rattle.words.specs.Anchor.{anchor_of}
use Rattle.links.specs.Link.{link}
use Rattle.plain.specs.State.{Mem}
use Rattle.plain.specs.Invariant.{Invariant}
use Rattle.plain.proofs.PlaceAlone.{task_of}
use Rattle.plain.proofs.Turn.{Turn}
use Rattle.control.specs.Layout
use Rattle.control.specs.Layout.{layout}
use Rattle.strip_tree.specs.declared.tree.Tree.{Tree}
use Rattle.strips_agreement.specs.TreeFollows.{Follows}
use Rattle.strips_agreement.proofs.StripsAgree.{same-follows}
use Rattle.stepped.specs.StripSteps.{tree_of}
use Rattle.agreement.specs.Contents.{Slot, by_class, slot_of, contents_of}
use Rattle.agreement.specs.Relation.{DescriptorRelated, SlotRelated, Core, Related}
use Rattle.agreement.proofs.Frames.{Framed, kept_slot}
use Rattle.agreement.proofs.ListTops.{listed, listed-region, descriptor-in-hand, region-in-hand}

module _ {v v' : View} (same : (g : Field) → Has layout g → v' g ≡ v g) where
  -- a column of the caches: f names a task's field by the class
  caches-same : (f : ℕ → Field) → ((c : ℕ) → c < CLASSES → Has layout (f c))
      → by_class (λ c. v' (f c)) ≡ by_class (λ c. v (f c))
  caches-same f has = fun_ext (λ c. by c (dec_lt c CLASSES))
    where
      by : (c : ℕ) (p : Dec (c < CLASSES)) → if p (v' (f c)) 0 ≡ if p (v (f c)) 0
      by c (yes p) = same (f c) (has c p)
      by c (no p) = refl

  -- a task's part
  slots_same : (t : ℕ) → t < TASKS → slot_of v' t ≡ slot_of v t
  slots_same t l = λ i. record {
    place = same (Layout.TaskPlace t) (omega arith) i;
    class = same (Layout.TaskClass t) (omega arith) i;
    unit = same (Layout.TaskUnit t) (omega arith) i;
    noted = record {
      head = head_of (same (Layout.TaskHead t) (omega arith) i);
      next = same (Layout.TaskNext t) (omega arith) i;
      anchor = anchor_of (same (Layout.TaskAnchor t) (omega arith) i);
    };
    hand = record {
      descriptor = same (Layout.TaskDescriptor t) (omega arith) i;
      region = same (Layout.TaskRegion t) (omega arith) i;
      index = same (Layout.TaskIndex t) (omega arith) i;
      left = same (Layout.TaskLeft t) (omega arith) i;
      state = same (Layout.TaskState t) (omega arith) i;
    };
    group = record {
      first = same (Layout.GroupFirst t) (omega arith) i;
      last = same (Layout.GroupLast t) (omega arith) i;
      count = same (Layout.GroupCount t) (omega arith) i;
    };
    caches = record {
      top = caches-same (Layout.CacheTop t) (λ c h. omega arith) i;
      count = caches-same (Layout.CacheCount t) (λ c h. omega arith) i;
    };
  }

  -- the tree of free pieces
  same-tree : tree_of v' ≡ tree_of v
  same-tree = λ i. record {
    a = same (Layout.FreeNodes 0) (omega arith) i;
    b = same (Layout.FreeNodes 1) (omega arith) i;
    c = same (Layout.FreeNodes 2) (omega arith) i;
    d = same (Layout.FreeNodes 3) (omega arith) i;
  }

  module _ {regions : ℕ} {m : Mem} (area : List ℕ) (small : regions ≤ REGIONS) (I : Invariant regions m)
      (R : Related regions (contents_of v area) m) where
    -- a head's word, a descriptor's fields, a region's
    head : (ℓ : ℕ) → ℓ < LISTS → v' (Layout.Head ℓ) ≡ v (Layout.Head ℓ)
    head ℓ l = same (Layout.Head ℓ) (omega arith)

    descriptor : (d : ℕ) → d < DESCRIPTORS
        → DescriptorRelated (link area) (anchor_of (v' (Layout.Anchor d))) (v' (Layout.DescriptorRegion d))
        (v' (Layout.DescriptorClass d)) (m.descriptor d)
    descriptor d l =
        rw (
          same (Layout.Anchor d) (omega arith),
          same (Layout.DescriptorRegion d) (omega arith),
          same
              (Layout.DescriptorClass d) (omega arith),
        )
        (R.core.descriptors.each d l)

    core : Core regions (contents_of v' area) m
    core = record {
      lists = record {
        tags = λ ℓ l. rw (head ℓ l) (R.core.lists.tags ℓ l);
        rows = λ ℓ l. rw (head ℓ (omega arith))
            (linked-frame
            (λ x h. same (Layout.DescriptorNext x) (let k : x < DESCRIPTORS = listed I ℓ l x h in omega arith))
            (R.core.lists.rows ℓ l));
        spare_row = rw (head SPARE_REGIONS (omega arith))
            (linked-frame (λ x h. same (Layout.RegionNext x) (let k : x < regions = listed-region I x h in omega arith))
            R.core.lists.spare_row);
        descriptor_nexts =
            λ d l. rw (same (Layout.DescriptorNext d) (omega arith)) (R.core.lists.descriptor_nexts d l);
        region_nexts = λ r l. rw (same (Layout.RegionNext r) (omega arith)) (R.core.lists.region_nexts r l);
      };
      descriptors = record {
        each = descriptor;
        avails = λ d l. rw (same (Layout.Anchor d) (omega arith)) (R.core.descriptors.avails d l);
        chain_counts = λ d l. rw (same (Layout.Anchor d) (omega arith)) (R.core.descriptors.chain_counts d l);
        region_numbers =
            λ d l. rw (same (Layout.DescriptorRegion d) (omega arith)) (R.core.descriptors.region_numbers d l);
        class_numbers =
            λ d l. rw (same (Layout.DescriptorClass d) (omega arith)) (R.core.descriptors.class_numbers d l);
      };
      entries = record {
        maps = λ r l. rw (same (Layout.Map r) (omega arith)) (R.core.entries.maps r l);
        marks = λ u l. rw (same (Layout.Marks (u / WORD_MARKS)) (omega arith)) (R.core.entries.marks u l);
      };
      length = R.core.length;
      strips =
          subst (λ (t : Tree). Follows t (λ s. v' (Layout.SlotByte s)) m.strips) (sym same-tree)
          (same-follows (tree_of v) (λ s. v (Layout.SlotByte s)) (λ s. v' (Layout.SlotByte s)) m.strips
          (λ s l. same (Layout.SlotByte s) (omega arith)) R.core.strips);
    }

    turn : (t : ℕ) → t < TASKS → Turn regions m t (task_of (m.task t).place (m.task t).cache)
    turn t l = record { inv = I; fits = l; is = refl }

    -- a task keeps what it reads of others' columns: the nexts of what it has in hand
    kept : (t : ℕ) → t < TASKS → Framed (contents_of v area) (contents_of v' area) m m (m.task t)
    kept t l = record {
      lists = record {
        wins = λ ℓ. omega arith;
        still = λ ℓ e. refl;
        descriptor_nexts = λ x h. same (Layout.DescriptorNext x)
            (let k : x < DESCRIPTORS = descriptor-in-hand (turn t l) x h in omega arith);
        region_nexts = λ x h. same (Layout.RegionNext x)
            (let k : x < regions = region-in-hand (turn t l) x h in omega arith);
      };
      links = λ u h. refl;
      regions = λ x h. refl;
    }

    -- what is related to one view is related to the other
    pub views-related : Related regions (contents_of v' area) m
    views-related = record {
      core = core;
      slots =
          λ t l. subst (λ (s : Slot). SlotRelated regions (contents_of v' area) m s (m.task t)) (sym (slots_same t l))
          (kept_slot (kept t l) (R.slots t l));
    }
