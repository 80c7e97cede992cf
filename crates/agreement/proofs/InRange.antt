-- The fields of the control memory are in their ranges, after every event of a run that meets the premises.
use Prim.Native.Nat.{ℕ, ◌≤◌, ◌<◌}
use mathlib.Core.Path.{◌≡◌, refl, sym, subst}
use mathlib.Core.Bool.{true}
use mathlib.Core.List.{List, ◌∷◌}
use native.Mathlib.Omega.{arith}
use lib.ListN.{length}
use Rattle.limits.specs.Limits.{TASKS, DESCRIPTORS}
use Rattle.fields.specs.Columns.{View}
use Rattle.words.specs.Anchor.{anchor_of}
use Rattle.classes.specs.Classes.{per_region}
use Rattle.plain.specs.State.{State, EMPTY, PARTIAL, Mem}
use Rattle.plain.specs.State as Plain
use Rattle.plain.specs.ByState.{IsOpen}
use Rattle.plain.specs.Invariant.{Invariant, ChainLength}
use Rattle.plain.specs.Steps.{top}
use Rattle.plain.specs.Calls.{Pool, Start, unstarted}
use Rattle.plain.specs.Calls as Calls
use Rattle.stepped.specs.Calls.{Lent, lengths}
use Rattle.plain.proofs.ByState.{open-holds}
use Rattle.control.specs.Layout.{Anchor}
use Rattle.control.specs.Layout.{DescriptorClass, Regions, seen}
use Rattle.agreement.specs.Contents.{contents_of}
use Rattle.agreement.specs.Relation.{Related}
use Rattle.stepped.specs.Outcome.{Memories}
use Rattle.agreement.specs.Events.{Event, whole, Premises, Unstarted}
use Rattle.agreement.specs.Reached.{History, Reached, starting, from_unstarted, from_start, by_event, Along}
use Rattle.agreement.specs.Reached.{Wherever}
use Rattle.agreement.specs.InRange.{Ranged, AllRanged, RangedAfter}
use Rattle.agreement.proofs.ListTops.{top-le, listed, listed-region}
use Rattle.agreement.proofs.NotedAnchors.{note-of, first-max, number-open, number-max}
use Rattle.agreement.proofs.TurnInBoth.{Pair}
use Rattle.agreement.specs.Tied.{Tied}
use Rattle.agreement.proofs.Both.{seen-fitting}
use Rattle.agreement.proofs.Reaching.{reached-tied, reached-found, along}
use mathlib.Core.Path.{subst⁻¹}
use Rattle.limits.specs.Limits.{SLOTS}
use Rattle.pieces.specs.Pieces.{free, held, begun}
use Rattle.pieces.specs.Strips.{StripStart, nowhere, here, strip_starts}
use Rattle.strip_tree.specs.TreeMoves.{can_begin}
use Rattle.strip_tree.specs.SlotStates.{LAST_BYTE, order_in}
use Rattle.strips_agreement.specs.StripsAgree.{StartAgrees}
use Rattle.strips_agreement.proofs.StripsAgree.{start-agrees}
use Rattle.control.specs.Layout.{SlotByte}
use Rattle.stepped.specs.StripSteps.{tree_of}
use Rattle.agreement.proofs.TaskRanges.{task-in-range}

-- ---- the pool

-- the anchor of an open descriptor: avail and count are those of its chain
record OpenAnchor (n avail count : ℕ) : Type 0 where
  avails : avail ≤ n
  counts : count ≤ n

-- how many blocks a chain has at most
chain-most : (z : State) (n l : ℕ) → IsOpen z → ChainLength z n l → l ≤ n
chain-most EMPTY n l o h = absurd (omega (arith, o 1))
chain-most PARTIAL n l o h = omega arith
chain-most Plain.FULL n l o h = omega arith

module _ {regions : ℕ} (v : View) {area : List ℕ} {m : Mem} (R : Related regions (contents_of v area) m)
    (I : Invariant regions m) where
  open-anchor : (e : ℕ) → e < DESCRIPTORS → 1 ≤ (anchor_of (v (Anchor e))).state
      → OpenAnchor (per_region (v (DescriptorClass e))) (anchor_of (v (Anchor e))).avail
      (anchor_of (v (Anchor e))).count
  open-anchor e l h =
      let D = R.core.descriptors.each e l in
      let E = m.descriptor e in
      let o = number-open E.state (omega (arith, D.state)) in
      let C = open-holds E.state o D.chain in
      let O = open-holds E.state o (I.chains e l) in
      let N = note-of m e D C O in
      subst (λ (c : ℕ). OpenAnchor (per_region c) (anchor_of (v (Anchor e))).avail (anchor_of (v (Anchor e))).count)
      (sym D.class)
      (record {
        avails = omega (arith, N.avail, first-max E.region E.class (top E.chain) N.first);
        counts =
            omega (arith, C.counts, chain-most E.state (per_region E.class) (length E.chain) o O.sized);
      })

-- the byte of a slot
byte-range : {regions : ℕ} (v : View) {area : List ℕ} {m : Mem} → Related regions (contents_of v area) m
    → (n : ℕ) → n < SLOTS
    → (v (SlotByte n) ≤ LAST_BYTE) × (1 ≤ v (SlotByte n) → can_begin n (order_in (v (SlotByte n))) ≡ true)
byte-range v {m = m} R n l =
    by (strip_starts m.strips n) (start-agrees (tree_of v) (λ s. v (SlotByte s)) m.strips R.core.strips n l)
  where
    of : (k : ℕ) → v (SlotByte n) ≤ LAST_BYTE → order_in (v (SlotByte n)) ≡ k → can_begin n k ≡ true
        → (v (SlotByte n) ≤ LAST_BYTE) × (1 ≤ v (SlotByte n) → can_begin n (order_in (v (SlotByte n))) ≡ true)
    of k a o d = (a, λ h. subst⁻¹ (λ (i : ℕ). can_begin n i ≡ true) o d)

    by : (x : StripStart) → StartAgrees (tree_of v) (λ s. v (SlotByte s)) m.strips n x
        → (v (SlotByte n) ≤ LAST_BYTE) × (1 ≤ v (SlotByte n) → can_begin n (order_in (v (SlotByte n))) ≡ true)
    by nowhere A = (omega (arith, A), λ h. absurd (omega (arith, A)))
    by (here k free) A = absurd A
    by (here k held) A = of k (omega (arith, A.is, A.order)) (omega (arith, A.is, A.order)) A.aligned
    by (here k (begun u)) A = of k (omega (arith, A.is, A.order)) (omega (arith, A.is, A.order)) A.aligned

-- Once a pool is started, the relation between the bytes and the plain pool gives every field's range.
pub in-range : {s₁ : Memories} {s : Pool} → Tied s₁ s → Ranged s₁
in-range {s₁} {s} S started =
    let v = seen s₁.control in
    let q : 1 ≤ s.tasks = omega (arith, S.tasks) in
    let R = S.related q in
    let C = R.core in
    let I = S.good.inv q in
    let e : v Regions ≡ s.regions = S.regions q in
    let pair : (t : ℕ) (l : t < TASKS) → Pair s.regions (contents_of v s₁.area) s.mem t (s.mem.task t).place
    (s.mem.task t).cache =
    λ t l. record { rel = R; turn = record { inv = I; fits = l; is = refl }; small = S.good.small q } in
    record {
      widths = seen-fitting s₁.control S.bytes;
      tasks = omega (arith, S.tasks, S.good.few);
      regions = omega (arith, S.some q, S.good.small q);
      heads = λ ℓ l. top-le (C.lists.rows ℓ l) (listed I ℓ l);
      head_regions = rw e (top-le C.lists.spare_row (listed-region I));
      descriptor-nexts = C.lists.descriptor_nexts;
      region-nexts = rw e C.lists.region_nexts;
      states = λ d l. omega (arith, (C.descriptors.each d l).state, number-max (s.mem.descriptor d).state);
      avails = C.descriptors.avails;
      chain-counts = C.descriptors.chain_counts;
      open_avails = λ d l h. (open-anchor v R I d l h).avails;
      open_counts = λ d l h. (open-anchor v R I d l h).counts;
      descriptor-regions = rw e C.descriptors.region_numbers;
      descriptor-classes = C.descriptors.class_numbers;
      maps = λ r l. omega (arith, C.entries.maps r (omega arith), I.entries r);
      slot_bytes = λ n l. (byte-range v R n l).0;
      slot_orders = λ n l h. (byte-range v R n l).1 h;
      each_task =
          λ t l. rw e
          (task-in-range s.regions v s₁.area s.mem t (pair t l) (S.good.strips q) (R.slots t l).place);
    }

-- ---- a run

-- wherever a run has come, the fields are in their ranges
pub reached-ranged : {h : History} {s₁ : Memories} {s : Pool} → Reached h s₁ s → AllRanged s₁
reached-ranged R = (in-range (reached-tied R), reached-found R)

-- wherever a run has come, the fields are in their ranges after each event that meets its premise
ranged-after : Wherever RangedAfter
ranged-after h s₁ s R e p = reached-ranged (by_event R e p)

-- Along every list of events that meets the premises, from any control memory that is not started, every field that the
-- pool stores is in its range.
pub ranges : (es : List Event) (s₁ : Memories) → Unstarted s₁ → Premises es unstarted
    → Along RangedAfter es s₁ unstarted
ranges es s₁ U p = along RangedAfter ranged-after (from_unstarted U) es p

-- From an accepted start on any memories and in any pool, every field that the pool stores is in its range: right after
-- the start, and along every list of events behind it that meets the premises.
pub ranges-from-start : (es : List Event) (s₁ : Memories) (s : Pool) (b : Start) (lent : Lent)
    → Calls.StartTested b (lengths lent) → Premises es (whole (starting b lent) s).0
    → Along RangedAfter (starting b lent ∷ es) s₁ s
ranges-from-start es s₁ s b lent T p =
    let R = from_start s₁ s b lent T in
    (reached-ranged R, along RangedAfter ranged-after R es p)
