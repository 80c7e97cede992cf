-- What is read of a region is what the plain pool has: its class, and the length of its chain.
use mathlib.Core.Path.{◌≡◌, refl, sym, ap, ◌∙◌}
use mathlib.Core.Logic.{◌≢◌}
use mathlib.Core.Bool.{true}
use mathlib.Core.List.{List, []}
use Prim.Native.Nat.{ℕ, zero, suc, ◌-◌, ◌≤◌, ◌<◌}
use native.Mathlib.Omega.{arith}
use lib.ListN.{length}
use borrow.Author.Tests.{lt-ltb, le-leb, eq-eqb, ne_eqb}
use Rattle.limits.specs.Limits.{CLASSES, DESCRIPTORS, MOST_BLOCKS}
use Rattle.rows.specs.Comparisons.{same, other, same?}
use Rattle.rows.specs.Branch.{if}
use Rattle.words.specs.Anchor as Words
use Rattle.words.specs.Anchor.{anchor_of}
use Rattle.fields.specs.Columns.{View}
use Rattle.links.specs.Link.{link}
use Rattle.classes.specs.Classes.{per_region}
use Rattle.plain.specs.State.{State, EMPTY, PARTIAL, FULL, state_number, Mem}
use Rattle.plain.specs.Calls.{NotEmpty, not_empty?, opens?}
use Rattle.plain.specs.Invariant.{Invariant, ChainLength}
use Rattle.plain.proofs.ByState.{open_is, open-holds, not-empty}
use Rattle.control.specs.Layout.{Anchor, DescriptorRegion, DescriptorClass, Map}
use Rattle.stepped.specs.Ranges.{is_anchor}
use Rattle.agreement.specs.Contents.{contents_of}
use Rattle.agreement.specs.Relation.{Related, DescriptorRelated}
use Rattle.agreement.specs.Observe.{plain_class_by, plain_chain_by, plain_class, plain_chain}
use Rattle.agreement.proofs.BothPass.{both_true}
use Rattle.reports.proofs.Passing.{all-pass}
use Rattle.report_regions.specs.Opened.{Opened}
use Rattle.report_regions.specs.Opened.{Closed, Open}
use Rattle.report_regions.specs.Opened.{open_as, open_by, opened_of, is_inside, regions_in_range}

-- what is told of a region whose class, plus one, is given, 0 where it is not open, with k blocks in its chain
abbrev pub told : ℕ → ℕ → Opened
told zero k = Closed
told (suc c) k = Open c k

-- what is told is in its range
told-inside : (z k : ℕ) → is_inside (told z k) ≡ true
told-inside zero k = refl
told-inside (suc c) k = refl

-- ---- whether a descriptor opens the region

told-open : {P : Type 0} (o : Dec P) (c : ℕ) (q : List ℕ) → P
    → told (if o (suc c) 0) (length (if o q [])) ≡ Open c (length q)
told-open (yes p) c q h = refl
told-open (no n) c q h = absurd (n h)

told-closed : {P : Type 0} (o : Dec P) (c : ℕ) (q : List ℕ) → ¬ P
    → told (if o (suc c) 0) (length (if o q [])) ≡ Closed
told-closed (yes p) c q h = absurd (h p)
told-closed (no n) c q h = refl

-- ---- the states

empty : (z : State) → ¬ NotEmpty z → state_number z ≡ Words.EMPTY
empty EMPTY n = refl
empty PARTIAL n = absurd (n tt)
empty FULL n = absurd (n tt)

state-below : (z : State) → state_number z ≤ Words.FULL
state-below EMPTY = omega arith
state-below PARTIAL = omega arith
state-below FULL = omega arith

-- the chain of a descriptor that is not EMPTY does not pass n
chain-below : (z : State) (n k : ℕ) → NotEmpty z → ChainLength z n k → k ≤ n
chain-below EMPTY n k h s = absurd h
chain-below PARTIAL n k h s = omega arith
chain-below FULL n k h s = omega arith

module _ {regions : ℕ} {m : Mem} (v : View) (area : List ℕ)
    (R : Related regions (contents_of v area) m) (I : Invariant regions m) where
  module _ (d : ℕ) (l : d < DESCRIPTORS) where
    related : DescriptorRelated (link area) (anchor_of (v (Anchor d))) (v (DescriptorRegion d)) (v (DescriptorClass d))
        (m.descriptor d)
    related = R.core.descriptors.each d l

    -- the anchor's word is in its range
    anchored : is_anchor (v (Anchor d)) ≡ true
    anchored =
        both_true
        (both_true (le-leb (anchor_of (v (Anchor d))).state Words.FULL
        (omega (arith, related.state, state-below (m.descriptor d).state)))
        (le-leb (anchor_of (v (Anchor d))).avail MOST_BLOCKS (R.core.descriptors.avails d l)))
        (le-leb (anchor_of (v (Anchor d))).count MOST_BLOCKS (R.core.descriptors.chain_counts d l))

    -- an open descriptor's class and chain
    opened : NotEmpty (m.descriptor d).state
        → open_as v d (anchor_of (v (Anchor d))).count ≡ Open (m.descriptor d).class (length (m.descriptor d).chain)
    unfolding open_as
    opened n =
        let D = m.descriptor d in
        let C = open-holds D.state (open_is D.state n) related.chain in
        let O = open-holds D.state (open_is D.state n) (I.chains d l) in
        rw (
          C.counts,
          related.class,
          lt-ltb D.class CLASSES O.fits,
          le-leb (length D.chain) (per_region D.class)
              (chain-below D.state (per_region D.class) (length D.chain) n O.sized),
        )

    -- what is read of the region r by its descriptor
    by-descriptor : (r : ℕ)
        → open_by v regions r d ≡ told (plain_class_by (suc d) r m) (length (plain_chain_by (suc d) r m))
    unfolding open_by
    by-descriptor r =
        let D = m.descriptor d in
        let z = v (DescriptorRegion d) in
        let a = anchor_of (v (Anchor d)) in
        let o = opens? D r in
        let inside = lt-ltb z regions (R.core.descriptors.region_numbers d l) in
        elim (same? z r) [
          | other n ↦
              rw (inside, ne_eqb z r n) (sym (told-closed o D.class D.chain (λ p. n (related.region ∙ p.0))))
          | same e ↦ elim (not_empty? D.state) [
            | yes n ↦ (let s : a.state ≢ Words.EMPTY = λ i. omega (arith, related.state, not-empty D.state n) in
                rw (inside, eq-eqb z r e, anchored, ne_eqb a.state Words.EMPTY s)
                (opened n ∙ sym (told-open o D.class D.chain (sym related.region ∙ e, n))))
            | no n ↦ (let s : a.state ≡ Words.EMPTY = related.state ∙ empty D.state n in
                rw (inside, eq-eqb z r e, anchored, eq-eqb a.state Words.EMPTY s)
                (sym (told-closed o D.class D.chain (λ p. n p.1))))
          ]
        ]

  -- what is read of the region r by its map entry z
  by-entry : (z r : ℕ) → v (Map r) ≡ z → z ≤ DESCRIPTORS
      → opened_of v regions r ≡ told (plain_class_by z r m) (length (plain_chain_by z r m))
  unfolding opened_of
  by-entry zero r e l = rw e
  by-entry (suc d) r e l =
      let f : suc d - 1 ≡ d = omega arith in
      rw (e, ne_eqb (suc d) 0 (λ z. omega arith), le-leb (suc d) DESCRIPTORS l)
      (ap (open_by v regions r) f ∙ by-descriptor d l r)

  -- what is read of a region of the area is its class and the length of its chain
  pub region-told : (r : ℕ) → r < regions
      → opened_of v regions r ≡ told (plain_class m r) (length (plain_chain m r))
  region-told r h = by-entry (m.map r) r (R.core.entries.maps r h) (I.entries r)

  -- all that is read of the regions is in its range
  pub regions-pass : regions_in_range v regions ≡ true
  unfolding regions_in_range
  regions-pass = all-pass regions (λ r. is_inside (opened_of v regions r)) (λ r l.
      ap is_inside (region-told r l) ∙ told-inside (plain_class m r) (length (plain_chain m r)))
