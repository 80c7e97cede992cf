-- Anchors and what is noted of them: the two pools' comparisons come out alike.
use mathlib.Core.Path.{◌≡◌, refl, sym, ap, ◌∙◌}
use mathlib.Core.List.{List, [], ◌∷◌}
use mathlib.Core.Bool.{true}
use Prim.Native.Nat.{ℕ, zero, suc, ◌≤◌, ◌<◌}
use native.Mathlib.Omega.{arith}
use borrow.Author.Tests.{le-leb}
use lib.ListN.{length}
use Rattle.limits.specs.Limits.{DESCRIPTORS, MOST_BLOCKS}
use Rattle.fields.specs.Columns.{View}
use Rattle.words.specs.declared.anchor.Anchor.{Anchor}
use Rattle.rows.specs.Counting.{count}
use Rattle.rows.specs.Linked.{Linked, ends, links}
use Rattle.rows.proofs.Weights.{when-same}
use Rattle.classes.specs.Classes.{per_region}
use Rattle.classes.specs.Geometry.{index_of, unit_of}
use Rattle.classes.proofs.BlockUnits.{index_below, unit-again}
use Rattle.words.specs.Anchor.{anchor_of, anchor_word}
use Rattle.words.specs.Anchor as Words
use Rattle.words.proofs.Anchors.{word-of-anchor}
use Rattle.plain.specs.State.{EMPTY, FULL, Mem, Note, PARTIAL, State, state_number}
use Rattle.plain.specs.Steps.{AsNoted, note_of, top}
use Rattle.plain.specs.Blocks.{count_block}
use Rattle.plain.specs.Invariant.{OpenDescriptor}
use Rattle.plain.specs.ByState.{IsOpen, if_open}
use Rattle.plain.proofs.Blocks.{counts-block}
use Rattle.control.specs.Layout as Layout
use Rattle.stepped.specs.Ranges.{is_anchor}
use Rattle.agreement.specs.Contents.{contents_of}
use Rattle.agreement.specs.Relation.{ChainRelated, DescriptorRelated, FirstIn, NoteRelated, Related, first_index}
use Rattle.agreement.proofs.BothPass.{both_true}

-- a linked chain's first block
first-index : (c : ℕ) {nx : ℕ → ℕ} {f : ℕ} {q : List ℕ} → Linked nx (index_of c) (per_region c) f q
    → f ≡ first_index c (top q)
first-index c (ends e) = e
first-index c (links e l) = e

first-in : (r c : ℕ) (q : List ℕ) → ((v : ℕ) → count v q ≤ count_block v r c) → FirstIn r c (top q)
first-in r c [] h = tt
first-in r c (x ∷ q) h = counts-block r c x (omega (arith, h x, when-same x 1))

pub first-max : (r c f : ℕ) → FirstIn r c f → first_index c f ≤ per_region c
first-max r c zero h = omega arith
first-max r c (suc x) h = omega (arith, index_below h)

first_index-injective : (r c f g : ℕ) → FirstIn r c f → FirstIn r c g → first_index c f ≡ first_index c g → f ≡ g
first_index-injective r c zero zero a b e = refl
first_index-injective r c zero (suc y) a b e = absurd (omega (arith, index_below b))
first_index-injective r c (suc x) zero a b e = absurd (omega (arith, index_below a))
first_index-injective r c (suc x) (suc y) a b e = ap suc (sym (unit-again a) ∙ ap (unit_of r c) e ∙ unit-again b)

-- a chain with no first block has none
no-first : (q : List ℕ) → top q ≡ 0 → length q ≡ 0
no-first [] e = refl
no-first (x ∷ q) e = absurd (omega arith)

-- what an anchor's read notes
pub note-of : {nx : ℕ → ℕ} {a : Anchor} {r c : ℕ} (m : Mem) (d : ℕ) → DescriptorRelated nx a r c (m.descriptor d)
    → ChainRelated nx a (m.descriptor d) → OpenDescriptor (m.descriptor d)
    → NoteRelated m (m.descriptor d).class d (note_of (m.descriptor d)) a
note-of m d D C L = record {
  state = D.state;
  count = C.counts;
  avail = first-index (m.descriptor d).class C.linked;
  first = first-in (m.descriptor d).region (m.descriptor d).class (m.descriptor d).chain L.inside;
  none = no-first (m.descriptor d).chain;
}

-- two anchors with the same parts
abbrev pub SameAnchor : Anchor → Anchor → Type 0
SameAnchor a b = ((a.state ≡ b.state) × (a.avail ≡ b.avail)) × (a.count ≡ b.count)

-- the anchors of two words have the same parts exactly if the words are equal
pub same-anchor-word : (w x : ℕ) → SameAnchor (anchor_of w) (anchor_of x) → w ≡ x
same-anchor-word w x s =
    sym (word-of-anchor w)
    ∙ (λ i. anchor_word (record { state = s.0.0 i; avail = s.0.1 i; count = s.1 i }))
    ∙ word-of-anchor x

pub anchor-word-same : (w x : ℕ) → w ≡ x → SameAnchor (anchor_of w) (anchor_of x)
anchor-word-same w x e = (
  (ap (λ (z : ℕ). (anchor_of z).state) e, ap (λ (z : ℕ). (anchor_of z).avail) e),
  ap (λ (z : ℕ). (anchor_of z).count) e,
)

-- the comparison of the words, and that of state, first block and length
module _ {nx : ℕ → ℕ} {a b : Anchor} {r c : ℕ} (m : Mem) (d : ℕ) (n : Note)
    (D : DescriptorRelated nx a r c (m.descriptor d)) (C : ChainRelated nx a (m.descriptor d))
    (L : OpenDescriptor (m.descriptor d)) (N : NoteRelated m (m.descriptor d).class d n b) where
  pub same-unmoved : SameAnchor a b → AsNoted (m.descriptor d) n
  same-unmoved s = (
    (
      sym D.state ∙ s.0.0 ∙ N.state,
      first_index-injective (m.descriptor d).region (m.descriptor d).class (top (m.descriptor d).chain) n.first
          (first-in (m.descriptor d).region (m.descriptor d).class (m.descriptor d).chain L.inside) N.first
          (sym (first-index (m.descriptor d).class C.linked) ∙ s.0.1 ∙ N.avail),
    ),
    sym C.counts ∙ s.1 ∙ N.count,
  )

  pub unmoved-same : AsNoted (m.descriptor d) n → SameAnchor a b
  unmoved-same u = (
    (
      D.state ∙ u.0.0 ∙ sym N.state,
      first-index (m.descriptor d).class C.linked
          ∙ ap (first_index (m.descriptor d).class) u.0.1 ∙ sym N.avail,
    ),
    C.counts ∙ u.1 ∙ sym N.count,
  )

-- a state that is not EMPTY
pub number-open : (z : State) → 1 ≤ state_number z → IsOpen z
number-open EMPTY h i = absurd (omega arith)
number-open PARTIAL h i = refl
number-open FULL h i = refl

pub open-number : (z : State) → ((i : ℕ) → if_open z i ≡ i)
    → (Words.EMPTY < state_number z) × (state_number z ≤ Words.FULL)
open-number EMPTY h = absurd (omega (arith, h 1))
open-number PARTIAL h = omega arith
open-number FULL h = omega arith

pub number-max : (z : State) → state_number z ≤ Words.FULL
number-max EMPTY = omega arith
number-max PARTIAL = omega arith
number-max FULL = omega arith

-- a note goes over to another memory, where the descriptor's region is the same, and to an equal class
pub re-note : {m m' : Mem} {c c' d : ℕ} {n : Note} {b : Anchor}
    → (m'.descriptor d).region ≡ (m.descriptor d).region → c ≡ c' → NoteRelated m c d n b → NoteRelated m' c' d n b
re-note e f N =
    rw (← f)
    (record { state = N.state; count = N.count; avail = N.avail; first = rw e N.first; none = N.none })

-- the anchor of a descriptor is in its ranges
pub anchor-tested : {regions : ℕ} {m : Mem} (v : View) (area : List ℕ) → Related regions (contents_of v area) m
    → (d : ℕ) → d < DESCRIPTORS → is_anchor (v (Layout.Anchor d)) ≡ true
anchor-tested {m = m} v area R d l =
    let D = R.core.descriptors in
    let b = anchor_of (v (Layout.Anchor d)) in
    both_true (both_true
    (le-leb b.state Words.FULL (omega (arith, (D.each d l).state, number-max (m.descriptor d).state)))
    (le-leb b.avail MOST_BLOCKS (D.avails d l)))
    (le-leb b.count MOST_BLOCKS (D.chain_counts d l))
