-- Step 3 of allocate, in both pools.
use mathlib.Core.Path.{◌≡◌, refl, sym, ap, subst, ◌∙◌}
use mathlib.Core.Bool.{true, ◌&&◌}
use mathlib.Core.List.{List, [], ◌∷◌}
use Prim.Native.Nat.{ℕ, ◌+◌, ◌≤◌, ◌<◌}
use native.Mathlib.Omega.{arith}
use borrow.Author.Tests.{eq-eqb, ne_eqb, le-leb, lt-ltb, eqb-true}
use lib.Dec.{eqb, ltb}
use lib.ListN.{length}
use Rattle.limits.specs.Limits.{DESCRIPTORS}
use Rattle.rows.specs.Counting.{count}
use Rattle.rows.specs.Linked.{Linked, ends}
use Rattle.rows.specs.Weights.{one}
use Rattle.rows.proofs.Weights.{when-same}
use Rattle.fields.specs.Columns.{View, ◌:=◌, assigned}
use Rattle.words.specs.Anchor.{AnchorFits, anchor_of, anchor_word, full}
use Rattle.words.specs.Anchor as Words
use Rattle.words.proofs.Anchors.{anchor-of-word, full-fits, anchor-below}
use Rattle.words.specs.declared.anchor.Anchor.{Anchor}
use Rattle.classes.specs.Classes.{per_region}
use Rattle.classes.specs.Geometry.{index_of}
use Rattle.classes.proofs.BlockUnits.{index_below}
use Rattle.classes.proofs.Tables.{per_region-high}
use Rattle.links.specs.Link.{link}
use Rattle.plain.specs.State.{State, EMPTY, PARTIAL, FULL, state_number, Note, read, retire, pushing, a3-read}
use Rattle.plain.specs.State.{a3-exchange, a4, Mem, set_descriptor, working}
use Rattle.plain.specs.Moves.{going, took, anchor_lost}
use Rattle.plain.specs.Steps.{note_of, chained, AsNoted, as_noted?, moving}
use Rattle.plain.specs.Steps as Steps
use Rattle.plain.specs.Blocks.{count_block}
use Rattle.plain.specs.Invariant.{OpenDescriptor, ChainLength}
use Rattle.plain.specs.ByState.{IsOpen, if_open, one_if_full}
use Rattle.plain.proofs.AnchorExchange.{in-hand, class_of}
use Rattle.plain.proofs.Takes.{taken}
use Rattle.plain.proofs.Blocks.{counts-block}
use Rattle.plain.proofs.PlaceAlone.{task_of}
use Rattle.plain.proofs.ByState.{open-holds}
use Rattle.control.specs.Layout
use Rattle.control.specs.Layout.{TaskPlace, TaskClass, TaskAnchor, TaskDescriptor, TaskRegion, TaskIndex, TaskLeft}
use Rattle.control.specs.Layout.{DescriptorRegion}
use Rattle.control.specs.Places.{PUSH_RETIRE, A3_READ, A3_EXCHANGE, A4}
use Rattle.stepped.specs.Ranges.{is_anchor, has_chain}
use Rattle.stepped.specs.Outcome.{accept}
use Rattle.stepped.specs.Allocate as Allocate
use Rattle.agreement.specs.Contents.{slot_of, contents_of}
use Rattle.control.specs.declared.moves.Push.TheVariants.{Retire}
use Rattle.agreement.specs.Relation.{at_read, NoteRelated, r_pushing, r_a3_read, r_a3_exchange, r_a4, r_working}
use Rattle.agreement.specs.Relation.{ChainRelated}
use Rattle.agreement.proofs.BothPass.{both_true}
use Rattle.agreement.proofs.Slots.{to_place, to_anchor, to_chain}
use Rattle.agreement.proofs.Sets.{with_slots, set_anchor}
use Rattle.agreement.proofs.AssignedContents.{anchor-written}
use Rattle.agreement.proofs.ListTops.{first_of, descriptor-in-hand}
use Rattle.agreement.proofs.TurnInBoth.{mine}
use Rattle.agreement.proofs.TurnChanges.{anchoring}
use Rattle.agreement.proofs.NotedAnchors.{note-of, same-unmoved, unmoved-same, same-anchor-word}
use Rattle.agreement.proofs.NotedAnchors.{anchor-word-same, number-open, re-note, anchor-tested}
use Rattle.agreement.proofs.Both.{Both, pass, meet, miss, decide, has-top}
use Rattle.agreement.proofs.Turns.{At, goes, loses}
use Rattle.agreement.proofs.Sharing.{shares}

-- the word of (FULL, n, 0) says so
pub full-parts : (c : ℕ) → AnchorFits (full (per_region c))
full-parts c = full-fits (per_region c) (omega (arith, per_region-high c))

pub full-read : (c : ℕ) → anchor_of (anchor_word (full (per_region c))) ≡ full (per_region c)
full-read c = anchor-of-word (full (per_region c)) (full-parts c)

-- a chain that has a block begins at an index below n
pub first_below : {nx : ℕ → ℕ} {f : ℕ} (r c : ℕ) (q : List ℕ) → Linked nx (index_of c) (per_region c) f q → 1 ≤ length q
    → ((y : ℕ) → count y q ≤ count_block y r c) → f < per_region c
first_below r c [] l h i = absurd (omega arith)
first_below r c (x ∷ q) l h i =
    omega (arith, first_of l, index_below (counts-block r c x (omega (arith, i x, when-same x 1))))

-- an anchor from which a chain can be taken
pub chain-tested : (n word : ℕ) → (anchor_of word).state ≡ Words.PARTIAL → 1 ≤ (anchor_of word).count
    → (anchor_of word).count ≤ n
    → (anchor_of word).avail < n → has_chain n word ≡ true
chain-tested n word e f g h =
    let b = anchor_of word in
    both_true
    (both_true (eq-eqb b.state Words.PARTIAL e) (both_true (le-leb 1 b.count f) (le-leb b.count n g)))
    (lt-ltb b.avail n h)

module _ {regions : ℕ} {v : View} {area : List ℕ} {m : Mem} {t : ℕ} {k : ℕ → List ℕ} where
  -- ---- the read

  -- the anchor's state is z
  read-state : At regions v area m t (working (a3-read (v (TaskClass t)) (v (TaskDescriptor t)))) k
      → v (TaskDescriptor t) < DESCRIPTORS
      → (z : State) → (m.descriptor (v (TaskDescriptor t))).state ≡ z
      → Both regions v area m (Allocate.a3_read_of v (link area) regions t (v (TaskClass t)) (v (TaskDescriptor t)))
      (Steps.a3_read t k (v (TaskClass t)) (v (TaskDescriptor t)) z m)
  unfolding Allocate.a3_read_of
  read-state w l EMPTY g =
      let c = v (TaskClass t) in
      let d = v (TaskDescriptor t) in
      let b = anchor_of (v (Layout.Anchor d)) in
      pass (is_anchor (v (Layout.Anchor d))) (anchor-tested v area w.pair.rel d l)
      (meet _ (eqb b.state Words.EMPTY)
      (eq-eqb b.state Words.EMPTY ((w.pair.rel.core.descriptors.each d l).state ∙ ap state_number g)) (record {
        says = refl;
        keeps = (refl, refl);
        rel =
            goes w (TaskPlace t := PUSH_RETIRE ∷ []) (to_place PUSH_RETIRE (slot_of v t))
            (working (pushing (retire c d) read)) refl
            (rw (eq-eqb t t refl)) (λ j n. rw (ne_eqb t j n)) refl refl
            (r_working (r_pushing Retire EMPTY tt (at_read refl)));
        sound = omega (arith, w.pair.turn.fits);
        apart = tt;
      }))
  read-state w l FULL g =
      let d = v (TaskDescriptor t) in
      absurd (omega (arith, (in-hand w.pair.turn d (omega (arith, when-same d 1))).1, ap one_if_full g))
  read-state w l PARTIAL g =
      let c = v (TaskClass t) in
      let d = v (TaskDescriptor t) in
      let word = v (Layout.Anchor d) in
      let b = anchor_of word in
      let E = m.descriptor d in
      let opens : IsOpen E.state = λ i. ap (λ (z : State). if_open z i) g in
      let ec : c ≡ E.class =
      class_of w.pair.turn c d (mine w.pair).fits (omega (arith, when-same c (one d d + 0), when-same d 1)) in
      let en : per_region c ≡ per_region E.class = ap per_region ec in
      let D = w.pair.rel.core.descriptors.each d l in
      let C : ChainRelated (link area) b E = open-holds E.state opens D.chain in
      let L : OpenDescriptor E = open-holds E.state opens (w.pair.turn.inv.chains d l) in
      let sz : ChainLength PARTIAL (per_region E.class) (length E.chain) = rw g at L.sized in
      let st : b.state ≡ Words.PARTIAL = D.state ∙ ap state_number g in
      let low : 1 ≤ b.count = omega (arith, C.counts, sz) in
      let high : b.count ≤ per_region c = omega (arith, C.counts, sz, en) in
      let first : b.avail < per_region c =
      omega (arith, en, first_below E.region E.class E.chain C.linked sz.0 L.inside) in
      pass (is_anchor word) (anchor-tested v area w.pair.rel d l)
      (miss _ (eqb b.state Words.EMPTY) (ne_eqb b.state Words.EMPTY (omega arith))
      (pass (has_chain (per_region c) word) (chain-tested (per_region c) word st low high first) (record {
        says = refl;
        keeps = (refl, refl);
        rel =
            goes w (TaskPlace t := A3_EXCHANGE ∷ TaskAnchor t := word ∷ [])
            (to_place A3_EXCHANGE (to_anchor b (slot_of v t)))
            (working (a3-exchange c d (note_of E))) refl (rw (eq-eqb t t refl)) (λ j n. rw (ne_eqb t j n)) refl refl
            (r_working (r_a3_exchange refl (re-note refl (sym ec) (note-of m d D C L)) st low high first));
        sound = omega (arith, w.pair.turn.fits, w.fitting (Layout.Anchor d) (omega (arith, l)));
        apart = tt;
      })))

  pub a3-read-both : At regions v area m t (working (a3-read (v (TaskClass t)) (v (TaskDescriptor t)))) k
      → Both regions v area m (Allocate.a3_read v (link area) regions t (v (TaskClass t)))
      (Steps.step_at t k (a3-read (v (TaskClass t)) (v (TaskDescriptor t))) m)
  unfolding Allocate.a3_read
  a3-read-both w =
      let d = v (TaskDescriptor t) in
      let l = descriptor-in-hand w.pair.turn d (omega (arith, when-same d 1)) in
      pass (ltb d DESCRIPTORS) (lt-ltb d DESCRIPTORS l) (read-state w l (m.descriptor d).state refl)

  -- ---- the exchange

  -- the exchange is won: the anchor is as noted
  exchange-won : (n : Note) → At regions v area m t (working (a3-exchange (v (TaskClass t)) (v (TaskDescriptor t)) n)) k
      → (anchor_of (v (TaskAnchor t))).count ≤ per_region (v (TaskClass t))
      → (anchor_of (v (TaskAnchor t))).avail < per_region (v (TaskClass t))
      → v (Layout.Anchor (v (TaskDescriptor t))) ≡ v (TaskAnchor t) → AsNoted (m.descriptor (v (TaskDescriptor t))) n
      → Both regions v area m
      (accept (took (v (TaskDescriptor t)))
      (TaskPlace t := A4
      ∷ Layout.Anchor (v (TaskDescriptor t)) := anchor_word (full (per_region (v (TaskClass t))))
      ∷ TaskRegion t := v (DescriptorRegion (v (TaskDescriptor t)))
      ∷ TaskIndex t := (anchor_of (v (TaskAnchor t))).avail
      ∷ TaskLeft t := (anchor_of (v (TaskAnchor t))).count
      ∷ [])
      []) (
        Steps.at_work t k (moving (v (TaskClass t)) (m.descriptor (v (TaskDescriptor t))).chain)
            (set_descriptor (v (TaskDescriptor t)) (chained (m.descriptor (v (TaskDescriptor t))) FULL []) m),
        going (took (v (TaskDescriptor t))),
      )
  exchange-won n w high first e u =
      let c = v (TaskClass t) in
      let d = v (TaskDescriptor t) in
      let r = v (DescriptorRegion d) in
      let b = anchor_of (v (TaskAnchor t)) in
      let E = m.descriptor d in
      let T = taken w.pair.turn u in
      let D = w.pair.rel.core.descriptors.each d T.fits in
      let C : ChainRelated (link area) (anchor_of (v (Layout.Anchor d))) E =
      open-holds E.state T.counts D.chain in
      let same = anchor-word-same (v (Layout.Anchor d)) (v (TaskAnchor t)) e in
      let s = to_place A4 (to_chain r b.avail b.count (slot_of v t)) in
      let lk : Linked (link area) (index_of c) (per_region c) b.avail E.chain =
      subst (λ (z : ℕ). Linked (link area) (index_of z) (per_region z) b.avail E.chain) (sym T.class)
      (subst (λ (z : ℕ). Linked (link area) (index_of E.class) (per_region E.class) z E.chain) same.0.1
      C.linked) in
      let inside : (y : ℕ) → count y E.chain ≤ count_block y r c =
      λ y. omega (
        arith,
        T.opened.inside y,
        ap (λ (z : ℕ). count_block y z E.class) D.region,
        ap (count_block y r)
            T.class,
      ) in
      let own = TaskRegion t := r ∷ TaskIndex t := b.avail ∷ TaskLeft t := b.count ∷ [] in
      let S = slot_of (assigned (TaskPlace t := A4 ∷ own) v) in
      has-top (λ q. (Steps.at_work t k (moving c q) (set_descriptor d (chained E FULL []) m), going (took d))) E.chain
      (λ i. omega (arith, T.chain, ap length i))
      (λ x q i. record {
        says = refl;
        keeps = (refl, refl);
        rel = shares w
            (TaskPlace t := A4 ∷ Layout.Anchor d := anchor_word (full (per_region c)) ∷ own)
            s (working (a4 c x q)) (set_anchor d (full (per_region c)) (contents_of v area))
            (set_descriptor d (chained E FULL []) m)
            (anchoring w.pair d (full (per_region c)) (chained E FULL []) s (task_of (working (a4 c x q)) k) T.fits
            refl refl refl
            (record { linked = ends (ap per_region T.class); counts = refl }) (per_region-high c) (omega arith))
            (anchor-written v S area d (anchor_word (full (per_region c)))
            ∙ ap (λ (z : Anchor). with_slots S (set_anchor d z (contents_of v area))) (full-read c))
            refl refl (rw (eq-eqb t t refl)) (λ j n. rw (ne_eqb t j n)) (mine w.pair).fits refl
            (r_working (r_a4 refl (subst (Linked (link area) (index_of c) (per_region c) b.avail) i lk)
            (sym same.1 ∙ C.counts ∙ ap length i) (λ y. omega (arith, inside y, ap (count y) i))));
        sound = omega (
          arith,
          w.pair.turn.fits,
          w.pair.small,
          T.fits,
          w.pair.rel.core.descriptors.region_numbers d T.fits,
          anchor-below (full (per_region c)) (full-parts c),
          high,
          first,
          per_region-high c,
        );
        apart = tt;
      })

  pub a3-exchange-both : {n : Note} → At regions v area m t
      (working (a3-exchange (v (TaskClass t)) (v (TaskDescriptor t)) n)) k
      → NoteRelated m (v (TaskClass t)) (v (TaskDescriptor t)) n (anchor_of (v (TaskAnchor t)))
      → (anchor_of (v (TaskAnchor t))).state ≡ Words.PARTIAL → 1 ≤ (anchor_of (v (TaskAnchor t))).count
      → (anchor_of (v (TaskAnchor t))).count ≤ per_region (v (TaskClass t))
      → (anchor_of (v (TaskAnchor t))).avail < per_region (v (TaskClass t))
      → Both regions v area m (Allocate.a3_exchange v (link area) regions t (v (TaskClass t)))
      (Steps.step_at t k (a3-exchange (v (TaskClass t)) (v (TaskDescriptor t)) n) m)
  unfolding Allocate.a3_exchange Allocate.a3_exchange_of
  a3-exchange-both {n} w N st low high first =
      let c = v (TaskClass t) in
      let d = v (TaskDescriptor t) in
      let word = v (TaskAnchor t) in
      let b = anchor_of word in
      let E = m.descriptor d in
      let l = descriptor-in-hand w.pair.turn d (omega (arith, when-same d 1)) in
      let ec : c ≡ E.class =
      class_of w.pair.turn c d (mine w.pair).fits (omega (arith, when-same c (one d d + 0), when-same d 1)) in
      let D = w.pair.rel.core.descriptors.each d l in
      let N' = re-note {m = m} {m' = m} refl ec N in
      let C : 1 ≤ state_number E.state → ChainRelated (link area) (anchor_of (v (Layout.Anchor d))) E =
      λ h. open-holds E.state (number-open E.state h) D.chain in
      let L : 1 ≤ state_number E.state → OpenDescriptor E =
      λ h. open-holds E.state (number-open E.state h) (w.pair.turn.inv.chains d l) in
      pass (ltb d DESCRIPTORS && has_chain (per_region c) word)
      (both_true (lt-ltb d DESCRIPTORS l) (chain-tested (per_region c) word st low high first))
      (pass (is_anchor (v (Layout.Anchor d))) (anchor-tested v area w.pair.rel d l)
      (decide (eqb (v (Layout.Anchor d)) word) (as_noted? E n)
      (λ h.
      let same = anchor-word-same (v (Layout.Anchor d)) word (eqb-true (v (Layout.Anchor d)) word h) in
      let z : 1 ≤ state_number E.state = omega (arith, D.state, same) in
      same-unmoved m d n D (C z) (L z) N' same)
      (λ h.
      let z : 1 ≤ state_number E.state = omega (arith, h, N.state) in
      eq-eqb (v (Layout.Anchor d)) word
      (same-anchor-word (v (Layout.Anchor d)) word (unmoved-same m d n D (C z) (L z) N' h)))
      (λ g h.
      pass (ltb (v (DescriptorRegion d)) regions)
      (lt-ltb (v (DescriptorRegion d)) regions (w.pair.rel.core.descriptors.region_numbers d l))
      (exchange-won n w high first (eqb-true (v (Layout.Anchor d)) word g) h))
      (λ g h. loses w (anchor_lost d) A3_READ (working (a3-read c d)) (omega arith) (r_working (r_a3_read refl)))))
