-- The exchange of step 3 of a free, in both pools: the group goes before the chain.
use mathlib.Core.Path.{◌≡◌, refl, sym, ap, subst, ◌∙◌}
use mathlib.Core.List.{List, [], ◌∷◌, ◌++◌}
use Prim.Native.Nat.{ℕ, ◌+◌, ◌≤◌, ◌<◌}
use native.Mathlib.Omega.{arith}
use native.Mathlib.Decide.{ℕ_discrete}
use borrow.Author.Tests.{eq-eqb, ne_eqb, lt-ltb, le-leb, eqb-true}
use lib.Dec.{eqb}
use lib.ListN.{length, length-append}
use Rattle.limits.specs.Limits.{DESCRIPTORS, CLASSES}
use Rattle.rows.specs.Linked.{Linked}
use Rattle.rows.proofs.Linked.{linked-append, linked-append-one}
use Rattle.fields.specs.Columns.{Sound, View, Write, ◌:=◌, assigned}
use Rattle.links.specs.Link.{link}
use Rattle.words.specs.Anchor.{AnchorFits, anchor_of, anchor_word, returned}
use Rattle.words.specs.declared.anchor.Anchor as Declared
use Rattle.words.proofs.Anchors.{anchor-below, anchor-of-word, returned-fits}
use Rattle.classes.specs.Classes.{per_region}
use Rattle.classes.specs.Geometry.{index_of, region_of}
use Rattle.classes.proofs.Tables.{per_region-high}
use Rattle.plain.specs.State.{EMPTY, PARTIAL, Mem, Note, Place, State, f1, f2, f3-exchange, f3-read, f4-clear}
use Rattle.plain.specs.State.{state_number, leave-end, Purpose}
use Rattle.plain.specs.State.{offer, pushing, read, set_descriptor, working}
use Rattle.plain.specs.Moves.{gave, anchor_lost, going}
use Rattle.plain.specs.Steps.{as_noted?, chained}
use Rattle.plain.specs.Steps as Steps
use Rattle.plain.specs.ByState.{IfOpen}
use Rattle.plain.proofs.Owners.{Owner, owner}
use Rattle.plain.proofs.PlaceAlone.{place_holds, task_of, note_holds}
use Rattle.plain.proofs.ByState.{open-holds}
use Rattle.control.specs.Layout.{layout, Anchor, GroupCount, GroupFirst, TaskAnchor, TaskClass, TaskDescriptor}
use Rattle.control.specs.Layout.{TaskPlace, TaskRegion, TaskState, TaskUnit, LEAVING}
use Rattle.control.specs.Places.{PUSH_OFFER, F1, F2, F3_READ, F4_CLEAR, LEAVE_END}
use Rattle.stepped.specs.Free as Free
use Rattle.agreement.proofs.TurnInBoth.{mine}
use Rattle.agreement.specs.Contents.{Slot, slot_of, contents_of, purpose_of}
use Rattle.control.specs.declared.moves.Push.TheVariants.{Offer}
use Rattle.agreement.specs.Relation.{at_read, NoteRelated, GroupRelated, r_pushing, r_f1, r_f2, r_f3_read}
use Rattle.agreement.specs.Relation.{r_f4_clear, r_leave_end, PlaceRelated, r_working, ChainRelated, Related}
use Rattle.agreement.proofs.BothPass.{both_true}
use Rattle.agreement.proofs.Slots.{to_grouped, to_place, to_request, to_state}
use Rattle.agreement.proofs.Sets.{set_anchor, set_slot}
use Rattle.agreement.proofs.AssignedContents.{anchor-written}
use Rattle.agreement.proofs.TaskBlocks.{re-slot, unit-fits}
use Rattle.agreement.proofs.Both.{Both, decide, meet, miss, pass}
use Rattle.agreement.proofs.Turns.{At, loses}
use Rattle.agreement.proofs.FollowingBoth.{five}
use Rattle.agreement.proofs.TurnWrites.{OwnWrites, anchor-exchanged}
use Rattle.agreement.proofs.NotedAnchors.{SameAnchor, anchor-word-same, same-anchor-word, re-note, anchor-tested}
use Rattle.agreement.proofs.NotedAnchors.{same-unmoved, unmoved-same}
use Rattle.agreement.proofs.NotedAnchorTests.{note-anchor, note-room}
use Rattle.agreement.proofs.GroupBlocks.{first_below, same-group}
use Rattle.agreement.proofs.Purposes.{group-in, own_in, is-leaving}

module _ {regions : ℕ} {v : View} {area : List ℕ} {m : Mem} {t : ℕ} {k : ℕ → List ℕ} {y : ℕ} {g : List ℕ} {n : Note}
    (w : At regions v area m t
    (working (f3-exchange (v (TaskClass t)) (purpose_of (v (TaskUnit t))) y g (v (TaskDescriptor t)) n))
    k)
    (G : GroupRelated (contents_of v area) (slot_of v t) y g)
    (N : NoteRelated m (v (TaskClass t)) (v (TaskDescriptor t)) n (anchor_of (v (TaskAnchor t))))
    (room : v (GroupCount t) + (anchor_of (v (TaskAnchor t))).count ≤ per_region (v (TaskClass t)))
    (tied : link area G.last ≡ (anchor_of (v (TaskAnchor t))).avail) where
  -- the request's class and unit, the descriptor in hand, the group's count and the word of the noted anchor
  abbrev c : ℕ
  c = v (TaskClass t)

  abbrev u : ℕ
  u = v (TaskUnit t)

  -- what the group is returned for
  abbrev z : Purpose
  z = purpose_of (v (TaskUnit t))

  abbrev d : ℕ
  d = v (TaskDescriptor t)

  abbrev h : ℕ
  h = v (GroupCount t)

  abbrev a : ℕ
  a = v (TaskAnchor t)

  -- the group, and the chain behind it
  abbrev J : List ℕ
  J = y ∷ (g ++ (m.descriptor d).chain)

  -- the anchor that is written
  abbrev new : Declared.Anchor
  new = returned (anchor_of a) (v (GroupFirst t)) h (per_region c)

  own : Owner m c y d
  own =
      let N = note_holds w.pair.turn in
      owner w.pair.turn y d N.0 N.1

  chain-of : ChainRelated (link area) (anchor_of (v (Anchor d))) (m.descriptor d)
  chain-of =
      open-holds (m.descriptor d).state own.counts
      (w.pair.rel.core.descriptors.each d own.fits).chain

  first_fits : v (GroupFirst t) < per_region c
  first_fits = first_below w.pair G (group-in z (y ∷ g)) refl (place_holds w.pair.turn).2

  new-fits : AnchorFits new
  new-fits =
      returned-fits (anchor_of a) (v (GroupFirst t)) h (per_region c)
      (omega (arith, first_fits, per_region-high c))
      (record { count = omega arith; blocks = per_region-high c })

  -- the unit is in its range
  unit : u ≤ LEAVING
  unit = unit-fits w.pair (own_in z (y ∷ g))

  -- ---- the exchange is won: the anchor is as it was noted

  module _ (same : SameAnchor (anchor_of (v (Anchor d))) (anchor_of a)) where
    counted : (anchor_of a).count + h ≡ length J
    counted =
        omega (arith, same.1, chain-of.counts, G.counts, length-append g (m.descriptor d).chain)

    joined : Linked (link area) (index_of c) (per_region c) (v (GroupFirst t)) J
    joined =
        let D = m.descriptor d in
        let f : J ≡ (G.front ++ (G.last ∷ [])) ++ D.chain = ap (λ (z : List ℕ). z ++ D.chain) G.is in
        rw f (linked-append (linked-append-one G.linked (tied ∙ sym same.0.1))
        (subst (λ (z : ℕ). Linked (link area) (index_of z) (per_region z) (anchor_of (v (Anchor d))).avail D.chain)
        own.class chain-of.linked))

    -- the relation after it, where the anchor's state is `now` and the task goes to the place p
    gives : (now : State) → new.state ≡ state_number now
        → IfOpen now (ChainRelated (link area) new (chained (m.descriptor d) now J))
        → (v' : View) (s : Slot) (p : Place)
        → OwnWrites v v' area t s (set_anchor d (anchor_of (anchor_word new)) (contents_of v area))
        → s.class < CLASSES → s.caches ≡ (slot_of v t).caches
        → PlaceRelated regions (set_slot t s (set_anchor d (anchor_of (anchor_word new)) (contents_of v area)))
        (Steps.at_place t k p (set_descriptor d (chained (m.descriptor d) now J) m)) s p
        → Related regions (contents_of v' area)
        (Steps.at_place t k p (set_descriptor d (chained (m.descriptor d) now J) m))
    gives now e i v' s p b f f₁ pl =
        let W = anchor-of-word new new-fits in
        anchor-exchanged w v' s (task_of p k) d (anchor_word new) (chained (m.descriptor d) now J) b
        own.fits (ap (λ (x : Declared.Anchor). x.state) W ∙ e) refl refl
        (subst (λ (x : Declared.Anchor). IfOpen now (ChainRelated (link area) x (chained (m.descriptor d) now J)))
        (sym W)
        i)
        (omega (arith, ap (λ (x : Declared.Anchor). x.avail) W, first_fits, per_region-high c))
        (omega (arith, ap (λ (x : Declared.Anchor). x.count) W, per_region-high c))
        (re-slot w.pair _ _ s p refl f f₁ pl)

    -- the writes of the exchange
    abbrev ws : List Write
    ws = Anchor d := anchor_word new ∷ TaskState t := (anchor_of a).state ∷ []

    sound : Sound layout ws
    sound = omega (arith, w.pair.turn.fits, own.fits, anchor-below new new-fits)

    -- the task's part after them, at the place i
    abbrev part : ℕ → Slot
    part i = to_place i (to_state (anchor_of a).state (slot_of v t))

    place-written : (i : ℕ)
        → OwnWrites v (assigned (TaskPlace t := i ∷ ws) v) area t (part i)
        (set_anchor d (anchor_of (anchor_word new)) (contents_of v area))
    place-written i = record {
      shared = anchor-written v (slot_of (assigned (TaskPlace t := i ∷ ws) v)) area d (anchor_word new);
      own = rw (eq-eqb t t refl);
      others = λ j d. rw (ne_eqb t j d);
    }

    -- all the region's blocks are back: it closes
    whole : length J ≡ per_region c
        → Both regions v area m
        (Free.f3_won v (link area) regions t c d a (v (GroupFirst t)) h) (
          Steps.at_place t k (working (f4-clear c z d n.state (region_of y)))
              (set_descriptor d (chained (m.descriptor d) EMPTY J) m),
          going (gave d),
        )
    unfolding Free.f3_won
    whole e =
        let i = eq-eqb ((anchor_of a).count + h) (per_region c) (counted ∙ e) in
        meet _ _ i (record {
          says = refl;
          keeps = (refl, refl);
          rel = rw (← G.region) (gives EMPTY (rw i) tt _ (part F4_CLEAR)
              (working (f4-clear c z d n.state (v (TaskRegion t))))
              (place-written F4_CLEAR) (mine w.pair).fits refl (r_working (r_f4_clear refl N.state)));
          sound = (omega (arith, w.pair.turn.fits), sound);
          apart = tt;
        })

    -- some of the region's blocks are not back: step 5 follows
    some : (length J ≡ per_region c → ⊥)
        → Both regions v area m
        (Free.f3_won v (link area) regions t c d a (v (GroupFirst t)) h) (
          Steps.at_work t k (Steps.f5 n.state k c z d)
              (set_descriptor d (chained (m.descriptor d) PARTIAL J) m),
          going (gave d),
        )
    unfolding Free.f3_won
    some e =
        let i = ne_eqb ((anchor_of a).count + h) (per_region c) (λ f. e (sym counted ∙ f)) in
        let to = gives PARTIAL (rw i) (record { linked = rw own.class joined; counts = counted }) in
        let fits = (mine w.pair).fits in
        let v₂ = assigned (TaskPlace t := F2 ∷ GroupCount t := 0 ∷ ws) v in
        miss _ _ i (five w (gave d) ws (set_descriptor d (chained (m.descriptor d) PARTIAL J) m) unit sound (refl, refl)
        (record {
          at-f1 = to _ (part F1) (working (f1 c u)) (place-written F1) fits refl (r_working (r_f1 refl));
          at-f2 = to v₂ (to_grouped 0 (part F2)) (working (f2 c z []))
              (record {
                shared = anchor-written v (slot_of v₂) area d (anchor_word new);
                own = rw (eq-eqb t t refl);
                others = λ j d. rw (ne_eqb t j d);
              }) fits refl (r_working (r_f2 refl refl));
          at-cache = λ e j l.
              let v₃ = assigned (TaskPlace t := F2 ∷ TaskClass t := j ∷ GroupCount t := 0 ∷ ws) v in
              rw (← (is-leaving e))
              (to v₃ (to_request F2 j u (to_grouped 0 (part F2))) (working (f2 j z []))
              (record {
                shared = anchor-written v (slot_of v₃) area d (anchor_word new);
                own = rw (eq-eqb t t refl);
                others = λ j d. rw (ne_eqb t j d);
              }) l refl (r_working (r_f2 refl refl)));
          at-end = to _ (part LEAVE_END) (working leave-end) (place-written LEAVE_END) fits refl
              (r_working (r_leave_end refl));
        })
        (anchor_of a).state n.state d N.state
        (to _ (part PUSH_OFFER) (working (pushing (offer c z d) read)) (place-written PUSH_OFFER) fits refl
        (r_working (r_pushing Offer EMPTY tt (at_read refl)))))

    won : (e : Dec (length J ≡ per_region c))
        → Both regions v area m
        (Free.f3_won v (link area) regions t c d a (v (GroupFirst t)) h)
        (Steps.f3_won t k e c z y g d n.state m)
    won (yes e) = whole e
    won (no e) = some e

  -- ---- won or lost

  pub f3-exchange-both : Both regions v area m (Free.f3_exchange v (link area) regions t (v (TaskClass t)))
      (Steps.step_at t k (f3-exchange (v (TaskClass t)) (purpose_of (v (TaskUnit t))) y g (v (TaskDescriptor t)) n) m)
  unfolding Free.f3_exchange Free.f3_exchange_of
  f3-exchange-both =
      let b = v (Anchor d) in
      let C = w.pair.rel.core in
      let D = C.descriptors.each d own.fits in
      let O = open-holds (m.descriptor d).state own.counts (w.pair.turn.inv.chains d own.fits) in
      let M = re-note {m = m} {m' = m} refl (sym own.class) N in
      pass _ (both_true (both_true (both_true (both_true
      (lt-ltb d DESCRIPTORS own.fits)
      (lt-ltb (v (GroupFirst t)) (per_region c) first_fits))
      (both_true (le-leb 1 h (omega (arith, G.counts))) (le-leb h (per_region c) (omega arith))))
      (note-anchor a h N room)) (note-room a h N room))
      (pass _ (anchor-tested v area w.pair.rel d own.fits)
      (decide (eqb b a) (as_noted? (m.descriptor d) n)
      (λ e. same-unmoved m d n D chain-of O M (anchor-word-same b a (eqb-true b a e)))
      (λ q. eq-eqb b a (same-anchor-word b a (unmoved-same m d n D chain-of O M q)))
      (λ e q. won (anchor-word-same b a (eqb-true b a e)) (ℕ_discrete (length J) (per_region c)))
      (λ e q. loses w (anchor_lost d) F3_READ (working (f3-read c z y g)) (omega arith)
      (r_working (r_f3_read refl (same-group refl refl refl refl G))))))
