-- Step 3 of a free, in both pools: the anchor is read, and the last link is written. The exchange is in
-- `Exchanging.antt`.
use mathlib.Core.Path.{◌≡◌, refl, ap, ◌∙◌}
use mathlib.Core.List.{List, [], ◌∷◌, ◌++◌}
use Prim.Native.Nat.{ℕ, suc, ◌+◌, ◌-◌, ◌≤◌, ◌<◌}
use native.Mathlib.Omega.{arith}
use borrow.Author.Tests.{eq-eqb, ne_eqb, lt-ltb, le-leb}
use lib.ListN.{length, length-append}
use Rattle.limits.specs.Limits.{DESCRIPTORS}
use Rattle.rows.proofs.Linked.{linked-frame}
use Rattle.rows.proofs.Weights.{when-same}
use Rattle.fields.specs.Columns.{View, ◌:=◌, assigned}
use Rattle.links.specs.Link.{link}
use Rattle.words.specs.Anchor.{anchor_of}
use Rattle.classes.specs.Classes.{per_region}
use Rattle.classes.specs.Geometry.{region_of}
use Rattle.plain.specs.State.{Mem, Note, f3-read, f3-link, f3-exchange, working}
use Rattle.plain.specs.Moves.{going, nothing}
use Rattle.plain.specs.Steps.{note_of}
use Rattle.plain.specs.Steps as Steps
use Rattle.plain.proofs.Owners.{home_of, owner}
use Rattle.plain.proofs.PlaceAlone.{place_holds, task_of}
use Rattle.plain.proofs.GroupFits as Joined
use Rattle.plain.proofs.ByState.{open-holds}
use Rattle.control.specs.Layout.{Anchor, GroupCount, GroupLast, Map, TaskAnchor, TaskClass, TaskDescriptor, TaskPlace}
use Rattle.control.specs.Layout.{TaskRegion, TaskUnit}
use Rattle.control.specs.Places.{F3_LINK, F3_EXCHANGE}
use Rattle.stepped.specs.Free as Free
use Rattle.agreement.proofs.TurnInBoth.{mine}
use Rattle.agreement.proofs.Purposes.{group-in}
use Rattle.agreement.specs.Contents.{slot_of, contents_of, purpose_of}
use Rattle.agreement.specs.Relation.{GroupRelated, NoteRelated, r_f3_exchange, r_f3_link, r_working}
use Rattle.agreement.proofs.BothPass.{both_true}
use Rattle.agreement.proofs.Slots.{to_place, to_anchor, to_descriptor}
use Rattle.agreement.proofs.TaskBlocks.{cache-agrees, mine-apart, mine-under, re-link, row-agrees, wrote}
use Rattle.agreement.proofs.Both.{Both, pass}
use Rattle.agreement.proofs.Turns.{At, goes}
use Rattle.agreement.proofs.TurnWrites.{link-written}
use Rattle.agreement.proofs.NotedAnchors.{note-of, re-note}
use Rattle.agreement.proofs.NotedAnchorTests.{note-anchor, note-first, note-max, note-room}
use Rattle.agreement.proofs.GroupBlocks.{same-group, last-at, last-below, last_under, front_out, front-sub}
use Rattle.agreement.proofs.GroupBlocks.{region-below}

module _ {regions : ℕ} {v : View} {area : List ℕ} {m : Mem} {t : ℕ} {k : ℕ → List ℕ} {y : ℕ} {g : List ℕ} where
  -- ---- the read

  module _ (w : At regions v area m t (working (f3-read (v (TaskClass t)) (purpose_of (v (TaskUnit t))) y g)) k) where
    -- the group and the chain are no more than the region's blocks
    group-fits : (d : ℕ) → m.map (region_of y) ≡ suc d
        → length (y ∷ (g ++ (m.descriptor d).chain)) ≤ per_region (v (TaskClass t))
    group-fits d e =
        Joined.group-fits {z = purpose_of (v (TaskUnit t))} {g = g} w.pair.turn
        (record { blocks = refl; class = refl; together = (place_holds w.pair.turn).2; named = e })

    -- the anchor of the descriptor d
    read_of : (d : ℕ) → m.map (region_of y) ≡ suc d → GroupRelated (contents_of v area) (slot_of v t) y g
        → Both regions v area m (Free.f3_read_of v (link area) regions t (v (TaskClass t)) d (v (GroupCount t))) (
          Steps.at_place t k
              (working (f3-link (v (TaskClass t)) (purpose_of (v (TaskUnit t))) y g d (note_of (m.descriptor d)))) m,
          going
              nothing,
        )
    unfolding Free.f3_read_of
    read_of d e G =
        let c = v (TaskClass t) in
        let n = v (GroupCount t) in
        let F = owner w.pair.turn y d
        (omega (arith, when-same y 1, group-in (purpose_of (v (TaskUnit t))) (y ∷ g) y)) e in
        let D = w.pair.rel.core.descriptors.each d F.fits in
        let C = open-holds (m.descriptor d).state F.counts D.chain in
        let O = open-holds (m.descriptor d).state F.counts (w.pair.turn.inv.chains d F.fits) in
        let N = re-note {m = m} {m' = m} refl F.class (note-of m d D C O) in
        let l : n + (anchor_of (v (Anchor d))).count ≤ per_region c =
        omega (arith, group-fits d e, length-append g (m.descriptor d).chain, C.counts, G.counts) in
        pass _ (both_true (note-anchor (v (Anchor d)) n N l) (note-room (v (Anchor d)) n N l)) (record {
          says = refl;
          keeps = (refl, refl);
          rel = goes w (TaskPlace t := F3_LINK ∷ TaskDescriptor t := d ∷ TaskAnchor t := v (Anchor d) ∷ [])
              (to_place F3_LINK (to_descriptor d (to_anchor (anchor_of (v (Anchor d))) (slot_of v t))))
              (working (f3-link c (purpose_of (v (TaskUnit t))) y g d (note_of (m.descriptor d))))
              refl (rw (eq-eqb t t refl)) (λ j n. rw (ne_eqb t j n)) refl refl
              (r_working (r_f3_link refl (same-group refl refl refl refl G) (re-note refl refl N) l));
          sound = omega (arith, w.pair.turn.fits, F.fits, w.fitting (Anchor d) (omega (arith, F.fits)));
          apart = tt;
        })

  pub f3-read-both : At regions v area m t (working (f3-read (v (TaskClass t)) (purpose_of (v (TaskUnit t))) y g)) k
      → GroupRelated (contents_of v area) (slot_of v t) y g
      → Both regions v area m (Free.f3_read v (link area) regions t (v (TaskClass t)))
      (Steps.step_at t k (f3-read (v (TaskClass t)) (purpose_of (v (TaskUnit t))) y g) m)
  unfolding Free.f3_read Free.f3_read_by
  f3-read-both w G =
      let c = v (TaskClass t) in
      let n = v (GroupCount t) in
      let r = v (TaskRegion t) in
      let o = place_holds w.pair.turn in
      let h = home_of w.pair.turn y
      (omega (arith, when-same y 1, group-in (purpose_of (v (TaskUnit t))) (y ∷ g) y)) in
      let l : r < regions = region-below w.pair G (group-in (purpose_of (v (TaskUnit t))) (y ∷ g)) refl o.2 in
      let e : v (Map r) ≡ suc h.d = w.pair.rel.core.entries.maps r l ∙ ap m.map G.region ∙ h.named in
      let i : v (Map r) - 1 ≡ h.d = omega arith in
      pass _ (both_true (lt-ltb r regions l)
      (both_true (le-leb 1 n (omega (arith, G.counts))) (le-leb n (per_region c) (omega (arith, G.counts, o.1)))))
      (pass _ (both_true (le-leb 1 (v (Map r)) (omega arith)) (le-leb (v (Map r)) DESCRIPTORS (omega (arith, h.fits))))
      (rw (i, h.named) (read_of w h.d h.named G)))

  -- ---- the last link

  pub f3-link-both : {n : Note}
      → At regions v area m t
      (working (f3-link (v (TaskClass t)) (purpose_of (v (TaskUnit t))) y g (v (TaskDescriptor t)) n)) k
      → GroupRelated (contents_of v area) (slot_of v t) y g
      → NoteRelated m (v (TaskClass t)) (v (TaskDescriptor t)) n (anchor_of (v (TaskAnchor t)))
      → v (GroupCount t) + (anchor_of (v (TaskAnchor t))).count ≤ per_region (v (TaskClass t))
      → Both regions v area m (Free.f3_link v (link area) regions t (v (TaskClass t)))
      (Steps.step_at t k (f3-link (v (TaskClass t)) (purpose_of (v (TaskUnit t))) y g (v (TaskDescriptor t)) n) m)
  unfolding Free.f3_link
  f3-link-both {n} w G N b =
      let c = v (TaskClass t) in
      let a = v (TaskAnchor t) in
      let x = (anchor_of a).avail in
      let l = G.last in
      let o = place_holds w.pair.turn in
      let L = last-at w.pair G (group-in (purpose_of (v (TaskUnit t))) (y ∷ g)) refl o.2 in
      let lu = last_under w.pair G (group-in (purpose_of (v (TaskUnit t))) (y ∷ g)) refl o.2 in
      let fo = front_out w.pair G (group-in (purpose_of (v (TaskUnit t))) (y ∷ g)) refl o.2 in
      let fs = front-sub w.pair G (group-in (purpose_of (v (TaskUnit t))) (y ∷ g)) refl o.2 in
      let z : 0 + (anchor_of a).count ≤ per_region c = omega arith in
      let wr = wrote w.pair l x lu (omega (arith, note-max N)) in
      let s = to_place F3_EXCHANGE (slot_of v t) in
      let p = working (f3-exchange c (purpose_of (v (TaskUnit t))) y g (v (TaskDescriptor t)) n) in
      pass _ (both_true (both_true (both_true
      (lt-ltb (v (TaskRegion t)) regions
      (region-below w.pair G (group-in (purpose_of (v (TaskUnit t))) (y ∷ g)) refl o.2))
      (lt-ltb (v (GroupLast t)) (per_region c)
      (last-below w.pair G (group-in (purpose_of (v (TaskUnit t))) (y ∷ g)) refl o.2)))
      (note-anchor a 0 N z)) (note-first a 0 N z))
      (record {
        says = refl;
        keeps = (refl, refl);
        rel = rw L.at (link-written w (assigned (TaskPlace t := F3_EXCHANGE ∷ []) v) s (task_of p k) l x
            (record { shared = refl; own = rw (eq-eqb t t refl); others = λ j d. rw (ne_eqb t j d) })
            (mine-under w.pair l lu).0
            (re-link w.pair _ _ s p (λ e i. cache-agrees w.pair l x lu e i) (mine w.pair).fits
            refl
            (r_working (r_f3_exchange refl (record {
              front = G.front;
              last = l;
              is = G.is;
              linked = linked-frame (row-agrees w.pair l x G.front lu fs fo) G.linked;
              last_is = G.last_is;
              counts = G.counts;
              region = G.region;
            }) (re-note refl refl N) b wr))));
        sound = omega (arith, w.pair.turn.fits);
        apart = (rw L.at (mine-apart w.pair l (mine-under w.pair l lu).0), tt);
      })
