-- The first step of step 4 of a free, in both pools: the map's entry of the group's region is cleared.
use mathlib.Core.Path.{◌≡◌, refl}
use mathlib.Core.List.{List, [], ◌∷◌}
use Prim.Native.Nat.{ℕ, ◌<◌}
use native.Mathlib.Omega.{arith}
use borrow.Author.Tests.{eq-eqb, ne_eqb, lt-ltb}
use Rattle.rows.proofs.Weights.{when-same}
use Rattle.fields.specs.Columns.{View, ◌:=◌, assigned}
use Rattle.links.specs.Link.{link}
use Rattle.plain.specs.State.{Mem, State, f4-clear, state_number, pushing, read, release, working}
use Rattle.plain.specs.Steps as Steps
use Rattle.plain.proofs.PlaceAlone.{task_of}
use Rattle.control.specs.Layout.{Map, TaskClass, TaskDescriptor, TaskPlace, TaskRegion, TaskState, TaskUnit}
use Rattle.control.specs.Places.{PUSH_RELEASE}
use Rattle.stepped.specs.Free as Free
use Rattle.agreement.proofs.TurnInBoth.{mine}
use Rattle.agreement.specs.Contents.{slot_of, purpose_of}
use Rattle.control.specs.declared.moves.Push.TheVariants.{Release}
use Rattle.agreement.specs.Relation.{at_read, r_pushing, r_working}
use Rattle.agreement.proofs.Slots.{to_place}
use Rattle.agreement.proofs.AssignedContents.{map-written}
use Rattle.agreement.proofs.ListTops.{region-in-hand}
use Rattle.agreement.proofs.TaskBlocks.{re-slot}
use Rattle.agreement.proofs.Both.{Both, pass}
use Rattle.agreement.proofs.Turns.{At}
use Rattle.agreement.proofs.TurnWrites.{entry-cleared}

pub f4-clear-both : {regions : ℕ} {v : View} {area : List ℕ} {m : Mem} {t : ℕ} {k : ℕ → List ℕ} {z : State}
    → At regions v area m t
    (working (f4-clear (v (TaskClass t)) (purpose_of (v (TaskUnit t))) (v (TaskDescriptor t)) z (v (TaskRegion t)))) k
    → v (TaskState t) ≡ state_number z
    → Both regions v area m (Free.f4_clear v (link area) regions t (v (TaskClass t)))
    (Steps.step_at t k
    (f4-clear (v (TaskClass t)) (purpose_of (v (TaskUnit t))) (v (TaskDescriptor t)) z (v (TaskRegion t))) m)
unfolding Free.f4_clear
f4-clear-both {regions} {v} {area} {m} {t} {k} {z} w e =
    let r = v (TaskRegion t) in
    let l : r < regions = region-in-hand w.pair.turn r (omega (arith, when-same r 1)) in
    let v₁ = assigned (TaskPlace t := PUSH_RELEASE ∷ Map r := 0 ∷ []) v in
    let s = to_place PUSH_RELEASE (slot_of v t) in
    let p =
    working (pushing (release (v (TaskClass t)) (purpose_of (v (TaskUnit t))) (v (TaskDescriptor t)) z r) read) in
    pass _ (lt-ltb r regions l) (record {
      says = refl;
      keeps = (refl, refl);
      rel = entry-cleared w v₁ s (task_of p k) r
          (record {
            shared = map-written v (slot_of v₁) area r 0;
            own = rw (eq-eqb t t refl);
            others = λ j n. rw (ne_eqb t j n);
          })
          (re-slot w.pair _ _ s p refl (mine w.pair).fits refl
          (r_working (r_pushing Release z e (at_read refl))));
      sound = omega (arith, w.pair.turn.fits, w.pair.small);
      apart = tt;
    })
