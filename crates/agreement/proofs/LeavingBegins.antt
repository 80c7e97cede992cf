-- The beginning of leaving, in both pools.
use mathlib.Core.Path.{◌≡◌, refl, sym, ap, subst}
use mathlib.Core.Logic.{◌≢◌}
use mathlib.Core.List.{List, [], ◌∷◌}
use Prim.Native.Nat.{ℕ, ◌<◌}
use native.Mathlib.Omega.{arith}
use borrow.Author.Tests.{eq-eqb, ne_eqb}
use Rattle.limits.specs.Limits.{CLASSES}
use Rattle.fields.specs.Columns.{View, Write, ◌:=◌, assigned}
use Rattle.plain.specs.State.{Place, idle, f2, leave-end, to_leave, working, Mem, Task}
use Rattle.plain.specs.Moves.{going, nothing}
use Rattle.plain.specs.Steps as Steps
use Rattle.plain.specs.Calls as Plain
use Rattle.plain.proofs.PlaceAlone.{task_of}
use Rattle.control.specs.Layout.{GroupCount, TaskLost, TaskPlace, TaskClass, TaskUnit, LEAVING}
use Rattle.control.specs.Places.{F2, LEAVE_END}
use Rattle.stepped.specs.Leaving.{begin_leave}
use Rattle.agreement.specs.Contents.{Slot, Contents, slot_of, contents_of}
use Rattle.agreement.specs.Relation.{PlaceRelated, r_f2, r_leave_end, r_working, Related}
use Rattle.agreement.proofs.Slots.{to_request, to_grouped}
use Rattle.agreement.proofs.Sets.{with_slots, set_slot}
use Rattle.agreement.proofs.AssignedContents.{becomes}
use Rattle.agreement.proofs.TurnInBoth.{quiet, mine}
use Rattle.agreement.proofs.TaskBlocks.{re-slot}
use Rattle.agreement.proofs.Both.{Both}
use Rattle.agreement.proofs.Turns.{At}
use Rattle.agreement.proofs.LeavingBoth.{leaves-both}

module _ {regions : ℕ} {v : View} {area : List ℕ} {m : Mem} {t : ℕ} {k : ℕ → List ℕ}
    (w : At regions v area m t idle k) where
  -- the writes ws make s of the task's part, which goes to the place p
  begun : (ws : List Write) (s : Slot) (p : Place)
      → contents_of (assigned ws v) area ≡ with_slots (slot_of (assigned ws v)) (contents_of v area)
      → slot_of (assigned ws v) t ≡ s → ((j : ℕ) → t ≢ j → slot_of (assigned ws v) j ≡ slot_of v j)
      → s.class < CLASSES → s.caches ≡ (slot_of v t).caches
      → PlaceRelated regions (set_slot t s (contents_of v area)) (Steps.at_place t k p m) s p
      → Related regions (contents_of (assigned ws v) area) (Steps.at_place t k p m)
  begun ws s p e own others f g pl =
      subst (λ (z : Contents). Related regions z (Steps.at_place t k p m))
      (sym (becomes v (assigned ws v) area t s (contents_of v area) e refl own others))
      (quiet w.pair s (task_of p k) (re-slot w.pair _ _ s p refl f g pl))

  pub leave-both : Both regions v area m (begin_leave v t) (Plain.begin_leave t m)
  leave-both =
      subst (λ (q : ℕ → List ℕ). Both regions v area m (begin_leave v t)
      (Steps.at_work t q (Steps.leave_from q 0 CLASSES) m, going nothing)) (sym cache-is)
      (leaves-both w nothing (TaskUnit t := LEAVING ∷ TaskLost t := 0 ∷ []) m (omega (arith, w.pair.turn.fits))
      (refl, refl)
      (λ j l. begun
      (TaskPlace t := F2 ∷ TaskClass t := j ∷ GroupCount t := 0 ∷ TaskUnit t := LEAVING ∷ TaskLost t := 0 ∷ [])
      (to_request F2 j LEAVING (to_grouped 0 (slot_of v t))) (working (f2 j to_leave []))
      refl (rw (eq-eqb t t refl)) (λ j n. rw (ne_eqb t j n)) l refl (r_working (r_f2 refl refl)))
      (begun (TaskPlace t := LEAVE_END ∷ TaskUnit t := LEAVING ∷ TaskLost t := 0 ∷ [])
      (to_request LEAVE_END (v (TaskClass t)) LEAVING (slot_of v t)) (working leave-end)
      refl (rw (eq-eqb t t refl)) (λ j n. rw (ne_eqb t j n)) (mine w.pair).fits refl (r_working (r_leave_end refl)))
      0 (omega arith))
    where
      cache-is : (m.task t).cache ≡ k
      cache-is = ap (λ (T : Task). T.cache) w.pair.turn.is
