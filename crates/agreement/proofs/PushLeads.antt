-- Where a won push of the item x leads, after which the list's row is q: to a place alone, or to step 5 or 6 of a
-- return.
use mathlib.Core.Path.{◌≡◌, refl}
use mathlib.Core.List.{List, [], ◌∷◌}
use Prim.Native.Nat.{ℕ, ◌+◌, ◌≤◌, ◌<◌}
use native.Mathlib.Omega.{arith}
use borrow.Author.Tests.{eq-eqb, ne_eqb}
use Rattle.limits.specs.Limits.{CLASSES}
use Rattle.fields.specs.Columns.{View, ◌:=◌, assigned, Sound}
use Rattle.words.specs.Head.{head_of, advanced_word}
use Rattle.words.proofs.Heads.{advanced_word-below}
use Rattle.plain.specs.State.{State, state_number, read, offer, Place, pushing, f1, f2, Mem, set_row}
use Rattle.plain.specs.State.{leave-end, to_leave, working}
use Rattle.plain.specs.Moves.{Decided, going}
use Rattle.plain.specs.Steps as Steps
use Rattle.control.specs.Layout.{layout, Head, GroupCount, TaskPlace, TaskHead, TaskClass, TaskUnit, TaskDescriptor}
use Rattle.control.specs.Layout.{TaskState, LEAVING}
use Rattle.control.specs.Places.{PUSH_OFFER, F1, F2, LEAVE_END}
use Rattle.control.specs.Answers.{code_of, value_of}
use Rattle.control.specs.Answers.{Answer}
use Rattle.control.specs.declared.moves.Push.TheVariants.{Offer}
use Rattle.stepped.specs.Outcome.{over}
use Rattle.stepped.specs.Lists as Lists
use Rattle.stepped.specs.Lists.{Items}
use Rattle.agreement.proofs.TurnInBoth.{mine}
use Rattle.agreement.specs.Contents.{slot_of, contents_of, purpose_of}
use Rattle.agreement.specs.Relation.{at_read, r_pushing, r_f1, r_f2, r_leave_end, PlaceRelated, r_working}
use Rattle.agreement.specs.Relation.{Related}
use Rattle.agreement.proofs.ListMoves.{ListOf}
use Rattle.agreement.proofs.Slots.{to_place, to_request, to_grouped}
use Rattle.agreement.proofs.Sets.{set_slot, set_head}
use Rattle.agreement.proofs.AssignedContents.{head-written}
use Rattle.agreement.proofs.Both.{Both}
use Rattle.agreement.proofs.Turns.{At}
use Rattle.agreement.proofs.FollowingBoth.{Onward, six, five}
use Rattle.agreement.proofs.Purposes.{is-leaving}
use Rattle.agreement.proofs.MoveSteps.{list-of, Won, wins}

-- the head word that it writes
abbrev pub advanced : View → ℕ → ℕ → ℕ
advanced v t x = advanced_word (v (TaskHead t)) (x + 1)

module _ {regions : ℕ} {v : View} {area : List ℕ} {m : Mem} {t : ℕ} {p : Place} {k : ℕ → List ℕ}
    (w : At regions v area m t p k) {items : Items} {ℓ : ℕ} {q : List ℕ} (K : ListOf items ℓ) (x : ℕ)
    (W : Won v m t items ℓ (x + 1) q) where
  exchange-sound : Sound layout (Head ℓ := advanced v t x ∷ [])
  exchange-sound =
      omega (arith, (list-of w K).below, advanced_word-below (v (TaskHead t)) (x + 1) (omega (arith, W.most)))

  -- to a place, and nothing else
  leads : (b : ℕ) (p' : Place)
      → PlaceRelated regions (set_slot t (to_place b (slot_of v t))
      (set_head ℓ (head_of (advanced v t x)) (contents_of v area))) (Steps.at_place t k p' (set_row ℓ q m))
      (to_place b (slot_of v t)) p'
      → Related regions (contents_of (assigned (TaskPlace t := b ∷ Head ℓ := advanced v t x ∷ []) v) area)
      (Steps.at_place t k p' (set_row ℓ q m))
  leads b p' pl =
      let ws = TaskPlace t := b ∷ Head ℓ := advanced v t x ∷ [] in
      wins w K W ws (to_place b (slot_of v t)) p' (head-written v (slot_of (assigned ws v)) area ℓ (advanced v t x))
      (rw (eq-eqb t t refl)) (λ j n. rw (ne_eqb t j n)) (mine w.pair).fits refl pl

  pub leads-to : (A : Answer) (e : Decided) (b : ℕ) (p' : Place) → b < 256
      → PlaceRelated regions (set_slot t (to_place b (slot_of v t))
      (set_head ℓ (head_of (advanced v t x)) (contents_of v area))) (Steps.at_place t k p' (set_row ℓ q m))
      (to_place b (slot_of v t)) p'
      → Both regions v area m (over A e (TaskPlace t := b ∷ Head ℓ := advanced v t x ∷ []) [])
      (Steps.at_place t k p' (set_row ℓ q m), record { code = code_of A; value = value_of A; decided = e })
  leads-to A e b p' l pl =
      let fits = w.pair.turn.fits in
      record {
        says = refl;
        keeps = (refl, refl);
        rel = leads b p' pl;
        sound = (omega arith, exchange-sound);
        apart =
            tt;
      }

  -- to step 2 of a return, with a group of none
  leads-f2 : Related regions
      (contents_of (assigned (TaskPlace t := F2 ∷ GroupCount t := 0 ∷ Head ℓ := advanced v t x ∷ []) v) area)
      (Steps.at_place t k (working (f2 (v (TaskClass t)) (purpose_of (v (TaskUnit t))) [])) (set_row ℓ q m))
  leads-f2 =
      let ws = TaskPlace t := F2 ∷ GroupCount t := 0 ∷ Head ℓ := advanced v t x ∷ [] in
      wins w K W ws (to_place F2 (to_grouped 0 (slot_of v t)))
      (working (f2 (v (TaskClass t)) (purpose_of (v (TaskUnit t))) []))
      (head-written v (slot_of (assigned ws v)) area ℓ (advanced v t x))
      (rw (eq-eqb t t refl)) (λ j n. rw (ne_eqb t j n)) (mine w.pair).fits refl (r_working (r_f2 refl refl))

  -- to the cache of the class j, where the task leaves
  leads-cache : v (TaskUnit t) ≡ LEAVING → (j : ℕ) → j < CLASSES
      → Related regions
      (contents_of
      (assigned (TaskPlace t := F2 ∷ TaskClass t := j ∷ GroupCount t := 0 ∷ Head ℓ := advanced v t x ∷ []) v) area)
      (Steps.at_place t k (working (f2 j to_leave [])) (set_row ℓ q m))
  leads-cache e j l =
      let ws = TaskPlace t := F2 ∷ TaskClass t := j ∷ GroupCount t := 0 ∷ Head ℓ := advanced v t x ∷ [] in
      rw (← (is-leaving e))
      (wins w K W ws (to_request F2 j (v (TaskUnit t)) (to_grouped 0 (slot_of v t)))
      (working (f2 j (purpose_of (v (TaskUnit t))) []))
      (head-written v (slot_of (assigned ws v)) area ℓ (advanced v t x))
      (rw (eq-eqb t t refl)) (λ j n. rw (ne_eqb t j n)) l refl (r_working (r_f2 refl refl)))

  onward : Onward regions v area t k (Head ℓ := advanced v t x ∷ []) (set_row ℓ q m)
  onward = record {
    at-f1 = leads F1 (working (f1 (v (TaskClass t)) (v (TaskUnit t)))) (r_working (r_f1 refl));
    at-f2 = leads-f2;
    at-cache = leads-cache;
    at-end = leads LEAVE_END (working leave-end) (r_working (r_leave_end refl));
  }

  -- to step 6 of a return, whose unit is in its range
  pub leads-six : (e : Decided) → v (TaskUnit t) ≤ LEAVING
      → Both regions v area m (Lists.f6 v regions t (v (TaskClass t)) e (Head ℓ := advanced v t x ∷ []))
      (Steps.at_work t k (Steps.f6 k (v (TaskClass t)) (purpose_of (v (TaskUnit t)))) (set_row ℓ q m), going e)
  leads-six e unit =
      six w e (Head ℓ := advanced v t x ∷ []) (set_row ℓ q m) unit exchange-sound (refl, refl) onward

  -- to step 5
  pub leads-five : (e : Decided) (z : State) → v (TaskUnit t) ≤ LEAVING → v (TaskState t) ≡ state_number z
      → Both regions v area m
      (Lists.f5 v regions t (v (TaskClass t)) (v (TaskState t)) e (Head ℓ := advanced v t x ∷ [])) (
        Steps.at_work t k (Steps.f5 z k (v (TaskClass t)) (purpose_of (v (TaskUnit t))) (v (TaskDescriptor t)))
            (set_row ℓ q m),
        going e,
      )
  leads-five e z unit f =
      let c = v (TaskClass t) in
      let d = v (TaskDescriptor t) in
      five w e (Head ℓ := advanced v t x ∷ []) (set_row ℓ q m) unit exchange-sound (refl, refl) onward
      (v (TaskState t)) z d f
      (leads PUSH_OFFER (working (pushing (offer c (purpose_of (v (TaskUnit t))) d) read))
      (r_working (r_pushing Offer z tt (at_read refl))))
