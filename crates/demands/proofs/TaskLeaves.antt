-- A task that leaves, of the exported functions (the request for leaving): how it begins, by one call; and, wherever a
-- run has come, what each of its steps does and what it leaves when it finishes.
use mathlib.Core.Path.{◌≡◌, refl, sym, ap, subst, subst⁻¹, ◌∙◌}
use mathlib.Core.Bool.{false≢true}
use mathlib.Core.List.{[], ◌∷◌}
use Prim.Native.Nat.{ℕ, ◌≤◌, ◌<◌}
use native.Mathlib.Omega.{arith}
use native.Mathlib.Decide.{dec_lt}
use Rattle.rows.proofs.Branch.{if_yes}
use lib.Dec.{ltb, eqb}
use lib.ListN.{length}
use Rattle.limits.specs.Limits.{TASKS, CLASSES}
use Rattle.control.specs.Places.{IDLE, PLACES}
use Rattle.control.specs.Layout.{seen, changed, TaskPlace, TaskUnit, TaskLost, CacheCount, LEAVING}
use Rattle.control.specs.Answers.{code_in}
use Rattle.control.specs.Answers.{Accepted}
use Rattle.fields.specs.Columns.{View, ◌:=◌}
use Rattle.links.specs.Link.{with_links}
use Rattle.plain.specs.State.{Place, idle, working}
use Rattle.plain.specs.Moves.{Answer}
use Rattle.plain.specs.Steps.{step_of}
use Rattle.plain.specs.Requests.{Request, allocation, freeing, strip_allocation, strip_freeing, leaving, request_at}
use Rattle.plain.specs.Leaving.{LeavingStep}
use Rattle.plain.specs.Calls.{Pool, leave, step, Lengths}
use Rattle.plain.proofs.LeavingSteps.{leaving-step}
use Rattle.stepped.specs.Outcome.{Outcome, Memories}
use Rattle.stepped.specs.Leaving.{next_cached, count_fits, leave_writes, leave_from}
use Rattle.stepped.specs.Calls as Calls
use Rattle.stepped.specs.Calls.{Tested, lending, lengths}
use Rattle.agreement.specs.Ends.{leave_refusals}
use Rattle.agreement.specs.Events.{Premise, whole}
use Rattle.agreement.specs.Tied.{Tied}
use Rattle.agreement.specs.Contents.{contents_of}
use Rattle.agreement.specs.Reached.{History, Reached, by_event}
use Rattle.agreement.specs.Asked.{for_leave, asked}
use Rattle.agreement.specs.AtWhatAsked.{AsAsked, AtWhatAsked}
use Rattle.agreement.specs.Relation.{PlaceRelated, r_idle}
use Rattle.agreement.proofs.Ways.{accepted-no, tests, branch}
use Rattle.agreement.proofs.BeginningEnds.{leave_ends}
use Rattle.agreement.proofs.Reaching.{reached-tied, reached-asked}
use Rattle.demands.specs.AnswerKinds.{BegunLeaving}
use Rattle.demands.specs.Acts.{on_own, Contract, event_of_call}
use Rattle.demands.proofs.NumberTells.{told, accepted}
use Rattle.demands.proofs.Acting.{shows}
use Rattle.demands.proofs.WholeStep.{whole_is, whole_step, whole-step}
use Rattle.demands.proofs.HandedOut.{finish-tested, left-empty}

-- ---- the beginning, whatever the memories hold

-- what an accepted beginning writes: the task's own fields, and no link
begins : (lent : Lengths) (v : View) (t : ℕ) → let o = Calls.leave_outcome lent v t in o.answer ≡ Accepted
    → (o.writes ≡ leave_writes v t (next_cached v t 0) (TaskUnit t := LEAVING ∷ TaskLost t := 0 ∷ [])) × (o.links ≡ [])
unfolding Calls.leave_outcome Calls.when_idle leave_from
begins lent v t =
    let ws = leave_writes v t (next_cached v t 0) (TaskUnit t := LEAVING ∷ TaskLost t := 0 ∷ []) in
    let P : Outcome → Type 0 = λ o. o.answer ≡ Accepted → (o.writes ≡ ws) × (o.links ≡ []) in
    tests lent v t P _ (λ n h e. absurd (accepted-no (sym e)))
    (λ T. branch P (ltb (v (TaskPlace t)) PLACES)
    (λ e. branch P (eqb (v (TaskPlace t)) IDLE)
    (λ f. branch P (count_fits v t (next_cached v t 0)) (λ g h. (refl, refl)) (λ g h. absurd (accepted-no (sym h))))
    (λ f h. absurd (accepted-no (sym h))))
    (λ e h. absurd (accepted-no (sym h))))

-- "Beginning a request does no step": where it is accepted, the task goes on with its first cache that is not empty
pub leave-begins : (lent left : Memories) (r t : ℕ) → Contract (leave t) lent left r → r ≡ 0 → BegunLeaving t lent left
leave-begins lent left r t C h =
    let v = seen lent.control in
    let long = lengths (lending lent) in
    let o = Calls.leave_outcome long v t in
    let B =
    begins long v t
    (accepted leave_refusals false≢true o.answer (leave_ends long v t).answers
    (sym (told (leave t) lent left r C).code ∙ ap code_in h)) in
    record {
      control_is = C.control_is ∙ ap (λ ws. changed ws lent.control) B.0;
      area_is = C.area_is ∙ ap (λ ls. with_links ls lent.area) B.1;
      strips_is = C.strips_is;
    }

-- ---- along runs

-- a task that is at work, and has asked to leave, leaves
at-leaving : (q : Request) → AsAsked for_leave q → q ≡ leaving
at-leaving (allocation c) h = absurd h
at-leaving (freeing c u) h = absurd h
at-leaving (strip_allocation k) h = absurd h
at-leaving (strip_freeing s) h = absurd h
at-leaving leaving h = refl

module _ {h : History} {s : Memories} {p : Pool} (R : Reached h s p) (t : ℕ) (asks : asked t h ≡ for_leave) where
  abbrev v : View
  v = seen s.control

  -- What a step of a task that leaves does: it changes no other task, and so no other cache, and no block in hands. Its
  -- request finishes when all of its caches are empty, and in no other way.
  pub leaving-goes : Tested (lengths (lending s)) v t → IDLE < v (TaskPlace t) → LeavingStep t p.mem (whole_step R t)
  leaving-goes T busy =
      subst⁻¹ (LeavingStep t p.mem) (whole-step R t T)
      (by (p.mem.task t).place refl ((D.related k).slots t l).place
      (subst (λ a. AtWhatAsked a (p.mem.task t).place) asks (reached-asked R t)))
    where
      D : Tied s p
      D = reached-tied R

      k : 1 ≤ p.tasks
      k = omega (arith, T.started, D.tasks)

      l : t < TASKS
      l = omega (arith, T.below, T.tasks)

      by : (x : Place) → (p.mem.task t).place ≡ x
          → PlaceRelated p.regions (contents_of v s.area) p.mem ((contents_of v s.area).slot t) x
          → AtWhatAsked for_leave x
          → LeavingStep t p.mem (step_of t p.mem)
      by idle e (r_idle i) A = absurd (omega (arith, busy, i))
      by (working w) e W A = leaving-step t p.mem w e (at-leaving (request_at w) A) (D.good.leaves k) l

  -- "one further step, after all are empty, finishes the request": then the counts of all of the task's caches are 0
  pub counts_zero : (left : Memories) (r : ℕ) (C : Contract (step t) s left r) → code_in r ≡ 20
      → Premise (event_of_call (step t) s) p → (c : ℕ) → c < CLASSES → seen left.control (CacheCount t c) ≡ 0
  counts_zero left r C finished P c i =
      let T = finish-tested s left r t C finished in
      let e = event_of_call (step t) s in
      let x = (whole e p).0 in
      let D : Tied left x =
      subst (λ (z : Memories). Tied z x) (shows (on_own (step t) left r) s C).leaves (reached-tied (by_event R e P)) in
      let k : 1 ≤ x.tasks =
      omega (arith, ap (λ (y : Pool × Answer). y.0.tasks) (whole_is R t T), (reached-tied R).tasks, T.started) in
      sym (if_yes (dec_lt c CLASSES) (seen left.control (CacheCount t c)) 0 i)
      ∙ ((D.related k).slots t (omega (arith, T.below, T.tasks))).caches.counts c i
      ∙ ap length ((left-empty s left r t C finished R asks).1 c (omega arith) i)
