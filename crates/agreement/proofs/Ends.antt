-- How a call ends, whatever the two memories hold.
use Prim.Native.Nat.{ℕ, ◌+◌, ◌<◌}
use mathlib.Core.Path.{◌≡◌, refl, sym, ap, subst, ◌∙◌}
use mathlib.Core.Logic.{◌≢◌, ◌⊎◌, ⊎_map, ⊎_elim, inr, ◌↔◌}
use mathlib.Core.List.{List, [], ◌∷◌}
use native.Mathlib.Omega.{arith}
use borrow.Author.Tests.{eq-eqb, le-leb, lt-ltb, ltb-true}
use lib.Dec.{ltb}
use Rattle.limits.specs.Limits.{CLASSES}
use Rattle.fields.specs.Columns.{View, ◌:=◌}
use Rattle.links.specs.Link.{link}
use Rattle.words.specs.Head.{item_of, advanced_word}
use Rattle.plain.specs.Moves.{found_empty, pushed}
use Rattle.control.specs.Layout.{Head, TaskHead, TaskPlace, TaskClass}
use Rattle.control.specs.Layout.{Regions, seen}
use Rattle.control.specs.Places.{IDLE}
use Rattle.plain.specs.Calls.{Call, start, allocate, free, leave, step, Lengths}
use Rattle.control.specs.Answers.{Answer}
use Rattle.control.specs.Answers.{Accepted, Allocated, Freed, NoDescriptor, NoRegion}
use Rattle.control.specs.Answers.{Refused}
use Rattle.control.specs.declared.moves.Pop.{Pop}
use Rattle.control.specs.declared.moves.Pop.TheVariants.{Spare, Region}
use Rattle.control.specs.declared.moves.Push.{Push}
use Rattle.control.specs.declared.moves.Push.TheVariants.{Back}
use Rattle.stepped.specs.Outcome.{Outcome, Memories}
use Rattle.stepped.specs.Lists as Lists
use Rattle.stepped.specs.Lists.{push_place}
use Rattle.stepped.specs.Steps as Steps
use Rattle.stepped.specs.Calls as Calls
use Rattle.agreement.specs.Ends.{Leaves, test_refusals}
use Rattle.agreement.specs.Ends.{place_refusals, step_refusals, StepAnswers, StepEnds}
use Rattle.agreement.specs.Ends.{FindsNoPiece}
use Rattle.agreement.specs.Ends.{FindsEmpty, WinsPush, InPush, place_after, IsEnd}
use Rattle.stepped.specs.Calls.{Tested, Lent, lengths}
use Rattle.stepped.proofs.CallTests.{passed}
use Rattle.agreement.proofs.Ways.{branch, tests}
use Rattle.agreement.proofs.Ways.{accepted-no, more, among-tests, Cause}
use Rattle.agreement.proofs.Ways.{Ending, CallEnding, refused}
use Rattle.agreement.proofs.Ways.{going, ended, at_call, sent}
use Rattle.agreement.proofs.StepWays.{step-at}
use Rattle.control.specs.Answers.{NoStrip}
use Rattle.limits.specs.Limits.{ORDERS}
use Rattle.std.specs.declared.option.Option.{Option}
use Rattle.std.specs.declared.option.Option.TheVariants.{None}
use Rattle.strip_tree.specs.declared.find.Found.{Found}
use Rattle.strip_tree.specs.TreeMoves.{find}
use Rattle.strip_tree.proofs.NoFreeNodes.{finds-none}
use Rattle.stepped.specs.StripSteps.{tree_of, strip_take, strip_take_by}
use Rattle.agreement.proofs.BeginningEnds.{leaves, allocate-ends, free-ends, leave_ends, start-ends}

-- ---- steps

-- what ends a request is no refusal
cause-answers : (ns : List ℕ) (v : View) (t : ℕ) (a : Answer) → Cause v t a → StepAnswers ns a
cause-answers ns v t Accepted k = tt
cause-answers ns v t (Allocated u) k = tt
cause-answers ns v t Freed k = tt
cause-answers ns v t NoDescriptor k = tt
cause-answers ns v t NoRegion k = tt
cause-answers ns v t NoStrip k = tt
cause-answers ns v t (Refused n) k = absurd k

module _ {ns : List ℕ} {v : View} {t : ℕ} where
  answers : {o : Outcome} → Ending ns v t o → StepAnswers ns o.answer
  answers (refused h) = h
  answers (going h c) = tt
  answers (ended {a = a} k h c) = cause-answers ns v t a k

-- a call of a step
module _ {v : View} {t : ℕ} where
  ends : {o : Outcome} → CallEnding v t o → StepEnds v t o
  ends (refused h) = record { nothing = λ n e. (refl, refl); answers = h; idle = λ i. absurd i; counted = λ j. refl }
  ends (going h c) =
      record { nothing = λ n e. absurd (accepted-no e); answers = tt; idle = λ i. absurd i; counted = c }
  ends (ended {a = a} k h c) =
      let G = cause-answers step_refusals v t a k in
      record { nothing = λ n e. absurd (subst (Cause v t) e k); answers = G; idle = λ i. h; counted = c }

  -- why a request ends with the answer a
  cause : {o : Outcome} → CallEnding v t o → (a : Answer) → IsEnd a → o.answer ≡ a → Cause v t a
  cause (refused h) a i e = absurd (subst IsEnd (sym e) i)
  cause (going h c) a i e = absurd (subst IsEnd (sym e) i)
  cause (ended k h c) a i e = subst (Cause v t) e k

  -- why a step comes to the push back
  came : {o : Outcome} → CallEnding v t o → InPush Back (place_after o v t)
      → (FindsEmpty Region v t × ((n : ℕ) → o.answer ≢ Refused n)) ⊎ InPush Back (v (TaskPlace t))
  came (refused h) i = inr i
  came (going h c) i = ⊎_map (λ f. (f, λ n. accepted-no)) (λ p. p) (h i)
  came (ended k h c) i = absurd (omega arith)

module _ (lent : Lengths) (v : View) (link : ℕ → ℕ) (t : ℕ) where
  abbrev o : Outcome
  o = Calls.step_outcome lent v link t

  ending : CallEnding v t o
  unfolding Calls.step_outcome Steps.step_of
  ending =
      let P = CallEnding v t in
      let c = v (TaskClass t) in
      tests lent v t P _ (λ n h. refused (more test_refusals (7 ∷ []) n (among-tests h)))
      (λ T. branch P (ltb IDLE (v (TaskPlace t)))
      (λ e. branch P (ltb c CLASSES)
      (λ f. at_call (step-at v link t (ltb-true c CLASSES f) (ltb-true IDLE (v (TaskPlace t)) e)))
      (λ f. refused refl))
      (λ e. refused refl))

  -- a step that is not refused has passed the tests
  not-refused : ((n : ℕ) → o.answer ≢ Refused n) → Tested lent v t
  unfolding Calls.step_outcome
  not-refused =
      tests lent v t (λ x. ((n : ℕ) → x.answer ≢ Refused n) → Tested lent v t) _
      (λ n h k. absurd (k n refl)) (λ T k. T)

  -- a step that ends the request has passed the tests, and has its cause
  pub ends_by : (a : Answer) → IsEnd a → o.answer ≡ a → Tested lent v t × Cause v t a
  ends_by a i e = (not-refused (λ n f. subst IsEnd (sym e ∙ f) i), cause ending a i e)

  -- a step that passes the tests is that of its place
  at_place : {place : ℕ} → Tested lent v t → v (TaskPlace t) ≡ place → IDLE < place → v (TaskClass t) < CLASSES
      → o ≡ Steps.step_at v link (v Regions) t (v (TaskClass t)) place
  unfolding Calls.step_outcome Steps.step_of
  at_place T e l h =
      passed _ T
      ∙ rw (lt-ltb IDLE (v (TaskPlace t)) (omega arith), lt-ltb (v (TaskClass t)) CLASSES h, e)

  -- the step at the place of a task that is not idle is refused by 14 alone
  pub place-answers : v (TaskClass t) < CLASSES → IDLE < v (TaskPlace t)
      → StepAnswers place_refusals (Steps.step_at v link (v Regions) t (v (TaskClass t)) (v (TaskPlace t))).answer
  place-answers fits busy = answers (step-at v link t fits busy)

  pub step-ends : StepEnds v t o
  step-ends = ends ending

  -- a pop that finds its list empty
  finds-empty : (p : Pop) → FindsEmpty p v t
      → Lists.pop_read v (v Regions) t (v (TaskClass t)) p
      ≡ Lists.when_empty v (v Regions) t (v (TaskClass t)) p (found_empty (Lists.pop_list p (v (TaskClass t))))
  unfolding Lists.pop_read
  finds-empty p F = rw (eq-eqb (item_of (v (Head (Lists.pop_list p (v (TaskClass t)))))) 0 F.empty)

  -- a push that wins its exchange
  wins-push : (p : Push) → WinsPush p v t
      → Lists.push_exchange v (v Regions) t (v (TaskClass t)) p
      ≡ Lists.when_pushed v (v Regions) t (v (TaskClass t)) p
      (pushed (Lists.push_list p (v (TaskClass t))) (v (Lists.hand_field (Lists.push_items p) t)))
      (Head (Lists.push_list p (v (TaskClass t))) :=
      advanced_word (v (TaskHead t)) (v (Lists.hand_field (Lists.push_items p) t) + 1) ∷ [])
  unfolding Lists.push_exchange
  wins-push p W =
      let items = Lists.how_many (Lists.push_items p) (v Regions) in
      rw (
        W.same,
        lt-ltb (v (Lists.hand_field (Lists.push_items p) t)) items W.item,
        le-leb (item_of (v (TaskHead t))) items W.noted,
        eq-eqb (v (TaskHead t)) (v (TaskHead t)) refl,
      )

  -- "Pop a spare descriptor. Empty: end with 12."
  pub no_descriptor : (o.answer ≡ NoDescriptor) ↔ (Tested lent v t × FindsEmpty Spare v t)
  unfolding Steps.step_at
  no_descriptor = (
    ends_by NoDescriptor tt,
    λ h. ap (λ (x : Outcome). x.answer)
        (at_place h.0 h.1.place (omega arith) h.1.class ∙ finds-empty Spare h.1),
  )

  -- "Pop a spare region. Empty: push the descriptor back; the request ends with 13 at that won exchange."
  pub no_region : (o.answer ≡ NoRegion) ↔ (Tested lent v t × WinsPush Back v t)
  unfolding Steps.step_at
  no_region = (
    ends_by NoRegion tt,
    λ h. ap (λ (x : Outcome). x.answer)
        (at_place h.0 h.1.place (omega arith) h.1.class ∙ wins-push Back h.1),
  )

  -- a strip's request that finds no free piece
  finds-no-piece : (F : FindsNoPiece v t)
      → (strip_take v t (v (TaskClass t))).answer ≡ NoStrip
  unfolding strip_take
  finds-no-piece F =
      let c = v (TaskClass t) in
      let e : find (tree_of v) c ≡ None = finds-none (tree_of v) c F.order F.none in
      rw (lt-ltb c ORDERS F.order) (ap (λ (f : Option Found). (strip_take_by v t c f).answer) e)

  -- "16 ends a request", where the tree has no free piece that is sufficient
  pub no_strip : (o.answer ≡ NoStrip) ↔ (Tested lent v t × FindsNoPiece v t)
  unfolding Steps.step_at
  no_strip = (
    ends_by NoStrip tt,
    λ h. ap (λ (x : Outcome). x.answer)
        (at_place h.0 h.1.place (omega arith) (omega (arith, h.1.order))) ∙ finds-no-piece h.1,
  )

  -- a task that finds the list of spare regions empty goes to the head read of the push back
  pub to_back : Tested lent v t → FindsEmpty Region v t → place_after o v t ≡ push_place Back
  unfolding Steps.step_at
  to_back T F =
      ap (λ (x : Outcome). place_after x v t) (at_place T F.place (omega arith) F.class ∙ finds-empty Region F)
      ∙ sent v t (push_place Back) [] (λ u. (refl, λ j. refl))

  -- a task that is at no place of the push back comes to one exactly if it finds the list of spare regions empty
  pub put_back : (InPush Back (v (TaskPlace t)) → ⊥)
      → InPush Back (place_after o v t) ↔ (Tested lent v t × FindsEmpty Region v t)
  put_back out = (
    λ i. ⊎_elim (λ f. (not-refused f.1, f.0)) (λ j. absurd (out j)) (came ending i),
    λ h. omega (arith, to_back h.0 h.1),
  )

-- ---- the bytes that a refused call leaves

pub effect-leaves : (k : Call) (lent : Lent) (s : Memories) → Leaves (Calls.effect_in k lent s) s
effect-leaves (start b) lent s = (start-ends b lent s).leaves
effect-leaves (allocate t size) lent s =
    let v = seen s.control in
    leaves (Calls.allocate_outcome (lengths lent) v t size) s (allocate-ends (lengths lent) v t size).nothing
effect-leaves (free t u) lent s =
    let v = seen s.control in
    leaves (Calls.free_outcome (lengths lent) v t u) s (free-ends (lengths lent) v t u).nothing
effect-leaves (leave t) lent s =
    let v = seen s.control in
    leaves (Calls.leave_outcome (lengths lent) v t) s (leave_ends (lengths lent) v t).nothing
effect-leaves (step t) lent s =
    let v = seen s.control in
    leaves (Calls.step_outcome (lengths lent) v (link s.area) t) s
    (step-ends (lengths lent) v (link s.area) t).nothing
