-- The tests of the calls, and the ways in which a step can end, whatever the two memories hold.
use Prim.Native.Nat.{ℕ, ◌*◌, ◌<◌}
use mathlib.Core.Path.{◌≡◌, refl, sym, ap, subst, ◌∙◌}
use mathlib.Core.Logic.{◌⊎◌, ⊎_elim, inl, inr}
use mathlib.Core.Bool.{Bool, true, false, cond, ◌&&◌, ◌||◌, false≢true}
use mathlib.Core.List.{List, [], ◌∷◌, ◌++◌}
use native.Mathlib.Omega.{arith}
use borrow.Author.Tests.{eq-eqb, le-leb, eqb-true, eqb-false, leb-true, leb-false, ltb-true, ltb-false}
use lib.Dec.{eqb, leb, ltb}
use Rattle.limits.specs.Limits.{CONTROL_BYTES, REGIONS, REGION_BYTES, TASKS, CLASSES, ORDERS, STRIPS_BYTES}
use Rattle.fields.specs.Columns.{View, Write, ◌:=◌, assign, assigned}
use Rattle.links.specs.Link.{LinkWrite}
use Rattle.plain.specs.Moves.{Decided, nothing}
use Rattle.plain.specs.Calls.{Start, Lengths, StartTested, StartFails, start_control, start_lengths, start_tasks}
use Rattle.plain.proofs.CallTests.{start-tested}
use Rattle.control.specs.Layout.{CacheTop, TaskLost, TaskPlace, TaskClass, Tasks, Regions}
use Rattle.control.specs.Losts.{one_more}
use Rattle.control.specs.Places.{IDLE, A1, F1, STRIP_TAKE, STRIP_GIVE, LEAVE_END}
use Rattle.control.specs.Answers.{Answer}
use Rattle.control.specs.Answers.{Accepted, Allocated, Freed, NoDescriptor, NoRegion}
use Rattle.control.specs.Answers.{NoStrip, Refused}
use Rattle.control.specs.declared.moves.Pop.TheVariants.{Spare, Region}
use Rattle.control.specs.declared.moves.Push.TheVariants.{Back}
use Rattle.stepped.specs.Outcome.{Outcome, refuse, bad, accept, over, lose, Memories, Effect, effect}
use Rattle.pieces.specs.StripUnits.{strip_unit}
use Rattle.strip_tree.specs.TreeMoves.{find, found_at, slot_of_node}
use Rattle.stepped.specs.StripSteps.{tree_of}
use Rattle.stepped.specs.Ranges.{one_to, is_block}
use Rattle.stepped.specs.Calls as Calls
use Rattle.stepped.specs.Calls.{Tested, HasTasks, HasRegions, Lent, lengths, start_effect}
use Rattle.stepped.specs.Calls.{FirstFails, control_fails, tasks_fail, not_started, regions_fail, lengths_fail}
use Rattle.stepped.specs.Calls.{task_fails, is_started_lengths}
use Rattle.agreement.specs.Ends.{start_refusals, one_of, test_refusals, place_refusals, step_refusals, Begins}
use Rattle.agreement.specs.Ends.{FindsEmpty, WinsPush, InPush, FindsNoPiece, Counted}
use Rattle.agreement.specs.LostExchanges.{is_lost}
use Rattle.stepped.proofs.CallTests.{one-to, lengths-started, start-failed, start-passed}
use Rattle.agreement.proofs.BothPass.{both_true}

-- a test: what holds of both ways on holds of what follows
pub branch : {A : Type 0} (P : A → Type 0) {x y : A} (b : Bool) → (b ≡ true → P x) → (b ≡ false → P y)
    → P (cond b x y)
branch P true h k = h refl
branch P false h k = k refl

-- ---- answers

-- an accepted call is not refused
pub accepted-no : {n : ℕ} → Accepted ≡ Refused n → ⊥
accepted-no e = false≢true (subst (Begins []) e tt)

-- a number of a list is one of a longer list's
or-more : (a b c : Bool) → (b ≡ true → c ≡ true) → (a || b) ≡ true → (a || c) ≡ true
or-more true b c h k = refl
or-more false b c h k = h k

pub more : (ns ms : List ℕ) (n : ℕ) → one_of ns n ≡ true → one_of (ns ++ ms) n ≡ true
more [] ms n h = absurd (false≢true h)
more (x ∷ ns) ms n h = or-more (eqb n x) (one_of ns n) (one_of (ns ++ ms) n) (more ns ms n) h

-- the one number of a list of one
pub only : (m n : ℕ) → one_of (m ∷ []) n ≡ true → n ≡ m
only m n h = alone (eqb n m) (eqb-true n m) h
  where
    alone : (b : Bool) {X : Type 0} → (b ≡ true → X) → (b || false) ≡ true → X
    alone true k e = k refl
    alone false k e = absurd (false≢true e)

-- ---- the tests 1, 4, 2, 5

module _ (lent : Lengths) (v : View) (t : ℕ) where
  -- what holds of a refusal by the first test that fails, and of what follows them, holds of the call
  pub tests : (P : Outcome → Type 0) (x : Outcome) → ((n : ℕ) → FirstFails lent v t n → P (refuse n))
      → (Tested lent v t → P x) → P (Calls.tested lent v t x)
  unfolding Calls.tested
  tests P x r k =
      branch P (eqb lent.control CONTROL_BYTES) (λ e.
      let c = eqb-true lent.control CONTROL_BYTES e in
      branch P (leb (v Tasks) TASKS) (λ f.
      let few = leb-true (v Tasks) TASKS f in
      branch P (eqb (v Tasks) 0) (λ g. r 4 (not_started c (eqb-true (v Tasks) 0 g))) (λ g.
      let z : v Tasks ≡ 0 → ⊥ = eqb-false (v Tasks) 0 g in
      let T : HasTasks lent v = (c, omega arith, few) in
      branch P (one_to REGIONS (v Regions)) (λ h.
      let R : HasRegions v = one-to REGIONS (v Regions) h in
      branch P (is_started_lengths lent (v Regions)) (λ j.
      let a = lengths-started lent (v Regions) j in
      branch P (ltb t (v Tasks)) (λ l. k (record {
        control_is = c;
        started = T.1;
        tasks = few;
        some = R.0;
        regions = R.1;
        lengths_are = a;
        below = ltb-true t (v Tasks) l;
      }))
      (λ l. r 5 (task_fails T R a (ltb-false t (v Tasks) l))))
      (λ j. r 2 (lengths_fail T R (λ a. false≢true (rw (← j) (both_true
      (eq-eqb lent.area (REGION_BYTES * v Regions) a.0) (eq-eqb lent.strips STRIPS_BYTES a.1)))))))
      (λ h. r 14 (regions_fail T (λ R. false≢true
      (rw (← h) (both_true (le-leb 1 (v Regions) R.0) (le-leb (v Regions) REGIONS R.1))))))))
      (λ f. r 14 (tasks_fail c (leb-false (v Tasks) TASKS f))))
      (λ e. r 1 (control_fails (eqb-false lent.control CONTROL_BYTES e)))

  -- a call passes them, or one is the first to fail
  pub fails-or-passes : ((n : ℕ) × FirstFails lent v t n) ⊎ Tested lent v t
  fails-or-passes =
      tests (λ o. ((n : ℕ) × FirstFails lent v t n) ⊎ Tested lent v t) bad (λ n F. inl (n, F)) (λ T. inr T)

-- the first that fails refuses by one of the tests' numbers
pub among-tests : {lent : Lengths} {v : View} {t n : ℕ} → FirstFails lent v t n → one_of test_refusals n ≡ true
among-tests (control_fails h) = refl
among-tests (tasks_fail c h) = refl
among-tests (not_started c h) = refl
among-tests (regions_fail T h) = refl
among-tests (lengths_fail T R h) = refl
among-tests (task_fails T R a h) = refl

-- ---- the tests 1, 2, 3 of a start

-- what holds of a refusal, and of an accepted start, holds of a start
pub start-tests : (P : Effect → Type 0) (b : Start) (lent : Lent) (s : Memories)
    → ((n : ℕ) → StartFails b (lengths lent) n → P (effect (refuse n) s))
    → (StartTested b (lengths lent) → P (start_effect b lent)) → P (Calls.start_in b lent s)
start-tests P b lent s r k =
    ⊎_elim (λ F. subst P (sym (start-failed b lent s F.1)) (r F.0 F.1))
    (λ T. subst P (sym (start-passed b lent s T)) (k T)) (start-tested b (lengths lent))

-- a start is refused by one of its numbers
pub among-start-tests : {b : Start} {lent : Lengths} {n : ℕ} → StartFails b lent n
    → one_of start_refusals n ≡ true
among-start-tests (start_control h) = refl
among-start-tests (start_lengths c h) = refl
among-start-tests (start_tasks c a h) = refl

-- ---- the ways out of a step

-- "If the cache has a block, take the top, set its mark and finish": the task t is at step 1 of an allocation, and u is
-- the top of its cache, a block of its request's class in the area.
pub record TakesTop (v : View) (t u : ℕ) : Type 0 where
  pub place : v (TaskPlace t) ≡ A1
  pub class : v (TaskClass t) < CLASSES
  pub top : u ≡ v (CacheTop t (v (TaskClass t)))
  pub is-block : is_block (v Regions) (v (TaskClass t)) u ≡ true

-- a strip is taken: the task t is at that place, and the free piece that is found is the one of this unit
pub record TakesStrip (v : View) (t u : ℕ) : Type 0 where
  pub place : v (TaskPlace t) ≡ STRIP_TAKE
  pub order : v (TaskClass t) < ORDERS
  pub node : ℕ
  pub found-order : ℕ
  pub found : find (tree_of v) (v (TaskClass t)) ≡ found_at node found-order
  pub is : u ≡ strip_unit (slot_of_node found-order node)

-- why a step gives an answer that ends the request
abbrev pub Cause : View → ℕ → Answer → Type 0
Cause v t Accepted = ⊥
Cause v t (Allocated u) = TakesTop v t u ⊎ TakesStrip v t u
Cause v t Freed = (v (TaskPlace t) ≡ F1) ⊎ ((v (TaskPlace t) ≡ STRIP_GIVE) ⊎ (v (TaskPlace t) ≡ LEAVE_END))
Cause v t NoDescriptor = FindsEmpty Spare v t
Cause v t NoRegion = WinsPush Back v t
Cause v t NoStrip = FindsNoPiece v t
Cause v t (Refused n) = ⊥

-- How a step of the task t ends: with a refusal by one of the numbers ns, with the request under way, or with the
-- request's end. It comes to the push back from the empty list of spare regions, or from that push itself. A lost
-- exchange is counted, and nothing else is.
pub data Ending (ns : List ℕ) (v : View) (t : ℕ) : Outcome → Type 0 where
  refused : {n : ℕ} → one_of ns n ≡ true → Ending ns v t (refuse n)
  going : {e : Decided} {ws : List Write} {ls : List LinkWrite}
      → (InPush Back (assigned ws v (TaskPlace t)) → FindsEmpty Region v t ⊎ InPush Back (v (TaskPlace t)))
      → Counted v t e ws → Ending ns v t (accept e ws ls)
  ended : {a : Answer} {e : Decided} {ws : List Write} {ls : List LinkWrite} → Cause v t a
      → assigned ws v (TaskPlace t) ≡ IDLE → Counted v t e ws → Ending ns v t (over a e ws ls)

-- writes that leave the place of the task t, and every count of lost exchanges
abbrev pub Keeps : ℕ → List Write → Type 0
Keeps t ws =
    (u : View) → (assigned ws u (TaskPlace t) ≡ u (TaskPlace t))
    × ((j : ℕ) → assigned ws u (TaskLost j) ≡ u (TaskLost j))

-- a place that is written, before such writes
pub sent : (v : View) (t q : ℕ) (ws : List Write) → Keeps t ws → assigned (TaskPlace t := q ∷ ws) v (TaskPlace t) ≡ q
sent v t q ws h = (h (assign (TaskPlace t := q) v)).0 ∙ rw (eq-eqb t t refl)

-- such writes count nothing, and no exchange is lost by their move
uncounted : (v : View) (t : ℕ) (e : Decided) (ws : List Write) → is_lost e ≡ false
    → ((j : ℕ) → assigned ws v (TaskLost j) ≡ v (TaskLost j)) → Counted v t e ws
uncounted v t e ws n h j = rw n (h j)

-- how the step at the place of the task t ends, and how the call of a step does
abbrev pub PlaceEnding : View → ℕ → Outcome → Type 0
PlaceEnding = Ending place_refusals

abbrev pub CallEnding : View → ℕ → Outcome → Type 0
CallEnding = Ending step_refusals

-- the numbers by which the step at a place can be refused are among those of the call
pub at_call : {v : View} {t : ℕ} {o : Outcome} → PlaceEnding v t o → CallEnding v t o
at_call (refused {n} h) = refused (subst (λ (m : ℕ). one_of step_refusals m ≡ true) (sym (only 14 n h)) refl)
at_call (going h c) = going h c
at_call (ended k h c) = ended k h c

-- the step at a place
module _ {v : View} {t : ℕ} where
  pub wrong : PlaceEnding v t bad
  wrong = refused refl

  -- a test
  pub either : {o o' : Outcome} (b : Bool) → PlaceEnding v t o → PlaceEnding v t o' → PlaceEnding v t (cond b o o')
  either b h k = branch (PlaceEnding v t) b (λ e. h) (λ e. k)

  -- a test against 14
  pub test : {o : Outcome} (b : Bool) → PlaceEnding v t o → PlaceEnding v t (cond b o bad)
  test b h = either b h wrong

  -- to a place that is none of the push back's, by a move that is no lost exchange
  pub to : {e : Decided} (q : ℕ) {ws : List Write} {ls : List LinkWrite} → (InPush Back q → ⊥) → Keeps t ws
      → is_lost e ≡ false → PlaceEnding v t (accept e (TaskPlace t := q ∷ ws) ls)
  to {e} q {ws} n h l =
      going (λ i. absurd (n (subst (InPush Back) (sent v t q ws h) i)))
      (uncounted v t e (TaskPlace t := q ∷ ws) l (h (assign (TaskPlace t := q) v)).1)

  -- to the same place again
  pub stay : {ws : List Write} {ls : List LinkWrite} → Keeps t ws → PlaceEnding v t (accept nothing ws ls)
  stay {ws} h =
      going (λ i. inr (subst (InPush Back) (h v).0 i)) (uncounted v t nothing ws refl (h v).1)

  -- to idle
  pub finish : {a : Answer} {e : Decided} {ws : List Write} {ls : List LinkWrite} → Cause v t a → Keeps t ws
      → is_lost e ≡ false → PlaceEnding v t (over a e (TaskPlace t := IDLE ∷ ws) ls)
  finish {e = e} {ws = ws} k h l =
      ended k (sent v t IDLE ws h)
      (uncounted v t e (TaskPlace t := IDLE ∷ ws) l (h (assign (TaskPlace t := IDLE) v)).1)

  -- a lost exchange, back to a place q that is none of the push back's, or from one of them
  pub back : {e : Decided} (q : ℕ) → (InPush Back q → InPush Back (v (TaskPlace t))) → is_lost e ≡ true
      → PlaceEnding v t (lose v t e q)
  back q h l =
      let ws = TaskPlace t := q ∷ TaskLost t := one_more (v (TaskLost t)) ∷ [] in
      let there : assigned ws v (TaskPlace t) ≡ q = rw (eq-eqb t t refl) in
      going (λ i. inr (h (subst (InPush Back) there i)))
      (λ j. ap (λ (b : Bool). cond (b && eqb t j) (one_more (v (TaskLost t))) (v (TaskLost j))) (sym l))
