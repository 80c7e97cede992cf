-- docs/POOL.md, "Calls and refusals"
-- How a call ends, whatever the memories hold: what a refusal leaves, which numbers refuse, when "no descriptor", "no
-- region" and 16 come, what becomes of the counts of lost exchanges, and the class or the order that a size gets.
use Rattle.std.specs.Prelude.{ℕ, ◌+◌, ◌-◌, ◌^◌, ◌≤◌, ◌<◌, ◌≡◌, List, [], ◌∷◌, ◌++◌, Bool, true, false, cond, ◌&&◌, ◌||◌}
use Rattle.std.specs.Prelude.{eqb}
use Rattle.limits.specs.Limits.{CLASSES, ORDERS, LARGEST_SIZE, LARGEST_STRIP}
use Rattle.fields.specs.Columns.{View, Write, ◌:=◌, assigned}
use Rattle.words.specs.Head.{item_of}
use Rattle.classes.specs.Classes.{block}
use Rattle.classes.specs.Sizes.{class_of}
use Rattle.plain.specs.Moves.{Decided}
use Rattle.control.specs.Layout.{Head, TaskHead, TaskLost, TaskPlace, TaskClass, Regions}
use Rattle.control.specs.Losts.{one_more}
use Rattle.pieces.specs.StripSizes.{order_of, RoundsTo}
use Rattle.strip_tree.specs.Trees.{is_free_node}
use Rattle.control.specs.Places.{IDLE, A1, STRIP_TAKE}
use Rattle.control.specs.Places.{TO_EXCHANGE}
use Rattle.control.specs.Answers.{Answer}
use Rattle.control.specs.Answers.{Accepted, Allocated, Freed, NoDescriptor}
use Rattle.control.specs.Answers.{NoRegion, NoStrip, Refused}
use Rattle.control.specs.declared.moves.Pop.{Pop}
use Rattle.control.specs.declared.moves.Push.{Push}
use Rattle.stepped.specs.Outcome.{Outcome, Memories, Effect, memories_after}
use Rattle.stepped.specs.StripSteps.{tree_of}
use Rattle.stepped.specs.Lists.{how_many, hand_field, pop_place, pop_list, push_place, push_list, push_items}
use Rattle.agreement.specs.LostExchanges.{is_lost}

-- ---- refusals

-- "A refused call .. leaves both memories unchanged": it writes no field and no link
abbrev pub WritesNothing : Outcome → Type 0
WritesNothing o = (n : ℕ) → o.answer ≡ Refused n → (o.writes ≡ []) × (o.links ≡ [])

-- "A refused call .. leaves both memories unchanged": the bytes are those of the memories s
abbrev pub Leaves : Effect → Memories → Type 0
Leaves e s = (n : ℕ) → e.answer ≡ Refused n → memories_after e ≡ s

-- n is one of the numbers ns
abbrev pub one_of : List ℕ → ℕ → Bool
one_of [] n = false
one_of (m ∷ ms) n = eqb n m || one_of ms n

-- the numbers by which a start can be refused: "Start tests 1, 2, 3."
abbrev pub start_refusals : List ℕ
start_refusals = 1 ∷ 2 ∷ 3 ∷ []

-- the numbers by which the tests that every call but a start passes first can refuse it: "Other calls test 1, 4, 2, 5",
-- and 14 where the started number of tasks or of regions is outside its range
abbrev pub test_refusals : List ℕ
test_refusals = 1 ∷ 4 ∷ 2 ∷ 5 ∷ 14 ∷ []

-- the numbers by which the beginning of an allocation can be refused: those of the tests, and "6 .., then 8, 9"
abbrev pub allocate_refusals : List ℕ
allocate_refusals = test_refusals ++ (6 ∷ 8 ∷ 9 ∷ [])

-- the numbers by which the beginning of a free can be refused: those of the tests, and "6 .., then .. 10, 11"
abbrev pub free_refusals : List ℕ
free_refusals = test_refusals ++ (6 ∷ 10 ∷ 11 ∷ [])

-- the numbers by which the beginning of leaving can be refused: those of the tests, and 6: "Tests for a request in hand
-- apply as for any other" (the request for leaving)
abbrev pub leave_refusals : List ℕ
leave_refusals = test_refusals ++ (6 ∷ [])

-- the numbers by which a step can be refused: those of the tests, "or 7"
abbrev pub step_refusals : List ℕ
step_refusals = test_refusals ++ (7 ∷ [])

-- the numbers by which the step at a task's place can be refused: "14 comes where the bad value is read"
abbrev pub place_refusals : List ℕ
place_refusals = 14 ∷ []

-- the answer of a start or of the beginning of a request: accepted, or refused by one of the numbers ns
abbrev pub Begins : List ℕ → Answer → Type 0
Begins ns Accepted = Unit {0}
Begins ns (Allocated u) = ⊥
Begins ns Freed = ⊥
Begins ns NoDescriptor = ⊥
Begins ns NoRegion = ⊥
Begins ns NoStrip = ⊥
Begins ns (Refused n) = one_of ns n ≡ true

-- the answer of a step: still under way, a request's end, or refused by one of the numbers ns
abbrev pub StepAnswers : List ℕ → Answer → Type 0
StepAnswers ns Accepted = Unit {0}
StepAnswers ns (Allocated u) = Unit {0}
StepAnswers ns Freed = Unit {0}
StepAnswers ns NoDescriptor = Unit {0}
StepAnswers ns NoRegion = Unit {0}
StepAnswers ns NoStrip = Unit {0}
StepAnswers ns (Refused n) = one_of ns n ≡ true

-- how a start ends, by its effect on the memories s
pub record StartEnds (s : Memories) (e : Effect) : Type 0 where
  pub leaves : Leaves e s
  pub answers : Begins start_refusals e.answer

-- a beginning sets the count to zero: after the writes ws the task t has lost no exchange, and no other task's count is
-- changed
abbrev pub Cleared : View → ℕ → List Write → Type 0
Cleared v t ws = (j : ℕ) → assigned ws v (TaskLost j) ≡ cond (eqb t j) 0 (v (TaskLost j))

-- how the beginning of a request of the task t ends, which the numbers ns can refuse
pub record BeginEnds (ns : List ℕ) (v : View) (t : ℕ) (o : Outcome) : Type 0 where
  pub nothing : WritesNothing o
  pub answers : Begins ns o.answer
  pub cleared : o.answer ≡ Accepted → Cleared v t o.writes

-- ---- steps

-- "Read head (this finds an empty list)": the task t is at the head read of the pop p, and that list is empty.
pub record FindsEmpty (p : Pop) (v : View) (t : ℕ) : Type 0 where
  pub place : v (TaskPlace t) ≡ pop_place p
  pub class : v (TaskClass t) < CLASSES
  pub empty : item_of (v (Head (pop_list p (v (TaskClass t))))) ≡ 0

-- The task t is at the exchange of the push p, and wins it: its item and the noted head are in their ranges, and the
-- head word is the noted one.
pub record WinsPush (p : Push) (v : View) (t : ℕ) : Type 0 where
  pub place : v (TaskPlace t) ≡ push_place p + TO_EXCHANGE
  pub class : v (TaskClass t) < CLASSES
  pub item : v (hand_field (push_items p) t) < how_many (push_items p) (v Regions)
  pub noted : item_of (v (TaskHead t)) ≤ how_many (push_items p) (v Regions)
  pub same : v (Head (push_list p (v (TaskClass t)))) ≡ v (TaskHead t)

-- the place is one of the three of the push p
pub record InPush (p : Push) (place : ℕ) : Type 0 where
  pub from : push_place p ≤ place
  pub to : place ≤ push_place p + TO_EXCHANGE

-- where the outcome o leaves the task t: idle, or a place in the step list
abbrev pub place_after : Outcome → View → ℕ → ℕ
place_after o v t = assigned o.writes v (TaskPlace t)

-- "a request's end": the answers that end one
abbrev pub IsEnd : Answer → Type 0
IsEnd Accepted = ⊥
IsEnd (Allocated u) = Unit {0}
IsEnd Freed = Unit {0}
IsEnd NoDescriptor = Unit {0}
IsEnd NoRegion = Unit {0}
IsEnd NoStrip = Unit {0}
IsEnd (Refused n) = ⊥

-- "16 ends a request": the task t is to take a strip, and no node of its order or of a larger one is a free piece.
pub record FindsNoPiece (v : View) (t : ℕ) : Type 0 where
  pub place : v (TaskPlace t) ≡ STRIP_TAKE
  pub order : v (TaskClass t) < ORDERS
  pub none : (i : ℕ) → 1 ≤ i → i < 2 ^ (ORDERS - v (TaskClass t)) → is_free_node (tree_of v) i ≡ false

-- "The pop and push of a list, and the change of an anchor, are to count the lost exchanges" (the request for lost
-- exchanges): after the writes ws of a step of the task t that decided e, its count is one more if e is a lost
-- exchange, and no other count is changed
abbrev pub Counted : View → ℕ → Decided → List Write → Type 0
Counted v t e ws =
    (j : ℕ) → assigned ws v (TaskLost j) ≡ cond (is_lost e && eqb t j) (one_more (v (TaskLost t))) (v (TaskLost j))

-- How a step ends: "12 and 13 .. are a request's end .. and leave the task idle", and so do 16 and a finish. The lost
-- exchange that it may be is counted.
pub record StepEnds (v : View) (t : ℕ) (o : Outcome) : Type 0 where
  pub nothing : WritesNothing o
  pub answers : StepAnswers step_refusals o.answer
  pub idle : IsEnd o.answer → place_after o v t ≡ IDLE
  pub counted : Counted v t o.decided o.writes

-- ---- sizes

-- The allocation of a small block of `size` bytes has begun: nothing but the task's place, its class and its lost
-- exchanges, none, is written, and the class is the smallest whose block holds the size.
pub record BegunOutcome (t size : ℕ) (o : Outcome) : Type 0 where
  pub from : 1 ≤ size
  pub to : size ≤ LARGEST_SIZE
  pub writes : o.writes ≡ (TaskPlace t := A1 ∷ TaskClass t := class_of size ∷ TaskLost t := 0 ∷ [])
  pub class : class_of size < CLASSES
  pub holds : size ≤ block (class_of size)
  pub smallest : (c : ℕ) → c < class_of size → block c < size

-- The allocation of a strip has begun: the order stands where the class does, and it is the smallest whose strip holds
-- the size.
pub record BegunStripOutcome (t size : ℕ) (o : Outcome) : Type 0 where
  pub from : LARGEST_SIZE < size
  pub to : size ≤ LARGEST_STRIP
  pub writes : o.writes ≡ (TaskPlace t := STRIP_TAKE ∷ TaskClass t := order_of size ∷ TaskLost t := 0 ∷ [])
  pub rounds : RoundsTo size (order_of size)
