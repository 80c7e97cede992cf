-- docs/POOL.md, "Calls and refusals"
-- What the demands say of a call's answer: refusals, a request's end, the class or the order that a size gets.
use Rattle.std.specs.Prelude.{◌≡◌, ◌≢◌, Bool, true, [], ◌∷◌, ℕ, ◌≤◌, ◌<◌}
use Rattle.limits.specs.Limits.{CLASSES}
use Rattle.control.specs.Places.{A1, STRIP_TAKE}
use Rattle.control.specs.Answers.{code_in}
use Rattle.fields.specs.Columns.{◌:=◌}
use Rattle.classes.specs.Classes.{block}
use Rattle.pieces.specs.StripSizes.{RoundsTo}
use Rattle.control.specs.Layout.{seen, changed, TaskPlace, TaskClass, TaskUnit, TaskLost, LEAVING}
use Rattle.plain.specs.Calls.{Call, start, allocate, free, leave, step}
use Rattle.stepped.specs.Outcome.{Memories}
use Rattle.stepped.specs.Leaving.{next_cached, leave_writes}
use Rattle.agreement.specs.Ends.{one_of}

-- "A refused call answers the number": 1 to 14, but for 12 and 13, which "refuse no call". 16 is past them: it "ends a
-- request" (the request for strips), and refuses no call either.
abbrev pub Refusal : ℕ → Type 0
Refusal r = (1 ≤ r) × (r ≤ 14) × (r ≢ 12) × (r ≢ 13)

-- "12 and 13 .. are a request's end"; "16 ends a request" (the request for strips); and so does "20 finished": whether
-- a code does
abbrev pub ends_request : ℕ → Bool
ends_request code = one_of (12 ∷ 13 ∷ 16 ∷ 20 ∷ []) code

-- the number that a call answers ends a request, by its code
abbrev pub EndsRequest : ℕ → Type 0
EndsRequest r = ends_request (code_in r) ≡ true

-- a call of another task than u; a start is a call of none
abbrev pub OfAnother : ℕ → Call → Type 0
OfAnother u (start b) = ⊥
OfAnother u (allocate t size) = u ≢ t
OfAnother u (free t unit) = u ≢ t
OfAnother u (leave t) = u ≢ t
OfAnother u (step t) = u ≢ t

-- "Beginning a request does no step": that of an allocation has set the task's place, its class, or order, and its lost
-- exchanges to none, and changed no other byte.
pub record Begun (t place class : ℕ) (before after : Memories) : Type 0 where
  pub control_is : after.control
      ≡ changed (TaskPlace t := place ∷ TaskClass t := class ∷ TaskLost t := 0 ∷ []) before.control
  pub area_is : after.area ≡ before.area
  pub strips_is : after.strips ≡ before.strips

-- "A size gets the smallest class that holds it": the allocation of a small block has begun, of the smallest class
-- whose block holds the size.
pub record BegunBlock (t size : ℕ) (before after : Memories) : Type 0 where
  pub class : ℕ
  pub is_class : class < CLASSES
  pub holds : size ≤ block class
  pub smallest : (c : ℕ) → c < class → block c < size
  pub begun : Begun t A1 class before after

-- "A size is rounded up to a power of two, at least 512" (the request for strips): the allocation of a strip has begun,
-- of the smallest order whose strip holds the size.
pub record BegunStrip (t size : ℕ) (before after : Memories) : Type 0 where
  pub order : ℕ
  pub rounds : RoundsTo size order
  pub begun : Begun t STRIP_TAKE order before after

-- "Beginning a request does no step": that of leaving has set the task's place, and its class and a group of none where
-- it goes on with a cache, LEAVING in the place of a unit, and no lost exchange; it changed no other byte. The cache is
-- the first that is not empty, "in rising order of class" (the request for leaving); with all empty the task is at the
-- last step.
pub record BegunLeaving (t : ℕ) (before after : Memories) : Type 0 where
  pub control_is : let v = seen before.control in
      after.control
      ≡ changed (leave_writes v t (next_cached v t 0) (TaskUnit t := LEAVING ∷ TaskLost t := 0 ∷ [])) before.control
  pub area_is : after.area ≡ before.area
  pub strips_is : after.strips ≡ before.strips
