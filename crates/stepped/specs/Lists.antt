-- docs/POOL.md, "Requests, steps and moves"
-- The pops and pushes of the step list, each in three steps. "Pop of a list: read head (this finds an empty list); read
-- the item's next; exchange. Push: read head; write the item's next; exchange. A lost exchange goes back to the head
-- read."
use Rattle.std.specs.Prelude.{ℕ, ◌+◌, ◌-◌, cond, ◌&&◌, List, [], ◌∷◌, ltb, leb, eqb}
use Rattle.limits.specs.Limits.{DESCRIPTORS, SPARE_DESCRIPTORS, SPARE_REGIONS}
use Rattle.fields.specs.Columns.{Field, View, Write, ◌:=◌}
use Rattle.words.specs.Head.{item_of, advanced_word}
use Rattle.words.specs.Anchor.{FULL, is_state}
use Rattle.classes.specs.Classes.{per_region}
use Rattle.plain.specs.Moves.{Decided, nothing, found_empty, popped, pushed, lost}
use Rattle.control.specs.Layout.{Head, TaskHead, CacheCount, GroupCount, TaskPlace, TaskNext, TaskDescriptor}
use Rattle.control.specs.Layout.{TaskRegion, TaskState, TaskUnit, LEAVING, DescriptorNext, RegionNext}
use Rattle.control.specs.Places.{IDLE, A3_READ, A7, F1, F2, POP_PARTIAL, POP_SPARE, POP_REGION, PUSH_RETIRE}
use Rattle.control.specs.Places.{PUSH_BACK, PUSH_RELEASE, PUSH_OFFER}
use Rattle.control.specs.Places.{TO_NEXT, TO_EXCHANGE}
use Rattle.control.specs.Answers.{NoDescriptor, NoRegion}
use Rattle.control.specs.declared.moves.Pop.{Pop}
use Rattle.control.specs.declared.moves.Pop.TheVariants.{Partial, Spare, Region}
use Rattle.control.specs.declared.moves.Push.{Push}
use Rattle.control.specs.declared.moves.Push.TheVariants.{Retire, Back, Release, Offer}
use Rattle.stepped.specs.Outcome.{Outcome, bad, accept, over, lose}
use Rattle.stepped.specs.Ranges.{one_to}
use Rattle.stepped.specs.Leaving.{leave_from}

-- ---- the places of the moves: each has three in a row, from its first

-- the first place of a pop
abbrev pub pop_place : Pop → ℕ
pop_place Partial = POP_PARTIAL
pop_place Spare = POP_SPARE
pop_place Region = POP_REGION

-- the first place of a push
abbrev pub push_place : Push → ℕ
push_place Retire = PUSH_RETIRE
push_place Back = PUSH_BACK
push_place Release = PUSH_RELEASE
push_place Offer = PUSH_OFFER

-- ---- the items of the lists: descriptors, or regions

-- what the items of a list are
pub data Items : Type 0 where
  descriptor_items region_items : Items

-- how many items of a kind there are, in an area of so many regions
abbrev pub how_many : Items → ℕ → ℕ
how_many descriptor_items regions = DESCRIPTORS
how_many region_items regions = regions

-- where the next of an item stands: "Each item's next is in control memory"
abbrev pub next_field : Items → ℕ → Field
next_field descriptor_items = DescriptorNext
next_field region_items = RegionNext

-- where the item stands that the task t has in hand
abbrev pub hand_field : Items → ℕ → Field
hand_field descriptor_items = TaskDescriptor
hand_field region_items = TaskRegion

-- ---- the list of a move, for a request of the class c, and what its items are

-- the list of a pop
abbrev pub pop_list : Pop → ℕ → ℕ
pop_list Partial c = c
pop_list Spare c = SPARE_DESCRIPTORS
pop_list Region c = SPARE_REGIONS

-- what the items of the list of a pop are
abbrev pub pop_items : Pop → Items
pop_items Partial = descriptor_items
pop_items Spare = descriptor_items
pop_items Region = region_items

-- the list of a push
abbrev pub push_list : Push → ℕ → ℕ
push_list Retire c = SPARE_DESCRIPTORS
push_list Back c = SPARE_DESCRIPTORS
push_list Release c = SPARE_REGIONS
push_list Offer c = c

-- what the items of the list of a push are; the task has in hand the one that it pushes
abbrev pub push_items : Push → Items
push_items Retire = descriptor_items
push_items Back = descriptor_items
push_items Release = region_items
push_items Offer = descriptor_items

-- v: what stands in the fields; regions: the started number of them; t: the task, whose class is c
module _ (v : View) (regions t c : ℕ) where
  -- where the empty cache of the class c leads, by the task's unit: free's step 6, "Else 1"; leaving goes on with the
  -- classes above c
  unfoldable pub when_returned : Decided → List Write → Outcome
  when_returned e ws =
      let u = v (TaskUnit t) in
      cond (leb u LEAVING)
      (cond (eqb u LEAVING) (leave_from v t (c + 1) e ws) (accept e (TaskPlace t := F1 ∷ ws) []))
      bad

  -- free, step 6: "Cache not empty: 2. Else 1.", after the writes ws of the move e
  unfoldable pub f6 : Decided → List Write → Outcome
  f6 e ws =
      let k = v (CacheCount t c) in
      cond (leb k (per_region c))
      (cond (eqb k 0) (when_returned e ws) (accept e (TaskPlace t := F2 ∷ GroupCount t := 0 ∷ ws) []))
      bad

  -- free, step 5: "If it was FULL: push the descriptor on the partial list"
  unfoldable pub f5 : ℕ → Decided → List Write → Outcome
  f5 was e ws = cond (eqb was FULL) (accept e (TaskPlace t := push_place Offer ∷ ws) []) (f6 e ws)

  -- ---- pops

  -- where a pop that finds its list empty leads: step 2 "Empty: go to 5", step 5 "Empty: end with 12", step 6 "Empty:
  -- push the descriptor back"
  abbrev pub when_empty : Pop → Decided → Outcome
  when_empty Partial e = accept e (TaskPlace t := pop_place Spare ∷ []) []
  when_empty Spare e = over NoDescriptor e (TaskPlace t := IDLE ∷ []) []
  when_empty Region e = accept e (TaskPlace t := push_place Back ∷ []) []

  -- "read head (this finds an empty list)"
  unfoldable pub pop_read : Pop → Outcome
  pop_read p =
      let word = v (Head (pop_list p c)) in
      cond (eqb (item_of word) 0)
      (when_empty p (found_empty (pop_list p c)))
      (cond (leb (item_of word) (how_many (pop_items p) regions))
      (accept nothing (TaskPlace t := (pop_place p + TO_NEXT) ∷ TaskHead t := word ∷ []) [])
      bad)

  -- "read the item's next", that of the item x
  unfoldable pub pop_next_of : Pop → ℕ → Outcome
  pop_next_of p x =
      let next = v (next_field (pop_items p) x) in
      cond (leb next (how_many (pop_items p) regions))
      (accept nothing (TaskPlace t := (pop_place p + TO_EXCHANGE) ∷ TaskNext t := next ∷ []) [])
      bad

  -- "read the item's next": the item is that of the noted head
  unfoldable pub pop_next : Pop → Outcome
  pop_next p =
      let item = item_of (v (TaskHead t)) in
      cond (one_to (how_many (pop_items p) regions) item) (pop_next_of p (item - 1)) bad

  -- where a won pop of the item x leads: step 2 to 3, step 5 to 6, step 6 to 7; ws is the exchange
  abbrev pub when_popped : Pop → ℕ → Decided → List Write → Outcome
  when_popped Partial x e ws = accept e (TaskPlace t := A3_READ ∷ TaskDescriptor t := x ∷ ws) []
  when_popped Spare x e ws = accept e (TaskPlace t := pop_place Region ∷ TaskDescriptor t := x ∷ ws) []
  when_popped Region x e ws = accept e (TaskPlace t := A7 ∷ TaskRegion t := x ∷ ws) []

  -- "exchange": won where the head word is the noted one
  unfoldable pub pop_exchange : Pop → Outcome
  pop_exchange p =
      let ℓ = pop_list p c in
      let items = how_many (pop_items p) regions in
      let word = v (TaskHead t) in
      let next = v (TaskNext t) in
      let x = item_of word - 1 in
      cond (one_to items (item_of word) && leb next items && leb (item_of (v (Head ℓ))) items)
      (cond (eqb (v (Head ℓ)) word)
      (when_popped p x (popped ℓ x) (Head ℓ := advanced_word word next ∷ []))
      (lose v t (lost ℓ) (pop_place p)))
      bad

  -- ---- pushes

  -- "read head": the head word is noted
  unfoldable pub push_read : Push → Outcome
  push_read p =
      let word = v (Head (push_list p c)) in
      cond (leb (item_of word) (how_many (push_items p) regions))
      (accept nothing (TaskPlace t := (push_place p + TO_NEXT) ∷ TaskHead t := word ∷ []) [])
      bad

  -- "write the item's next": what is below the item will be what is on top now, the noted head's item
  unfoldable pub push_next : Push → Outcome
  push_next p =
      let x = v (hand_field (push_items p) t) in
      let below = item_of (v (TaskHead t)) in
      cond (ltb x (how_many (push_items p) regions) && leb below (how_many (push_items p) regions))
      (accept nothing (TaskPlace t := (push_place p + TO_EXCHANGE) ∷ next_field (push_items p) x := below ∷ []) [])
      bad

  -- where a won push leads: step 3 "then 2", step 6 "the request ends with 13 at that won exchange", free's 4 and 5
  abbrev pub when_pushed : Push → Decided → List Write → Outcome
  when_pushed Retire e ws = accept e (TaskPlace t := pop_place Partial ∷ ws) []
  when_pushed Back e ws = over NoRegion e (TaskPlace t := IDLE ∷ ws) []
  when_pushed Release e ws = cond (is_state (v (TaskState t))) (f5 (v (TaskState t)) e ws) bad
  when_pushed Offer e ws = f6 e ws

  -- "exchange": won where the head word is the noted one
  unfoldable pub push_exchange : Push → Outcome
  push_exchange p =
      let ℓ = push_list p c in
      let items = how_many (push_items p) regions in
      let word = v (TaskHead t) in
      let x = v (hand_field (push_items p) t) in
      cond (ltb x items && leb (item_of word) items && leb (item_of (v (Head ℓ))) items)
      (cond (eqb (v (Head ℓ)) word)
      (when_pushed p (pushed ℓ x) (Head ℓ := advanced_word word (x + 1) ∷ []))
      (lose v t (lost ℓ) (push_place p)))
      bad
