-- docs/POOL.md, "The plain pool"
-- The steps of the plain pool. "In the whole run a move happens in full at its deciding step and its other steps change
-- no list or chain."
use Rattle.std.specs.Prelude.{◌≡◌, List, ◌∷◌, ◌++◌, [], ℕ, zero, suc, length}
use Rattle.std.proofs.Math.Decide.{ℕ_discrete, dec_lt}
use Rattle.limits.specs.Limits.{SPARE_DESCRIPTORS, SPARE_REGIONS}
use Rattle.rows.specs.Branch.{if, both}
use Rattle.rows.specs.Update.{update}
use Rattle.classes.specs.Classes.{per_region}
use Rattle.classes.specs.Geometry.{unit_of, region_of}
use Rattle.pieces.specs.Strips.{StripTaken, none_found, strip_at, take_strip, give_strip}
use Rattle.pieces.specs.StripUnits.{strip_unit}
use Rattle.plain.specs.State.{State, EMPTY, PARTIAL, FULL, state_number, Descriptor, Note, Phase, read, next}
use Rattle.plain.specs.State.{exchange, Pop, partial, spare, region, Push, retire, back, release, offer, Place}
use Rattle.plain.specs.State.{idle, a1, popping, pushing, a3-read, a3-exchange, a4, a7, a8, f1, f2, f3-read}
use Rattle.plain.specs.State.{f3-link, f3-exchange, f4-clear, Mem, set_task, set_row, set_descriptor, set_map}
use Rattle.plain.specs.State.{set_hands, Work, working, strip-take, strip-give, leave-end, set_strips, Purpose}
use Rattle.plain.specs.State.{to_free}
use Rattle.plain.specs.Moves.{Decided, nothing, found_empty, popped, pushed, lost, anchor_empty, took, gave}
use Rattle.plain.specs.Moves.{anchor_lost, strip_taken, strip_given, no_strip, Answer, going, finished}
use Rattle.plain.specs.Moves.{finished_by, ended, refused}
unfoldable pub use Rattle.plain.specs.AfterReturn.{if_none, leave_from, when_returned, f6, f5}

-- a step gives the pool after it and the answer
abbrev pub Result : Type 0
Result = Mem × Answer

-- the first item of a row, plus one; 0 for an empty row
abbrev pub top : List ℕ → ℕ
top [] = 0
top (x ∷ q) = suc x

-- ---- which list a move is of, and which item it pushes

-- the list of a pop
abbrev pub pop_list : Pop → ℕ
pop_list (partial c) = c
pop_list (spare c) = SPARE_DESCRIPTORS
pop_list (region c d) = SPARE_REGIONS

-- the list of a push
abbrev pub push_list : Push → ℕ
push_list (retire c d) = SPARE_DESCRIPTORS
push_list (back c d) = SPARE_DESCRIPTORS
push_list (release c z d w r) = SPARE_REGIONS
push_list (offer c z d) = c

-- the item of a push
abbrev pub push_item : Push → ℕ
push_item (retire c d) = d
push_item (back c d) = d
push_item (release c z d w r) = r
push_item (offer c z d) = d

-- ---- where a decided move leads: "a branch on what was read is no step"

-- allocate, step 4: "Move the taken chain to the cache, .. ; after the last, 1"; of an empty chain nothing is moved
-- (nor is one ever taken: the anchor was PARTIAL)
abbrev pub moving : ℕ → List ℕ → Work
moving c [] = a1 c
moving c (x ∷ q) = a4 c x q

-- a pop that found its list empty: step 2 "Empty: go to 5", step 5 "Empty: end with 12", step 6 "Empty: push the
-- descriptor back"
abbrev pub when_empty : Pop → Decided → Place × Answer
when_empty (partial c) e = (working (popping (spare c) read), going e)
when_empty (spare c) e = (idle, ended 12 e)
when_empty (region c d) e = (working (pushing (back c d) read), going e)

-- a pop that was won with the item x
abbrev pub when_popped : Pop → ℕ → Work
when_popped (partial c) x = a3-read c x
when_popped (spare c) x = popping (region c x) read
when_popped (region c d) x = a7 c d x

-- a push that was won: step 3 "then 2", step 6 "the request ends with 13 at that won exchange", free's 4 and 5
abbrev pub when_pushed : Push → (ℕ → List ℕ) → Decided → Place × Answer
when_pushed (retire c d) k e = (working (popping (partial c) read), going e)
when_pushed (back c d) k e = (idle, ended 13 e)
when_pushed (release c z d w r) k e = (working (f5 w k c z d), going e)
when_pushed (offer c z d) k e = (working (f6 k c z), going e)

-- ---- anchors

-- "An anchor read notes the state and the chain's first block, if any, and length."
abbrev pub note_of : Descriptor → Note
note_of D = record { state = D.state; first = top D.chain; length = length D.chain }

-- "The exchange is won exactly if all three are as noted."
abbrev pub AsNoted : Descriptor → Note → Type 0
AsNoted D n =
    ((state_number D.state ≡ state_number n.state) × (top D.chain ≡ n.first)) × (length D.chain ≡ n.length)

-- whether the state, the first block and the length are all as noted
abbrev pub as_noted? : (D : Descriptor) (n : Note) → Dec (AsNoted D n)
as_noted? D n =
    both
    (both (ℕ_discrete (state_number D.state) (state_number n.state)) (ℕ_discrete (top D.chain) n.first))
    (ℕ_discrete (length D.chain) n.length)

-- the descriptor with another state and chain
abbrev pub chained : Descriptor → State → List ℕ → Descriptor
chained D s q = record { state = s; region = D.region; class = D.class; chain = q }

-- ---- the steps of the task t, whose caches are k

module _ (t : ℕ) (k : ℕ → List ℕ) where
  -- the task goes to the place p
  abbrev pub at_place : Place → Mem → Mem
  at_place p m = set_task t (record { place = p; cache = k }) m

  -- the task goes on, at the place w
  abbrev pub at_work : Work → Mem → Mem
  at_work w m = at_place (working w) m

  -- the task goes to the place p, and its cache of the class c is now q
  abbrev pub cached : ℕ → List ℕ → Place → Mem → Mem
  cached c q p m = set_task t (record { place = p; cache = update k c q }) m

  -- "a pop that reads an empty row finds it empty"
  abbrev pub pop_read : Pop → List ℕ → Mem → Result
  pop_read p [] m =
      let w = when_empty p (found_empty (pop_list p)) in
      (at_place w.0 m, w.1)
  pop_read p (x ∷ q) m = (at_work (popping p (next (m.won (pop_list p)))) m, going nothing)

  -- "A lost exchange goes back to the head read."
  abbrev pub pop_lost : Pop → Mem → Result
  pop_lost p m = (at_work (popping p read) m, going (lost (pop_list p)))

  -- "a won one takes .. the top item"; an empty row has none, so that nothing is won there (nor ever tried: the row was
  -- not empty when it was read, and its number is the same)
  abbrev pub pop_take : Pop → List ℕ → Mem → Result
  pop_take p [] m = pop_lost p m
  pop_take p (x ∷ q) m = (at_work (when_popped p x) (set_row (pop_list p) q m), going (popped (pop_list p) x))

  -- "The exchange is won exactly if the number is still the one noted"
  abbrev pub pop_step : Pop → Phase → Mem → Result
  pop_step p read m = pop_read p (m.row (pop_list p)) m
  pop_step p (next n) m = (at_work (popping p (exchange n)) m, going nothing)
  pop_step p (exchange n) m =
      if (ℕ_discrete (m.won (pop_list p)) n) (pop_take p (m.row (pop_list p)) m) (pop_lost p m)

  -- "a won one .. puts the top item"
  abbrev pub push_put : Push → Mem → Result
  push_put p m =
      let ℓ = push_list p in
      let w = when_pushed p k (pushed ℓ (push_item p)) in
      (at_place w.0 (set_row ℓ (push_item p ∷ m.row ℓ) m), w.1)

  -- "The exchange is won exactly if the number is still the one noted": a push
  abbrev pub push_step : Push → Phase → Mem → Result
  push_step p read m = (at_work (pushing p (next (m.won (push_list p)))) m, going nothing)
  push_step p (next n) m = (at_work (pushing p (exchange n)) m, going nothing)
  push_step p (exchange n) m =
      if (ℕ_discrete (m.won (push_list p)) n) (push_put p m) (at_work (pushing p read) m, going (lost (push_list p)))

  -- allocate, step 1: "If the cache has a block, take the top, set its mark and finish. Else go on."
  abbrev pub a1_step : ℕ → List ℕ → Mem → Result
  a1_step c [] m = (at_work (popping (partial c) read) m, going nothing)
  a1_step c (x ∷ q) m = (cached c q idle (set_hands x 1 m), finished x)

  -- allocate, step 3: "Read the anchor. EMPTY: push the descriptor on the spare list, then 2. Else exchange it" (it is
  -- never FULL: a descriptor on a partial list is PARTIAL or EMPTY)
  abbrev pub a3_read : ℕ → ℕ → State → Mem → Result
  a3_read c d EMPTY m = (at_work (pushing (retire c d) read) m, going (anchor_empty d))
  a3_read c d PARTIAL m = (at_work (a3-exchange c d (note_of (m.descriptor d))) m, going nothing)
  a3_read c d FULL m = (at_work (a3-exchange c d (note_of (m.descriptor d))) m, going nothing)

  -- "Allocate then takes the whole chain and leaves FULL with none"; "lost: read again"
  abbrev pub a3_exchange : ℕ → ℕ → Note → Mem → Result
  a3_exchange c d n m =
      let D = m.descriptor d in
      if (as_noted? D n)
      (at_work (moving c D.chain) (set_descriptor d (chained D FULL []) m), going (took d))
      (at_work (a3-read c d) m, going (anchor_lost d))

  -- allocate, step 7: "One step writes the descriptor (FULL, n, 0) and the map"
  abbrev pub a7_step : ℕ → ℕ → ℕ → Mem → Result
  a7_step c d r m =
      let D : Descriptor = record { state = FULL; region = r; class = c; chain = [] } in
      (at_work (a8 c r 0) (set_map r (suc d) (set_descriptor d D m)), going nothing)

  -- allocate, step 8: "Put blocks 0 to n − 1 on the cache, one a step; then 1"
  abbrev pub a8_step : ℕ → ℕ → ℕ → Mem → Result
  a8_step c r i m =
      let w = if (ℕ_discrete (suc i) (per_region c)) (a1 c) (a8 c r (suc i)) in
      (cached c (unit_of r c i ∷ k c) (working w) m, going nothing)

  -- free, step 1: "If the cache holds fewer than n, push the block and finish. Else go on."
  abbrev pub f1_step : ℕ → ℕ → Mem → Result
  f1_step c u m =
      if (dec_lt (length (k c)) (per_region c)) (cached c (u ∷ k c) idle m, finished 0)
      (at_work (f2 c (to_free u) []) m, going nothing)

  -- the step "closes the group"; a group of none has nothing to return (nor does it ever close: the cache was not
  -- empty)
  abbrev pub closed : ℕ → Purpose → List ℕ → Work
  closed c z [] = f6 k c z
  closed c z (y ∷ g) = f3-read c z y g

  -- free, step 2: "A step takes the cache's top into the group, if the group is empty or the top is of the same region.
  -- Otherwise, or with the cache empty, that step closes the group." The rows are the cache and the group.
  abbrev pub f2_step : ℕ → Purpose → List ℕ → List ℕ → Mem → Result
  f2_step c z [] g m = (at_work (closed c z g) m, going nothing)
  f2_step c z (x ∷ q) [] m = (cached c q (working (f2 c z (x ∷ []))) m, going nothing)
  f2_step c z (x ∷ q) (y ∷ g) m =
      if (ℕ_discrete (region_of x) (region_of y))
      (cached c q (working (f2 c z (y ∷ (g ++ (x ∷ []))))) m, going nothing)
      (at_work (closed c z (y ∷ g)) m, going nothing)

  -- free, step 3: "Read the anchor", that of the descriptor that the map names for the group's region; with no such
  -- entry the task stays where it is (nor is there ever none: the group's blocks are of an open region)
  abbrev pub f3_read : ℕ → ℕ → Purpose → ℕ → List ℕ → Mem → Result
  f3_read zero c z y g m = (m, going nothing)
  f3_read (suc d) c z y g m = (at_work (f3-link c z y g d (note_of (m.descriptor d))) m, going nothing)

  -- "free puts the group, in its order, before the chain, and the state is EMPTY at n blocks, else PARTIAL" (there are
  -- never more); step 4 follows if it is now EMPTY, and step 5 by the state w before
  abbrev pub f3_won : {P : Type 0} → Dec P → ℕ → Purpose → ℕ → List ℕ → ℕ → State → Mem → Result
  f3_won (yes e) c z y g d w m =
      let D = m.descriptor d in (
        at_work (f4-clear c z d w (region_of y)) (set_descriptor d (chained D EMPTY (y ∷ (g ++ D.chain))) m),
        going (gave d),
      )
  f3_won (no e) c z y g d w m =
      let D = m.descriptor d in
      (at_work (f5 w k c z d) (set_descriptor d (chained D PARTIAL (y ∷ (g ++ D.chain))) m), going (gave d))

  -- "The exchange is won exactly if all three are as noted"; "Lost: read again"
  abbrev pub f3_exchange : ℕ → Purpose → ℕ → List ℕ → ℕ → Note → Mem → Result
  f3_exchange c z y g d n m =
      let D = m.descriptor d in
      if (as_noted? D n)
      (f3_won (ℕ_discrete (length (y ∷ (g ++ D.chain))) (per_region c)) c z y g d n.state m)
      (at_work (f3-read c z y g) m, going (anchor_lost d))

  -- the request for a strip: "finishes, or ends with 16, in its first step, which is one move of the whole run"
  abbrev pub strip_take_step : StripTaken → Mem → Result
  strip_take_step none_found m = (at_place idle m, ended 16 no_strip)
  strip_take_step (strip_at s p) m = (at_place idle (set_strips p m), finished_by (strip_taken s) (strip_unit s))

  -- the free of the strip at the slot s: "Freed halves join whenever both are free"
  abbrev pub strip_give_step : ℕ → Mem → Result
  strip_give_step s m = (at_place idle (set_strips (give_strip s m.strips) m), finished_by (strip_given s) 0)

  -- the step list, by place
  abbrev pub step_at : Work → Mem → Result
  step_at (a1 c) m = a1_step c (k c) m
  step_at (popping p φ) m = pop_step p φ m
  step_at (pushing p φ) m = push_step p φ m
  step_at (a3-read c d) m = a3_read c d (m.descriptor d).state m
  step_at (a3-exchange c d n) m = a3_exchange c d n m
  step_at (a4 c x q) m = (cached c (x ∷ k c) (working (moving c q)) m, going nothing)
  step_at (a7 c d r) m = a7_step c d r m
  step_at (a8 c r i) m = a8_step c r i m
  step_at (f1 c u) m = f1_step c u m
  step_at (f2 c z g) m = f2_step c z (k c) g m
  step_at (f3-read c z y g) m = f3_read (m.map (region_of y)) c z y g m
  step_at (f3-link c z y g d n) m = (at_work (f3-exchange c z y g d n) m, going nothing)
  step_at (f3-exchange c z y g d n) m = f3_exchange c z y g d n m
  -- free, step 4: "one step clears the map entry of the group's region"
  step_at (f4-clear c z d w r) m = (at_work (pushing (release c z d w r) read) (set_map r 0 m), going nothing)
  step_at (strip-take order) m = strip_take_step (take_strip order m.strips) m
  step_at (strip-give s) m = strip_give_step s m
  -- "one further step, after all are empty, finishes the request" (the request for leaving)
  step_at leave-end m = (at_place idle m, finished 0)

-- "7 step without one": a task that is idle makes no step
abbrev pub when_working : Place → (Work → Result) → Mem → Result
when_working idle f m = (m, refused 7)
when_working (working w) f m = f w

-- "one call is one step of one task"
unfoldable pub step_of : ℕ → Mem → Result
step_of t m = when_working (m.task t).place (λ w. step_at t (m.task t).cache w m) m
