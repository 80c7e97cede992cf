-- docs/POOL.md, "Leaving"
-- What leaving does with the caches of its task: where it goes on, which of them are empty, and how it ends.
use Rattle.std.specs.Prelude.{◌≡◌, ◌≢◌, List, [], ℕ, suc, ◌+◌, ◌-◌, ◌≤◌, ◌<◌, length}
use Rattle.limits.specs.Limits.{TASKS, CLASSES}
use Rattle.plain.specs.State.{Purpose, to_free, to_leave, Work, f1, f2, leave-end, Place, idle, working, Mem}
use Rattle.plain.specs.Requests.{Request, allocation, freeing, strip_allocation, strip_freeing, leaving}
use Rattle.plain.specs.Requests.{request_at}
use Rattle.plain.specs.Held.{held_at}
use Rattle.plain.specs.Moves.{finished}
use Rattle.plain.specs.Steps.{Result}

-- the caches k of the classes from c up to below e are empty
abbrev pub EmptyFrom : (ℕ → List ℕ) → ℕ → ℕ → Type 0
EmptyFrom k c e = (i : ℕ) → c ≤ i → i < e → k i ≡ []

-- "in rising order of class, each non-empty cache" (the request for leaving): of the n classes from c on, it goes on
-- with the first whose cache is not empty, or, where all are empty, with its last step
pub data LeavesTo (k : ℕ → List ℕ) (c n : ℕ) : Work → Type 0 where
  to_end : EmptyFrom k c (c + n) → LeavesTo k c n leave-end
  to-cache : (j : ℕ) → c ≤ j → j < c + n → 1 ≤ length (k j) → EmptyFrom k c j → LeavesTo k c n (f2 j to_leave [])

-- where a return leads behind its group, by the caches k: to a further group of the class c; or, its cache empty, to
-- step 1 of the free, or on with leaving
pub data ReturnLeads (k : ℕ → List ℕ) (c : ℕ) : Purpose → Work → Type 0 where
  to-group : {z : Purpose} → 1 ≤ length (k c) → ReturnLeads k c z (f2 c z [])
  to_one : (u : ℕ) → k c ≡ [] → ReturnLeads k c (to_free u) (f1 c u)
  to-next : {w : Work} → k c ≡ [] → LeavesTo k (suc c) (CLASSES - suc c) w → ReturnLeads k c to_leave w

-- where leaving is at the class c the caches of the classes below it are empty; of other requests nothing is said
abbrev pub empty_by : Request → ℕ → ℕ
empty_by (allocation e) c = 0
empty_by (freeing e u) c = 0
empty_by (strip_allocation k) c = 0
empty_by (strip_freeing s) c = 0
empty_by leaving c = c

-- the caches of a task that leaves are empty below this class, by its request and the class of what it has under way;
-- 0 where the task does not leave
abbrev pub empty_below : Place → ℕ
empty_below idle = 0
empty_below (working w) = empty_by (request_at w) (held_at w).class

-- the caches of each task that leaves are empty below the class of its place; at its last step, all are
pub record LeavesHold (m : Mem) : Type 0 where
  pub empty : (t : ℕ) → t < TASKS → EmptyFrom (m.task t).cache 0 (empty_below (m.task t).place)

-- How a step of a task that leaves goes on: the task still leaves; or "one further step, after all are empty, finishes
-- the request", the task is idle and all of its caches are empty. It ends in no other way.
pub data LeavingGoes (t : ℕ) (x : Result) : Type 0 where
  still : x.1.code ≡ 0 → (w : Work) → (x.0.task t).place ≡ working w → request_at w ≡ leaving → LeavingGoes t x
  over : x.1 ≡ finished 0 → (x.0.task t).place ≡ idle → EmptyFrom (x.0.task t).cache 0 CLASSES → LeavingGoes t x

-- What a step of the task t, which leaves, makes of the memory m: no other task, and so no other task's cache, is
-- changed; nor are the blocks in users' hands and the strips.
pub record LeavingStep (t : ℕ) (m : Mem) (x : Result) : Type 0 where
  pub goes : LeavingGoes t x
  pub others : (j : ℕ) → j ≢ t → x.0.task j ≡ m.task j
  pub hands : x.0.hands ≡ m.hands
  pub strips : x.0.strips ≡ m.strips
