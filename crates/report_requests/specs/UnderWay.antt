-- docs/POOL.md, "Reports"
-- "with running requests (what document 01, in comparing, adds to the cache)" (the request for the stock sheet): "a
-- chain or group under way, a block being freed and blocks still to be carved". How many blocks of which class and
-- region a request has under way, by its place. A chain, a group and what is still to be carved are of one region, and
-- are counted by their number: their links are not read. Each value that is read is tested by the range that
-- docs/LAYOUT.md gives it at that place.
use Rattle.std.specs.Prelude.{Bool, cond, not, ◌&&◌, ◌||◌, ℕ, ◌+◌, ◌-◌, ltb, leb, eqb, is_ok}
use Rattle.std.specs.Prelude.{Ok, Err, None, Some}
use Rattle.std.specs.declared.option.Option.{Option}
use Rattle.std.specs.declared.result.Result.{Result}
use Rattle.limits.specs.declared.index.OutOfRange.{OutOfRange}
use Rattle.limits.specs.Limits.{UNITS, TASKS, CLASSES}
use Rattle.rows.specs.Weights.{when, one}
use Rattle.rows.specs.Totals.{total}
use Rattle.fields.specs.Columns.{View}
use Rattle.classes.specs.Classes.{per_region}
use Rattle.classes.specs.Geometry.{region_of}
use Rattle.control.specs.Layout.{TaskUnit, LEAVING, TaskIndex, TaskLeft, GroupCount, TaskPlace, TaskClass, TaskRegion}
use Rattle.control.specs.Places.{IDLE, A4, A8, F1, F2, F3_READ, F3_EXCHANGE, F4_CLEAR, PUSH_RELEASE, PUSH_OFFER}
use Rattle.control.specs.Places.{TO_EXCHANGE, STRIP_TAKE, LEAVE_END, PLACES}
use Rattle.stepped.specs.Ranges.{is_block}
use Rattle.reports.specs.Passing.{all_pass}
use Rattle.report_requests.specs.declared.RequestBlocks.{RequestBlocks}

-- whether p is one of the places from a to b
abbrev pub is_from_to : ℕ → ℕ → ℕ → Bool
is_from_to a b p = leb a p && leb p b

-- how many blocks of the task's region are under way at the place p: the rest of the chain that was taken; those of n
-- that are still to be carved; the group
unfoldable pub count_at : View → ℕ → ℕ → ℕ → ℕ
count_at v t n p =
    cond (eqb p A4) (v (TaskLeft t))
    (cond (eqb p A8) (n - v (TaskIndex t))
    (cond (is_from_to F2 F3_EXCHANGE p) (v (GroupCount t)) 0))

-- how many are due there at least: a group may be empty until it is closed
unfoldable pub least_at : ℕ → ℕ
least_at p = cond (eqb p A4 || (eqb p A8 || is_from_to F3_READ F3_EXCHANGE p)) 1 0

-- the places of free's steps 2 to 5, which leaving has, too
unfoldable pub is_return : ℕ → Bool
is_return p = is_from_to F2 F4_CLEAR p || is_from_to PUSH_RELEASE (PUSH_OFFER + TO_EXCHANGE) p

-- whether the request has a block of its own at the place p, the one being freed: from step 1 of free on; leaving,
-- which has the places from step 2 on, has none
unfoldable pub is_freeing : View → ℕ → ℕ → Bool
is_freeing v t p = eqb p F1 || (is_return p && not (eqb (v (TaskUnit t)) LEAVING))

-- the places of a task without any small block under way, of whatever class: idle, a strip's request, and the last step
-- of leaving
unfoldable pub is_without : ℕ → Bool
is_without p = eqb p IDLE || is_from_to STRIP_TAKE LEAVE_END p

-- k blocks of the class c and the region z, and a block that is freed, if there is one, by its unit: 8,192 is that of
-- no block
abbrev pub has : ℕ → ℕ → ℕ → Option ℕ → Result RequestBlocks OutOfRange
has c z k own = Ok (record { class = c; region = z; blocks = k; own = own })

-- no block is under way
abbrev pub no_blocks : Result RequestBlocks OutOfRange
no_blocks = has 0 0 0 None

-- a value that was read is out of its range
abbrev pub outside : Result RequestBlocks OutOfRange
outside = Err (record {})

module _ (v : View) (regions t : ℕ) where
  -- k blocks of the class c and the region z, with the block being freed, if there is one: a block of the class
  unfoldable pub with_own : ℕ → ℕ → ℕ → ℕ → Result RequestBlocks OutOfRange
  with_own p c z k =
      cond (is_freeing v t p)
      (cond (is_block regions c (v (TaskUnit t))) (has c z k (Some (v (TaskUnit t)))) outside)
      (has c z k None)

  -- k blocks of the class c at the place p: where there are any, the task's region is read, and is one of the area's
  unfoldable pub in_area : ℕ → ℕ → ℕ → Result RequestBlocks OutOfRange
  in_area c p k =
      cond (eqb k 0) (with_own p c 0 0)
      (cond (ltb (v (TaskRegion t)) regions) (with_own p c (v (TaskRegion t)) k) outside)

  -- a request of the class c at the place p: the number of its blocks does not pass n, and is not 0 where one is due
  unfoldable pub request_blocks_at : ℕ → ℕ → Result RequestBlocks OutOfRange
  request_blocks_at c p =
      let k = count_at v t (per_region c) p in
      cond (leb (least_at p) k && leb k (per_region c)) (in_area c p k) outside

  -- what the request of the task t has under way: nothing, where it can have none; else the class of the request is
  -- read, too, as its step reads it
  unfoldable pub request_blocks : Result RequestBlocks OutOfRange
  request_blocks =
      let p = v (TaskPlace t) in
      let c = v (TaskClass t) in
      cond (is_without p) no_blocks (cond (ltb p PLACES && ltb c CLASSES) (request_blocks_at c p) outside)

-- 1 if the block being freed, of the unit u, lies in the region r; 0 where it does not, or none is freed: 8,192 is the
-- unit of no block
abbrev pub own_in : ℕ → Option ℕ → ℕ
own_in r None = 0
own_in r (Some u) = cond (eqb u UNITS) 0 (one r (region_of u))

-- how many of a request's blocks are of the class c and lie in the region r; none of one that is out of range
unfoldable pub in_request : ℕ → ℕ → Result RequestBlocks OutOfRange → ℕ
in_request c r (Ok q) = when c q.class (when r q.region q.blocks + own_in r q.own)
in_request c r (Err e) = 0

-- whether the requests of all eight tasks are in range, also of those that are not started, as the comparison reads
-- them
unfoldable pub requests_in_range : View → ℕ → Bool
requests_in_range v regions = all_pass TASKS (λ t. is_ok (request_blocks v regions t))

-- "with running requests": how many blocks of the class c and the region r the requests of all eight tasks have
unfoldable pub blocks_in_requests : View → ℕ → ℕ → ℕ → ℕ
blocks_in_requests v regions c r = total TASKS (λ t q. in_request c r q) (request_blocks v regions)
