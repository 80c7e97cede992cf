-- docs/POOL.md, "The plain pool"
-- Which request a task is at work on, at each place.
use Rattle.std.specs.Prelude.{◌≡◌, ◌≢◌, ℕ, suc}
use Rattle.plain.specs.State.{Pop, partial, spare, region, Push, retire, back, release, offer, Work, a1}
use Rattle.plain.specs.State.{popping, pushing, a3-read, a3-exchange, a4, a7, a8, f1, f2, f3-read, f3-link}
use Rattle.plain.specs.State.{f3-exchange, f4-clear, strip-take, strip-give, leave-end, Place, idle, working}
use Rattle.plain.specs.State.{Purpose, to_free, to_leave, Mem}

-- "each task's request": the allocation of a block of the class c, or the free of the block u, which is of the class c;
-- that of a strip of the order k, or the free of the strip at the slot s; or leaving
pub data Request : Type 0 where
  allocation : (c : ℕ) → Request
  freeing : (c u : ℕ) → Request
  strip_allocation : (k : ℕ) → Request
  strip_freeing : (s : ℕ) → Request
  leaving : Request

-- the request for which a task returns a cache of the class c
abbrev pub return_request : ℕ → Purpose → Request
return_request c (to_free u) = freeing c u
return_request c to_leave = leaving

-- the request of a pop
abbrev pub pop_request : Pop → Request
pop_request (partial c) = allocation c
pop_request (spare c) = allocation c
pop_request (region c d) = allocation c

-- the request of a push
abbrev pub push_request : Push → Request
push_request (retire c d) = allocation c
push_request (back c d) = allocation c
push_request (release c z d w r) = return_request c z
push_request (offer c z d) = return_request c z

-- the request that a task at work is at
abbrev pub request_at : Work → Request
request_at (a1 c) = allocation c
request_at (popping p φ) = pop_request p
request_at (pushing p φ) = push_request p
request_at (a3-read c d) = allocation c
request_at (a3-exchange c d n) = allocation c
request_at (a4 c x q) = allocation c
request_at (a7 c d r) = allocation c
request_at (a8 c r i) = allocation c
request_at (f1 c u) = freeing c u
request_at (f2 c z g) = return_request c z
request_at (f3-read c z y g) = return_request c z
request_at (f3-link c z y g d n) = return_request c z
request_at (f3-exchange c z y g d n) = return_request c z
request_at (f4-clear c z d w r) = return_request c z
request_at (strip-take k) = strip_allocation k
request_at (strip-give s) = strip_freeing s
request_at leave-end = leaving

-- the request is over, or the task is still at it
abbrev pub StillAt : Request → Place → Type 0
StillAt q idle = Unit {0}
StillAt q (working w) = request_at w ≡ q

-- the pieces of the strips' memory are as they were after a step of a small block's request, or of leaving; of a
-- strip's request nothing is said
abbrev pub StripsStay : Request → Mem → Mem → Type 0
StripsStay (allocation c) m x = x.strips ≡ m.strips
StripsStay (freeing c u) m x = x.strips ≡ m.strips
StripsStay (strip_allocation k) m x = Unit {0}
StripsStay (strip_freeing s) m x = Unit {0}
StripsStay leaving m x = x.strips ≡ m.strips

-- the blocks in users' hands are as they were after a step of any request but the allocation of a small block, which
-- hands its block out
abbrev pub HandsStay : Request → Mem → Mem → Type 0
HandsStay (allocation c) m x = Unit {0}
HandsStay (freeing c u) m x = x.hands ≡ m.hands
HandsStay (strip_allocation k) m x = x.hands ≡ m.hands
HandsStay (strip_freeing s) m x = x.hands ≡ m.hands
HandsStay leaving m x = x.hands ≡ m.hands

-- A step of the task t, which is at the request q, leads from the memory m to x: the task goes on with q until it is
-- idle, every other task is as it was, and the strips and the blocks in users' hands are as `StripsStay` and
-- `HandsStay` say.
pub record OwnRequest (t : ℕ) (q : Request) (m x : Mem) : Type 0 where
  pub own : StillAt q (x.task t).place
  pub others : (j : ℕ) → j ≢ t → x.task j ≡ m.task j
  pub strips : StripsStay q m x
  pub hands : HandsStay q m x

-- the strip that a request frees: its slot plus one, 0 where it frees none
abbrev pub strip_freed : Request → ℕ
strip_freed (allocation c) = 0
strip_freed (freeing c u) = 0
strip_freed (strip_allocation k) = 0
strip_freed (strip_freeing s) = suc s
strip_freed leaving = 0

-- the strip that a task at the place p frees: its slot plus one, 0 where it frees none
abbrev pub frees_strip : Place → ℕ
frees_strip idle = 0
frees_strip (working w) = strip_freed (request_at w)
