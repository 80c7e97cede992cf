-- docs/POOL.md, "The stand"
-- The stand over the plain pool, which is fed the numbers of each record and the lengths lent.
use Rattle.std.specs.Prelude.{ℕ, ◌+◌, ◌*◌, cond, ◌==◌, nat_lt}
use Rattle.limits.specs.Limits.{CONTROL_BYTES, REGION_BYTES, STRIPS_BYTES}
use Rattle.plain.specs.Calls.{Pool, Call}
use Rattle.plain.specs.Calls as Calls
use Rattle.plain.specs.Moves.{Answer}
use Rattle.control.specs.Answers.{CODES}
use Rattle.schedule.specs.Stand.{STAND_REGIONS}
use Rattle.schedule.specs.Stand.{Lends, named, as_started}

-- an answer as one number: the code, and CODES times the value; the plain pool tells no lost exchanges
abbrev pub answer_number : Answer → ℕ
answer_number y = y.code + CODES * y.value

-- a call that is lent the control memory, so many bytes of the area, and the strips' memory; its answer as one number
abbrev pub feeding : Call → ℕ → Pool → Pool × ℕ
feeding k area p =
    let x = Calls.plain_call k (record { control = CONTROL_BYTES; area = area; strips = STRIPS_BYTES }) p in
    (x.0, answer_number x.1)

-- how many regions the last accepted start was lent: none before the first
abbrev pub regions_fed : Pool → ℕ
regions_fed p = cond (p.tasks == 0) 0 p.regions

-- a call on the plain pool, by what the stand lends it: "more than 4 regions is 2"
abbrev pub on_plain : Call → Lends → Pool → Pool × ℕ
on_plain k (named regions) p = cond (nat_lt STAND_REGIONS regions) (p, 2) (feeding k (REGION_BYTES * regions) p)
on_plain k as_started p = feeding k (REGION_BYTES * regions_fed p) p
