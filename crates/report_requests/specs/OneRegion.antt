-- docs/POOL.md, "Reports"
-- What a request has of one region: "the task whose running request has blocks of the region, or has the region itself"
-- (the request for the region's keepers).
use Rattle.std.specs.Prelude.{Bool, true, cond, ◌&&◌, ◌||◌, ℕ, ◌+◌, ltb, leb, eqb}
use Rattle.limits.specs.Limits.{TASKS}
use Rattle.fields.specs.Columns.{View}
use Rattle.control.specs.Layout.{TaskPlace, TaskRegion}
use Rattle.control.specs.Places.{A7, F4_CLEAR, PUSH_RELEASE, TO_EXCHANGE}
use Rattle.reports.specs.Passing.{all_pass}
use Rattle.report_requests.specs.UnderWay.{is_from_to, request_blocks, in_request}

-- "has blocks of the region": whether the request of the task t has blocks of the class c in the region r under way
unfoldable pub has_blocks : View → ℕ → ℕ → ℕ → ℕ → Bool
has_blocks v regions c r t = leb 1 (in_request c r (request_blocks v regions t))

-- the places at which a task has a region itself: it has popped the region and not opened it yet; or it has emptied the
-- region, and is to clear its map entry, or to push it on the list of spare regions
unfoldable pub is_with_region : ℕ → Bool
is_with_region p = eqb p A7 || (eqb p F4_CLEAR || is_from_to PUSH_RELEASE (PUSH_RELEASE + TO_EXCHANGE) p)

-- "has the region itself": whether the task t has the region r, by its place and its region
unfoldable pub has_region : View → ℕ → ℕ → Bool
has_region v r t = is_with_region (v (TaskPlace t)) && eqb (v (TaskRegion t)) r

-- whether the region that the task t has itself, if it has one, is one of the area's
unfoldable pub held_region_fits : View → ℕ → ℕ → Bool
held_region_fits v regions t = cond (is_with_region (v (TaskPlace t))) (ltb (v (TaskRegion t)) regions) true

-- whether that holds of all eight tasks, also of those that are not started, as the requests are read
unfoldable pub held_regions_in_range : View → ℕ → Bool
held_regions_in_range v regions = all_pass TASKS (held_region_fits v regions)
