-- The blocks of one request, added to the counts of the regions.
use mathlib.Core.Path.{◌≡◌, refl}
use mathlib.Core.Logic.{◌≢◌}
use mathlib.Core.List.{List}
use Prim.Native.Nat.{ℕ, ◌+◌, ◌≤◌, ◌<◌}
use native.Mathlib.Omega.{arith}
use lib.ListN.{length, get_or, set, length-set}
use Rattle.std.specs.Prelude.{Ok, Err, None, Some, is_ok}
use Rattle.std.specs.declared.result.Result.{Result}
use Rattle.limits.specs.declared.index.OutOfRange.{OutOfRange}
use borrow.Author.Tests.{ne_eqb}
use Rattle.limits.specs.Limits.{UNITS, REGIONS}
use Rattle.rows.specs.Weights.{when}
use Rattle.rows.proofs.Weights.{when-same, when-other, when-max}
use Rattle.classes.specs.Geometry.{region_of}
use Rattle.reports.specs.ByRegion.{Counted, CanGrow}
use Rattle.reports.proofs.ByRegion.{count-grows}
use Rattle.report_requests.specs.declared.RequestBlocks.{RequestBlocks}
use Rattle.report_requests.specs.UnderWay.{in_request}
use Rattle.report_requests.proofs.RequestBounds.{BoundedBlocks}

-- the counts with n blocks more of the region z
abbrev pub grown : List ℕ → ℕ → ℕ → List ℕ
grown counts z n = set counts z (get_or counts z 0 + n)

-- the request p that was read is out of range
pub request-outside : {p : Result RequestBlocks OutOfRange} {o : OutOfRange} (number : ℕ → ℕ) → Err o ≡ p
    → Counted (is_ok p) number (Err o)
request-outside number is = rw (← is) (record { counts = tt; in_range_is = tt; out_of_range = refl })

-- the request p that was read is q
module _ {q : RequestBlocks} {p : Result RequestBlocks OutOfRange} (is : Ok q ≡ p) (c : ℕ) (from : List ℕ) where
  -- what its counts have to be
  counted : {counts : List ℕ} → ((r : ℕ) → get_or counts r 0 ≡ get_or from r 0 + in_request c r (Ok q))
      → Counted (is_ok p) (λ r. get_or from r 0 + in_request c r p) (Ok counts)
  counted h = rw (← is) (record { counts = λ r l. h r; in_range_is = refl; out_of_range = tt })

  -- a request of another class has no block of the class
  pub request-other : c ≢ q.class → Counted (is_ok p) (λ r. get_or from r 0 + in_request c r p) (Ok from)
  unfolding in_request
  request-other d = counted (λ r. rw (when-other c q.class _ d) (omega arith))

  module _ (class : c ≡ q.class) (whole : length from ≡ REGIONS) (bounded : BoundedBlocks q) where
    -- a region's count, when the blocks of the request's region are counted
    blocks-counted : (r : ℕ)
        → get_or (grown from q.region q.blocks) r 0 ≡ get_or from r 0 + when r q.region q.blocks
    blocks-counted r = count-grows from q.region q.blocks r (omega (arith, bounded.region))

    -- a request with no block of its own
    pub request-blocks : q.own ≡ None
        → Counted (is_ok p) (λ r. get_or from r 0 + in_request c r p) (Ok (grown from q.region q.blocks))
    unfolding in_request
    request-blocks none =
        counted (λ r. rw (class, when-same q.class _, none) (omega (arith, blocks-counted r)))

    module _ {u z : ℕ} (own : q.own ≡ Some u) (region : z ≡ region_of u) where
      -- its own block's region has a count,
      pub own_inside : z < REGIONS
      own_inside = omega (arith, rw own at bounded.own)

      -- which can grow by one
      pub own_room : CanGrow from → get_or (grown from q.region q.blocks) z 0 + 1 ≤ 65535
      own_room room =
          omega (arith, blocks-counted z, when-max z q.region q.blocks, bounded.blocks, room z)

      -- a request with its own block
      pub request-own : Counted (is_ok p) (λ r. get_or from r 0 + in_request c r p)
          (Ok (grown (grown from q.region q.blocks) z 1))
      unfolding in_request
      request-own =
          let counts = grown from q.region q.blocks in
          let long = length-set from q.region (get_or from q.region 0 + q.blocks) in
          let inside : z < length counts = omega (arith, own_inside) in
          let d : u ≢ UNITS = λ e. omega (arith, own_inside) in
          counted (λ r.
          rw (class, when-same q.class _, own, ne_eqb u UNITS d, ← region)
          (omega (arith, blocks-counted r, count-grows counts z 1 r inside)))
