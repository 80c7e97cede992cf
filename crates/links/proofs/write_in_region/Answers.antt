-- What is written in the part stands in the area at the region's offset.
use native.Mathlib.Omega.{arith}
use Prim.Native.Nat.{◌+◌, ◌-◌, ◌*◌}
use Rattle.limits.specs.Limits.{REGION_BYTES}
use Rattle.links.proofs.Links.{link-part}
use Rattle.links.proofs.write_in_region.Goals as goal

pub returns : goal.returns
returns c =
    let s = REGION_BYTES * c.args.region in
    cc (link-part c.args.area.now c.args.region (s + REGION_BYTES - s) c.args.unit c.args.to (omega arith)
    (omega arith))
