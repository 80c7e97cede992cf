-- What is left of the list tells whether the region is on the whole.
use Prim.Native.Nat.{◌-◌}
use Rattle.control.specs.Layout.{seen}
use Rattle.report_regions.proofs.SpareWalks.{OnLeft}
use Rattle.report_regions.proofs.spares.has.Given as goal

abbrev pub invariant-loop : goal.invariant-loop
invariant-loop l = OnLeft (seen l.control) l.fn.regions l.region (l.fn.regions - l.counter) l.item
