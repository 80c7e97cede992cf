-- What is left of the list tells whether the whole is one.
use Prim.Native.Nat.{◌-◌}
use Rattle.control.specs.Layout.{seen}
use Rattle.report_regions.proofs.SpareWalks.{ListLeft}
use Rattle.report_regions.proofs.spares.fits.Given as goal

abbrev pub invariant-loop : goal.invariant-loop
invariant-loop l = ListLeft (seen l.control) l.regions (l.regions - l.counter) l.item
