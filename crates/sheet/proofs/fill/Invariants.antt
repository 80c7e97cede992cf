-- The numbers of the classes before `number` are filled in.
use Rattle.links.specs.Link.{link}
use Rattle.control.specs.Layout.{seen}
use Rattle.sheet.proofs.SheetFilled.{SheetTo}
use Rattle.sheet.proofs.fill.Given as goal

abbrev pub invariant-loop-number : goal.invariant-loop-number
invariant-loop-number l = SheetTo (seen l.control) (link l.area) l.regions l.number l.numbers
