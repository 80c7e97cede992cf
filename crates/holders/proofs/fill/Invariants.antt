-- The numbers before `i` are filled in.
use Rattle.links.specs.Link.{link}
use Rattle.control.specs.Layout.{seen}
use Rattle.holders.proofs.FormFilled.{FormTo}
use Rattle.holders.proofs.fill.Given as goal

abbrev pub invariant-loop-i : goal.invariant-loop-i
invariant-loop-i l = FormTo (seen l.control) (link l.area) l.regions l.i l.numbers
