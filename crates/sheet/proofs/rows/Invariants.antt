-- The rows of the regions before `region` are filled in.
use Rattle.control.specs.Layout.{seen}
use Rattle.sheet.proofs.RowsFilled.{RowsTo}
use Rattle.sheet.proofs.rows.Given as goal

abbrev pub invariant-loop-region : goal.invariant-loop-region
invariant-loop-region l =
    RowsTo (seen l.control) l.regions l.caches l.requests l.class l.initial.numbers l.region l.numbers
