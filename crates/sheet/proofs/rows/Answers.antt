-- The rows of the regions before `region` are filled in.
use mathlib.Core.Path.{◌≡◌}
use Prim.Native.Nat.{◌+◌, ◌-◌, ◌*◌}
use native.Mathlib.Omega.{arith}
use Rattle.std.proofs.lemmas.Result.{err_from_is_err_and}
use Rattle.limits.specs.Limits.{REGIONS}
use Rattle.sheet.specs.Sheet.{COLUMNS}
use Rattle.sheet.specs.Filling.{place_of}
use Rattle.sheet.proofs.RowsFilled.{rows-begin, rows_next, rows-fail, rows_end}
use Rattle.sheet.proofs.rows.Goals as goal

pub loop-region-init : goal.loop-region-init
loop-region-init c = rows-begin _ _ _ _ _ _

pub returns : goal.returns
returns c =
    let e : c.loop-region.region ≡ REGIONS = omega arith in
    rows_end _ _ _ _ _ _ (omega arith) (rw e at c.loop-region.invariant)

pub returns-in_err-four : goal.returns-in_err-four
returns-in_err-four c =
    let p = err_from_is_err_and c.from_residual.result c.from_residual.ensures.1 in
    rw p.1 (rows-fail _ _ _ _ _ _ _ _ c.loop-region.invariant (rw c.new.ensures at c.in_err-four.ensures))

pub loop-region-preserved : goal.loop-region-preserved
loop-region-preserved c =
    let r = c.loop-region.region in
    let four = rw c.new.ensures at c.in_ok-four.ensures in
    let at = COLUMNS * (REGIONS * c.get.result + r) in
    let wide : at + COLUMNS - at ≡ COLUMNS = omega arith in
    let place : at ≡ place_of c.args.class r = omega arith in
    rw (c.copy_from_slice.ensures.after, wide, place)
    (rows_next _ _ _ _ _ _ r (omega arith) (omega arith) (omega arith) c.loop-region.invariant four)
