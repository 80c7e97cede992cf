-- In the words before `word` no block that begins there has its mark set.
use mathlib.Core.Path.{◌≡◌, ◌∙◌}
use Prim.Native.Nat.{◌+◌, ◌*◌}
use native.Mathlib.Omega.{arith}
use lib.Bits.{bit_and}
use lib.Count.{count_trailing_zeros}
use Rattle.limits.specs.Limits.{REGION_UNITS, WORD_MARKS}
use Rattle.control.specs.Layout.{seen}
use Rattle.report_marks.proofs.RegionBlocks.{word-read}
use Rattle.report_marks.proofs.LowestHeld.{none-in-word, first-in-word, lowest-found, lowest-none}
use Rattle.report_marks.proofs.lowest_in_hand.Goals as goal

pub returns-then-held-ne0-clause-found : goal.returns-then-held-ne0-clause-found
returns-then-held-ne0-clause-found c =
    let v = seen c.args.control.now in
    let k = c.loop-word.word in
    let found =
    first-in-word v c.args.region c.args.class k _ _
    (word-read v c.args.region k c.get-marks.ensures (omega (arith, c.new.ensures, c.get.ensures.same))) c.mask.ensures
    c.loop-word.invariant c.if-held-ne0.true in
    let low = count_trailing_zeros WORD_MARKS (bit_and c.get-marks.result c.mask.result) in
    let e :
    REGION_UNITS * c.get-then-held-ne0.result + WORD_MARKS * k + low
    ≡ REGION_UNITS * c.args.region + (WORD_MARKS * k + low) =
    omega (arith, c.get-then-held-ne0.ensures.same) in
    e ∙ lowest-found v c.args.region c.args.class (WORD_MARKS * k + low) (omega (arith, found.0)) found.1 found.2

pub loop-word-preserved : goal.loop-word-preserved
loop-word-preserved c =
    let v = seen c.args.control.now in
    let k = c.loop-word.word in
    none-in-word v c.args.region c.args.class k _ _
    (word-read v c.args.region k c.get-marks.ensures (omega (arith, c.new.ensures, c.get.ensures.same)))
    c.mask.ensures c.loop-word.invariant c.if-held-ne0.false

pub returns-clause-none : goal.returns-clause-none
returns-clause-none c =
    let e : WORD_MARKS * c.loop-word.word ≡ REGION_UNITS = omega arith in
    lowest-none (seen c.args.control.now) c.args.region c.args.class
    (λ o l. c.loop-word.invariant o (omega (arith, e)))
