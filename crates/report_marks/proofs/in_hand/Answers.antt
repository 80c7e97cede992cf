-- `in_hand` has counted, in the words before `word`, the first units of blocks whose mark is set.
use mathlib.Core.Path.{◌≡◌, sym, ap, ◌∙◌}
use Prim.Native.Nat.{ℕ, ◌+◌, ◌*◌}
use native.Mathlib.Omega.{arith}
use lib.Bits.{bit_and}
use lib.Count.{ones}
use Rattle.limits.specs.Limits.{REGION_UNITS, WORD_MARKS}
use Rattle.control.specs.Layout.{seen}
use Rattle.reports.proofs.Passing.{passing-max, passing-none}
use Rattle.report_marks.proofs.MaskedWords.{masked-max}
use Rattle.report_marks.proofs.RegionBlocks.{first_marked, held_in, word-read, word_more, region-held}
use Rattle.report_marks.proofs.in_hand.Goals as goal

pub loop-word-init : goal.loop-word-init
loop-word-init c =
    sym (passing-none 0 (first_marked (seen c.args.control.now) c.args.region c.args.class) (λ i l. absurd (omega arith)))

pub overflow_add-held : goal.overflow_add-held
overflow_add-held c =
    omega (
      arith,
      masked-max c.get-marks.result c.mask.result c.mask.ensures.below,
      c.loop-word.invariant,
      passing-max (WORD_MARKS * c.loop-word.word) (first_marked (seen c.args.control.now) c.args.region c.args.class),
    )

pub loop-word-preserved : goal.loop-word-preserved
loop-word-preserved c =
    let v = seen c.args.control.now in
    let k = c.loop-word.word in
    let w = c.get-marks.result in
    let m = c.mask.result in
    ap (λ (x : ℕ). x + ones (bit_and w m)) c.loop-word.invariant
    ∙ word_more v c.args.region c.args.class k w m
    (word-read v c.args.region k c.get-marks.ensures (omega (arith, c.new.ensures, c.get.ensures.same)))
    c.mask.ensures

pub returns : goal.returns
returns c =
    let v = seen c.args.control.now in
    let e : WORD_MARKS * c.loop-word.word ≡ REGION_UNITS = omega arith in
    c.loop-word.invariant ∙ ap (held_in v c.args.region c.args.class) e ∙ region-held v c.args.region c.args.class
