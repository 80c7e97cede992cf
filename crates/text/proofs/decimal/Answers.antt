-- One digit at once, or the digits as the library prints them.
use Rattle.std.proofs.Common.{◌≡◌, ◌∙◌, arith, ◌+◌}
use mathlib.Core.Path.{ap}
use lib.ListN.{length}
use Rattle.text.specs.Texts.{decimal}
use Rattle.text.proofs.Digits.{one-digit, printed-is}
use Rattle.text.proofs.TextWriting.{none, one_more}
use Rattle.text.proofs.decimal.Goals as goal

pub bounds-out-at : goal.bounds-out-at
bounds-out-at c = omega (arith, ap length (one-digit c.args.number (omega arith)))

pub returns-then-number-lt10 : goal.returns-then-number-lt10
returns-then-number-lt10 c =
    let e = one-digit c.args.number (omega arith) in
    rw e (one_more (none c.args.out.now c.args.at (omega arith)) (48 + c.args.number) (omega (arith, ap length e)))

pub word-requires : goal.word-requires
word-requires c =
    let e : c.as_bytes.result.now ≡ decimal c.args.number =
    c.as_bytes.ensures.value ∙ c.format.ensures.text ∙ printed-is c.args.number (omega arith) in
    omega (arith, ap length e)

pub returns : goal.returns
returns c =
    let e : c.as_bytes.result.now ≡ decimal c.args.number =
    c.as_bytes.ensures.value ∙ c.format.ensures.text ∙ printed-is c.args.number (omega arith) in
    rw e at c.word.ensures
