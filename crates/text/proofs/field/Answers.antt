-- The number's digits, at most twenty, and the byte behind them.
use native.Mathlib.Omega.{arith}
use Rattle.text.proofs.Digits.{twenty}
use Rattle.text.proofs.TextWriting.{one_more}
use Rattle.text.proofs.field.Goals as goal

pub decimal-end-requires : goal.decimal-end-requires
decimal-end-requires c = omega (arith, twenty c.args.number (omega arith))

pub bounds-out-end : goal.bounds-out-end
bounds-out-end c =
    let short = twenty c.args.number (omega arith) in
    let written = c.decimal-end.ensures in
    omega (arith, short, written.end, written.same_length)

pub returns-clause-appended : goal.returns-clause-appended
returns-clause-appended c =
    let short = twenty c.args.number (omega arith) in
    let written = c.decimal-end.ensures in
    one_more written c.args.behind (omega (arith, short, written.end, written.same_length))

pub returns-clause-short : goal.returns-clause-short
returns-clause-short c =
    let short = twenty c.args.number (omega arith) in
    let written = c.decimal-end.ensures in
    omega (arith, short, written.end)
