-- The column names, a line more, and the last line.
use Rattle.std.proofs.Common.{◌≡◌, ◌<◌, ◌^◌, subst, sym, ◌∙◌, arith}
use Rattle.schedule.specs.Reading.{Begins}
use Rattle.schedule.specs.Tally.{none_counted}
use Rattle.text.specs.Lines.{line_text}
use Rattle.text.proofs.TextWriting.{at_part}
use Rattle.table.proofs.Playing.{within, begins, short, goes_on, ends}
use Rattle.table.proofs.write.Goals as goal

pub loop-entry-init : goal.loop-entry-init
loop-entry-init c =
    let zero = c.default-counts.ensures in
    let none : c.default-counts.result ≡ none_counted =
    λ i. record { finished = zero.0 i; accepted = zero.1.0 i; others = zero.1.1 i } in
    record {
      ahead =
          begins _ _ _ c.columns-used.ensures
          (subst (Begins c.args.input.now) (sym c.into_iter-entry-iterator.ensures.into_iter_gives)
          c.of-entry-items.ensures)
          none;
      same_length = c.columns-used.ensures.same_length;
    }

pub loop-entry-preserved : goal.loop-entry-preserved
loop-entry-preserved c =
    let I = c.loop-entry.invariant in
    let passed = c.in-Some.ensures.steps in
    let line = c.treat_counted-line in
    let fits = within _ _ I.ahead c.requires.input (omega (arith, I.same_length, c.requires.room)) in
    let written =
    at_part c.loop-entry.out c.line-used.new.out (line_text c.args.lost line.result) c.loop-entry.used
    c.line-used.result fits c.line-used.ensures in
    let few : c.loop-entry.entry-iterator.number < 10 ^ 5 =
    omega (arith, passed.before_end, c.loop-entry.entry-iterator.short, c.loop-entry.entry-iterator.numbered) in
    record {
      ahead =
          goes_on _ _ I.ahead passed (omega (arith, c.loop-entry.entry-iterator.numbered)) line.ensures.does
          (written, short _ c.args.input.now passed few line.ensures.does (omega (arith, line.type_inv)) (omega (arith, line.type_inv)))
          line.ensures.counted;
      same_length = written.same_length ∙ I.same_length;
    }

pub returns : goal.returns
returns c =
    let I = c.loop-entry.invariant in
    let fits = within _ _ I.ahead c.requires.input (omega (arith, I.same_length, c.requires.room)) in
    ends _ _ I.ahead c.in-None.ensures.steps I.same_length
    (at_part c.loop-entry.out c.total.new.out _ c.loop-entry.used c.total.result fits c.total.ensures)
