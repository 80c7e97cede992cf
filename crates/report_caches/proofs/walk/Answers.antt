-- The blocks before `unit` are passed: what is left of the cache gives the whole's answer.
use mathlib.Core.Path.{sym, ◌∙◌}
use native.Mathlib.Omega.{arith}
use borrow.Author.Rules.{rules}
use Rattle.std.proofs.lemmas.Result.{err_from_is_err_and}
use Rattle.report_caches.proofs.Walking.{walk_begins, walk-room, walk-goes, walk-stops, walk_ends, walk-fails}
use Rattle.report_caches.proofs.walk.Goals as goal

pub loop-init : goal.loop-init
loop-init c = walk_begins (search rules)

pub returns-in_err-in_range : goal.returns-in_err-in_range
returns-in_err-in_range c =
    let p = err_from_is_err_and c.from_residual.result c.from_residual.ensures.1 in
    rw p.1
    (walk-stops c.loop.invariant (omega arith)
    (rw c.get.ensures.same at (sym c.is_block.ensures ∙ c.in_err-in_range.ensures.failed)))

pub overflow_add-counts : goal.overflow_add-counts
overflow_add-counts c =
    omega (
      arith,
      walk-room c.loop.invariant (omega arith) c.requires.1 c.requires.2 c.region_of.ensures,
    )

pub loop-preserved : goal.loop-preserved
loop-preserved c =
    walk-goes c.loop.invariant (omega arith) (omega arith)
    (rw c.get.ensures.same at (sym c.is_block.ensures ∙ c.in_ok-in_range.ensures.passed)) c.region_of.ensures
    c.read-unit.ensures

pub returns-in_err-in_range-2 : goal.returns-in_err-in_range-2
returns-in_err-in_range-2 c =
    let p = err_from_is_err_and c.from_residual-in_err-in_range-2.result c.from_residual-in_err-in_range-2.ensures.1 in
    rw p.1 (walk-fails c.loop.invariant (omega arith) c.in_err-in_range-2.ensures.failed)

pub returns : goal.returns
returns c = walk_ends c.loop.invariant (omega arith) c.in_ok-in_range-2.ensures.passed
