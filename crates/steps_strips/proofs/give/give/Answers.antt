-- The tests are those of the definition, in its order, and the stores the writes of the outcome.
use Prim.Native.Nat.{ℕ, ◌-◌}
use mathlib.Core.Path.{refl, sym, ◌∙◌, ap₂}
use Rattle.limits.specs.Limits.{WHOLE_ORDER}
use Rattle.strip_tree.specs.declared.tree.Tree.{Tree}
use Rattle.strip_tree.specs.TreeMoves.{joining}
use Rattle.strip_tree.proofs.UnitTests.{slot-begins, no-slot}
use Rattle.stepped.proofs.Doing.{done, refused}
use Rattle.steps_strips.proofs.StripWays.{stored, give-nowhere, give-there, give-small, give-large, give-bad, give-done}
use Rattle.steps_strips.proofs.give.give.Goals as goal

pub returns-in_default : goal.returns-in_default
returns-in_default c =
    done (give-nowhere _ _ _ c.get-unit.ensures (no-slot c.get-unit.result (sym c.slot_of.ensures ∙ c.in_default.is))) refl refl refl

pub returns-in_err-in_range : goal.returns-in_err-in_range
returns-in_err-in_range c =
    let b = slot-begins _ _ (sym c.slot_of.ensures ∙ c.in-Some.is) in
    refused (give-there _ _ _ c.get-unit.ensures _ b.slot b.passes
    ∙ give-small _ _ _ _ c.get-byte.ensures c.in_err-in_range.ensures.failed)
    c.from_residual.ensures.1

pub returns-in_err-in_range-2 : goal.returns-in_err-in_range-2
returns-in_err-in_range-2 c =
    let b = slot-begins _ _ (sym c.slot_of.ensures ∙ c.in-Some.is) in
    refused (give-there _ _ _ c.get-unit.ensures _ b.slot b.passes
    ∙ give-large _ _ _ _ c.get-byte.ensures c.in_ok-in_range.ensures.passed c.in_err-in_range-2.ensures.failed)
    c.from_residual-in_err-in_range-2.ensures.1

pub returns-in_err-in_range-3 : goal.returns-in_err-in_range-3
returns-in_err-in_range-3 c =
    let b = slot-begins _ _ (sym c.slot_of.ensures ∙ c.in-Some.is) in
    refused (give-there _ _ _ c.get-unit.ensures _ b.slot b.passes
    ∙ give-bad _ _ _ _ c.get-byte.ensures c.in_ok-in_range.ensures.passed c.in_ok-in_range-2.ensures.passed _
    c.order_in-order.ensures (sym c.divides.ensures ∙ c.in_err-in_range-3.ensures.failed))
    c.from_residual-in_err-in_range-3.ensures.1

pub returns : goal.returns
returns c =
    let b = slot-begins _ _ (sym c.slot_of.ensures ∙ c.in-Some.is) in
    done (give-there _ _ _ c.get-unit.ensures _ b.slot b.passes
    ∙ give-done _ _ _ _ c.get-byte.ensures c.in_ok-in_range.ensures.passed c.in_ok-in_range-2.ensures.passed _
    c.order_in-order.ensures (sym c.divides.ensures ∙ c.in_ok-in_range-3.ensures.passed)) refl
    (stored _ _ _ _ _ _ _ _ c.set.ensures c.set-2.ensures c.set_tree.ensures refl refl
    (c.join.ensures ∙ ap₂ (λ (t : Tree) (i : ℕ). joining t (WHOLE_ORDER - c.order_in-order.result) i) c.tree-tree.ensures
    c.node_of.ensures.node))
    refl
