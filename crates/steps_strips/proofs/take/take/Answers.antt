-- What is found in the tree decides, as in the definition, and the stores are the writes of the outcome.
use Prim.Native.Nat.{◌-◌}
use Rattle.std.proofs.Common.{arith, refl, sym, ap, ◌≡◌, ◌∙◌}
use Rattle.strip_tree.specs.declared.tree.Tree.{Tree}
use Rattle.strip_tree.specs.TreeMoves.{halving}
use Rattle.strip_tree.proofs.Found.{finds, in-level}
use Rattle.pieces.specs.StripUnits.{strip_unit}
use Rattle.control.specs.Answers.{Allocated}
use Rattle.stepped.proofs.Doing.{done, refused}
use Rattle.steps_strips.proofs.StripWays.{order-large, take-one, take_none, stored, cut}
use Rattle.steps_strips.proofs.take.take.Goals as goal

pub returns-in_err-wanted : goal.returns-in_err-wanted
returns-in_err-wanted c =
    refused (order-large _ _ _ (omega (arith, c.in_err-wanted.ensures.outside))) c.from_residual.ensures.1

pub returns-in_default : goal.returns-in_default
returns-in_default c =
    let w = c.in_ok-wanted.ensures in
    done (take_none _ _ _ _ c.tree-tree.ensures (omega (arith, w)) _
    (rw (w.found, c.get.ensures.same) at c.find.ensures) c.in_default.is) refl c.set.ensures refl

pub slot_of-slot-requires : goal.slot_of-slot-requires
slot_of-slot-requires c =
    let w = c.in_ok-wanted.ensures in
    in-level _ _ _ _ (finds c.tree-tree.result c.in_ok-wanted.wanted _ _ (omega (arith, w)) (sym c.find.ensures ∙ c.in-Some.is))

pub halve-requires : goal.halve-requires
halve-requires c =
    let w = c.in_ok-wanted.ensures in
    let x = finds c.tree-tree.result c.in_ok-wanted.wanted _ _ (omega (arith, w)) (sym c.find.ensures ∙ c.in-Some.is) in
    let l = in-level _ _ _ _ x in
    record { node = record { order = l.order; below = l.below }; smaller = x.enough }

pub returns : goal.returns
returns c =
    let w = c.in_ok-wanted.ensures in
    let same : c.in_ok-wanted.wanted ≡ c.args.class = w.found ∙ c.get.ensures.same in
    let slot = c.slot_of-slot.ensures in
    let f = c.in-Some.found in
    done (take-one _ _ _ _ c.tree-tree.ensures (omega (arith, w)) _ (rw same at c.find.ensures) _ c.in-Some.is
    ∙ cut _ _ _ c.tree-tree.result c.tree-tree.ensures f.node f.order)
    (ap Allocated (c.unit_of_slot.ensures ∙ ap strip_unit slot))
    (stored _ _ _ _ _ _ _ _ c.set.ensures c.set-2.ensures c.set_tree.ensures slot (omega (arith, same))
    (rw same at (c.halve.ensures ∙ ap (λ (t : Tree). halving t (f.order - c.in_ok-wanted.wanted) f.node) c.clear-left.ensures)))
    refl
