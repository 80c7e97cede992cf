-- `classes::size::size_class` meets its contract: a size has the class of its units rounded up.
use Rattle.std.specs.Prelude.{Ok}
use mathlib.Core.Path.{sym, ap, ◌∙◌}
use native.Mathlib.Omega.{arith}
use Rattle.classes.specs.declared.size.Choice.TheVariants.{Class}
use Rattle.classes.proofs.Sizes.{refuses-none, serves, rounded, is_class}
use Rattle.classes.proofs.size.size_class.Goals as goal

pub returns-then-bytes-eq0 : goal.returns-then-bytes-eq0
returns-then-bytes-eq0 c = sym (refuses-none _ (omega arith))

pub new-requires : goal.new-requires
new-requires c =
    let size = c.args.size in
    omega (arith, c.class_of-class.ensures ∙ rounded size (omega arith), is_class size (omega arith))

pub returns : goal.returns
returns c =
    let size = c.args.size in
    ap (λ x. Ok (Class x)) (c.new.ensures ∙ c.class_of-class.ensures ∙ rounded size (omega arith))
    ∙ sym (serves size (omega arith) (omega arith))
