-- `classes::size::class_of` meets its contract: for each number of units the sum is the class of the definition.
use borrow.Author.Rules.{rules}
use native.Mathlib.Nat.{le_of_suc-le-suc}
use native.Mathlib.Omega.{arith}
use lib.Count.{count_leading_zeros}
use Rattle.classes.specs.Sizes.{class_of}
use Rattle.classes.proofs.LeadingBits.{has-leading, has-digit, is-class-of}
use Rattle.classes.proofs.size.class_of.Goals as goal

pub returns : goal.returns
unfolding count_leading_zeros class_of
returns c = is-class-of _ _ _ _ tt c.args.units (omega arith)

pub overflow_sub-place : goal.overflow_sub-place
unfolding count_leading_zeros
overflow_sub-place c =
    le_of_suc-le-suc (has-leading _ tt c.args.units (search rules))

pub overflow_shr-first_class : goal.overflow_shr-first_class
unfolding count_leading_zeros
overflow_shr-first_class c =
    has-digit _ tt c.args.units (search rules)

pub overflow_shr-unread : goal.overflow_shr-unread
unfolding count_leading_zeros
overflow_shr-unread c =
    has-digit _ tt c.args.units (search rules)
