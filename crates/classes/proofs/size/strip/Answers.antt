-- `classes::size::strip` meets its contract: one law for each way out.
use mathlib.Core.Path.{sym}
use native.Mathlib.Omega.{arith}
use Rattle.classes.proofs.Sizes.{refuses-large, gets-strip}
use Rattle.classes.proofs.size.strip.Goals as goal

pub returns-then-bytes-gt-LARGEST_STRIP : goal.returns-then-bytes-gt-LARGEST_STRIP
returns-then-bytes-gt-LARGEST_STRIP c =
    sym (refuses-large _ (omega arith))

pub returns : goal.returns
returns c =
    sym (gets-strip _ (omega arith) (omega arith))
