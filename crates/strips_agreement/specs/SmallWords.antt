-- docs/POOL.md, "Strips"
-- The words of a tree are words of 64 bits.
use Rattle.std.specs.Prelude.{◌^◌, ◌<◌}
use Rattle.limits.specs.Limits.{WORD_MARKS}
use Rattle.strip_tree.specs.declared.tree.Tree.{Tree}

-- each of the four words is below 2^64
pub record SmallWords (t : Tree) : Type 0 where
  pub a : t.a < 2 ^ WORD_MARKS
  pub b : t.b < 2 ^ WORD_MARKS
  pub c : t.c < 2 ^ WORD_MARKS
  pub d : t.d < 2 ^ WORD_MARKS
