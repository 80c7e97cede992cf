-- `in_hand` has counted, in the words before `word`, the first units of blocks whose mark is set.
use mathlib.Core.Path.{◌≡◌}
use Prim.Native.Nat.{◌*◌}
use Rattle.limits.specs.Limits.{WORD_MARKS}
use Rattle.control.specs.Layout.{seen}
use Rattle.report_marks.proofs.RegionBlocks.{held_in}
use Rattle.report_marks.proofs.in_hand.Given as goal

abbrev pub invariant-loop-word : goal.invariant-loop-word
invariant-loop-word l = l.held ≡ held_in (seen l.control) l.region l.class (WORD_MARKS * l.word)
