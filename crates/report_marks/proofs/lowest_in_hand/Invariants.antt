-- In the words before `word` no block that begins there has its mark set.
use Prim.Native.Nat.{◌*◌}
use Rattle.limits.specs.Limits.{WORD_MARKS}
use Rattle.control.specs.Layout.{seen}
use Rattle.report_marks.proofs.LowestHeld.{NoneTo}
use Rattle.report_marks.proofs.lowest_in_hand.Given as goal

abbrev pub invariant-loop-word : goal.invariant-loop-word
invariant-loop-word l = NoneTo (seen l.control) l.region l.class (WORD_MARKS * l.word)
