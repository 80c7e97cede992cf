-- The word and the three numbers one behind the other.
use Rattle.text.specs.Lines.{total_text}
use Rattle.text.proofs.TextWriting.{both}
use Rattle.text.proofs.total.Goals as goal

pub returns : goal.returns
unfolding total_text
returns c =
    both
    (both (both c.word-start.ensures c.field-first.ensures.appended) c.field-second.ensures.appended)
    c.field.ensures.appended
