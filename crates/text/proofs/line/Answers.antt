-- The four or five numbers one behind the other.
use Rattle.text.specs.Lines.{line_text}
use Rattle.text.proofs.TextWriting.{both}
use Rattle.text.proofs.line.Goals as goal

pub returns-in-Hidden : goal.returns-in-Hidden
unfolding line_text
returns-in-Hidden c =
    rw c.in-Hidden.is
    (both (both (both c.field-first.ensures.appended c.field-second.ensures.appended) c.field-third.ensures.appended)
    c.field.ensures.appended)

pub returns-in-Shown : goal.returns-in-Shown
unfolding line_text
returns-in-Shown c =
    rw c.in-Shown.is
    (both (both (both c.field-first.ensures.appended c.field-second.ensures.appended) c.field-third.ensures.appended)
    (both c.field-fourth.ensures.appended c.field-in-Shown.ensures.appended))
