-- A word or the mask of one bit has that bit set, and every other bit as before.
use Rattle.words.proofs.Marks.{set-changed}
use Rattle.words.proofs.mark.set.Goals as goal

pub returns : goal.returns
returns c = set-changed _ _ c.requires
