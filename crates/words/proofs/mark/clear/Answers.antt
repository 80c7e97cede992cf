-- A word and the complement of the mask of one bit has that bit clear, and every other bit as before.
use Rattle.std.proofs.Common.{rules}
use Rattle.words.proofs.Marks.{clear-changed}
use Rattle.words.proofs.mark.clear.Goals as goal

pub returns : goal.returns
returns c = clear-changed _ _ (search rules) c.requires
