-- A number of one byte is the byte.
use borrow.Author.Rules.{rules}
use Rattle.fields.specs.Little.{get_le}
use Rattle.fields.proofs.U8Number.load.Goals as goal

pub returns : goal.returns
unfolding get_le
returns c = search rules
