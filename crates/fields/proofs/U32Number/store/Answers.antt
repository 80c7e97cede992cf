-- The number is written by its low half and its high half.
use Rattle.fields.proofs.Little.{set_le-join}
use Rattle.fields.proofs.U32Number.store.Goals as goal

pub returns : goal.returns
returns c =
    cc (set_le-join c.args.s.now c.args.at 2 2 c.args.self)
