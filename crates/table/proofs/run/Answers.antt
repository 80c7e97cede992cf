-- The table of what was read is written.
use Rattle.std.proofs.Common.{◌≡◌, length, arith}
use Rattle.schedule.specs.Records.{INPUT_BYTES}
use Rattle.schedule.specs.Bytes.{memories}
use Rattle.table.specs.Output.{output}
use Rattle.table.proofs.Writing.{writes_first}
use Rattle.table.proofs.run.Goals as goal

pub returns : goal.returns
returns g c =
    let full : length c.read_full.new.buffer ≡ INPUT_BYTES = omega (arith, c.zeros-records.ensures) in
    writes_first c.write_first.result (g.R.Read.remaining c.args.reader.now) _ _ _ _
    (λ l. output c.args.lost l (memories c.args.stand.now)) INPUT_BYTES
    c.write_first.ensures c.write-length.ensures.text_is (rw full at c.in_ok-n.ensures.first)
