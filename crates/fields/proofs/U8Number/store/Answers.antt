-- A byte is below 256, so nothing of it is dropped.
use native.Mathlib.Nat.{mod-eq_of_lt}
use Rattle.fields.specs.Little.{set_le}
use Rattle.fields.proofs.U8Number.store.Goals as goal

pub returns : goal.returns
unfolding set_le
returns c = simp (mod-eq_of_lt c.ranges.self.fits)
