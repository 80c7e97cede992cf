-- A class has at most 512 blocks, so n fits its bits.
use native.Mathlib.Omega.{arith}
use Rattle.words.proofs.Anchors.{full-fits}
use Rattle.classes.proofs.Tables.{per_region-high}
use Rattle.steps_allocate.proofs.anchor.full_word.Goals as goal

pub overflow_cast-per_region : goal.overflow_cast-per_region
overflow_cast-per_region c = record { fits = omega (arith, per_region-high c.args.class) }

pub word-requires : goal.word-requires
word-requires c =
    rw c.full.ensures (full-fits c.per_region.result
    (omega (arith, per_region-high c.args.class)))
