-- The whole output against the plain pool.
use Prim.Native.Nat.{ℕ, zero, suc, ◌≤◌}
use mathlib.Core.Path.{◌≡◌, ap}
use mathlib.Core.List.{List, [], ◌∷◌, ◌++◌}
use native.Mathlib.Omega.{arith}
use lib.ListN.{length, take}
use Rattle.std.specs.Prelude.{Option, None, Some, IfSome}
use Rattle.std.proofs.lemmas.List.{length-take}
use Rattle.fields.specs.Little.{Bytes}
use Rattle.schedule.specs.Records.{INPUT_BYTES}
use Rattle.schedule.specs.Bytes.{zeros}
use Rattle.stand_agreement.proofs.Table.{stand-table}
use Rattle.text.specs.declared.LostColumn.TheVariants.{Hidden}
use Rattle.text.specs.Lines.{columns_text}
use Rattle.table.specs.Output.{table_text, output, plain_output, Plays, PlaysPlain}
use Rattle.table.specs.Output.{Writes, WritesPlain}

-- From memories that are zero, on every input of at most 65,536 bytes, the output is that of the plain pool fed the
-- same records. "The stand prints what it printed" (the request for lost exchanges).
pub output-is-plain : (input : List ℕ) → Bytes input → length input ≤ INPUT_BYTES
    → output Hidden input zeros ≡ plain_output input
unfolding output plain_output table_text
output-is-plain input b l = ap (λ (t : List ℕ). columns_text Hidden ++ t) (stand-table input b l)

-- What the stand ensures of its buffer (`play` of crates/table/src/lib.rt, word for word) holds of the plain pool: the
-- table that it writes is that of the plain pool fed the same records. The input is any bytes, at most 65,536, and there
-- is no other premise.
pub play-is-plain : {out out' : List ℕ} {r : ℕ} (input : List ℕ) → Bytes input → length input ≤ INPUT_BYTES
    → Plays Hidden input zeros out out' r → PlaysPlain input out out' r
play-is-plain input b l w = rw (output-is-plain input b l) at w

-- the first bytes of an input are bytes
first-bytes : (n : ℕ) (input : List ℕ) → Bytes input → Bytes (take n input)
first-bytes zero input b i = omega arith
first-bytes (suc n) [] b i = b i
first-bytes (suc n) (x ∷ xs) b zero = b zero
first-bytes (suc n) (x ∷ xs) b (suc i) = first-bytes n xs (λ k. b (suc k)) i

-- What the stand's program ensures (`run` of crates/stand/src/main.rt) holds of the plain pool: of every input of bytes,
-- however long, it writes the plain pool's table for the first 65,536.
pub run-is-plain : (ahead before after : Option (List ℕ)) → IfSome ahead Bytes → Writes Hidden zeros ahead before after
    → WritesPlain ahead before after
run-is-plain None before after b w = tt
run-is-plain (Some input) before after b w =
    rw (output-is-plain (take INPUT_BYTES input) (first-bytes INPUT_BYTES input b)
    (omega (arith, length-take INPUT_BYTES input))) at w
