-- The rows of the bench table about sizes, as one statement.
use mathlib.Core.Path.{◌≡◌, refl}
use mathlib.Core.List.{List, [], ◌∷◌, map}
use Prim.Native.Nat.{ℕ}
use Rattle.classes.specs.Classes.{units, block}
use Rattle.std.specs.Prelude.{Ok, Err}
use Rattle.std.specs.declared.result.Result.{Result}
use Rattle.limits.specs.declared.refusal.Refusal.{Refusal}
use Rattle.limits.specs.declared.refusal.Refusal.TheVariants.{SizeZero, SizeTooLarge}
use Rattle.control.specs.Answers.{refusal_number}
use Rattle.classes.specs.Sizes.{class_of, choice}
use Rattle.classes.specs.declared.size.Choice.{Choice}
use Rattle.classes.specs.declared.size.Choice.TheVariants.{Class, Strip}
use Rattle.pieces.specs.StripSizes.{strip_bytes, order_from, order_of}

-- what a row shows for a size: the bytes of the block or of the strip that serves it, or the number that refuses it
pub data Served : Type 0 where
  bytes : ℕ → Served
  strip : ℕ → Served
  number : ℕ → Served

abbrev pub served : ℕ → Result Choice Refusal → Served
served s (Ok (Class c)) = bytes (block c)
served s (Ok Strip) = strip (strip_bytes (order_of s))
served s (Err e) = number (refusal_number e)

-- the rows: a size, and what is served for it
abbrev pub sizes : List (ℕ × Served)
sizes =
    (0, number 8) ∷ (1, bytes 8) ∷ (9, bytes 16) ∷ (17, bytes 32) ∷
    (65, bytes 80) ∷ (256, bytes 256) ∷ (257, strip 512) ∷ []

-- each row is what the choice shows
pub sizes-hold : map (λ r. served r.0 (choice r.0)) sizes ≡ map (λ r. r.1) sizes
unfolding units class_of choice order_from
sizes-hold = refl
