-- docs/POOL.md, "Classes"
-- The class that serves a size.
use Rattle.std.specs.Prelude.{cond, List, [], ◌∷◌, ℕ, suc, leb, ltb, eqb, Ok, Err}
use Rattle.std.specs.declared.result.Result.{Result}
use Rattle.limits.specs.Limits.{LARGEST_SIZE, LARGEST_STRIP}
use Rattle.limits.specs.declared.refusal.Refusal.{Refusal}
use Rattle.limits.specs.declared.refusal.Refusal.TheVariants.{SizeZero, SizeTooLarge}
use Rattle.classes.specs.Classes.{block_sizes}
use Rattle.classes.specs.declared.size.Choice.{Choice}
use Rattle.classes.specs.declared.size.Choice.TheVariants.{Class, Strip}

-- the index of the first entry of a row that is at least s; the row's length where there is none
abbrev pub first_holding : ℕ → List ℕ → ℕ
first_holding s [] = 0
first_holding s (b ∷ bs) = cond (leb s b) 0 (suc (first_holding s bs))

-- the class of size s: the first, and so the smallest, whose block holds s bytes; past the last where none does
unfoldable pub class_of : ℕ → ℕ
class_of s = first_holding s block_sizes

-- what size s is given: 8 refuses size 0, then "9 now means above 65,536"; "blocks of 257 to 65,536 bytes" are strips
-- (the request for them), and 1 to 256 bytes are served by their class
unfoldable pub choice : ℕ → Result Choice Refusal
choice s =
    cond (eqb s 0) (Err SizeZero)
    (cond (ltb LARGEST_STRIP s) (Err SizeTooLarge) (cond (ltb LARGEST_SIZE s) (Ok Strip) (Ok (Class (class_of s)))))
