-- The classes are members of a series: a power of two, and that plus a quarter, a half and three quarters.
use mathlib.Core.Path.{◌≡◌, refl}
use mathlib.Core.Bool.{cond, ◌&&◌, ◌||◌}
use mathlib.Core.List.{List, [], ◌∷◌}
use Prim.Native.Nat.{ℕ, zero, suc, ◌+◌, ◌*◌, ◌/◌, ◌%◌}
use lib.Dec.{leb, eqb}
use Rattle.limits.specs.Limits.{LARGEST_SIZE}
use Rattle.classes.specs.Classes.{block_sizes, SMALLEST_SIZE, ALIGNMENT}

-- the series for the n powers of two from p on; a member that is no whole number is below 8, and rounded down
abbrev pub series : ℕ → ℕ → List ℕ
series p zero = []
series p (suc n) = p ∷ (p + p / 4) ∷ (p + p / 2) ∷ (p + 3 * p / 4) ∷ series (2 * p) n

-- "classes above 8 are those members of the series that are multiples of 16", up to 256; 8 itself is one
abbrev pub usable : List ℕ → List ℕ
usable [] = []
usable (b ∷ bs) =
    cond ((eqb b SMALLEST_SIZE || eqb (b % ALIGNMENT) 0) && leb b LARGEST_SIZE) (b ∷ usable bs) (usable bs)

-- the usable members of the series for the powers of two from 1 to 256 are the blocks of the table
pub in-series : usable (series 1 9) ≡ block_sizes
in-series = refl
