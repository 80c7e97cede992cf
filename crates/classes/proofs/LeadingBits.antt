-- The class of whole units by the leading bit of their bytes less one and the two bits after it, as the code computes
-- it. The numbers that the code has are arguments here. What a law asks of them, antt computes for each number of
-- units.
use mathlib.Core.Path.{◌≡◌}
use mathlib.Core.Bool.{Bool}
use Prim.Native.Nat.{ℕ, suc, ◌+◌, ◌-◌, ◌*◌, ◌/◌, ◌^◌, ◌≤◌, ◌<◌}
use native.Mathlib.Omega.{arith}
use lib.Bits.{bit_and, bit_or, and_le_r}
use lib.Count.{count_leading_zeros}
use lib.Dec.{T, ltb, eqb, ltb→lt, eqb→eq}
use Rattle.limits.specs.Limits.{UNIT_BYTES, LARGEST_SIZE}
use Rattle.classes.specs.Classes.{LARGEST_UNITS}
use Rattle.classes.specs.Sizes.{class_of}
use Rattle.classes.proofs.Below.{all, at}

-- the test f passes at every number of units
abbrev pub Always : (ℕ → Bool) → Type 0
Always f = T (all f (suc LARGEST_UNITS))

-- and so at each of them
each : (f : ℕ → Bool) → Always f → (u : ℕ) → u ≤ LARGEST_UNITS → T (f u)
each f t u h = at f (suc LARGEST_UNITS) t u (omega arith)

-- what is below k at every number of units is so at each of them
low : (g : ℕ → ℕ) (k : ℕ) → Always (λ n. ltb (g n) k) → (u : ℕ) → u ≤ LARGEST_UNITS → g u < k
low g k t u h = ltb→lt (g u) k (each (λ n. ltb (g n) k) t u h)

-- the bytes of u units less one, where d is 1; nothing is taken from no units
abbrev pub less_one : ℕ → ℕ → ℕ
less_one d u = UNIT_BYTES * u - (UNIT_BYTES * u + LARGEST_SIZE - d) / LARGEST_SIZE

-- the zeros before the leading bit; the lowest bit is set, so that there is one
abbrev pub zeros : ℕ → ℕ → ℕ
zeros d u = count_leading_zeros 64 (bit_or (less_one d u) 1)

-- the place of the leading bit
abbrev pub place : ℕ → ℕ → ℕ
place d u = 63 - zeros d u

-- the bits after it that the mask m lets through, the next two where it is 3
abbrev pub next : ℕ → ℕ → ℕ → ℕ
next d m u = bit_and (4 * less_one d u / 2 ^ place d u) m

-- the digit of the word w at the place of the leading bit
abbrev pub digit : ℕ → ℕ → ℕ → ℕ
digit d w u = bit_and (w / 2 ^ (4 * place d u)) 15

-- the class by the word f of first classes and the word r of the bits that do not matter
abbrev pub by_bits : ℕ → ℕ → ℕ → ℕ → ℕ → ℕ
by_bits d m f r u = digit d f u + next d m u / 2 ^ digit d r u

-- there is a leading bit
pub has-leading : (d : ℕ) → Always (λ n. ltb (zeros d n) 64)
    → (u : ℕ) → u ≤ LARGEST_UNITS → zeros d u < 64
has-leading d = low (zeros d) 64

-- a word has a digit at its place
pub has-digit : (d : ℕ) → Always (λ n. ltb (4 * place d n) 64)
    → (u : ℕ) → u ≤ LARGEST_UNITS → 4 * place d u < 64
has-digit d = low (λ u. 4 * place d u) 64

-- the sum is a byte
pub is_byte : (d m f r : ℕ) → Always (λ n. ltb (by_bits d m f r n) 256)
    → (u : ℕ) → u ≤ LARGEST_UNITS → by_bits d m f r u < 256
is_byte d m f r = low (by_bits d m f r) 256

-- a digit is a number of bits by which a word can be shifted
pub digit_low : (d w u : ℕ) → digit d w u < 64
digit_low d w u = omega (arith, and_le_r (w / 2 ^ (4 * place d u)) 15)

-- where the numbers give each number of units its class they do so for u
pub is-class-of : (d m f r : ℕ) → Always (λ n. eqb (by_bits d m f r n) (class_of (UNIT_BYTES * n)))
    → (u : ℕ) → u ≤ LARGEST_UNITS → by_bits d m f r u ≡ class_of (UNIT_BYTES * u)
is-class-of d m f r t u h =
    eqb→eq (by_bits d m f r u) (class_of (UNIT_BYTES * u))
    (each (λ n. eqb (by_bits d m f r n) (class_of (UNIT_BYTES * n))) t u h)
