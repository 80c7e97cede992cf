-- Laws of `get_le` and `set_le` at one offset, each over every width.
use mathlib.Core.Path.{◌≡◌, refl, ◌∙◌}
use mathlib.Core.List.{List}
use Prim.Native.Nat.{ℕ, zero, suc, ◌+◌, ◌*◌, ◌/◌, ◌%◌, ◌^◌, ◌≤◌, ◌<◌}
use native.Mathlib.Nat.{zero-add, suc-add, add-zero, add-suc, one-mul, div-one, mul_assoc, pow-succ', pow-suc}
use native.Mathlib.Nat.{div-div-eq-div-mul, div-lt_iff_lt-mul}
use native.Mathlib.Decide.{ℕ_discrete, dec_lt}
use native.Mathlib.Omega.{arith}
use lib.ListN.{length, get_or, set, length-set}
use lib.Seq.{get_or-set_same, get_or-set_other, set_out}
use lib.Arith.{mod-mul, digits_div, digits_mod}
use Rattle.fields.specs.Little.{get_le, set_le, Bytes}

-- a number is its low part and its high part
pub get_le-join : (s : List ℕ) (at a b : ℕ)
    → get_le s at (a + b) ≡ get_le s at a + 256 ^ a * get_le s (at + a) b
unfolding get_le
get_le-join s at zero b = simp (zero-add, add-zero, one-mul)
get_le-join s at (suc a) b =
    rw (suc-add, add-suc, pow-succ', mul_assoc) (omega (arith, simp suc-add at (get_le-join s (suc at) a b)))

pow_pos : (w : ℕ) → zero < 256 ^ w
pow_pos zero = omega arith
pow_pos (suc w) = rw pow-succ' (omega (arith, pow_pos w))

low_byte : (v a : ℕ) → v % 256 ^ suc a % 256 ≡ v % 256
low_byte v a = rw (pow-suc, mod-mul v {m = 256 ^ a} {c = 256} (pow_pos a) (omega arith)) (digits_mod _ (omega arith))

high-bytes : (v a : ℕ) → v % 256 ^ suc a / 256 ≡ v / 256 % 256 ^ a
high-bytes v a = rw (pow-suc, mod-mul v {m = 256 ^ a} {c = 256} (pow_pos a) (omega arith)) (digits_div _ (omega arith))

div-more : (v a : ℕ) → v / 256 ^ suc a ≡ v / 256 / 256 ^ a
div-more v a = rw (pow-succ', div-div-eq-div-mul)

-- a number is written by writing its low part and its high part
pub set_le-join : (s : List ℕ) (at a b v : ℕ)
    → set_le s at (a + b) v ≡ set_le (set_le s at a (v % 256 ^ a)) (at + a) b (v / 256 ^ a)
unfolding set_le
set_le-join s at zero b v = simp (zero-add, add-zero, div-one)
set_le-join s at (suc a) b v =
    rw (suc-add, add-suc, low_byte, high-bytes, div-more)
    (rw suc-add at (set_le-join (set s at (v % 256)) (suc at) a b (v / 256)))

-- a write keeps the length
pub length-set_le : (s : List ℕ) (at w v : ℕ) → length (set_le s at w v) ≡ length s
unfolding set_le
length-set_le s at zero v = refl
length-set_le s at (suc w) v = length-set_le (set s at (v % 256)) (suc at) w (v / 256) ∙ length-set s at (v % 256)

-- a write leaves each byte before it
pub get_d-before : (s : List ℕ) (at w v i : ℕ) → i < at → get_or (set_le s at w v) i 0 ≡ get_or s i 0
unfolding set_le
get_d-before s at zero v i h = refl
get_d-before s at (suc w) v i h =
    get_d-before (set s at (v % 256)) (suc at) w (v / 256) i (omega arith)
    ∙ get_or-set_other s at i (v % 256) 0 (omega arith)

-- a number that was written is read back, if it fits and the offset is in the list
pub get_le-same : (s : List ℕ) (at w v : ℕ) → at + w ≤ length s → v < 256 ^ w → get_le (set_le s at w v) at w ≡ v
unfolding get_le set_le
get_le-same s at zero v h k = omega arith
get_le-same s at (suc w) v h k =
    rw (
      get_d-before (set s at (v % 256)) (suc at) w (v / 256) at (omega arith),
      get_or-set_same s at (v % 256) 0 (omega arith),
      get_le-same (set s at (v % 256)) (suc at) w (v / 256) (rw length-set (omega arith))
          ((div-lt_iff_lt-mul (omega arith)).1 (rw pow-suc at k)),
    )
    (omega arith)

bytes-set : (s : List ℕ) (at v : ℕ) → Bytes s → v < 256 → Bytes (set s at v)
bytes-set s at v h k i = by (ℕ_discrete i at)
  where
    in-range : i ≡ at → Dec (at < length s) → get_or (set s at v) i 0 < 256
    in-range e (yes l) = rw (e, get_or-set_same s at v 0 l) k
    in-range e (no l) = rw (set_out s at v (omega arith)) (h i)

    by : Dec (i ≡ at) → get_or (set s at v) i 0 < 256
    by (yes e) = in-range e (dec_lt at (length s))
    by (no n) = rw (get_or-set_other s at i v 0 n) (h i)

-- a write leaves a list of bytes
pub bytes-set_le : (s : List ℕ) (at w v : ℕ) → Bytes s → Bytes (set_le s at w v)
unfolding set_le
bytes-set_le s at zero v h = h
bytes-set_le s at (suc w) v h =
    bytes-set_le (set s at (v % 256)) (suc at) w (v / 256) (bytes-set s at (v % 256) h (omega arith))

-- a number that is read from bytes fits its width
pub get_le-lt : (s : List ℕ) (at w : ℕ) → Bytes s → get_le s at w < 256 ^ w
unfolding get_le
get_le-lt s at zero h = omega arith
get_le-lt s at (suc w) h = rw pow-succ' (omega (arith, h at, get_le-lt s (suc at) w h))
