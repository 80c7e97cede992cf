-- The row that a report fills: the numbers that stand in it, and what is left of it.
use mathlib.Core.Path.{◌≡◌, refl, ap, ◌∙◌}
use mathlib.Core.List.{List, [], ◌∷◌, ◌++◌}
use Prim.Native.Nat.{ℕ, zero, suc, ◌+◌, ◌*◌, ◌/◌, ◌%◌, ◌≤◌, ◌<◌}
use native.Mathlib.Omega.{arith}
use lib.ListN.{length, get_or, set, drop}
use lib.Seq.{get_or-set_same}
use Rattle.fields.specs.Little.{get_le, set_le}
use Rattle.fields.proofs.Little.{length-set_le, get_le-same, get_d-before}
use Rattle.fields.proofs.Elsewhere.{get_d-other, get_le-other}
use Rattle.reports.specs.Rows.{BYTES_OF_NUMBER, with_numbers, numbers_to}

-- ---- a list that is taken apart at an index

-- an index below the length: the number there, and what stands behind it
pub drop_at : (ns : List ℕ) (i : ℕ) → i < length ns → drop i ns ≡ get_or ns i 0 ∷ drop (i + 1) ns
drop_at [] i l = absurd (omega arith)
drop_at (n ∷ ns) zero l = refl
drop_at (n ∷ ns) (suc i) l =
    let e : suc i + 1 ≡ suc (i + 1) = omega arith in
    rw e (drop_at ns i (omega arith))

-- an index past the last: nothing is left
pub drop_all : (ns : List ℕ) (i : ℕ) → length ns ≤ i → drop i ns ≡ []
drop_all [] zero l = refl
drop_all [] (suc i) l = refl
drop_all (n ∷ ns) zero l = absurd (omega arith)
drop_all (n ∷ ns) (suc i) l = drop_all ns i (omega arith)

-- ---- the numbers, one behind the other

-- the number i is written: the rest is from the next one on
pub write-next : (ns : List ℕ) (i : ℕ) (row : List ℕ) → i < length ns
    → with_numbers (BYTES_OF_NUMBER * i) (drop i ns) row
    ≡ with_numbers (BYTES_OF_NUMBER * (i + 1)) (drop (i + 1) ns)
    (set_le row (BYTES_OF_NUMBER * i) BYTES_OF_NUMBER (get_or ns i 0))
unfolding with_numbers
write-next ns i row l =
    let e : BYTES_OF_NUMBER * i + BYTES_OF_NUMBER ≡ BYTES_OF_NUMBER * (i + 1) = omega arith in
    let written = set_le row (BYTES_OF_NUMBER * i) BYTES_OF_NUMBER (get_or ns i 0) in
    ap (λ (q : List ℕ). with_numbers (BYTES_OF_NUMBER * i) q row) (drop_at ns i l)
    ∙ ap (λ (at : ℕ). with_numbers at (drop (i + 1) ns) written) e

-- all are written
pub write-none : (at : ℕ) (ns : List ℕ) (i : ℕ) (row : List ℕ) → length ns ≤ i → with_numbers at (drop i ns) row ≡ row
unfolding with_numbers
write-none at ns i row l = rw (drop_all ns i l)

-- a row keeps its length,
pub row-length : (at : ℕ) (ns row : List ℕ) → length (with_numbers at ns row) ≡ length row
unfolding with_numbers
row-length at [] row = refl
row-length at (n ∷ ns) row =
    row-length (at + BYTES_OF_NUMBER) ns (set_le row at BYTES_OF_NUMBER n) ∙ length-set_le row at BYTES_OF_NUMBER n

-- every number in front of the first byte that is written,
pub number-before : (at : ℕ) (ns row : List ℕ) (i : ℕ) → i + BYTES_OF_NUMBER ≤ at
    → get_le (with_numbers at ns row) i BYTES_OF_NUMBER ≡ get_le row i BYTES_OF_NUMBER
unfolding with_numbers
number-before at [] row i l = refl
number-before at (n ∷ ns) row i l =
    number-before (at + BYTES_OF_NUMBER) ns (set_le row at BYTES_OF_NUMBER n) i (omega arith)
    ∙ get_le-other row at BYTES_OF_NUMBER n i BYTES_OF_NUMBER (λ h. omega arith)

-- and its further bytes: "a longer one keeps its further bytes"
pub further-kept : (at : ℕ) (ns row : List ℕ) (i : ℕ) → at + BYTES_OF_NUMBER * length ns ≤ i
    → get_or (with_numbers at ns row) i 0 ≡ get_or row i 0
unfolding with_numbers
further-kept at [] row i l = refl
further-kept at (n ∷ ns) row i l =
    further-kept (at + BYTES_OF_NUMBER) ns (set_le row at BYTES_OF_NUMBER n) i (omega arith)
    ∙ get_d-other row at BYTES_OF_NUMBER n i (λ h. omega arith)

-- the number i stands where it was written
pub number-written : (at : ℕ) (ns row : List ℕ) (i : ℕ) → at + BYTES_OF_NUMBER * length ns ≤ length row → i < length ns
    → get_or ns i 0 < 65536 → get_le (with_numbers at ns row) (at + BYTES_OF_NUMBER * i) BYTES_OF_NUMBER ≡ get_or ns i 0
unfolding with_numbers
number-written at [] row i h l small = absurd (omega arith)
number-written at (n ∷ ns) row zero h l small =
    let e : at + BYTES_OF_NUMBER * 0 ≡ at = omega arith in
    rw e
    (number-before (at + BYTES_OF_NUMBER) ns (set_le row at BYTES_OF_NUMBER n) at (omega arith)
    ∙ get_le-same row at BYTES_OF_NUMBER n (omega arith) small)
number-written at (n ∷ ns) row (suc i) h l small =
    let e : at + BYTES_OF_NUMBER * suc i ≡ at + BYTES_OF_NUMBER + BYTES_OF_NUMBER * i = omega arith in
    rw e
    (number-written (at + BYTES_OF_NUMBER) ns (set_le row at BYTES_OF_NUMBER n) i
    (omega (arith, length-set_le row at BYTES_OF_NUMBER n)) (omega arith) small)

-- the bytes in front of the first that is written are kept
byte-before : (at : ℕ) (ns row : List ℕ) (i : ℕ) → i < at → get_or (with_numbers at ns row) i 0 ≡ get_or row i 0
unfolding with_numbers
byte-before at [] row i l = refl
byte-before at (n ∷ ns) row i l =
    byte-before (at + BYTES_OF_NUMBER) ns (set_le row at BYTES_OF_NUMBER n) i (omega arith)
    ∙ get_d-before row at BYTES_OF_NUMBER n i l

-- the first byte of the number i is its low one
pub low_byte : (at : ℕ) (ns row : List ℕ) (i : ℕ) → at + BYTES_OF_NUMBER * length ns ≤ length row → i < length ns
    → get_or (with_numbers at ns row) (at + BYTES_OF_NUMBER * i) 0 ≡ get_or ns i 0 % 256
unfolding with_numbers set_le
low_byte at [] row i h l = absurd (omega arith)
low_byte at (n ∷ ns) row zero h l =
    let e : at + BYTES_OF_NUMBER * 0 ≡ at = omega arith in
    rw e
    (byte-before (at + BYTES_OF_NUMBER) ns (set_le row at BYTES_OF_NUMBER n) at (omega arith)
    ∙ get_d-before (set row at (n % 256)) (suc at) 1 (n / 256) at (omega arith)
    ∙ get_or-set_same row at (n % 256) 0 (omega arith))
low_byte at (n ∷ ns) row (suc i) h l =
    let e : at + BYTES_OF_NUMBER * suc i ≡ at + BYTES_OF_NUMBER + BYTES_OF_NUMBER * i = omega arith in
    rw e
    (low_byte (at + BYTES_OF_NUMBER) ns (set_le row at BYTES_OF_NUMBER n) i
    (omega (arith, length-set_le row at BYTES_OF_NUMBER n)) (omega arith))

-- ---- the numbers f 0 to f (n − 1)

-- there are n of them
pub numbers-length : (n : ℕ) (f : ℕ → ℕ) → length (numbers_to n f) ≡ n
unfolding numbers_to
numbers-length zero f = refl
numbers-length (suc n) f = ap suc (numbers-length n (λ i. f (suc i)))

-- number i is f i
pub number_is : (n : ℕ) (f : ℕ → ℕ) (i : ℕ) → i < n → get_or (numbers_to n f) i 0 ≡ f i
unfolding numbers_to
number_is zero f i l = absurd (omega arith)
number_is (suc n) f zero l = refl
number_is (suc n) f (suc i) l = number_is n (λ i. f (suc i)) i (omega arith)

-- a list of n numbers, each of which is f's
pub numbers_are : (ns : List ℕ) (n : ℕ) (f : ℕ → ℕ) → length ns ≡ n → ((i : ℕ) → i < n → get_or ns i 0 ≡ f i)
    → ns ≡ numbers_to n f
unfolding numbers_to
numbers_are [] zero f e h = refl
numbers_are [] (suc n) f e h = absurd (omega arith)
numbers_are (x ∷ ns) zero f e h = absurd (omega arith)
numbers_are (x ∷ ns) (suc n) f e h =
    rw (h 0 (omega arith), numbers_are ns n (λ i. f (suc i)) (omega arith) (λ i l. h (suc i) (omega arith)))

-- with a list behind them, the first n are those,
pub number-first : (n : ℕ) (f : ℕ → ℕ) (rest : List ℕ) (i : ℕ) → i < n → get_or (numbers_to n f ++ rest) i 0 ≡ f i
unfolding numbers_to
number-first zero f rest i l = absurd (omega arith)
number-first (suc n) f rest zero l = refl
number-first (suc n) f rest (suc i) l = number-first n (λ i. f (suc i)) rest i (omega arith)

-- and then comes the list
pub number_behind : (n : ℕ) (f : ℕ → ℕ) (rest : List ℕ) (i : ℕ)
    → get_or (numbers_to n f ++ rest) (n + i) 0 ≡ get_or rest i 0
unfolding numbers_to
number_behind zero f rest i =
    let e : 0 + i ≡ i = omega arith in
    rw e
number_behind (suc n) f rest i =
    let e : suc n + i ≡ suc (n + i) = omega arith in
    rw e (number_behind n (λ i. f (suc i)) rest i)
