-- What the code computes is a mask: a test of every class, word and bit, which antt computes.
use mathlib.Core.Path.{◌≡◌, refl, sym, ap, ◌∙◌}
use mathlib.Core.Bool.{Bool, true, false, cond}
use Prim.Native.Nat.{ℕ, ◌+◌, ◌-◌, ◌*◌, ◌/◌, ◌%◌, ◌^◌, ◌≤◌, ◌<◌}
use native.Mathlib.Nat.{mod-lt, div-le_self}
use native.Mathlib.Omega.{arith}
use lib.Dec.{T, ltb, eqb, eqb→eq}
use borrow.Author.Tests.{lt-ltb, le-ltb}
use Rattle.limits.specs.Limits.{REGION_UNITS, CLASSES, WORD_MARKS}
use Rattle.words.specs.Mark.{bit_at, is_set}
use Rattle.classes.specs.Classes.{LARGEST_UNITS, units, per_region}
use Rattle.classes.specs.Geometry.{is_first}
use Rattle.classes.proofs.Below.{all, at}
use Rattle.classes.proofs.Tables.{units-low, units-high}
use Rattle.reports.specs.Passing.{weigh}
use Rattle.report_marks.specs.Masks.{REGION_WORDS, every_bit, MaskOf}

-- the pattern of class k is that of every class that is k
pub pattern-at : (c k : ℕ) {x : ℕ} → x ≡ every_bit (units k) WORD_MARKS → c ≡ k → x ≡ every_bit (units c) WORD_MARKS
pattern-at c k h e = h ∙ ap (λ (n : ℕ). every_bit (units n) WORD_MARKS) (sym e)

-- a remainder by the units of a block is below 32, so that a word can be shifted by it
pub shift-low : (c u x : ℕ) → u ≡ units c → x % u < LARGEST_UNITS
shift-low c u x e = rw e (omega (arith, units-high c, mod-lt x (units-low c)))

-- ---- the numbers that the code computes: u the units of a block, p the pattern, k the word

-- how many bits of the word come before the first block that begins in it
abbrev skip : ℕ → ℕ → ℕ
skip u k = (u - WORD_MARKS * k % u) % u

-- the pattern from that block on
abbrev shifted : ℕ → ℕ → ℕ → ℕ
shifted u p k = p * 2 ^ skip u k % 2 ^ WORD_MARKS

-- a word without what is left over at the region's end
abbrev cut : ℕ → ℕ → ℕ
cut u m = m * 2 ^ (REGION_UNITS % u) % 2 ^ WORD_MARKS / 2 ^ (REGION_UNITS % u)

-- what the code makes of the class's units and pattern: the last word alone is cut
abbrev made : ℕ → ℕ → ℕ
made c k =
    let m = shifted (units c) (every_bit (units c) WORD_MARKS) k in
    cond (ltb k (REGION_WORDS - 1)) m (cut (units c) m)

-- ---- the test

-- the bit j of what is made for the word k is 1 where a block of class c begins there, else 0
abbrev bit : ℕ → ℕ → ℕ → Bool
bit c k j = eqb (bit_at (made c k) j) (weigh j (is_first c (WORD_MARKS * k + j)))

-- each bit of the word k is
abbrev word : ℕ → ℕ → Bool
word c k = all (bit c k) WORD_MARKS

-- each bit of each of a region's words is
abbrev words : ℕ → Bool
words c = all (word c) REGION_WORDS

-- the test passes for every class
every-mask : T (all words CLASSES)
unfolding every_bit units per_region is_first
every-mask = tt

-- a bit that is 1 where a test passes is set where it passes
weighed : (b : Bool) (j : ℕ) → eqb (weigh j b) 1 ≡ b
weighed true j = refl
weighed false j = refl

-- what the code makes has the bits of a mask
made_tells : (c k j : ℕ) → c < CLASSES → k < REGION_WORDS → j < WORD_MARKS
    → is_set (made c k) j ≡ is_first c (WORD_MARKS * k + j)
made_tells c k j l h i =
    let b = is_first c (WORD_MARKS * k + j) in
    let t = at (bit c k) WORD_MARKS (at (word c) REGION_WORDS (at words CLASSES every-mask c l) k h) j i in
    ap (λ (x : ℕ). eqb x 1) (eqb→eq (bit_at (made c k) j) (weigh j b) t) ∙ weighed b j

-- ---- what the code has: its u and p are those of the class

-- in a word before the last the shifted pattern is the mask
pub mask-before : (c k u p : ℕ) → c < CLASSES → k < REGION_WORDS - 1 → u ≡ units c → p ≡ every_bit (units c) WORD_MARKS
    → MaskOf c k (shifted u p k)
mask-before c k u p l h e f =
    rw (e, f)
    (record {
      below = mod-lt _ (omega arith);
      tells = λ j i. rw (lt-ltb k (REGION_WORDS - 1) h) at (made_tells c k j l (omega arith) i);
    })

-- a word that is cut is no larger than a word
cut_below : (u m : ℕ) → cut u m < 2 ^ WORD_MARKS
cut_below u m =
    let over = 2 ^ (REGION_UNITS % u) in
    omega (arith, div-le_self (m * over % 2 ^ WORD_MARKS) over)

-- in the last word the shifted pattern is the mask when it is cut
pub mask-last : (c k u p : ℕ) → c < CLASSES → k < REGION_WORDS → REGION_WORDS - 1 ≤ k → u ≡ units c
    → p ≡ every_bit (units c) WORD_MARKS → MaskOf c k (cut u (shifted u p k))
mask-last c k u p l h g e f =
    rw (e, f)
    (record {
      below = cut_below _ _;
      tells = λ j i. rw (le-ltb k (REGION_WORDS - 1) g) at (made_tells c k j l h i);
    })
