-- The laws of a number's decimal text.
use Prim.Native.Nat.{ℕ, zero, suc, ◌+◌, ◌/◌, ◌%◌, ◌^◌, ◌≤◌, ◌<◌}
use mathlib.Core.Path.{◌≡◌, sym, ap, ◌∙◌}
use mathlib.Core.List.{List, [], ◌∷◌, ◌++◌}
use native.Mathlib.Omega.{arith}
use native.Mathlib.Nat.{pow-succ'}
use native.Mathlib.Decide.{dec_lt}
use borrow.Author.Tests.{lt-ltb, le-ltb}
use lib.ListN.{length, length-append}
use Rattle.std.specs.Fmt.{decimal as printed}
use Rattle.std.proofs.lemmas.Fmt.{decimal_by_steps}
use Rattle.schedule.specs.declared.treat.Line.{Line}
use Rattle.text.specs.declared.LostColumn.{LostColumn}
use Rattle.text.specs.declared.LostColumn.TheVariants.{Hidden, Shown}
use Rattle.text.specs.Texts.{digits, decimal}
use Rattle.text.specs.Lines.{COLUMNS_BYTES, LINE_BYTES, columns_text, line_text}

-- more digits than a number needs change nothing
enough : (f g n : ℕ) → n < f → n < g → digits f n ≡ digits g n
unfolding digits
enough zero g n h k = absurd (omega arith)
enough (suc f) zero n h k = absurd (omega arith)
enough (suc f) (suc g) n h k = elim (dec_lt n 10) [
  | yes d ↦ rw (lt-ltb n 10 d)
  | no d ↦ rw (le-ltb n 10 (omega arith))
      (ap (λ (l : List ℕ). l ++ (48 + n % 10) ∷ []) (enough f g (n / 10) (omega arith) (omega arith)))
]

pub one-digit : (n : ℕ) → n < 10 → decimal n ≡ (48 + n) ∷ []
unfolding digits
one-digit n h = rw (lt-ltb n 10 h)

pub last-digit : (n : ℕ) → 10 ≤ n → decimal n ≡ decimal (n / 10) ++ (48 + n % 10) ∷ []
unfolding digits
last-digit n h =
    rw (le-ltb n 10 h)
    (ap (λ (l : List ℕ). l ++ (48 + n % 10) ∷ []) (enough n (suc (n / 10)) (n / 10) (omega arith) (omega arith)))

-- a number of more than one digit has one digit more than its tenth
pub one-longer : (n : ℕ) → 10 ≤ n → length (decimal n) ≡ length (decimal (n / 10)) + 1
one-longer n h = ap length (last-digit n h) ∙ length-append (decimal (n / 10)) ((48 + n % 10) ∷ [])

-- the library prints a number of 64 bits as its decimal text
pub printed-is : (n : ℕ) → n < 2 ^ 64 → printed n ≡ decimal n
printed-is n h =
    sym (decimal_by_steps (λ (m : ℕ) (l : List ℕ). decimal m ≡ l) one-digit
    (λ m l d e. last-digit m d ∙ ap (λ (k : List ℕ). k ++ (48 + m % 10) ∷ []) e) n h)

-- a number below 10 ^ (k + 1) has at most k + 1 digits
short : (f k n : ℕ) → n < 10 ^ suc k → length (digits f n) ≤ suc k
unfolding digits
short zero k n h = omega arith
short (suc f) k n h = elim (dec_lt n 10) [
  | yes d ↦ rw (lt-ltb n 10 d) (omega arith)
  | no d ↦ rw (le-ltb n 10 (omega arith)) (longer k h (omega arith) (λ j l. short f j (n / 10) l))
]
  where
    longer : (k : ℕ) → n < 10 ^ suc k → 10 ≤ n → ((j : ℕ) → n / 10 < 10 ^ suc j → length (digits f (n / 10)) ≤ suc j)
        → length (digits f (n / 10) ++ (48 + n % 10) ∷ []) ≤ suc k
    longer zero h d front = absurd (omega arith)
    longer (suc k) h d front =
        omega (
          arith,
          length-append (digits f (n / 10)) ((48 + n % 10) ∷ []),
          front k
              (omega (arith, pow-succ' 10 (suc k))),
        )

-- a number of 64 bits has at most 20 digits
pub twenty : (n : ℕ) → n < 2 ^ 64 → length (decimal n) ≤ 20
twenty n h = short (suc n) 19 n (omega arith)

-- the line of column names has at most COLUMNS_BYTES bytes
pub short-columns : (lost : LostColumn) → length (columns_text lost) ≤ COLUMNS_BYTES
short-columns Shown = omega arith
short-columns Hidden = omega arith

-- the line of a record of the stand has at most LINE_BYTES bytes
pub short-line : (lost : LostColumn) (l : Line)
    → l.number < 10 ^ 5 → l.kind < 10 ^ 3 → l.code < 10 ^ 3 → l.value < 10 ^ 8 → l.lost < 10 ^ 10
    → length (line_text lost l) ≤ LINE_BYTES
unfolding line_text
short-line Shown l a b c d e =
    simp length-append
    (omega (
      arith,
      short (suc l.number) 4 l.number a,
      short (suc l.kind) 2 l.kind b,
      short (suc l.code) 2 l.code c,
      short (suc l.value) 7 l.value d,
      short (suc l.lost) 9 l.lost e,
    ))
short-line Hidden l a b c d e =
    simp length-append
    (omega (
      arith,
      short (suc l.number) 4 l.number a,
      short (suc l.kind) 2 l.kind b,
      short (suc l.code) 2 l.code c,
      short (suc l.value) 7 l.value d,
    ))
