-- The first of the numbers below n that passes a test.
use mathlib.Core.Path.{◌≡◌, sym, ◌∙◌}
use mathlib.Core.Bool.{Bool, true, false, true≢false}
use Prim.Native.Nat.{ℕ, zero, suc, ◌+◌, ◌≤◌, ◌<◌}
use native.Mathlib.Omega.{arith}
use borrow.Author.Tests.{lt-ltb, le-ltb}
use Rattle.rows.specs.Comparisons.{same, other, same?, before, after, order?, holds, fails, true?}
use Rattle.reports.specs.Passing.{first_passing}

-- k is the first of the numbers below n that passes the test f, or n where none does
pub record FirstIs (n : ℕ) (f : ℕ → Bool) (k : ℕ) : Type 0 where
  pub at_most : k ≤ n
  pub passes : k < n → f k ≡ true
  pub none_before : (i : ℕ) → i < k → f i ≡ false

-- what is defined is the first
pub first-is : (n : ℕ) (f : ℕ → Bool) → FirstIs n f (first_passing n f)
unfolding first_passing
first-is zero f = record {
  at_most = omega arith;
  passes = λ l. absurd (omega arith);
  none_before = λ i l. absurd (omega arith);
}
first-is (suc n) f =
    let k = first_passing n f in
    let F = first-is n f in
    elim (order? k n) [
      | before l ↦ rw (lt-ltb k n l) (record {
        at_most = omega arith;
        passes = λ h. F.passes l;
        none_before = F.none_before;
      })
      | after l ↦ elim (true? (f n)) [
        | holds e ↦ rw (le-ltb k n l, e) (record {
          at_most = omega arith;
          passes = λ h. e;
          none_before = λ i h. F.none_before i (omega (arith, F.at_most));
        })
        | fails e ↦ rw (le-ltb k n l, e) (record {
          at_most = omega arith;
          passes = λ h. absurd (omega arith);
          none_before = λ i h. elim (same? i n) [ same d ↦ rw d e | other d ↦ F.none_before i (omega arith) ];
        })
      ]
    ]

-- and there is one first
pub first-unique : {n : ℕ} {f : ℕ → Bool} {k : ℕ} → FirstIs n f k → first_passing n f ≡ k
first-unique {n} {f} {k} F =
    let G = first-is n f in
    let i = first_passing n f in
    elim (order? i k) [
      | before l ↦
          absurd (true≢false (sym (G.passes (omega (arith, F.at_most))) ∙ F.none_before i l))
      | after l ↦ elim (order? k i) [
        | before h ↦ absurd (true≢false (sym (F.passes (omega (arith, G.at_most))) ∙ G.none_before k h))
        | after h ↦ omega arith
      ]
    ]

-- ---- a search from 0 on

-- none of the numbers below n passes
abbrev pub NonePass : ℕ → (ℕ → Bool) → Type 0
NonePass n f = (i : ℕ) → i < n → f i ≡ false

-- none does before the first
pub none_yet : (f : ℕ → Bool) → NonePass 0 f
none_yet f i l = absurd (omega arith)

-- one more does not
pub none_more : {n : ℕ} (f : ℕ → Bool) → NonePass n f → f n ≡ false → NonePass (n + 1) f
none_more {n} f none e i l = elim (same? i n) [ same d ↦ rw d e | other d ↦ none i (omega arith) ]

-- the first that does is found
pub first_found : {n k : ℕ} (f : ℕ → Bool) → NonePass k f → k < n → f k ≡ true → first_passing n f ≡ k
first_found f none l e = first-unique (record { at_most = omega arith; passes = λ h. e; none_before = none })

-- none is
pub first-none : {n : ℕ} (f : ℕ → Bool) → NonePass n f → first_passing n f ≡ n
first-none f none =
    first-unique (record { at_most = omega arith; passes = λ h. absurd (omega arith); none_before = none })
