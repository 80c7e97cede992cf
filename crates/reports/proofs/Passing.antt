-- Laws of how many numbers pass a test, and of all passing.
use mathlib.Core.Path.{◌≡◌, refl, sym, ap, ◌∙◌}
use mathlib.Core.Logic.{◌≢◌}
use mathlib.Core.Bool.{Bool, true, false, ◌&&◌}
use Prim.Native.Nat.{ℕ, zero, suc, ◌+◌, ◌≤◌, ◌<◌}
use native.Mathlib.Omega.{arith}
use native.Mathlib.Nat.{add-suc, add-zero}
use Rattle.rows.specs.Comparisons.{same, other, same?}
use Rattle.rows.specs.Totals.{total}
use Rattle.rows.proofs.Totals.{total-same, total-only, total-zero}
use Rattle.stepped.proofs.Conjunction.{both}
use Rattle.reports.specs.Passing.{weigh, passing, all_pass}

-- ---- how many pass

-- a test weighs at most 1
pub weigh-max : (i : ℕ) (b : Bool) → weigh i b ≤ 1
weigh-max i true = omega arith
weigh-max i false = omega arith

-- at most all pass
pub passing-max : (n : ℕ) (f : ℕ → Bool) → passing n f ≤ n
unfolding total
passing-max zero f = omega arith
passing-max (suc n) f = omega (arith, passing-max n f, weigh-max n (f n))

-- tests that agree below n are passed by as many
pub passing-same : (n : ℕ) (f g : ℕ → Bool) → ((i : ℕ) → i < n → f i ≡ g i) → passing n f ≡ passing n g
passing-same n f g h = total-same n weigh f weigh g (λ i l. ap (weigh i) (h i l))

-- the first a numbers, and the b that come behind them
pub passing-split : (a b : ℕ) (f : ℕ → Bool) → passing (a + b) f ≡ passing a f + passing b (λ j. f (a + j))
unfolding total
passing-split a zero f = rw (add-zero a) (omega arith)
passing-split a (suc b) f = rw (add-suc a b) (omega (arith, passing-split a b f))

-- none passes
pub passing-none : (n : ℕ) (f : ℕ → Bool) → ((i : ℕ) → i < n → f i ≡ false) → passing n f ≡ 0
passing-none n f h = total-zero n weigh f (λ i l. ap (weigh i) (h i l))

-- none but the first can pass
pub passing-first : (n : ℕ) (f : ℕ → Bool) → 1 ≤ n → ((i : ℕ) → i < n → i ≢ 0 → f i ≡ false)
    → passing n f ≡ weigh 0 (f 0)
passing-first n f l h = total-only n weigh f 0 l (λ i k d. ap (weigh i) (h i k d))

-- ---- whether all pass

-- all pass, where each does
pub all-pass : (n : ℕ) (f : ℕ → Bool) → ((i : ℕ) → i < n → f i ≡ true) → all_pass n f ≡ true
unfolding all_pass
all-pass zero f h = refl
all-pass (suc n) f h = rw (all-pass n f (λ i l. h i (omega arith)), h n (omega arith))

-- each passes, where all do
pub each-passes : (n : ℕ) (f : ℕ → Bool) → all_pass n f ≡ true → (i : ℕ) → i < n → f i ≡ true
unfolding all_pass
each-passes zero f a i l = absurd (omega arith)
each-passes (suc n) f a i l = elim (same? i n) [
  | same e ↦ rw e (both (all_pass n f) (f n) a).1
  | other d ↦ each-passes n f (both (all_pass n f) (f n) a).0 i (omega arith)
]

-- one more passes
pub one_more : (n : ℕ) (f : ℕ → Bool) → all_pass n f ≡ true → f n ≡ true → all_pass (n + 1) f ≡ true
unfolding all_pass
one_more n f a e =
    let s : n + 1 ≡ suc n = omega arith in
    rw s (rw (a, e))

-- not all pass, where one fails
pub one-fails : (n : ℕ) (f : ℕ → Bool) (i : ℕ) → i < n → f i ≡ false → all_pass n f ≡ false
unfolding all_pass
one-fails zero f i l e = absurd (omega arith)
one-fails (suc n) f i l e = elim (same? i n) [
  | same s ↦ fails-last (all_pass n f) (f n) (sym (ap f s) ∙ e)
  | other d ↦ rw (one-fails n f i (omega arith) e)
]
  where
    fails-last : (a b : Bool) → b ≡ false → (a && b) ≡ false
    fails-last true b e = e
    fails-last false b e = refl
