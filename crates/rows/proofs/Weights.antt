-- Numbers that count only if a test holds: n if u is v, and 1 if u is below v.
use mathlib.Core.Path.{◌≡◌, refl, sym, ◌∙◌}
use mathlib.Core.Logic.{◌≢◌}
use Prim.Native.Nat.{ℕ, ◌+◌, ◌≤◌, ◌<◌}
use native.Mathlib.Omega.{arith}
use native.Mathlib.Decide.{ℕ_discrete, dec_lt}
use Rattle.rows.specs.Comparisons.{same, other, same?, before, after, order?}
use Rattle.rows.specs.Branch.{if}
use Rattle.rows.specs.Update.{update}
use Rattle.rows.specs.Weights.{when, below}
use Rattle.rows.proofs.Branch.{if_yes, if_no}
use Rattle.rows.proofs.Update.{update_same, update_other}

-- ---- when u v n: n if u is v, else 0

-- `when u v n` is n where the two numbers are the same.
pub when-same : (u n : ℕ) → when u u n ≡ n
unfolding when
when-same u n = if_yes (ℕ_discrete u u) n 0 refl

-- `when u v n` is 0 where the two numbers differ.
pub when-other : (u v n : ℕ) → u ≢ v → when u v n ≡ 0
unfolding when
when-other u v n d = if_no (ℕ_discrete u v) n 0 d

-- `when u v` of a sum is the sum of the two.
pub when-add : (u v m n : ℕ) → when u v (m + n) ≡ when u v m + when u v n
unfolding when
when-add u v m n =
    elim (ℕ_discrete u v) as (λ d. if d (m + n) 0 ≡ if d m 0 + if d n 0) [ yes e ↦ refl | no d ↦ refl ]

-- `when u v` of a smaller number is no larger.
pub when-le : (u v m n : ℕ) → m ≤ n → when u v m ≤ when u v n
unfolding when
when-le u v m n h = elim (ℕ_discrete u v) as (λ d. if d m 0 ≤ if d n 0) [ yes e ↦ h | no d ↦ omega arith ]

-- `when u v n` is at most n.
pub when-max : (u v n : ℕ) → when u v n ≤ n
unfolding when
when-max u v n = elim (ℕ_discrete u v) as (λ d. if d n 0 ≤ n) [ yes e ↦ omega arith | no d ↦ omega arith ]

-- `when u v n` is 0 if n is 0.
pub when-zero : (u v : ℕ) → when u v 0 ≡ 0
when-zero u v = omega (arith, when-max u v 0)

-- If `when u v n` is not 0, the two numbers are the same and n is not 0.
pub when-is : (u v n : ℕ) → 1 ≤ when u v n → (u ≡ v) × (1 ≤ n)
when-is u v n h = elim (same? u v) [
  | same e ↦ (e, omega (arith, when-max u v n))
  | other d ↦ absurd (omega (arith, when-other u v n d))
]

-- The order of the two numbers u and v does not matter to `when u v n`.
pub when-sym : (u v n : ℕ) → when u v n ≡ when v u n
when-sym u v n = elim (same? u v) [
  | same e ↦ rw e
  | other d ↦ when-other u v n d ∙ sym (when-other v u n (λ e. d (sym e)))
]

-- ---- below u v: 1 if u is below v, else 0

-- `below u v` is 1 for a number u below v.
pub below-yes : (u v : ℕ) → u < v → below u v ≡ 1
unfolding below
below-yes u v h = if_yes (dec_lt u v) 1 0 h

-- `below u v` is 0 for a number u from v on.
pub below-no : (u v : ℕ) → v ≤ u → below u v ≡ 0
unfolding below
below-no u v h = if_no (dec_lt u v) 1 0 (λ l. omega arith)

-- `below u v` is at most 1.
pub below-max : (u v : ℕ) → below u v ≤ 1
unfolding below
below-max u v = elim (dec_lt u v) as (λ d. if d 1 0 ≤ 1) [ yes l ↦ omega arith | no n ↦ omega arith ]

-- If `below u v` is not 0, u is below v.
pub below-is : (u v : ℕ) → 1 ≤ below u v → u < v
below-is u v h = elim (order? u v) [ before l ↦ l | after g ↦ absurd (omega (arith, below-no u v g)) ]

-- ---- a weight after an update

-- A function changed at one index: there the new weight stands for the old one, elsewhere it is as before.
pub weight-update : {A : Type 0} (w : A → ℕ) (f : ℕ → A) (k : ℕ) (x : A) (j : ℕ)
    → w (update f k x j) + when j k (w (f k)) ≡ w (f j) + when j k (w x)
weight-update w f k x j = elim (same? j k) [
  | same e ↦ rw (e, update_same f k x, when-same k (w (f k)), when-same k (w x)) (omega arith)
  | other d ↦ rw (update_other f k x j d, when-other j k (w (f k)) d, when-other j k (w x) d) (omega arith)
]
