-- A weight summed over the first n holders: bounds by its parts, and what one update changes.
use mathlib.Core.Path.{◌≡◌, refl, ap}
use mathlib.Core.Logic.{◌≢◌}
use Prim.Native.Nat.{ℕ, zero, suc, ◌+◌, ◌*◌, ◌≤◌, ◌<◌}
use native.Mathlib.Omega.{arith}
use native.Mathlib.Nat.{suc-mul}
use Rattle.rows.specs.Comparisons.{same, other, same?, before, after, order?}
use Rattle.rows.specs.Update.{update}
use Rattle.rows.specs.Totals.{total, Found}
use Rattle.rows.proofs.Update.{update_same, update_other}

-- ---- two totals compared

-- Totals of the same parts are the same.
pub total-same : {A B : Type 0} (n : ℕ) (w : ℕ → A → ℕ) (f : ℕ → A) (z : ℕ → B → ℕ) (g : ℕ → B)
    → ((i : ℕ) → i < n → w i (f i) ≡ z i (g i)) → total n w f ≡ total n z g
unfolding total
total-same zero w f z g h = refl
total-same (suc n) w f z g h =
    omega (arith, total-same n w f z g (λ i l. h i (omega arith)), h n (omega arith))

module _ {A : Type 0} where
  -- One holder more adds its part.
  pub total-suc : (n : ℕ) (w : ℕ → A → ℕ) (f : ℕ → A) → total (suc n) w f ≡ total n w f + w n (f n)
  unfolding total
  total-suc n w f = refl

  -- A total of smaller parts is no larger.
  pub total-le : (n : ℕ) (w z : ℕ → A → ℕ) (f : ℕ → A)
      → ((i : ℕ) → i < n → w i (f i) ≤ z i (f i)) → total n w f ≤ total n z f
  unfolding total
  total-le zero w z f h = omega arith
  total-le (suc n) w z f h = omega (arith, total-le n w z f (λ i l. h i (omega arith)), h n (omega arith))

  -- The total of two weights together is the sum of their totals.
  pub total-add : (n : ℕ) (w z : ℕ → A → ℕ) (f : ℕ → A)
      → total n (λ i x. w i x + z i x) f ≡ total n w f + total n z f
  unfolding total
  total-add zero w z f = refl
  total-add (suc n) w z f = omega (arith, total-add n w z f)

  -- ---- a total and its parts

  -- One part is at most the total.
  pub total-one : (n : ℕ) (w : ℕ → A → ℕ) (f : ℕ → A) (k : ℕ) → k < n → w k (f k) ≤ total n w f
  unfolding total
  total-one zero w f k h = absurd (omega arith)
  total-one (suc n) w f k h = elim (same? n k) [
    | same e ↦ rw e (omega arith)
    | other d ↦ omega (arith, total-one n w f k (omega arith))
  ]

  -- The parts of two holders together are at most the total.
  pub total-two : (n : ℕ) (w : ℕ → A → ℕ) (f : ℕ → A) (i k : ℕ)
      → i ≢ k → i < n → k < n → w i (f i) + w k (f k) ≤ total n w f
  unfolding total
  total-two zero w f i k d h l = absurd (omega arith)
  total-two (suc n) w f i k d h l = elim (same? n k) [
    | same e ↦ rw (← e) (omega (arith, total-one n w f i (omega arith)))
    | other x ↦ elim (same? n i) [
      | same e ↦ rw (← e) (omega (arith, total-one n w f k (omega arith)))
      | other y ↦ omega (arith, total-two n w f i k d (omega arith) (omega arith))
    ]
  ]

  -- The total of parts that are all 0 is 0.
  pub total-zero : (n : ℕ) (w : ℕ → A → ℕ) (f : ℕ → A) → ((i : ℕ) → i < n → w i (f i) ≡ 0) → total n w f ≡ 0
  unfolding total
  total-zero zero w f h = refl
  total-zero (suc n) w f h = omega (arith, total-zero n w f (λ i l. h i (omega arith)), h n (omega arith))

  -- If all parts but one are 0, the total is that part.
  pub total-only : (n : ℕ) (w : ℕ → A → ℕ) (f : ℕ → A) (k : ℕ)
      → k < n → ((i : ℕ) → i < n → i ≢ k → w i (f i) ≡ 0) → total n w f ≡ w k (f k)
  unfolding total
  total-only zero w f k l h = absurd (omega arith)
  total-only (suc n) w f k l h = elim (same? n k) [
    | same e ↦ rw (← e) (omega (arith, total-zero n w f (λ i l. h i (omega arith) (omega arith))))
    | other d ↦
        omega (arith, h n (omega arith) d, total-only n w f k (omega arith) (λ i l. h i (omega arith)))
  ]

  -- Holders whose parts are all 0 add nothing.
  pub total-more : (n k : ℕ) (w : ℕ → A → ℕ) (f : ℕ → A) → n ≤ k → ((i : ℕ) → n ≤ i → i < k → w i (f i) ≡ 0)
      → total k w f ≡ total n w f
  unfolding total
  total-more n zero w f l h =
      let e : n ≡ 0 = omega arith in
      rw e
  total-more n (suc k) w f l h = elim (order? k n) [
    | before b ↦ (let e : n ≡ suc k = omega arith in
        rw e)
    | after b ↦ omega (arith, total-more n k w f b (λ i g j. h i g (omega arith)), h k b (omega arith))
  ]

  -- A total of n parts, each at most b, is at most n × b.
  pub total-most : (n b : ℕ) (w : ℕ → A → ℕ) (f : ℕ → A) → ((i : ℕ) → i < n → w i (f i) ≤ b) → total n w f ≤ n * b
  unfolding total
  total-most zero b w f h = omega arith
  total-most (suc n) b w f h =
      let e : suc n * b ≡ n * b + b = suc-mul n b in
      omega (arith, e, total-most n b w f (λ i l. h i (omega arith)), h n (omega arith))

  -- If the total is not 0, some holder's part is not 0.
  pub total-found : (n : ℕ) (w : ℕ → A → ℕ) (f : ℕ → A) → 1 ≤ total n w f → Found n w f
  unfolding total
  total-found zero w f h = absurd (omega arith)
  total-found (suc n) w f h = elim (order? 0 (w n (f n))) [
    | before e ↦ record { at = n; fits = omega arith; has = e }
    | after e ↦
        let g = total-found n w f (omega arith) in
        record { at = g.at; fits = omega (arith, g.fits); has = g.has }
  ]

  -- ---- a total after an update

  -- An update past the first n holders changes nothing.
  pub total-out : (n : ℕ) (w : ℕ → A → ℕ) (f : ℕ → A) (k : ℕ) (x : A)
      → n ≤ k → total n w (update f k x) ≡ total n w f
  total-out n w f k x h =
      total-same n w (update f k x) w f (λ i l. ap (w i) (update_other f k x i (omega arith)))

  -- An update at one of them takes its old part away and adds the new one.
  pub total-update : (n : ℕ) (w : ℕ → A → ℕ) (f : ℕ → A) (k : ℕ) (x : A)
      → k < n → total n w (update f k x) + w k (f k) ≡ total n w f + w k x
  unfolding total
  total-update zero w f k x h = absurd (omega arith)
  total-update (suc n) w f k x h = elim (same? n k) [
    | same e ↦ rw (e, update_same f k x, total-out k w f k x (omega arith)) (omega arith)
    | other d ↦ rw (update_other f k x n d) (omega (arith, total-update n w f k x (omega arith)))
  ]
