-- docs/POOL.md, "Below the pool"
-- A weight summed over a number of holders.
use Rattle.std.specs.Prelude.{ℕ, zero, suc, ◌+◌, ◌≤◌, ◌<◌}

module _ {A : Type 0} where
  -- The sum of w i (f i) over the first n holders: holder i has f i, and the weight may depend on i too.
  unfoldable pub total : ℕ → (ℕ → A → ℕ) → (ℕ → A) → ℕ
  total zero w f = 0
  total (suc n) w f = total n w f + w n (f n)

  -- One of the first n holders whose weight is not 0.
  pub record Found (n : ℕ) (w : ℕ → A → ℕ) (f : ℕ → A) : Type 0 where
    pub at : ℕ
    pub fits : at < n
    pub has : 1 ≤ w at (f at)
