-- What is added up over regions and over tasks may be added up in either order.
use mathlib.Core.Path.{◌≡◌, refl, sym, ap, ◌∙◌}
use Prim.Native.Nat.{ℕ, zero, suc, ◌+◌}
use Rattle.rows.specs.Weights.{when}
use Rattle.rows.specs.Totals.{total}
use Rattle.rows.proofs.Weights.{when-zero, when-add}
use Rattle.rows.proofs.Totals.{total-zero, total-add}
use Rattle.holders.specs.Form.{added_up}

module _ {A : Type 0} (f : ℕ → A) where
  -- a total counts for the class where each of its parts does
  when-total : (u v n : ℕ) (w : ℕ → A → ℕ) → when u v (total n w f) ≡ total n (λ t x. when u v (w t x)) f
  unfolding total
  when-total u v zero w = when-zero u v
  when-total u v (suc n) w = when-add u v (total n w f) (w n (f n)) ∙ ap (λ (k : ℕ). k + when u v (w n (f n)))
      (when-total u v n w)

  -- "an exchange of two sums": what n tasks have, region by region, is what the regions have, task by task
  pub added-exchange : (regions : ℕ) (classes : ℕ → ℕ) (c n : ℕ) (w : ℕ → ℕ → A → ℕ)
      → added_up regions classes c (λ r. total n (w r) f) ≡ total n (λ t x. added_up regions classes c (λ r. w r t x)) f
  unfolding added_up total
  added-exchange zero classes c n w = sym (total-zero n (λ t x. 0) f (λ i l. refl))
  added-exchange (suc k) classes c n w =
      rw (added-exchange k classes c n w, when-total c (classes k) n (w k))
      (sym (total-add n (λ t x. added_up k classes c (λ r. w r t x)) (λ t x. when c (classes k) (w k t x)) f))
