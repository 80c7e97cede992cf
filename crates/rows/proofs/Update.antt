-- What a function gives after a change at one index.
use mathlib.Core.Path.{◌≡◌, refl}
use mathlib.Core.Logic.{◌≢◌}
use Prim.Native.Nat.{ℕ}
use native.Mathlib.Decide.{ℕ_discrete}
use Rattle.rows.specs.Comparisons.{same, other, same?}
use Rattle.rows.specs.Update.{update}
use Rattle.rows.proofs.Branch.{if_yes, if_no}

module _ {A : Type 0} where
  -- At its index stands the new value.
  pub update_same : (f : ℕ → A) (i : ℕ) (v : A) → update f i v i ≡ v
  unfolding update
  update_same f i v = if_yes (ℕ_discrete i i) v (f i) refl

  -- At any other index stands the old value.
  pub update_other : (f : ℕ → A) (i : ℕ) (v : A) (j : ℕ) → j ≢ i → update f i v j ≡ f j
  unfolding update
  update_other f i v j d = if_no (ℕ_discrete j i) v (f j) d

-- Two functions changed at the same index: what holds of the new values there, and of the old values at the
-- other indexes, holds at all indexes.
pub update-all₂ : {A B : Type 0} (P : ℕ → A → B → Type 0) (f : ℕ → A) (g : ℕ → B) (i : ℕ) (v : A) (w : B)
    → P i v w → ((j : ℕ) → j ≢ i → P j (f j) (g j)) → (j : ℕ) → P j (update f i v j) (update g i w j)
update-all₂ P f g i v w here there j = elim (same? j i) [
  | same e ↦ rw (e, update_same f i v, update_same g i w) here
  | other d ↦ rw (update_other f i v j d, update_other g i w j d) (there j d)
]

-- What holds of the new value at its index, and of the old values at the other indexes, holds at all indexes.
pub update_all : {A : Type 0} (P : ℕ → A → Type 0) (f : ℕ → A) (i : ℕ) (v : A)
    → P i v → ((j : ℕ) → j ≢ i → P j (f j)) → (j : ℕ) → P j (update f i v j)
update_all P f i v = update-all₂ (λ j a b. P j a) f f i v v
