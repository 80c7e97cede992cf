-- Which branch a decided test takes.
use mathlib.Core.Path.{◌≡◌, refl}
use Rattle.rows.specs.Branch.{if}

module _ {ℓ} {A : Type ℓ} {P : Type 0} where
  -- If the fact holds, the first value is taken.
  pub if_yes : (d : Dec P) (a b : A) → P → if d a b ≡ a
  if_yes (yes p) a b h = refl
  if_yes (no n) a b h = absurd (n h)

  -- If the fact does not hold, the second value is taken.
  pub if_no : (d : Dec P) (a b : A) → ¬ P → if d a b ≡ b
  if_no (yes p) a b h = absurd (h p)
  if_no (no n) a b h = refl
