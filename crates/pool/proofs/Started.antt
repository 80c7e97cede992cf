-- A start: refused by the first of its tests that fails, or accepted.
use mathlib.Core.Path.{◌≡◌, refl, sym, ap, subst, ◌∙◌}
use mathlib.Core.List.{List}
use Prim.Native.Nat.{ℕ, ◌/◌}
use native.Mathlib.Omega.{arith}
use lib.ListN.{length}
use Rattle.limits.specs.Limits.{CONTROL_BYTES, REGION_BYTES}
use Rattle.plain.specs.Calls.{Lengths, Start, start, StartTested, StartFails}
use Rattle.stepped.specs.Start.{start_image}
use Rattle.stepped.specs.Calls.{Lent, lengths}
use Rattle.stepped.proofs.CallTests.{start-failed, start-passed}
use Rattle.pool.specs.Call.{lengths_of, Ensures}

module _ (c a z : List ℕ) (tasks : ℕ) where
  abbrev b : Start
  b = record { tasks = tasks }

  abbrev lent : Lent
  lent = record { control = length c; area = a; strips = z }

  pub refused : {n k : ℕ} → k ≡ n → StartFails b (lengths lent) n → Ensures (start b) c a z c a z k
  refused e F =
      rw (start-failed b lent (record { control = c; area = a; strips = z }) F)
      (record { number = omega (arith, e); control_is = refl; area_is = refl; strips_is = refl })

  pub started : StartTested b (lengths lent) → {c' : List ℕ} → c' ≡ start_image b (length a / REGION_BYTES)
      → Ensures (start b) c a z c' a z 0
  started T i =
      rw (start-passed b lent (record { control = c; area = a; strips = z }) T)
      (record { number = refl; control_is = i; area_is = refl; strips_is = refl })

  -- on a control memory of its length
  abbrev at : ℕ → Lengths
  at n = record { control = n; area = length a; strips = length z }

  pub refused-by : {n k : ℕ} {c' : List ℕ} → length c ≡ CONTROL_BYTES → c' ≡ c
      → StartFails b (lengths_of (length a) (length z)) n → k ≡ n → Ensures (start b) c a z c' a z k
  refused-by {n} {k} l i F e =
      subst (λ (m : List ℕ). Ensures (start b) c a z m a z k) (sym i)
      (refused e (subst (λ (m : ℕ). StartFails b (at m) n) (sym l) F))

  pub starts : length c ≡ CONTROL_BYTES → {regions : ℕ} {c' : List ℕ}
      → (regions ≡ length a / REGION_BYTES) × StartTested b (lengths_of (length a) (length z))
      → c' ≡ start_image b regions → Ensures (start b) c a z c' a z 0
  starts l T i =
      started (subst (λ (m : ℕ). StartTested b (at m)) (sym l) T.1) (i ∙ ap (start_image b) T.0)
