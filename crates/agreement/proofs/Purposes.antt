-- What a task returns a cache for, by its unit, and its own block among those under way.
use mathlib.Core.Path.{◌≡◌}
use mathlib.Core.Logic.{◌≢◌, ◌⊎◌, inl, inr}
use mathlib.Core.List.{List, ◌++◌}
use Prim.Native.Nat.{ℕ, ◌≤◌}
use native.Mathlib.Omega.{arith}
use borrow.Author.Tests.{eq-eqb, ne_eqb}
use Rattle.rows.specs.Comparisons.{same, other, same?}
use Rattle.rows.specs.Counting.{count}
use Rattle.rows.proofs.Counting.{count-append}
use Rattle.rows.proofs.Weights.{when-same}
use Rattle.plain.specs.State.{Purpose, to_free, to_leave}
use Rattle.plain.specs.Held.{own_blocks}
use Rattle.control.specs.Layout.{LEAVING}
use Rattle.agreement.specs.Contents.{purpose_of}

-- no unit: the task leaves
pub is-leaving : {u : ℕ} → u ≡ LEAVING → purpose_of u ≡ to_leave
is-leaving {u} e = rw (eq-eqb u LEAVING e)

-- a unit: the task frees it
pub is-freeing : {u : ℕ} → u ≢ LEAVING → purpose_of u ≡ to_free u
is-freeing {u} n = rw (ne_eqb u LEAVING n)

-- a group behind the task's own block is under way
pub group-in : (z : Purpose) (q : List ℕ) (x : ℕ) → count x q ≤ count x (own_blocks z ++ q)
group-in z q x = omega (arith, count-append x (own_blocks z) q)

-- the task's own block, before a group, is under way
pub own_in : (z : Purpose) (q : List ℕ) (x : ℕ) → count x (own_blocks z) ≤ count x (own_blocks z ++ q)
own_in z q x = omega (arith, count-append x (own_blocks z) q)

-- the unit of a task that returns a cache is none, or that of a block among those under way, q
abbrev pub Owned : ℕ → List ℕ → Type 0
Owned u q = (u ≡ LEAVING) ⊎ (1 ≤ count u q)

pub owned : (u : ℕ) (q : List ℕ) → ((x : ℕ) → count x (own_blocks (purpose_of u)) ≤ count x q) → Owned u q
owned u q h = elim (same? u LEAVING) [
  | same e ↦ inl e
  | other n ↦ (let i : purpose_of u ≡ to_free u = is-freeing n in inr (omega (arith, rw i at (h u), when-same u 1)))
]
