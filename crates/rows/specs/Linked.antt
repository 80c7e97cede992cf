-- docs/POOL.md, "Below the pool"
-- A row linked from item to item: `next` gives an item's link, `code` is the number by which a link names an
-- item, and `end` is the link of the last item.
use Rattle.std.specs.Prelude.{◌≡◌, List, [], ◌∷◌, ℕ, zero, suc, ◌≤◌}
use Rattle.rows.specs.Counting.{count}

-- The row from the link f on: empty if f is the end, else the item that f names and the row from its link on.
pub data Linked (next code : ℕ → ℕ) (end : ℕ) : ℕ → List ℕ → Type 0 where
  ends : {f : ℕ} → f ≡ end → Linked next code end f []
  links : {f u : ℕ} {r : List ℕ} → f ≡ code u → Linked next code end (next u) r
      → Linked next code end f (u ∷ r)

-- The two functions have the same link at every item of the row.
abbrev pub LinksAgree : (ℕ → ℕ) → (ℕ → ℕ) → List ℕ → Type 0
LinksAgree next new r = (v : ℕ) → 1 ≤ count v r → new v ≡ next v

-- The row of n items that the links give from f on, where `item` gives the item that a link names.
abbrev pub walk : (ℕ → ℕ) → (ℕ → ℕ) → ℕ → ℕ → List ℕ
walk next item f zero = []
walk next item f (suc n) = item f ∷ walk next item (next (item f)) n
