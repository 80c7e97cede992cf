-- docs/POOL.md, "Strips"
-- Finding a free piece, halving it and joining freed halves, on the tree.
use Rattle.std.specs.Prelude.{ℕ, zero, suc, ◌+◌, ◌-◌, ◌*◌, ◌/◌, ◌^◌, ◌≤◌, ◌<◌, Bool, cond, eqb}
use Rattle.std.specs.declared.option.Option.{Option}
use Rattle.std.specs.declared.option.Option.TheVariants.{None, Some}
use Rattle.limits.specs.Limits.{WHOLE_ORDER, ORDERS}
use Rattle.strip_tree.specs.declared.tree.Tree.{Tree}
use Rattle.strip_tree.specs.declared.find.Found.{Found}
use Rattle.strip_tree.specs.Trees.{is_free_node, with_free, without_free, buddy}

-- the lowest free node of n from the node i on, or 0
unfoldable pub lowest : Tree → ℕ → ℕ → ℕ
lowest t zero i = 0
lowest t (suc n) i = cond (is_free_node t i) i (lowest t n (suc i))

-- "at the lowest place among equals": the lowest free node of order j, whose nodes are 2^(7 - j) in number and begin at
-- that number
abbrev pub lowest_of_order : Tree → ℕ → ℕ
lowest_of_order t j = lowest t (2 ^ (WHOLE_ORDER - j)) (2 ^ (WHOLE_ORDER - j))

-- what a search finds: the free piece at the node i, of order j
abbrev pub found_at : ℕ → ℕ → Option Found
found_at i j = Some (record { node = i; order = j })

-- "starting from the smallest sufficient piece, at the lowest place among equals": of n orders from j on
unfoldable pub find_from : Tree → ℕ → ℕ → Option Found
find_from t zero j = None
find_from t (suc n) j = cond (eqb (lowest_of_order t j) 0) (find_from t n (suc j)) (found_at (lowest_of_order t j) j)

-- the order that was found, or one past the largest
abbrev pub order_found : Option Found → ℕ
order_found (Some f) = f.order
order_found None = ORDERS

-- "the smallest sufficient piece" for a strip of order k
abbrev pub find : Tree → ℕ → Option Found
find t k = find_from t (ORDERS - k) k

-- "A free piece is halved again and again until it fits, lower half first": n times, from the node i on
unfoldable pub halving : Tree → ℕ → ℕ → Tree
halving t zero i = t
halving t (suc n) i = halving (with_free t (2 * i + 1)) n (2 * i)

-- "Freed halves join whenever both are free": the node i, at most n times
unfoldable pub joining : Tree → ℕ → ℕ → Tree
joining t zero i = with_free t i
joining t (suc n) i = cond (is_free_node t (buddy i)) (joining (without_free t (buddy i)) n (i / 2)) (with_free t i)

-- the node of order k at the slot s
abbrev pub node_of : ℕ → ℕ → ℕ
node_of k s = 2 ^ (WHOLE_ORDER - k) + s / 2 ^ k

-- the slot where the node i of order k begins
abbrev pub slot_of_node : ℕ → ℕ → ℕ
slot_of_node k i = (i - 2 ^ (WHOLE_ORDER - k)) * 2 ^ k

-- a piece of order k can begin at the slot s: its length divides the slot's number
abbrev pub can_begin : ℕ → ℕ → Bool
can_begin s k = eqb (s / 2 ^ k * 2 ^ k) s

-- the node i is one of the order k
pub record InLevel (k i : ℕ) : Type 0 where
  pub order : k < ORDERS
  pub from : 2 ^ (WHOLE_ORDER - k) ≤ i
  pub below : i < 2 ^ (ORDERS - k)

-- the node i is one of the order k or of a larger one
pub record Within (k i : ℕ) : Type 0 where
  pub order : k < ORDERS
  pub below : i < 2 ^ (ORDERS - k)
