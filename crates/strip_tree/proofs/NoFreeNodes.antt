-- A search that finds nothing: no node of its order or of a larger one is free.
use mathlib.Core.Path.{◌≡◌, refl, sym, ap, ◌∙◌}
use mathlib.Core.Bool.{false, false≢true}
use Prim.Native.Nat.{ℕ, ◌-◌, ◌^◌, ◌≤◌, ◌<◌}
use native.Mathlib.Omega.{arith}
use lib.Pow.{pow_mono}
use Rattle.std.specs.declared.option.Option.{Option}
use Rattle.std.specs.declared.option.Option.TheVariants.{None, Some}
use Rattle.limits.specs.Limits.{WHOLE_ORDER, ORDERS}
use Rattle.rows.specs.Comparisons.{Order, before, after, order?}
use Rattle.strip_tree.specs.declared.tree.Tree.{Tree}
use Rattle.strip_tree.specs.declared.find.Found.{Found}
use Rattle.strip_tree.specs.Trees.{is_free_node}
use Rattle.strip_tree.specs.TreeMoves.{find, found_at, order_found, InLevel}
use Rattle.strip_tree.proofs.Powers.{twice, some}
use Rattle.strip_tree.proofs.Found.{finds, in-level, nothing-free}

-- the node that was found
abbrev node_found : Option Found → ℕ
node_found (Some f) = f.node
node_found None = 0

-- what is found is one node of one order
pub found-once : {i j k l : ℕ} → found_at i j ≡ found_at k l → (i ≡ k) × (j ≡ l)
found-once e = (ap node_found e, ap order_found e)

pub found-none : {A : Type 0} {i j : ℕ} → found_at i j ≡ None → A
found-none e =
    let z : ◌≡◌ {A = ℕ} 0 1 = cc in
    absurd (omega arith)

-- a node has an order
pub record NodeOrder (i : ℕ) : Type 0 where
  pub order : ℕ
  pub level : InLevel order i

pub node-order : (i : ℕ) → 1 ≤ i → i < 2 ^ ORDERS → NodeOrder i
node-order i a b =
    by (order? i 2) (order? i 4) (order? i 8) (order? i 16) (order? i 32) (order? i 64) (order? i 128)
  where
    at : (m : ℕ) → m < ORDERS → 2 ^ (WHOLE_ORDER - m) ≤ i → i < 2 ^ (ORDERS - m) → NodeOrder i
    at m l f t = record { order = m; level = record { order = l; from = f; below = t } }

    by : Order i 2 → Order i 4 → Order i 8 → Order i 16 → Order i 32 → Order i 64 → Order i 128 → NodeOrder i
    by (before x) o p q r s t = at 7 (omega arith) a x
    by (after w) (before x) p q r s t = at 6 (omega arith) w x
    by (after v) (after w) (before x) q r s t = at 5 (omega arith) w x
    by (after u) (after v) (after w) (before x) r s t = at 4 (omega arith) w x
    by (after n) (after u) (after v) (after w) (before x) s t = at 3 (omega arith) w x
    by (after m) (after n) (after u) (after v) (after w) (before x) t = at 2 (omega arith) w x
    by (after l) (after m) (after n) (after u) (after v) (after w) (before x) = at 1 (omega arith) w x
    by (after k) (after l) (after m) (after n) (after u) (after v) (after w) = at 0 (omega arith) w b

module _ (t : Tree) (k : ℕ) (few : k < ORDERS) where
  -- nothing is found where none of them is free, and only there
  pub none_free : find t k ≡ None → (i : ℕ) → 1 ≤ i → i < 2 ^ (ORDERS - k) → is_free_node t i ≡ false
  none_free e i a b =
      let N = node-order i a (omega (arith, pow_mono {i = ORDERS - k} {j = ORDERS} (omega arith))) in
      let L = N.level in
      by (order? N.order k) L
    where
      by : {m : ℕ} → Order m k → InLevel m i → is_free_node t i ≡ false
      by {m} (before l) L =
          absurd (omega (arith, pow_mono {i = ORDERS - k} {j = WHOLE_ORDER - m} (omega arith), L.from))
      by {m} (after l) L =
          nothing-free t k few e m l L.order i L.from (omega (arith, L.below, twice m L.order))

  pub finds-none : ((i : ℕ) → 1 ≤ i → i < 2 ^ (ORDERS - k) → is_free_node t i ≡ false) → find t k ≡ None
  finds-none h = by (find t k) refl
    where
      by : (f : Option Found) → find t k ≡ f → f ≡ None
      by None e = refl
      by (Some f) e =
          let x = finds t k f.node f.order few e in
          let L = in-level t k f.node f.order x in
          absurd (false≢true (sym (h f.node (omega (arith, some f.order x.order, L.from))
          (omega (arith, L.below, pow_mono {i = ORDERS - f.order} {j = ORDERS - k} (omega (arith, x.enough)))))
          ∙ x.lowest.is_free))
