-- The steps of the search over the orders, of a halving and of a joining.
use Prim.Native.Nat.{ℕ, zero, suc, ◌+◌, ◌-◌, ◌*◌, ◌/◌, ◌^◌, ◌<◌, ◌≤◌}
use mathlib.Core.Path.{◌≡◌, sym, ap, ◌∙◌}
use mathlib.Core.Logic.{◌≢◌}
use mathlib.Core.Bool.{true, false}
use native.Mathlib.Nat.{pow-suc, mul_assoc, mul_comm}
use native.Mathlib.Omega.{arith}
use borrow.Author.Tests.{eq-eqb, ne_eqb}
use Rattle.std.specs.declared.option.Option.TheVariants.{None}
use Rattle.limits.specs.Limits.{WHOLE_ORDER, ORDERS}
use Rattle.strip_tree.specs.declared.tree.Tree.{Tree}
use Rattle.strip_tree.specs.Trees.{is_free_node, with_free, without_free, buddy}
use Rattle.strip_tree.specs.TreeMoves.{lowest_of_order, found_at, find_from, halving, joining}

module _ (t : Tree) (j : ℕ) where
  pub find-here : j < ORDERS → lowest_of_order t j ≢ 0
      → found_at (lowest_of_order t j) j ≡ find_from t (ORDERS - j) j
  unfolding find_from
  find-here h d =
      let s : ORDERS - j ≡ suc (WHOLE_ORDER - j) = omega arith in
      rw (s, ne_eqb _ _ d)

  pub find-next : j < ORDERS → lowest_of_order t j ≡ 0
      → find_from t (ORDERS - (j + 1)) (j + 1) ≡ find_from t (ORDERS - j) j
  unfolding find_from
  find-next h e =
      let s : ORDERS - j ≡ suc (ORDERS - (j + 1)) = omega arith in
      let n : suc j ≡ j + 1 = omega arith in
      rw (s, eq-eqb _ _ e, n)

  pub find-no : ORDERS ≤ j → None ≡ find_from t (ORDERS - j) j
  unfolding find_from
  find-no h =
      let s : ORDERS - j ≡ 0 = omega arith in
      rw s

module _ (t : Tree) (j k i : ℕ) where
  pub halve-done : j ≡ k → t ≡ halving t (j - k) i
  unfolding halving
  halve-done e =
      let s : j - k ≡ 0 = omega arith in
      rw s

  pub halve-next : k < j → halving (with_free t (2 * i + 1)) (j - 1 - k) (2 * i) ≡ halving t (j - k) i
  unfolding halving
  halve-next h =
      let s : j - k ≡ suc (j - 1 - k) = omega arith in
      rw s

module _ (t : Tree) (j i : ℕ) where
  pub join-top : j ≡ WHOLE_ORDER → with_free t i ≡ joining t (WHOLE_ORDER - j) i
  unfolding joining
  join-top e =
      let s : WHOLE_ORDER - j ≡ 0 = omega arith in
      rw s

  module _ (h : j < WHOLE_ORDER) where
    pub join-no : is_free_node t (buddy i) ≡ false → with_free t i ≡ joining t (WHOLE_ORDER - j) i
    unfolding joining
    join-no e =
        let s : WHOLE_ORDER - j ≡ suc (WHOLE_ORDER - (j + 1)) = omega arith in
        rw (s, e)

    pub join-next : is_free_node t (buddy i) ≡ true
        → joining (without_free t (buddy i)) (WHOLE_ORDER - (j + 1)) (i / 2) ≡ joining t (WHOLE_ORDER - j) i
    unfolding joining
    join-next e =
        let s : WHOLE_ORDER - j ≡ suc (WHOLE_ORDER - (j + 1)) = omega arith in
        rw (s, e)

-- halvings one after the other
pub halve-twice : (x y : ℕ) (t : Tree) (i : ℕ) → halving (halving t x i) y (i * 2 ^ x) ≡ halving t (x + y) i
unfolding halving
halve-twice zero y t i =
    let e : i * 1 ≡ i = omega arith in
    let f : 0 + y ≡ y = omega arith in
    rw (e, f)
halve-twice (suc x) y t i =
    let e : suc x + y ≡ suc (x + y) = omega arith in
    let f : i * 2 ^ suc x ≡ 2 * i * 2 ^ x = ap (λ (z : ℕ). i * z) (pow-suc 2 x) ∙ twice-more i (2 ^ x) in
    rw (e, f) (halve-twice x y (with_free t (2 * i + 1)) (2 * i))
  where
    twice-more : (a p : ℕ) → a * (p * 2) ≡ 2 * a * p
    twice-more a p = sym (mul_assoc a p 2) ∙ mul_comm (a * p) 2 ∙ sym (mul_assoc 2 a p)

pub halve-through : (t : Tree) (j k i : ℕ) → 2 < j → k < 2
    → halving (halving t (j - 2) i) (2 - k) (i * 2 ^ (j - 2)) ≡ halving t (j - k) i
halve-through t j k i h g =
    let e : j - 2 + (2 - k) ≡ j - k = omega arith in
    rw e at (halve-twice (j - 2) (2 - k) t i)
