-- What a search over the tree finds.
use Prim.Native.Nat.{ℕ, zero, suc, ◌+◌, ◌-◌, ◌^◌, ◌<◌, ◌≤◌}
use mathlib.Core.Path.{◌≡◌, refl}
use mathlib.Core.Logic.{◌≢◌}
use mathlib.Core.Bool.{true, false}
use native.Mathlib.Omega.{arith}
use borrow.Author.Tests.{eq-eqb, ne_eqb}
use Rattle.std.specs.declared.option.Option.{Option}
use Rattle.std.specs.declared.option.Option.TheVariants.{None, Some}
use Rattle.limits.specs.Limits.{WHOLE_ORDER, ORDERS}
use Rattle.rows.specs.Comparisons.{Equality, same, other, same?, Truth, holds, fails, true?}
use Rattle.strip_tree.specs.declared.tree.Tree.{Tree}
use Rattle.strip_tree.specs.declared.find.Found.{Found}
use Rattle.strip_tree.specs.Trees.{is_free_node}
use Rattle.strip_tree.specs.TreeMoves.{lowest, lowest_of_order, found_at, find_from, InLevel}
use Rattle.strip_tree.proofs.Powers.{twice, some}

module _ (t : Tree) where
  -- none of n nodes from the node i on is free
  abbrev pub NoneOf : ℕ → ℕ → Type 0
  NoneOf n i = (y : ℕ) → i ≤ y → y < i + n → is_free_node t y ≡ false

  -- x is the lowest free one of n nodes from the node i on
  pub record Lowest (n i x : ℕ) : Type 0 where
    pub from : i ≤ x
    pub below : x < i + n
    pub is_free : is_free_node t x ≡ true
    pub lower : (y : ℕ) → i ≤ y → y < x → is_free_node t y ≡ false

  lowest-zero : (n i : ℕ) → 1 ≤ i → lowest t n i ≡ 0 → NoneOf n i
  unfolding lowest
  lowest-zero zero i p e y a b = absurd (omega arith)
  lowest-zero (suc n) i p e y a b = by (true? (is_free_node t i)) (same? y i) (lowest-zero n (suc i) (omega arith))
    where
      by : Truth (is_free_node t i) → Equality y i → (lowest t n (suc i) ≡ 0 → NoneOf n (suc i))
          → is_free_node t y ≡ false
      by (holds d) o f =
          let z : i ≡ 0 = rw d at e in
          absurd (omega arith)
      by (fails d) (same q) f = rw q d
      by (fails d) (other q) f = f (rw d at e) y (omega arith) (omega arith)

  lowest-some : (n i : ℕ) → lowest t n i ≢ 0 → Lowest n i (lowest t n i)
  unfolding lowest
  lowest-some zero i d = absurd (d refl)
  lowest-some (suc n) i d = by (true? (is_free_node t i)) (lowest-some n (suc i))
    where
      by : Truth (is_free_node t i) → (lowest t n (suc i) ≢ 0 → Lowest n (suc i) (lowest t n (suc i)))
          → Lowest (suc n) i (lowest t (suc n) i)
      by (holds e) f =
          rw e (record { from = omega arith; below = omega arith; is_free = e; lower = λ y a b. absurd (omega arith) })
      by (fails e) f =
          let x = f (rw e at d) in
          rw e (record {
            from = omega (arith, x.from);
            below = omega (arith, x.below);
            is_free = x.is_free;
            lower = λ y a b. low y a b x;
          })
        where
          low : (y : ℕ) → i ≤ y → y < lowest t n (suc i) → Lowest n (suc i) (lowest t n (suc i))
              → is_free_node t y ≡ false
          low y a b x = at (same? y i)
            where
              at : Equality y i → is_free_node t y ≡ false
              at (same q) = rw q e
              at (other q) = x.lower y (omega arith) b

  -- no node of order m is free
  abbrev pub NoneAt : ℕ → Type 0
  NoneAt m = NoneOf (2 ^ (WHOLE_ORDER - m)) (2 ^ (WHOLE_ORDER - m))

  -- the node i of order j is the lowest free one of its order, and of the orders from k on it is the smallest that has
  -- one
  pub record Finds (k i j : ℕ) : Type 0 where
    pub enough : k ≤ j
    pub order : j < ORDERS
    pub lowest : Lowest (2 ^ (WHOLE_ORDER - j)) (2 ^ (WHOLE_ORDER - j)) i
    pub smaller : (m : ℕ) → k ≤ m → m < j → NoneAt m

  -- what a search from the order k on says
  pub data Search (k : ℕ) : Option Found → Type 0 where
    found : {f : Found} → Finds k f.node f.order → Search k (Some f)
    none : ((m : ℕ) → k ≤ m → m < ORDERS → NoneAt m) → Search k None

  -- one order more that has none
  more : (k : ℕ) (f : Option Found) → NoneAt k → Search (suc k) f → Search k f
  more k f h (found {f = y} x) = found {f = y} (record {
    enough = omega (arith, x.enough);
    order = x.order;
    lowest = x.lowest;
    smaller = λ m a b. by m a b (same? m k);
  })
    where
      by : (m : ℕ) → k ≤ m → m < y.order → Equality m k → NoneAt m
      by m a b (same e) = rw e h
      by m a b (other e) = x.smaller m (omega arith) b
  more k f h (none g) = none (λ m a b. by m a b (same? m k))
    where
      by : (m : ℕ) → k ≤ m → m < ORDERS → Equality m k → NoneAt m
      by m a b (same e) = rw e h
      by m a b (other e) = g m (omega arith) b

  pub searched : (n k : ℕ) → n + k ≡ ORDERS → Search k (find_from t n k)
  unfolding find_from
  searched zero k e = none (λ m a b. absurd (omega arith))
  searched (suc n) k e = by (same? (lowest_of_order t k) 0) (searched n (suc k) (omega arith))
    where
      by : Equality (lowest_of_order t k) 0 → Search (suc k) (find_from t n (suc k)) → Search k (find_from t (suc n) k)
      by (same d) f =
          rw (eq-eqb _ _ d) (more k _ (lowest-zero (2 ^ (WHOLE_ORDER - k)) (2 ^ (WHOLE_ORDER - k))
          (some k (omega arith)) d) f)
      by (other d) f =
          rw (ne_eqb _ _ d)
          (found {f = record { node = lowest_of_order t k; order = k }} (record {
            enough = omega arith;
            order = omega arith;
            lowest = lowest-some (2 ^ (WHOLE_ORDER - k)) (2 ^ (WHOLE_ORDER - k)) d;
            smaller = λ m a b. absurd (omega arith);
          }))

  pub in-level : (k i j : ℕ) → Finds k i j → InLevel j i
  in-level k i j x = record {
    order = x.order;
    from = x.lowest.from;
    below = omega (arith, x.lowest.below, twice j x.order);
  }

  finds-of : (k i j : ℕ) (f : Option Found) → f ≡ found_at i j → Search k f → Finds k i j
  finds-of k i j f e (found {f = y} x) =
      let p : y.node ≡ i = cc in
      let q : y.order ≡ j = cc in
      rw (← p, ← q) x
  finds-of k i j f e (none h) = let z : ◌≡◌ {A = ℕ} 0 1 = cc in absurd (omega arith)

  -- a node that is found, and its order
  pub finds : (k i j : ℕ) → k < ORDERS → find_from t (ORDERS - k) k ≡ found_at i j → Finds k i j
  finds k i j h e = finds-of k i j (find_from t (ORDERS - k) k) e (searched (ORDERS - k) k (omega arith))

  none_of : (k : ℕ) (f : Option Found) → f ≡ None → Search k f → (m : ℕ) → k ≤ m → m < ORDERS → NoneAt m
  none_of k f e (found x) = let z : ◌≡◌ {A = ℕ} 0 1 = cc in absurd (omega arith)
  none_of k f e (none h) = h

  -- nothing is found: no order from k on has a free node
  pub nothing-free : (k : ℕ) → k < ORDERS → find_from t (ORDERS - k) k ≡ None → (m : ℕ) → k ≤ m → m < ORDERS
      → NoneAt m
  nothing-free k h e = none_of k (find_from t (ORDERS - k) k) e (searched (ORDERS - k) k (omega arith))
