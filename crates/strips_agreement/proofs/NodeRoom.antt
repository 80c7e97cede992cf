-- The nodes of a piece's halves are nodes of the tree.
use mathlib.Core.Path.{◌≡◌, ap, ◌∙◌}
use Prim.Native.Nat.{ℕ, suc, ◌+◌, ◌*◌, ◌≤◌, ◌<◌}
use native.Mathlib.Nat.{mul_assoc, mul-add, add-mul, one-mul, mul-one, mul-le-mul_left}
use native.Mathlib.Omega.{arith}
use Rattle.strip_tree.specs.Trees.{NODES}
use Rattle.pieces.specs.Pieces.{slots_in}
use Rattle.pieces.proofs.PieceLengths.{some}

-- the first slots of a piece's halves
pub double : (a s : ℕ) → 2 * a * s ≡ a * s + a * s
double a s = mul_assoc 2 a s ∙ (omega arith)

pub double-more : (a s : ℕ) → (2 * a + 1) * s ≡ a * s + a * s + s
double-more a s = add-mul (2 * a) 1 s ∙ ap (λ (x : ℕ). 2 * a * s + x) (one-mul s) ∙ ap (λ (x : ℕ). x + s) (double a s)

-- the node a, of order n, is one of the tree
pub record Room (a n : ℕ) : Type 0 where
  pub first : 1 ≤ a
  pub fits : a * slots_in n + slots_in n ≤ NODES

module _ (a n : ℕ) (h : Room a (suc n)) where
  pub lower-room : Room (2 * a) n
  lower-room = record {
    first = omega (arith, h.first);
    fits = omega (arith, h.fits, double a (slots_in n), mul-add a (slots_in n) (slots_in n));
  }

  pub upper-room : Room (2 * a + 1) n
  upper-room = record {
    first = omega arith;
    fits = omega (arith, h.fits, double-more a (slots_in n), mul-add a (slots_in n) (slots_in n));
  }

pub node-fits : (a n : ℕ) → Room a n → a < NODES
node-fits a n h = omega (arith, h.fits, mul-le-mul_left a (some n), mul-one a, some n)
