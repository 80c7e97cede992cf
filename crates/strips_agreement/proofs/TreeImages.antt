-- Trees that agree below a node, or everywhere else.
use mathlib.Core.Path.{◌≡◌, refl, sym, ◌∙◌}
use mathlib.Core.Logic.{◌≢◌}
use mathlib.Core.Bool.{true, false}
use Prim.Native.Nat.{ℕ, suc, ◌+◌, ◌*◌, ◌≤◌, ◌<◌}
use native.Mathlib.Omega.{arith}
use Rattle.strip_tree.specs.Trees.{NODES, is_free_node, with_free, without_free}
use Rattle.rows.specs.Comparisons.{Equality, same, other, same?}
use Rattle.pieces.specs.Pieces.{PieceState, Pieces, whole, halves, is_free_piece}
use Rattle.strip_tree.specs.declared.tree.Tree.{Tree}
use Rattle.strip_tree.proofs.NodeBits.{mark-other, clear-here-node, clear-other-node}
use Rattle.strips_agreement.specs.TreeFollows.{node_above, Image}
use Rattle.strips_agreement.proofs.NodesAbove.{up_le, Halves, lower-first, upper_first, up_first}

-- the trees agree at and below the node i, or everywhere else
abbrev pub Inside : Tree → Tree → ℕ → Type 0
Inside t u i = (m y : ℕ) → node_above m y ≡ i → is_free_node u y ≡ is_free_node t y

abbrev pub Outside : Tree → Tree → ℕ → Type 0
Outside t u i = (y : ℕ) → ((m : ℕ) → node_above m y ≢ i) → is_free_node u y ≡ is_free_node t y

-- no node at or below i is free
abbrev pub Bare : Tree → ℕ → Type 0
Bare t i = (m y : ℕ) → node_above m y ≡ i → is_free_node t y ≡ false

-- a tree that agrees has the same pieces
pub image-same : (t u : Tree) (i : ℕ) {n : ℕ} (p : Pieces n) → 1 ≤ i → Inside t u i → Image t i p → Image u i p
image-same t u i (whole s) b h x = (h 0 i refl ∙ x.0, λ m y p d. h m y p ∙ x.1 m y p d)
image-same t u i (halves l r) b h x = (
  h 0 i refl ∙ x.0,
  image-same t u (2 * i) l (omega arith) (λ m y p. h (suc m) y (up_first (lower-first i b) m y p)) x.1,
  image-same t u (2 * i + 1) r (omega arith) (λ m y p. h (suc m) y (up_first (upper_first i b) m y p)) x.2,
)

-- a node's bit says whether a free piece stands there
pub top : (t : Tree) (i : ℕ) {n : ℕ} (p : Pieces n) → Image t i p → is_free_node t i ≡ is_free_piece p
top t i (whole s) x = x.0
top t i (halves l r) x = x.0

-- below a free piece no node is free
pub free-below : (t : Tree) (i : ℕ) {n : ℕ} (p : Pieces n) → Image t i p → is_free_piece p ≡ true
    → (m y : ℕ) → node_above m y ≡ i → y ≢ i → is_free_node t y ≡ false
free-below t i (whole s) x e = x.1
free-below t i (halves l r) x e = let z : ◌≡◌ {A = ℕ} 0 1 = cc in absurd (omega arith)

-- a free node with none below it is a free piece
pub free-image : (t : Tree) (i : ℕ) {n : ℕ} (p : Pieces n) → is_free_piece p ≡ true → is_free_node t i ≡ true
    → ((m y : ℕ) → node_above m y ≡ i → y ≢ i → is_free_node t y ≡ false) → Image t i p
free-image t i (whole s) e a b = (a ∙ sym e, b)
free-image t i (halves l r) e a b = let z : ◌≡◌ {A = ℕ} 0 1 = cc in absurd (omega arith)

-- a strip's node and those below it are not free
pub bare : (t : Tree) (i n : ℕ) (s : PieceState) → Image t i (whole {n = n} s) → is_free_piece (whole {n = n} s) ≡ false
    → Bare t i
bare t i n s x e m y p = by (same? y i)
  where
    by : Equality y i → is_free_node t y ≡ false
    by (same d) = rw d (x.0 ∙ e)
    by (other d) = x.1 m y p d

-- ---- one node changed

module _ (t : Tree) (i : ℕ) (fits : i < NODES) where
  pub mark-outside : Outside t (with_free t i) i
  mark-outside y n = mark-other t i fits y (λ e. n 0 e)

  pub clear-outside : Outside t (without_free t i) i
  clear-outside y n = clear-other-node t i fits y (λ e. n 0 e)

  -- a node that is cleared, with none below it
  pub clear-bare : ((m y : ℕ) → node_above m y ≡ i → y ≢ i → is_free_node t y ≡ false) → Bare (without_free t i) i
  clear-bare h m y p = by (same? y i)
    where
      by : Equality y i → is_free_node (without_free t i) y ≡ false
      by (same d) = rw d (clear-here-node t i fits)
      by (other d) = clear-other-node t i fits y d ∙ h m y p d

  -- a node that is marked, with none below it
  pub mark-below : Bare t i → (m y : ℕ) → node_above m y ≡ i → y ≢ i → is_free_node (with_free t i) y ≡ false
  mark-below h m y p d = mark-other t i fits y d ∙ h m y p

-- what is changed below a half changes nothing outside the whole, and nothing in the other half
module _ {a b c : ℕ} (h : Halves a b c) (t u : Tree) (out : Outside t u b) where
  pub out-whole : Outside t u a
  out-whole y n = out y (λ m p. n (suc m) (up_first h m y p))

  pub in-other : Inside t u c
  in-other m y p = out y (λ n q. h.apart n m y q p)

  pub at-whole : is_free_node u a ≡ is_free_node t a
  at-whole = out a (λ m p. omega (arith, up_le m a, h.above))
