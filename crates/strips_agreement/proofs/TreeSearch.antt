-- The piece that a search finds in the tree is the one that a strip is taken from.
use mathlib.Core.Path.{◌≡◌, refl, sym, ◌∙◌, subst}
use mathlib.Core.Logic.{◌≢◌}
use mathlib.Core.Bool.{Bool, true, false}
use Prim.Native.Nat.{ℕ, zero, suc, ◌+◌, ◌*◌, ◌/◌, ◌≤◌, ◌<◌}
use native.Mathlib.Nat.{mul-add}
use native.Mathlib.Omega.{arith}
use borrow.Author.Tests.{le-leb, lt-leb}
use Rattle.limits.specs.Limits.{ORDERS}
use Rattle.rows.specs.Comparisons.{Order, before, after, order?, Equality, same, other, same?}
use Rattle.pieces.specs.Pieces.{slots_in, free, held, begun, Pieces, whole, halves}
use Rattle.pieces.specs.Strips.{least_order, least_place, halved_to, least_halved}
use Rattle.pieces.proofs.LeastPieces.{exact}
use Rattle.strip_tree.specs.declared.tree.Tree.{Tree}
use Rattle.strip_tree.specs.Trees.{is_free_node}
use Rattle.strips_agreement.specs.TreeFollows.{node_above, Image}
use Rattle.strips_agreement.proofs.NodesAbove.{up-half, up_le, up-trans, up-order, lower-first}
use Rattle.strips_agreement.proofs.NodesAbove.{upper_first, up_first}
use Rattle.strips_agreement.proofs.TreeImages.{Outside, image-same}
use Rattle.strips_agreement.proofs.NodeRoom.{double, double-more}

never : (b : Bool) → b ≡ false → b ≡ true → ⊥
never b e f = let z : ◌≡◌ {A = ℕ} 0 1 = cc in omega arith

module _ (k : ℕ) (t : Tree) where
  -- no node below a, of order k up to but not j, is free
  abbrev Smaller : ℕ → ℕ → ℕ → Type 0
  Smaller n a j = (d m y : ℕ) → d + m ≡ n → k ≤ m → m < j → node_above d y ≡ a → is_free_node t y ≡ false

  lower-smaller : (n a j : ℕ) → 1 ≤ a → Smaller (suc n) a j → Smaller n (2 * a) j
  lower-smaller n a j b s d m y e g l p = s (suc d) m y (omega arith) g l (up_first (lower-first a b) d y p)

  upper-smaller : (n a j : ℕ) → 1 ≤ a → Smaller (suc n) a j → Smaller n (2 * a + 1) j
  upper-smaller n a j b s d m y e g l p = s (suc d) m y (omega arith) g l (up_first (upper_first a b) d y p)

  pub least-from : (j : ℕ) → j ≤ ORDERS → {n : ℕ} (p : Pieces n) (a : ℕ) → 1 ≤ a → Image t a p → Smaller n a j
      → j ≤ least_order k p
  least-from j b (whole {n} free) a f x s = by (order? n k) (order? n j)
    where
      by : Order n k → Order n j → j ≤ least_order k (whole {n = n} free)
      by (before l) o = rw (lt-leb _ _ l) b
      by (after g) (before l) = absurd (never (is_free_node t a) (s 0 n a (omega arith) g l refl) x.0)
      by (after g) (after l) = rw (le-leb _ _ g) l
  least-from j b (whole held) a f x s = b
  least-from j b (whole (begun u)) a f x s = b
  least-from j b (halves {n} l r) a f x s =
      omega (
        arith,
        least-from j b l (2 * a) (omega arith) x.1 (lower-smaller n a j f s),
        least-from j b r (2 * a + 1) (omega arith) x.2 (upper-smaller n a j f s),
      )

  -- the node x, of order j, is the piece from which a strip of order k is taken
  pub record Chosen {n : ℕ} (p : Pieces n) (a x j : ℕ) : Type 0 where
    pub least : least_order k p ≡ j
    pub place : x * slots_in j ≡ a * slots_in n + least_place k p
    pub halved : (u : Tree) → Image u x (halved_to k j) → Outside t u x → Image u a (least_halved k p)
    pub below : (m y : ℕ) → node_above m y ≡ x → y ≢ x → is_free_node t y ≡ false

  module _ (x j : ℕ) (some : is_free_node t x ≡ true) (enough : k ≤ j) (most : j < ORDERS) where
    -- no node of order j below a that is lower than x is free
    abbrev Lower : ℕ → ℕ → Type 0
    Lower d a = (y : ℕ) → node_above d y ≡ a → y < x → is_free_node t y ≡ false

    whole-chosen : (n a : ℕ) → Image t a (whole {n = n} free) → x ≡ a → j ≡ n → Chosen (whole {n = n} free) a x j
    whole-chosen n a im e f = record {
      least = exact k n (omega arith) ∙ sym f;
      place = rw (e, f) (omega arith);
      halved = λ u i out. subst (λ (m : ℕ). Image u a (halved_to k m)) f (rw e at i);
      below = rw e im.1;
    }

    module _ {n : ℕ} (l r : Pieces n) (a d : ℕ) (b : 1 ≤ a) (im : Image t a (halves l r)) where
      -- a node above a half's nodes is outside
      here : (u : Tree) → (c : ℕ) → a < c → node_above d x ≡ c → Outside t u x → is_free_node u a ≡ false
      here u c g p out = out a (λ m q. omega (arith, up_le m a, up_le d x)) ∙ im.0

      in-lower : node_above d x ≡ 2 * a → Chosen l (2 * a) x j → j ≤ least_order k r
          → Chosen (halves l r) a x j
      in-lower p c g =
          let o = le-leb (least_order k l) (least_order k r) (omega (arith, c.least)) in
          record {
            least = omega (arith, c.least);
            place = rw o (omega (arith, c.place, double a (slots_in n), mul-add a (slots_in n) (slots_in n)));
            halved = λ u i out. rw o (here u (2 * a) (omega arith) p out, c.halved u i out, beside u out);
            below = c.below;
          }
        where
          beside : (u : Tree) → Outside t u x → Image u (2 * a + 1) r
          beside u out =
              image-same t u (2 * a + 1) r (omega arith)
              (λ m y q. out y (λ e w. away y m q (up-trans e y x d (2 * a) w p))) im.2
            where
              away : (y m : ℕ) → node_above m y ≡ 2 * a + 1 → (e : ℕ) × (node_above e y ≡ 2 * a) → ⊥
              away y m q w = (lower-first a b).apart w.0 m y w.1 q

      in-upper : node_above d x ≡ 2 * a + 1 → Chosen r (2 * a + 1) x j
          → suc j ≤ least_order k l
          → Chosen (halves l r) a x j
      in-upper p c g =
          let o = lt-leb (least_order k l) (least_order k r) (omega (arith, c.least)) in
          record {
            least = omega (arith, c.least);
            place = rw o (omega (arith, c.place, double-more a (slots_in n), mul-add a (slots_in n) (slots_in n)));
            halved = λ u i out. rw o (here u (2 * a + 1) (omega arith) p out, beside u out, c.halved u i out);
            below = c.below;
          }
        where
          beside : (u : Tree) → Outside t u x → Image u (2 * a) l
          beside u out =
              image-same t u (2 * a) l (omega arith)
              (λ m y q. out y (λ e w. away y m q (up-trans e y x d (2 * a + 1) w p))) im.1
            where
              away : (y m : ℕ) → node_above m y ≡ 2 * a → (e : ℕ) × (node_above e y ≡ 2 * a + 1) → ⊥
              away y m q w = (lower-first a b).apart m w.0 y q w.1

      -- a lower node is not free, nor a smaller one
      lower-none : node_above d x ≡ 2 * a + 1 → d + j ≡ n → Smaller (suc n) a j → Lower (suc d) a
          → Smaller n (2 * a) (suc j)
      lower-none p f s w e m y q g h v = by (same? m j)
        where
          by : Equality m j → is_free_node t y ≡ false
          by (same z) =
              let i : e ≡ d = omega arith in
              let v2 : node_above d y ≡ 2 * a = rw i at v in
              w y (up_first (lower-first a b) d y v2) (up-order d y x (2 * a) (2 * a + 1) v2 p (omega arith))
          by (other z) = s (suc e) m y (omega arith) g (omega arith) (up_first (lower-first a b) e y v)

    pub chosen : {n : ℕ} (p : Pieces n) (a d : ℕ) → 1 ≤ a → Image t a p → d + j ≡ n → node_above d x ≡ a → Smaller n a j
        → Lower d a
        → Chosen p a x j
    chosen (whole {n} free) a zero b im f q s w = whole-chosen n a im q (omega arith)
    chosen (whole {n} free) a (suc d) b im f q s w =
        absurd (never (is_free_node t x) (im.1 (suc d) x q (λ e. omega (arith, up_le d (x / 2)))) some)
    chosen (whole {n} held) a zero b im f q s w = absurd (never (is_free_node t x) (rw q im.0) some)
    chosen (whole {n} held) a (suc d) b im f q s w =
        absurd (never (is_free_node t x) (im.1 (suc d) x q (λ e. omega (arith, up_le d (x / 2)))) some)
    chosen (whole {n} (begun u)) a zero b im f q s w = absurd (never (is_free_node t x) (rw q im.0) some)
    chosen (whole {n} (begun u)) a (suc d) b im f q s w =
        absurd (never (is_free_node t x) (im.1 (suc d) x q (λ e. omega (arith, up_le d (x / 2)))) some)
    chosen (halves {n} l r) a zero b im f q s w = absurd (never (is_free_node t x) (rw q im.0) some)
    chosen (halves {n} l r) a (suc d) b im f q s w =
        by (same? (node_above d x) (2 * a))
        (λ p. chosen l (2 * a) d (omega arith) im.1 (omega arith) p (lower-smaller n a j b s)
        (λ y v z. w y (up_first (lower-first a b) d y v) z))
        (λ p. chosen r (2 * a + 1) d (omega arith) im.2 (omega arith) p (upper-smaller n a j b s)
        (λ y v z. w y (up_first (upper_first a b) d y v) z))
      where
        by : Equality (node_above d x) (2 * a) → (node_above d x ≡ 2 * a → Chosen l (2 * a) x j)
            → (node_above d x ≡ 2 * a + 1 → Chosen r (2 * a + 1) x j)
            → Chosen (halves l r) a x j
        by (same e) g h =
            in-lower l r a d b im e (g e)
            (least-from j (omega arith) r (2 * a + 1) (omega arith) im.2 (upper-smaller n a j b s))
        by (other e) g h =
            let p : node_above d x ≡ 2 * a + 1 = omega (arith, up-half d x) in
            in-upper l r a d b im p (h p)
            (least-from (suc j) (omega arith) l (2 * a) (omega arith) im.1
            (lower-none l r a d b im p (omega arith) s w))
