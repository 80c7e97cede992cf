-- Joining on the tree follows giving a strip back.
use mathlib.Core.Path.{◌≡◌, refl, ap, ◌∙◌}
use mathlib.Core.Logic.{◌⊎◌, inl, inr}
use mathlib.Core.Bool.{Bool, true, false, ◌&&◌}
use Prim.Native.Nat.{ℕ, suc, ◌+◌, ◌-◌, ◌*◌, ◌/◌, ◌≤◌, ◌<◌}
use native.Mathlib.Nat.{mul-add}
use native.Mathlib.Omega.{arith}
use borrow.Author.Tests.{lt-ltb, le-ltb}
use Rattle.strip_tree.specs.Trees.{NODES, is_free_node, with_free, without_free, buddy}
use Rattle.rows.specs.Comparisons.{Order, before, after, order?, Equality, same, other, same?, Truth, holds, fails}
use Rattle.rows.specs.Comparisons.{true?}
use Rattle.pieces.specs.Pieces.{slots_in, PieceState, free, held, begun, Pieces, whole, halves, is_free_piece}
use Rattle.pieces.specs.Strips.{here, strip_starts, join_halves, give_strip}
use Rattle.pieces.proofs.BothFree.{no-first, no_second}
use Rattle.pieces.proofs.StripGiving.{first-is}
use Rattle.strip_tree.specs.declared.tree.Tree.{Tree}
use Rattle.strip_tree.specs.TreeMoves.{joining}
use Rattle.strip_tree.proofs.NodeBits.{mark-here, mark-other, clear-other-node}
use Rattle.strips_agreement.specs.TreeFollows.{node_above, Image}
use Rattle.strips_agreement.proofs.NodesAbove.{Halves, lower-first, upper_first, up_first}
use Rattle.strips_agreement.proofs.TreeImages.{Outside, Bare, image-same, top, free-below, free-image, bare}
use Rattle.strips_agreement.proofs.TreeImages.{clear-bare, mark-below, out-whole, in-other, at-whole}
use Rattle.strips_agreement.proofs.NodeRoom.{Room, double, double-more, lower-room, upper-room, node-fits}

-- w, of t, has the pieces `new` at and below the node a; or these are one free piece and w goes on to join from there,
-- n times
pub data Joining (t w : Tree) (a : ℕ) {n : ℕ} (new : Pieces n) (e : ℕ) : Type 0 where
  all : (u : Tree) → is_free_piece new ≡ true → w ≡ joining u e a → Bare u a → Outside t u a → Joining t w a new e
  part : is_free_piece new ≡ false → Image w a new → Outside t w a → Joining t w a new e

-- the pieces x at b and y at c make the pieces `new` at a: one free piece exactly where both are free
record Makes (a b c : ℕ) {n : ℕ} (x y : Pieces n) (new : Pieces (suc n)) : Type 0 where
  both : is_free_piece x ≡ true → is_free_piece y ≡ true → is_free_piece new ≡ true
  used : (is_free_piece x && is_free_piece y) ≡ false → is_free_piece new ≡ false
  image : (w : Tree) → (is_free_piece x && is_free_piece y) ≡ false → is_free_node w a ≡ false → Image w b x
      → Image w c y
      → Image w a new

and_comm : (x y : Bool) → (x && y) ≡ (y && x)
and_comm true true = refl
and_comm true false = refl
and_comm false true = refl
and_comm false false = refl

makes-lower : (a : ℕ) {n : ℕ} (x y : Pieces n) → Makes a (2 * a) (2 * a + 1) x y (join_halves x y)
makes-lower a x y = record {
  both = λ e f. rw (e, f);
  used = λ e. rw e;
  image = λ w e o p q. rw e (o, p, q);
}

makes-upper : (a : ℕ) {n : ℕ} (x y : Pieces n) → Makes a (2 * a + 1) (2 * a) x y (join_halves y x)
makes-upper a x y = record {
  both = λ e f. rw (e, f);
  used = λ e. rw (and_comm (is_free_piece y) (is_free_piece x), e);
  image = λ w e o p q. rw (and_comm (is_free_piece y) (is_free_piece x), e) (o, q, p);
}

-- ---- one joining
module _ {a b c : ℕ} (h : Halves a b c) (pair : buddy b ≡ c) (fits-b : b < NODES) (fits-c : c < NODES) (some : 1 ≤ c)
    (t : Tree) {n : ℕ} (x y : Pieces n) (new : Pieces (suc n)) (mk : Makes a b c x y new)
    (none : is_free_node t a ≡ false) (im : Image t c y) where
  module _ (u : Tree) (bare-b : Bare u b) (out : Outside t u b) (free-x : is_free_piece x ≡ true) where
    beside : is_free_node u c ≡ is_free_piece y
    beside = in-other h t u out 0 c refl ∙ top t c y im

    -- both are free: they become one
    cleared-bare : is_free_piece y ≡ true → Bare (without_free u c) a
    cleared-bare f m z p = by (same? z a)
      where
        at : ((k : ℕ) × (node_above k z ≡ b)) ⊎ ((k : ℕ) × (node_above k z ≡ c))
            → is_free_node (without_free u c) z ≡ false
        at (inl q) = clear-other-node u c fits-c z (λ e. h.apart q.0 0 z q.1 e) ∙ bare-b q.0 z q.1
        at (inr q) =
            clear-bare u c fits-c
            (λ k v r d. in-other h t u out k v r ∙ free-below t c y im f k v r d) q.0 z q.1

        by : Equality z a → is_free_node (without_free u c) z ≡ false
        by (same e) = rw e (clear-other-node u c fits-c a (λ d. omega (arith, h.beside)) ∙ at-whole h t u out ∙ none)
        by (other d) = at (h.either m z p d)

    cleared-out : Outside t (without_free u c) a
    cleared-out z k =
        clear-other-node u c fits-c z (λ e. k 1 (ap (λ (v : ℕ). v / 2) e ∙ h.second)) ∙ out-whole h t u out z k

    one_more : is_free_piece y ≡ true → (e : ℕ) → joining u (suc e) b ≡ joining (without_free u c) e a
    unfolding joining
    one_more f e = rw (pair, beside, f, h.first)

    -- the other half is not free: the node stays
    stays : is_free_piece y ≡ false → (e : ℕ) → joining u (suc e) b ≡ with_free u b
    unfolding joining
    stays f e = rw (pair, beside, f)

    marked-image : is_free_piece y ≡ false → Image (with_free u b) a new
    marked-image f =
        mk.image (with_free u b) (no_second (is_free_piece x) (is_free_piece y) f)
        (mark-other u b fits-b a (λ e. omega (arith, h.above)) ∙ at-whole h t u out ∙ none)
        (free-image (with_free u b) b x free-x (mark-here u b fits-b) (mark-below u b fits-b bare-b))
        (image-same t (with_free u b) c y some
        (λ m z p. mark-other u b fits-b z (λ e. h.apart 0 m z e p) ∙ in-other h t u out m z p) im)

    marked-out : Outside t (with_free u b) a
    marked-out z k = mark-other u b fits-b z (λ e. k 1 (ap (λ (v : ℕ). v / 2) e ∙ h.first)) ∙ out-whole h t u out z k

  joined : (w : Tree) (e : ℕ) → Joining t w b x (suc e) → Joining t w a new e
  joined w e (part f i out) =
      part (mk.used (no-first (is_free_piece x) (is_free_piece y) f))
      (mk.image w (no-first (is_free_piece x) (is_free_piece y) f) (at-whole h t w out ∙ none) i
      (image-same t w c y some (in-other h t w out) im))
      (out-whole h t w out)
  joined w e (all u f d bare-b out) = by (true? (is_free_piece y))
    where
      by : Truth (is_free_piece y) → Joining t w a new e
      by (holds g) =
          all (without_free u c) (mk.both f g) (d ∙ one_more u bare-b out f g e) (cleared-bare u bare-b out f g)
          (cleared-out u bare-b out f)
      by (fails g) =
          let s = d ∙ stays u bare-b out f g e in
          part (mk.used (no_second (is_free_piece x) (is_free_piece y) g))
          (rw s (marked-image u bare-b out f g)) (rw s (marked-out u bare-b out f))

-- ---- from the strip's node up to the node a

-- the strip of order k at the place q, from the slot of the node a on, has a node below a, from which joining goes up
pub record Joins (t : Tree) (a : ℕ) {n : ℕ} (new : Pieces n) (k q : ℕ) : Type 0 where
  pub depth : ℕ
  pub node : ℕ
  pub sum : depth + k ≡ n
  pub under : node_above depth node ≡ a
  pub at : node * slots_in k ≡ a * slots_in n + q
  pub does : (e : ℕ) → Joining t (joining t (depth + e) node) a new e

whole-joins : (t : Tree) (a n : ℕ) (s : PieceState) (k q : ℕ) → is_free_piece (whole {n = n} s) ≡ false
    → Image t a (whole {n = n} s)
    → q ≡ 0 → n ≡ k → Joins t a (whole {n = n} free) k q
whole-joins t a n s k q f im d e = record {
  depth = 0;
  node = a;
  sum = omega arith;
  under = refl;
  at = rw (d, e) (omega arith);
  does = λ i. all t refl (rw (zero_more i)) (bare t a n s im f) (λ y z. refl);
}
  where
    zero_more : (i : ℕ) → 0 + i ≡ i
    zero_more i = omega arith

module _ (t : Tree) (a : ℕ) {n : ℕ} (l r : Pieces n) (k q : ℕ) (room : Room a (suc n))
    (im : Image t a (halves l r)) where
  deeper : (d e : ℕ) → d + suc e ≡ suc d + e
  deeper d e = omega arith

  lower-joins : (new : Pieces n) → Joins t (2 * a) new k q → Joins t a (join_halves new r) k q
  lower-joins new x =
      let h = lower-first a room.first in
      record {
        depth = suc x.depth;
        node = x.node;
        sum = omega (arith, x.sum);
        under = up_first h x.depth x.node x.under;
        at = omega (arith, x.at, double a (slots_in n), mul-add a (slots_in n) (slots_in n));
        does = λ e.
            joined h (omega arith) (node-fits (2 * a) n (lower-room a n room))
            (node-fits (2 * a + 1) n (upper-room a n room))
            (omega arith) t new r (join_halves new r) (makes-lower a new r) im.0 im.2 _ e
            (rw (deeper x.depth e) at (x.does (suc e)));
      }

  upper-joins : (new : Pieces n) → slots_in n ≤ q → Joins t (2 * a + 1) new k (q - slots_in n)
      → Joins t a (join_halves l new) k q
  upper-joins new g x =
      let h = upper_first a room.first in
      record {
        depth = suc x.depth;
        node = x.node;
        sum = omega (arith, x.sum);
        under = up_first h x.depth x.node x.under;
        at = omega (arith, x.at, double-more a (slots_in n), mul-add a (slots_in n) (slots_in n));
        does = λ e.
            joined h (omega arith) (node-fits (2 * a + 1) n (upper-room a n room))
            (node-fits (2 * a) n (lower-room a n room))
            (omega (arith, room.first)) t new l (join_halves l new) (makes-upper a new l) im.0 im.1 _ e
            (rw (deeper x.depth e) at (x.does (suc e)));
      }

pub joins : (t : Tree) (a : ℕ) {n : ℕ} (p : Pieces n) (k q : ℕ) (s : PieceState) → Room a n → Image t a p
    → strip_starts p q ≡ here k s
    → Joins t a (give_strip q p) k q
joins t a (whole free) k q s room im e = let z : ◌≡◌ {A = ℕ} 0 1 = cc in absurd (omega arith)
joins t a (whole {n} held) k q s room im e =
    let i = first-is q n held k s e in
    whole-joins t a n held k q refl im i.place i.order
joins t a (whole {n} (begun u)) k q s room im e =
    let i = first-is q n (begun u) k s e in
    whole-joins t a n (begun u) k q refl im i.place i.order
joins t a (halves {n} l r) k q s room im e =
    by (order? q (slots_in n)) (joins t (2 * a) l k q s (lower-room a n room) im.1)
    (joins t (2 * a + 1) r k (q - slots_in n) s (upper-room a n room) im.2)
  where
    by : Order q (slots_in n) → (strip_starts l q ≡ here k s → Joins t (2 * a) (give_strip q l) k q)
        → (strip_starts r (q - slots_in n) ≡ here k s
        → Joins t (2 * a + 1) (give_strip (q - slots_in n) r) k (q - slots_in n))
        → Joins t a (give_strip q (halves l r)) k q
    by (before h) f g =
        rw (lt-ltb _ _ h) (lower-joins t a l r k q room im (give_strip q l) (f (rw (lt-ltb _ _ h) at e)))
    by (after h) f g =
        rw (le-ltb _ _ h)
        (upper-joins t a l r k q room im (give_strip (q - slots_in n) r) h (g (rw (le-ltb _ _ h) at e)))
