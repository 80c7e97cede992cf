-- Halving on the tree follows halving the piece.
use mathlib.Core.Path.{◌≡◌, refl, ◌∙◌}
use Prim.Native.Nat.{ℕ, zero, suc, ◌+◌, ◌-◌, ◌*◌, ◌≤◌, ◌<◌}
use native.Mathlib.Omega.{arith}
use borrow.Author.Tests.{le-leb, lt-leb}
use Rattle.strip_tree.specs.Trees.{NODES, with_free}
use Rattle.rows.specs.Comparisons.{Order, before, after, order?}
use Rattle.pieces.specs.Pieces.{free, held, whole}
use Rattle.pieces.specs.Strips.{halved_to}
use Rattle.strip_tree.specs.declared.tree.Tree.{Tree}
use Rattle.strip_tree.specs.TreeMoves.{halving}
use Rattle.strip_tree.proofs.NodeBits.{mark-here, mark-other}
use Rattle.strips_agreement.specs.TreeFollows.{Image}
use Rattle.strips_agreement.proofs.NodesAbove.{lower-first, upper_first, up_first}
use Rattle.strips_agreement.proofs.TreeImages.{Outside, Bare, image-same, mark-outside, mark-below, out-whole}
use Rattle.strips_agreement.proofs.TreeImages.{in-other, at-whole}
use Rattle.strips_agreement.proofs.NodeRoom.{Room, lower-room, upper-room, node-fits}

-- the tree u has the halved piece at and below the node i, and is as t was everywhere else
pub record Halved (k j : ℕ) (t u : Tree) (i : ℕ) : Type 0 where
  pub image : Image u i (halved_to k j)
  pub outside : Outside t u i

-- a strip as large as the piece
same-piece : (t : Tree) (i n : ℕ) → Bare t i → Image t i (whole {n = n} held)
same-piece t i n h = (h 0 i refl, λ m y p d. h m y p)

module _ (k j : ℕ) (t : Tree) (i : ℕ) (g : k ≤ j) (room : Room i (suc j)) (h : Bare t i) where
  abbrev u : Tree
  u = with_free t (2 * i + 1)

  fits : 2 * i + 1 < NODES
  fits = node-fits (2 * i + 1) j (upper-room i j room)

  lower-bare : Bare u (2 * i)
  lower-bare m y p =
      mark-other t (2 * i + 1) fits y (λ e. (upper_first i room.first).apart 0 m y e p)
      ∙ h (suc m) y (up_first (lower-first i room.first) m y p)

  upper-free : Image u (2 * i + 1) (whole {n = j} free)
  upper-free = (
    mark-here t (2 * i + 1) fits,
    mark-below t (2 * i + 1) fits (λ m y p. h (suc m) y (up_first (upper_first i room.first) m y p)),
  )

  step : (v : Tree) → Halved k j u v (2 * i) → Halved k (suc j) t v i
  step v x =
      let f = lower-first i room.first in
      let o = mark-outside t (2 * i + 1) fits in
      record {
        image = rw (le-leb _ _ g) (
          at-whole f u v x.outside ∙ at-whole (upper_first i room.first) t u o ∙ h 0 i refl,
          x.image,
          image-same u v (2 * i + 1) (whole {n = j} free) (omega arith) (in-other f u v x.outside) upper-free,
        );
        outside = λ y n. out-whole f u v x.outside y n ∙ out-whole (upper_first i room.first) t u o y n;
      }

pub halving-follows : (k j : ℕ) (t : Tree) (i : ℕ) → k ≤ j → Room i j → Bare t i → Halved k j t (halving t (j - k) i) i
unfolding halving
halving-follows k zero t i g room h =
    let e : 0 - k ≡ 0 = omega arith in
    rw e (record { image = same-piece t i 0 h; outside = λ y n. refl })
halving-follows k (suc j) t i g room h =
    by (order? j k) (λ l. halving-follows k j (with_free t (2 * i + 1)) (2 * i) l (lower-room i j room))
  where
    by : Order j k → (k ≤ j → Bare (with_free t (2 * i + 1)) (2 * i)
        → Halved k j (with_free t (2 * i + 1)) (halving (with_free t (2 * i + 1)) (j - k) (2 * i)) (2 * i))
        → Halved k (suc j) t (halving t (suc j - k) i) i
    by (before l) f =
        let e : suc j - k ≡ 0 = omega arith in
        rw e (record { image = rw (lt-leb _ _ l) (same-piece t i (suc j) h); outside = λ y n. refl })
    by (after l) f =
        let e : suc j - k ≡ suc (j - k) = omega arith in
        rw e (step k j t i l room h _ (f l (lower-bare k j t i l room h)))
