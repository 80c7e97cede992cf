-- The moves on the tree and on the slots' bytes agree with those on the pieces.
use mathlib.Core.Path.{◌≡◌, refl, sym, ap, ◌∙◌}
use mathlib.Core.Bool.{true, false}
use Prim.Native.Nat.{ℕ, ◌+◌, ◌-◌, ◌*◌, ◌^◌, ◌≤◌, ◌<◌}
use native.Mathlib.Omega.{arith}
use borrow.Author.Tests.{lt-ltb, le-ltb}
use Rattle.limits.specs.Limits.{SLOTS, WHOLE_ORDER, ORDERS}
use Rattle.rows.specs.Comparisons.{Equality, same, other, same?, Order, before, after, order?}
use Rattle.rows.specs.Update.{update}
use Rattle.rows.proofs.Update.{update_same, update_other}
use Rattle.pieces.specs.Pieces.{slots_in, PieceState, free, held, begun, Pieces, whole, halves}
use Rattle.pieces.specs.Strips.{least_order, least_place, least_halved, take_strip}
use Rattle.pieces.specs.Strips.{StripStart, nowhere, here, strip_starts, free_begun, give_strip}
use Rattle.pieces.proofs.StripTaking as taking
use Rattle.pieces.proofs.StripGiving.{first-is, give-joined, begin-joined}
use Rattle.pieces.proofs.StripStarting.{Begins, taken-begins, given-begins, began-begins, strip_order, strip-aligned}
use Rattle.pieces.proofs.FreeStretches.{Took, found_none, found-one, took}
use Rattle.strip_tree.specs.declared.tree.Tree.{Tree}
use Rattle.std.specs.declared.option.Option.{Option}
use Rattle.std.specs.declared.option.Option.TheVariants.{None, Some}
use Rattle.strip_tree.specs.declared.find.Found.{Found}
use Rattle.strip_tree.specs.Trees.{NODES, is_free_node, with_free, without_free}
use Rattle.strip_tree.specs.TreeMoves.{find, found_at, halving, joining, node_of, slot_of_node, can_begin}
use Rattle.strip_tree.specs.SlotStates.{IN_HAND, FREE_BEGUN}
use Rattle.strip_tree.proofs.Powers.{most, some, twice, slot-below}
use Rattle.strip_tree.proofs.NodeBits.{mark-here}
use Rattle.strip_tree.proofs.Found.{Finds, finds, in-level, nothing-free}
use Rattle.strips_agreement.specs.TreeFollows.{node_above, Image, slot_byte, Follows}
use Rattle.strips_agreement.specs.StripsAgree.{TakenAgrees, TakeAgrees, StartAgrees}
use Rattle.strips_agreement.proofs.NodesAbove.{up_one, one_up}
use Rattle.strips_agreement.proofs.TreeImages.{clear-outside, clear-bare, free-image, mark-below}
use Rattle.strips_agreement.proofs.NodeSlots.{slot_is, node-is, level-room, aligned-can-begin}
use Rattle.strips_agreement.proofs.TreeHalving.{halving-follows}
use Rattle.strips_agreement.proofs.TreeSearch.{Chosen, chosen, least-from}
use Rattle.strips_agreement.proofs.TreeJoining.{Joining, all, part, Joins, joins}

-- ---- a change of one byte

changed-slots : (byte : ℕ → ℕ) (p new : Pieces WHOLE_ORDER) (s x : ℕ) (b : StripStart)
    → ((q : ℕ) → q < SLOTS → byte q ≡ slot_byte (strip_starts p q)) → Begins p new s b → x ≡ slot_byte b
    → (q : ℕ) → q < SLOTS → update byte s x q ≡ slot_byte (strip_starts new q)
changed-slots byte p new s x b h c e q l = by (same? q s)
  where
    by : Equality q s → update byte s x q ≡ slot_byte (strip_starts new q)
    by (same d) = rw (d, update_same byte s x) (e ∙ ap slot_byte (sym c.here))
    by (other d) = update_other byte s x q d ∙ h q l ∙ ap slot_byte (sym (c.others q l d))

-- bytes that are the same at every slot follow the same pieces
pub same-follows : (t : Tree) (byte new : ℕ → ℕ) (p : Pieces WHOLE_ORDER) → ((s : ℕ) → s < SLOTS → new s ≡ byte s)
    → Follows t byte p → Follows t new p
same-follows t byte new p e h = record {
  tree = h.tree;
  slots = λ s l. e s l ∙ h.slots s l;
  joined = h.joined;
}

-- a strip whose free begins changes no node
begin-image : (t : Tree) (task i : ℕ) {n : ℕ} (p : Pieces n) (q k : ℕ) (s : PieceState) → 1 ≤ i → Image t i p
    → strip_starts p q ≡ here k s → Image t i (free_begun task q p)
begin-image t task i (whole free) q k s b im e = let z : ◌≡◌ {A = ℕ} 0 1 = cc in absurd (omega arith)
begin-image t task i (whole held) q k s b im e = im
begin-image t task i (whole (begun u)) q k s b im e = im
begin-image t task i (halves {n} l r) q k s b im e =
    by (order? q (slots_in n)) (begin-image t task (2 * i) l q k s (omega arith) im.1)
    (begin-image t task (2 * i + 1) r (q - slots_in n) k s (omega arith) im.2)
  where
    by : Order q (slots_in n) → (strip_starts l q ≡ here k s → Image t (2 * i) (free_begun task q l))
        → (strip_starts r (q - slots_in n) ≡ here k s → Image t (2 * i + 1) (free_begun task (q - slots_in n) r))
        → Image t i (free_begun task q (halves l r))
    by (before c) f g = rw (lt-ltb _ _ c) (im.0, f (rw (lt-ltb _ _ c) at e), im.2)
    by (after c) f g = rw (le-ltb _ _ c) (im.0, im.1, g (rw (le-ltb _ _ c) at e))

-- what starts at a place is not free
none_free : {n : ℕ} (p : Pieces n) (q k : ℕ) → strip_starts p q ≡ here k free → ⊥
none_free (whole free) q k e = let z : ◌≡◌ {A = ℕ} 0 1 = cc in omega arith
none_free (whole {n} held) q k e =
    let d = (first-is q n held k free e).state in
    let z : ◌≡◌ {A = ℕ} 0 1 = cc in
    omega arith
none_free (whole {n} (begun t)) q k e =
    let d = (first-is q n (begun t) k free e).state in
    let z : ◌≡◌ {A = ℕ} 0 1 = cc in
    omega arith
none_free (halves {n} l r) q k e = by (order? q (slots_in n)) (none_free l q k) (none_free r (q - slots_in n) k)
  where
    by : Order q (slots_in n) → (strip_starts l q ≡ here k free → ⊥)
        → (strip_starts r (q - slots_in n) ≡ here k free → ⊥)
        → ⊥
    by (before c) f g = f (rw (lt-ltb _ _ c) at e)
    by (after c) f g = g (rw (le-ltb _ _ c) at e)

module _ (t : Tree) (byte : ℕ → ℕ) (p : Pieces WHOLE_ORDER) (h : Follows t byte p) where
  -- ---- take

  module _ (k : ℕ) (few : k < ORDERS) where
    -- a depth below the first node is an order
    no-order : (j : ℕ)
        → ((m : ℕ) → k ≤ m → m < j → (y : ℕ) → 2 ^ (WHOLE_ORDER - m) ≤ y
        → y < 2 ^ (WHOLE_ORDER - m) + 2 ^ (WHOLE_ORDER - m) → is_free_node t y ≡ false)
        → (d m y : ℕ) → d + m ≡ WHOLE_ORDER → k ≤ m → m < j → node_above d y ≡ 1 → is_free_node t y ≡ false
    no-order j f d m y e g l q =
        let i : d ≡ WHOLE_ORDER - m = omega arith in
        let r = up_one (WHOLE_ORDER - m) y (rw i at q) in
        f m g l y r.0 r.1

    module _ (i j : ℕ) (x : Finds t k i j) where
      picked : Chosen k t p 1 i j
      picked =
          chosen k t i j x.lowest.is_free x.enough x.order p 1 (WHOLE_ORDER - j) (omega arith) h.tree
          (omega (arith, x.order)) (one_up (WHOLE_ORDER - j) i x.lowest.from x.lowest.below)
          (no-order j x.smaller) (λ y q l. x.lowest.lower y (up_one (WHOLE_ORDER - j) y q).0 l)

      spot : slot_of_node j i ≡ least_place k p
      spot = slot_is j i (least_place k p) x.order picked.place

      fits : i < NODES
      fits = omega (arith, x.lowest.below, most j x.order)

      halved-tree : Image (halving (without_free t i) (j - k) i) 1 (least_halved k p)
      halved-tree =
          let below : i < 2 ^ (ORDERS - j) = omega (arith, x.lowest.below, twice j x.order) in
          let r = level-room j i x.order x.lowest.from below (some j x.order) in
          let a = halving-follows k j (without_free t i) i x.enough r (clear-bare t i fits picked.below) in
          picked.halved _ a.image (λ y n. a.outside y n ∙ clear-outside t i fits y n)

      small : least_order k p ≤ WHOLE_ORDER
      small = omega (arith, picked.least, x.order)

      in_memory : least_place k p < SLOTS
      in_memory =
          let l = in-level t k i j x in
          rw (← spot) (slot-below j i l.order l.from l.below)

      taken-agrees : find t k ≡ found_at i j → TakenAgrees t byte k (least_place k p) (least_halved k p)
      taken-agrees e = record {
        node = i;
        order = j;
        found = e;
        slot = spot;
        fits = in_memory;
        enough = x.enough;
        level = in-level t k i j x;
        after = record {
          tree = halved-tree;
          slots =
              changed-slots byte p (least_halved k p) (least_place k p) (IN_HAND + k) (here k held) h.slots
              (taken-begins k p small) refl;
          joined = taking.take-joined k p h.joined;
        };
      }

    -- a take: the search finds the plain pool's strip, or as it does none
    pub take-agrees : TakeAgrees t byte k (take_strip k p)
    take-agrees = by (find t k) refl (took k p)
      where
        by : (f : Option Found) → find t k ≡ f → Took k p → TakeAgrees t byte k (take_strip k p)
        by (Some f) e (found-one g d) = rw d (taken-agrees f.node f.order (finds t k f.node f.order few e) e)
        by (Some f) e (found_none g d) =
            absurd (omega (arith, small f.node f.order (finds t k f.node f.order few e)))
        by None e (found_none g d) = rw d e
        by None e (found-one g d) =
            let none = no-order ORDERS (nothing-free t k few e) in
            absurd (omega (arith, least-from k t ORDERS (omega arith) p 1 (omega arith) h.tree none))

  -- ---- the beginning of a free, and its step

  module _ (s : ℕ) (place : s < SLOTS) where
    module _ (k : ℕ) (u : PieceState) (e : strip_starts p s ≡ here k u) where
      order_below : k < ORDERS
      order_below = omega (arith, strip_order p s k u e)

      fits-at : can_begin s k ≡ true
      fits-at = aligned-can-begin s k (strip-aligned p s k u e)

      begun-after : (task : ℕ) → Follows t (update byte s (FREE_BEGUN + k)) (free_begun task s p)
      begun-after task = record {
        tree = begin-image t task 1 p s k u (omega arith) h.tree e;
        slots =
            changed-slots byte p (free_begun task s p) s (FREE_BEGUN + k) (here k (begun task)) h.slots
            (began-begins task p s k u e) refl;
        joined = begin-joined task p s h.joined;
      }

      joins-up : Joins t 1 (give_strip s p) k s
      joins-up = joins t 1 p k s u (record { first = omega arith; fits = omega arith }) h.tree e

      joined-image : (w : Tree) → Joining t w 1 (give_strip s p) 0 → Image w 1 (give_strip s p)
      unfolding joining
      joined-image w (all y f d b o) =
          rw d (free-image (with_free y 1) 1 (give_strip s p) f (mark-here y 1 (omega arith))
          (mark-below y 1 (omega arith) b))
      joined-image w (part f i o) = i

      given-tree : Image (joining t (WHOLE_ORDER - k) (node_of k s)) 1 (give_strip s p)
      given-tree =
          let x = joins-up in
          let d : x.depth + 0 ≡ WHOLE_ORDER - k = omega (arith, x.sum) in
          let n = node-is k x.node s order_below x.at in
          rw n (rw d at (joined-image _ (x.does 0)))

      given-after : Follows (joining t (WHOLE_ORDER - k) (node_of k s)) (update byte s 0) (give_strip s p)
      given-after = record {
        tree = given-tree;
        slots =
            changed-slots byte p (give_strip s p) s 0 nowhere h.slots (given-begins p s k u e) refl;
        joined = give-joined p s h.joined;
      }

    -- what starts at a slot: its byte says so, and what the beginning of its free and the step of it leave agrees
    pub start-agrees : StartAgrees t byte p s (strip_starts p s)
    start-agrees = by (strip_starts p s) refl
      where
        by : (b : StripStart) → strip_starts p s ≡ b → StartAgrees t byte p s b
        by nowhere e = h.slots s place ∙ ap slot_byte e
        by (here k free) e = none_free p s k e
        by (here k held) e = record {
          is = h.slots s place ∙ ap slot_byte e;
          order = order_below k held e;
          aligned = fits-at k held e;
          after = begun-after k held e;
        }
        by (here k (begun u)) e = record {
          is = h.slots s place ∙ ap slot_byte e;
          order = order_below k (begun u) e;
          aligned = fits-at k (begun u) e;
          after = given-after k (begun u) e;
        }
