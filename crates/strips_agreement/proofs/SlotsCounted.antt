-- Each slot is in exactly one strip or free piece, by all bits of the tree and all bytes.
use mathlib.Core.Path.{◌≡◌, refl, ap, ◌∙◌}
use mathlib.Core.Logic.{◌≢◌}
use mathlib.Core.Bool.{Bool, cond, ◌&&◌, true, false}
use Prim.Native.Nat.{ℕ, zero, suc, ◌+◌, ◌-◌, ◌*◌, ◌/◌, ◌^◌, ◌≤◌, ◌<◌}
use native.Mathlib.Nat.{pow-suc, mul-add, add-mul-div_right, div-eq_of_lt}
use native.Mathlib.Omega.{arith}
use borrow.Author.Tests.{lt-ltb, le-ltb, le-leb, lt-leb, ne_eqb}
use lib.Dec.{ltb, leb}
use lib.Pow.{pow_pos, shr-shr}
use Rattle.limits.specs.Limits.{SLOTS, WHOLE_ORDER, ORDERS}
use Rattle.rows.specs.Comparisons.{Order, before, after, order?}
use Rattle.rows.specs.Totals.{total}
use Rattle.rows.proofs.Totals.{total-same, total-suc, total-zero, total-only}
use Rattle.pieces.specs.Pieces.{slots_in, PieceState, free, held, begun, Pieces, whole, halves, is_free_piece}
use Rattle.pieces.specs.Strips.{StripStart, nowhere, here, strip_starts}
use Rattle.pieces.proofs.BothFree.{no-first, no_second}
use Rattle.pieces.proofs.PieceLengths.{some, power}
use Rattle.pieces.proofs.StripGiving.{strip-fits}
use Rattle.pieces.proofs.StripStarting.{strip_order}
use Rattle.strip_tree.specs.declared.tree.Tree.{Tree}
use Rattle.strip_tree.specs.Trees.{is_free_node}
use Rattle.strip_tree.specs.TreeMoves.{node_of}
use Rattle.strip_tree.specs.SlotStates.{IN_HAND, FREE_BEGUN, order_in}
use Rattle.strip_tree.proofs.Powers.{area}
use Rattle.strips_agreement.specs.TreeFollows.{node_above, Image, slot_byte, Follows}
use Rattle.strips_agreement.specs.SlotsCounted.{free_over, strip_has, strips_over}
use Rattle.strips_agreement.proofs.NodesAbove.{up_le}
use Rattle.strips_agreement.proofs.NodeRoom.{double, double-more}
use Rattle.strips_agreement.proofs.SlotBytes.{Bytes, lower-bytes, upper-bytes, all-bytes}

-- ---- the nodes that have a slot

-- the node a of order n, whose first slot is f, is the one that has the slot s
node-having : (n a f s : ℕ) → n < ORDERS → a * slots_in n ≡ SLOTS + f → f ≤ s → s < f + slots_in n → node_of n s ≡ a
node-having n a f s h e from to =
    let w = power n in
    let m : a * 2 ^ n ≡ SLOTS + f = rw (← w) e in
    let d : s + 2 ^ (WHOLE_ORDER - n) * 2 ^ n ≡ s - f + a * 2 ^ n = omega (arith, area n h) in
    let q = ap (λ (y : ℕ). y / 2 ^ n) d in
    let i : s - f < 2 ^ n = omega arith in
    omega (
      arith,
      add-mul-div_right s (2 ^ (WHOLE_ORDER - n)) (pow_pos n),
      add-mul-div_right (s - f) a (pow_pos n),
      div-eq_of_lt i,
    )

-- the node of the next order that has it is the one above
node-half : (k s : ℕ) → k < WHOLE_ORDER → node_of k s / 2 ≡ node_of (suc k) s
node-half k s h =
    let e : WHOLE_ORDER - k ≡ suc (WHOLE_ORDER - suc k) = omega arith in
    let d : 2 ^ (WHOLE_ORDER - k) ≡ 2 ^ (WHOLE_ORDER - suc k) * 2 = rw e (pow-suc 2 (WHOLE_ORDER - suc k)) in
    let next : k + 1 ≡ suc k = omega arith in
    omega (arith, rw next at (shr-shr s k 1))

node_over : (m k n s : ℕ) → m + k ≡ n → n < ORDERS → node_above m (node_of k s) ≡ node_of n s
node_over zero k n s e h =
    let d : k ≡ n = omega arith in
    rw d
node_over (suc m) k n s e h = rw (node-half k s (omega arith)) (node_over m (suc k) n s (omega arith) h)

-- ---- a strip that has a slot, or has not

module _ (s : ℕ) where
  has : (q x n : ℕ) → 0 < x → order_in x ≡ n → q ≤ s → s < q + slots_in n → strip_has q x s ≡ true
  has q x n a e b c = rw (lt-ltb 0 x a, le-leb q s b, e, lt-ltb s (q + slots_in n) c)

  begins-later : (q x : ℕ) → s < q → strip_has q x s ≡ false
  begins-later q x h = no-first (ltb 0 x && leb q s) _ (no_second (ltb 0 x) (leb q s) (lt-leb q s h))

  ends-before : (q x n : ℕ) → order_in x ≡ n → q + slots_in n ≤ s → strip_has q x s ≡ false
  ends-before q x n e h = rw e (no_second (ltb 0 x && leb q s) _ (le-ltb s (q + slots_in n) h))

-- ---- over the pieces

-- a total over two stretches
two-parts : (m n : ℕ) (w : ℕ → ℕ → ℕ) (f : ℕ → ℕ)
    → total (m + n) w f ≡ total m w f + total n (λ i x. w (m + i) x) (λ i. f (m + i))
unfolding total
two-parts m zero w f =
    let e : m + 0 ≡ m = omega arith in
    rw e (omega arith)
two-parts m (suc n) w f =
    let e : m + suc n ≡ suc (m + n) = omega arith in
    rw e (omega (arith, two-parts m n w f))

module _ (t : Tree) (byte : ℕ → ℕ) (s : ℕ) where
  -- the free nodes over the slot, of the first n orders
  abbrev free_below : ℕ → ℕ
  free_below n = total n (λ k b. cond b 1 0) (λ k. is_free_node t (node_of k s))

  -- the strips over the slot, of the n slots from f on
  abbrev strips_from : ℕ → ℕ → ℕ
  strips_from f n = total n (λ q x. cond (strip_has (f + q) x s) 1 0) (λ q. byte (f + q))

  -- the node a, of order n, has the slot s
  record Over (a n f : ℕ) : Type 0 where
    order : n < ORDERS
    first : a * slots_in n ≡ SLOTS + f
    from : f ≤ s
    to : s < f + slots_in n

  having : (a n f : ℕ) → Over a n f → node_of n s ≡ a
  having a n f o = node-having n a f s o.order o.first o.from o.to

  -- ---- a whole piece

  -- of the nodes over the slot only the piece's own can be free
  whole-free : (a n f : ℕ) (u : PieceState) → Over a n f → Image t a (whole {n = n} u)
      → free_below (suc n) ≡ cond (is_free_piece (whole {n = n} u)) 1 0
  whole-free a n f u o im =
      total-only (suc n) (λ k b. cond b 1 0) (λ k. is_free_node t (node_of k s)) n (omega arith) below
      ∙ ap (λ (b : Bool). cond {A = ℕ} b 1 0) (ap (is_free_node t) (having a n f o) ∙ im.0)
    where
      above : (m k : ℕ) → suc m + k ≡ n → node_above (suc m) (node_of k s) ≡ a
      above m k e = node_over (suc m) k n s e o.order ∙ having a n f o

      strictly : (m y : ℕ) → 1 ≤ y → node_above (suc m) y ≡ a → is_free_node t y ≡ false
      strictly m y b e = im.1 (suc m) y e (λ d. omega (arith, up_le m (y / 2)))

      below : (k : ℕ) → k < suc n → k ≢ n → ◌≡◌ {A = ℕ} (cond (is_free_node t (node_of k s)) 1 0) 0
      below k h d =
          let e : suc (n - k - 1) + k ≡ n = omega arith in
          rw (strictly (n - k - 1) (node_of k s) (omega (arith, pow_pos (WHOLE_ORDER - k))) (above (n - k - 1) k e))

  no_strip : (n f : ℕ) → Bytes byte (whole {n = n} free) f → strips_from f (slots_in n) ≡ 0
  no_strip n f b = total-zero (slots_in n) _ _ (λ q h. rw (b q h))

  -- only its first byte names a strip
  one-strip : (a n f x : ℕ) (u : PieceState) → Over a n f → Bytes byte (whole {n = n} u) f
      → slot_byte (strip_starts (whole {n = n} u) 0) ≡ x → 0 < x → order_in x ≡ n
      → ((q : ℕ) → q ≢ 0 → slot_byte (strip_starts (whole {n = n} u) q) ≡ 0)
      → strips_from f (slots_in n) ≡ 1
  one-strip a n f x u o b e pos ord others =
      total-only (slots_in n) _ _ 0 (some n) (λ q h d. rw (b q h, others q d))
      ∙ rw (b 0 (some n), e, has s (f + 0) x n pos ord (omega (arith, o.from)) (omega (arith, o.to)))

  -- ---- halves

  -- a strip of pieces that end at the slot or before it has not the slot
  past : {n : ℕ} (p : Pieces n) (f : ℕ) → n < ORDERS → f + slots_in n ≤ s → (q : ℕ) (b : StripStart)
      → strip_starts p q ≡ b → strip_has (f + q) (slot_byte b) s ≡ false
  past p f o h q nowhere e = refl
  past p f o h q (here k free) e = refl
  past p f o h q (here k held) e =
      let m = strip_order p q k held e in
      ends-before s (f + q) (IN_HAND + k) k (omega arith) (omega (arith, strip-fits p q k held e))
  past p f o h q (here k (begun u)) e =
      let m = strip_order p q k (begun u) e in
      ends-before s (f + q) (FREE_BEGUN + k) k (omega arith) (omega (arith, strip-fits p q k (begun u) e))

  none-past : {n : ℕ} (p : Pieces n) (f : ℕ) → n < ORDERS → f + slots_in n ≤ s → Bytes byte p f
      → strips_from f (slots_in n) ≡ 0
  none-past {n} p f o h b = total-zero (slots_in n) _ _ (λ q g. rw (b q g, past p f o h q (strip_starts p q) refl))

  none-later : (f n : ℕ) → s < f → strips_from f n ≡ 0
  none-later f n h = total-zero n _ _ (λ q g. rw (begins-later s (f + q) (byte (f + q)) (omega arith)))

  -- the strips of the two halves
  both_halves : (f n : ℕ) → strips_from f (n + n) ≡ strips_from f n + strips_from (f + n) n
  both_halves f n =
      two-parts n n (λ q x. cond (strip_has (f + q) x s) 1 0) (λ q. byte (f + q))
      ∙ ap (λ (x : ℕ). strips_from f n + x) (total-same n _ _ _ _ (λ q g. by q))
    where
      by : (q : ℕ)
          → ◌≡◌ {A = ℕ} (cond (strip_has (f + (n + q)) (byte (f + (n + q))) s) 1 0)
          (cond (strip_has (f + n + q) (byte (f + n + q)) s) 1 0)
      by q =
          let e : f + (n + q) ≡ f + n + q = omega arith in
          rw e

  -- ---- over the node a

  counted : {n : ℕ} (p : Pieces n) (a f : ℕ) → Over a n f → Image t a p → Bytes byte p f
      → free_below (suc n) + strips_from f (slots_in n) ≡ 1
  counted (whole {n} free) a f o im b = omega (arith, whole-free a n f free o im, no_strip n f b)
  counted (whole {n} held) a f o im b =
      omega (
        arith,
        whole-free a n f held o im,
        one-strip a n f (IN_HAND + n) held o b refl (omega arith) (omega (arith, o.order)) (λ q d. rw (ne_eqb q 0 d)),
      )
  counted (whole {n} (begun u)) a f o im b =
      omega (
        arith,
        whole-free a n f (begun u) o im,
        one-strip a n f (FREE_BEGUN + n) (begun u) o b refl (omega arith) (omega (arith, o.order))
            (λ q d. rw (ne_eqb q 0 d)),
      )
  counted (halves {n} l r) a f o im b =
      by (order? s (f + slots_in n)) (λ v. counted l (2 * a) f v im.1 (lower-bytes byte l r f b))
      (λ v. counted r (2 * a + 1) (f + slots_in n) v im.2 (upper-bytes byte l r f b))
    where
      above : free_below (suc (suc n)) ≡ free_below (suc n)
      above =
          total-suc (suc n) (λ k b. cond b 1 0) (λ k. is_free_node t (node_of k s))
          ∙ rw (having a (suc n) f o, im.0) (omega arith)

      by : Order s (f + slots_in n)
          → (Over (2 * a) n f → free_below (suc n) + strips_from f (slots_in n) ≡ 1)
          → (Over (2 * a + 1) n (f + slots_in n) → free_below (suc n) + strips_from (f + slots_in n) (slots_in n) ≡ 1)
          → free_below (suc (suc n)) + strips_from f (slots_in n + slots_in n) ≡ 1
      by (before h) x y =
          let v : Over (2 * a) n f = record {
            order = omega (arith, o.order);
            first = omega (arith, o.first, double a (slots_in n), mul-add a (slots_in n) (slots_in n));
            from = o.from;
            to = h;
          } in
          omega (arith, above, both_halves f (slots_in n), none-later (f + slots_in n) (slots_in n) h, x v)
      by (after h) x y =
          let v : Over (2 * a + 1) n (f + slots_in n) = record {
            order = omega (arith, o.order);
            first = omega (arith, o.first, double-more a (slots_in n), mul-add a (slots_in n) (slots_in n));
            from = h;
            to = omega (arith, o.to);
          } in
          let z = none-past l f (omega (arith, o.order)) h (lower-bytes byte l r f b) in
          omega (arith, above, both_halves f (slots_in n), z, y v)

-- "each unit of that area is in exactly one strip or free piece", by all bits of the tree and all bytes
pub counted-once : (t : Tree) (byte : ℕ → ℕ) (p : Pieces WHOLE_ORDER) → Follows t byte p → (s : ℕ) → s < SLOTS
    → free_over t s + strips_over byte s ≡ 1
counted-once t byte p h s l = omega (arith, counted t byte s p 1 0 over h.tree (all-bytes byte t p h), from_first)
  where
    over : Over t byte s 1 WHOLE_ORDER 0
    over = record { order = omega arith; first = refl; from = omega arith; to = omega arith }

    from_first : strips_from t byte s 0 SLOTS ≡ strips_over byte s
    from_first = total-same SLOTS _ _ _ _ (λ q g. by q)
      where
        by : (q : ℕ)
            → ◌≡◌ {A = ℕ} (cond (strip_has (0 + q) (byte (0 + q)) s) 1 0) (cond (strip_has q (byte q) s) 1 0)
        by q =
            let e : 0 + q ≡ q = omega arith in
            rw e
