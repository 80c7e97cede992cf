-- docs/POOL.md, "Strips"
-- What the moves of strips find and leave in the tree and in the slots' bytes, by what they are in the plain pool.
use Rattle.std.specs.Prelude.{◌≡◌, true, ℕ, ◌+◌, ◌-◌, ◌≤◌, ◌<◌}
use Rattle.std.specs.declared.option.Option.TheVariants.{None}
use Rattle.limits.specs.Limits.{SLOTS, WHOLE_ORDER, ORDERS}
use Rattle.rows.specs.Update.{update}
use Rattle.pieces.specs.Pieces.{free, held, begun, Pieces}
use Rattle.pieces.specs.Strips.{StripTaken, none_found, strip_at, StripStart, nowhere, here, free_begun, give_strip}
use Rattle.strip_tree.specs.declared.tree.Tree.{Tree}
use Rattle.strip_tree.specs.Trees.{without_free}
use Rattle.strip_tree.specs.TreeMoves.{find, found_at, halving, joining, node_of, slot_of_node, can_begin, InLevel}
use Rattle.strip_tree.specs.SlotStates.{IN_HAND, FREE_BEGUN}
use Rattle.strips_agreement.specs.TreeFollows.{Follows}

module _ (t : Tree) (byte : ℕ → ℕ) where
  -- "starting from the smallest sufficient piece, at the lowest place among equals": the search for order k finds the
  -- free piece at the slot s, and the tree in which it is halved follows the pieces q, with the strip's byte
  pub record TakenAgrees (k s : ℕ) (q : Pieces WHOLE_ORDER) : Type 0 where
    pub node : ℕ
    pub order : ℕ
    pub found : find t k ≡ found_at node order
    pub slot : slot_of_node order node ≡ s
    pub fits : s < SLOTS
    pub enough : k ≤ order
    pub level : InLevel order node
    pub after : Follows (halving (without_free t node) (order - k) node) (update byte s (IN_HAND + k)) q

  -- "finishes, or ends with 16": where the plain pool finds no strip of order k the search finds nothing, else that
  -- strip
  abbrev pub TakeAgrees : ℕ → StripTaken → Type 0
  TakeAgrees k none_found = find t k ≡ None
  TakeAgrees k (strip_at s q) = TakenAgrees k s q

  module _ (p : Pieces WHOLE_ORDER) (s : ℕ) where
    -- a strip of order k in hand starts at the slot s: its byte says so, and the byte for a free that has begun is what
    -- the beginning by any task leaves
    pub record HeldAgrees (k : ℕ) : Type 0 where
      pub is : byte s ≡ IN_HAND + k
      pub order : k < ORDERS
      pub aligned : can_begin s k ≡ true
      pub after : (task : ℕ) → Follows t (update byte s (FREE_BEGUN + k)) (free_begun task s p)

    -- a strip of order k whose free has begun starts at the slot s: its byte says so, and the tree in which its node is
    -- joined follows the pieces after it was given back, the byte 0
    pub record BegunAgrees (k : ℕ) : Type 0 where
      pub is : byte s ≡ FREE_BEGUN + k
      pub order : k < ORDERS
      pub aligned : can_begin s k ≡ true
      pub after : Follows (joining t (WHOLE_ORDER - k) (node_of k s)) (update byte s 0) (give_strip s p)

    -- "A unit from 8,192 where no strip starts is 10, and one whose free has begun is 11": the byte of the slot s, by
    -- what starts there in the plain pool; no free piece is what starts
    abbrev pub StartAgrees : StripStart → Type 0
    StartAgrees nowhere = byte s ≡ 0
    StartAgrees (here k free) = ⊥
    StartAgrees (here k held) = HeldAgrees k
    StartAgrees (here k (begun u)) = BegunAgrees k
