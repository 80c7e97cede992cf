-- docs/POOL.md, "Strips"
-- The steps of a strip's request, to take and to free, and the beginning of its free: "Such a request, to take or to
-- free, finishes, or ends with 16, in its first step".
use Rattle.std.specs.Prelude.{ℕ, ◌+◌, ◌-◌, cond, ◌&&◌, List, [], ◌∷◌, ltb, leb, eqb}
use Rattle.limits.specs.Limits.{WHOLE_ORDER, ORDERS}
use Rattle.fields.specs.Columns.{View, Write, ◌:=◌}
use Rattle.strip_tree.specs.declared.tree.Tree.{Tree}
use Rattle.std.specs.declared.option.Option.{Option}
use Rattle.std.specs.declared.option.Option.TheVariants.{None, Some}
use Rattle.strip_tree.specs.declared.find.Found.{Found}
use Rattle.strip_tree.specs.Trees.{tree_with, without_free}
use Rattle.strip_tree.specs.TreeMoves.{find, halving, joining, node_of, slot_of_node, can_begin}
use Rattle.strip_tree.specs.SlotStates.{IN_HAND, FREE_BEGUN, LAST_BYTE, order_in}
use Rattle.pieces.specs.StripUnits.{strip_unit, slot_of_unit, is_strip_unit}
use Rattle.plain.specs.Moves.{nothing, strip_taken, strip_given, no_strip}
use Rattle.control.specs.Layout.{FreeNodes, SlotByte, TaskLost, TaskPlace, TaskUnit}
use Rattle.control.specs.Places.{IDLE, STRIP_GIVE}
use Rattle.control.specs.Answers.{Allocated, Freed, NoStrip}
use Rattle.stepped.specs.Outcome.{Outcome, refuse, bad, accept, over}

-- the tree of the free pieces that the fields hold
abbrev pub tree_of : View → Tree
tree_of v = tree_with (v (FreeNodes 0)) (v (FreeNodes 1)) (v (FreeNodes 2)) (v (FreeNodes 3))

-- the writes that leave a tree in the fields
abbrev pub tree_writes : Tree → List Write
tree_writes tree =
    FreeNodes 0 := tree.a
    ∷ FreeNodes 1 := tree.b
    ∷ FreeNodes 2 := tree.c
    ∷ FreeNodes 3 := tree.d
    ∷ []

-- v: what stands in the fields; t: the task, whose request is for a strip of order c
module _ (v : View) (t c : ℕ) where
  -- ---- the step that takes a strip

  -- "A free piece is halved again and again until it fits, lower half first": the piece at the node i, of order j
  unfoldable pub strip_take_at : ℕ → ℕ → Outcome
  strip_take_at i j =
      let s = slot_of_node j i in
      over (Allocated (strip_unit s)) (strip_taken s)
      (TaskPlace t := IDLE ∷ SlotByte s := (IN_HAND + c) ∷ tree_writes (halving (without_free (tree_of v) i) (j - c) i))
      []

  -- "16 ends a request" where no piece is found
  abbrev pub strip_take_by : Option Found → Outcome
  strip_take_by None = over NoStrip no_strip (TaskPlace t := IDLE ∷ []) []
  strip_take_by (Some f) = strip_take_at f.node f.order

  -- "starting from the smallest sufficient piece, at the lowest place among equals", by the order of the request; 14
  -- where the class of the request is no order
  unfoldable pub strip_take : Outcome
  strip_take = cond (ltb c ORDERS) (strip_take_by (find (tree_of v) c)) bad

-- v: what stands in the fields; t: the task
module _ (v : View) (t : ℕ) where
  -- ---- the step that frees a strip

  -- "Freed halves join whenever both are free": the strip at the slot s, whose free has begun, with the byte x. 14
  -- where the byte is out of its range, tells of no free that has begun, or of an order whose pieces do not begin at s
  unfoldable pub strip_give_at : ℕ → Outcome
  strip_give_at s =
      let x = v (SlotByte s) in
      cond (leb FREE_BEGUN x && leb x LAST_BYTE && can_begin s (order_in x))
      (over Freed (strip_given s)
      (TaskPlace t := IDLE
      ∷ SlotByte s := 0
      ∷ tree_writes (joining (tree_of v) (WHOLE_ORDER - order_in x) (node_of (order_in x) s)))
      [])
      bad

  -- the step that frees a strip, by the task's unit; 14 where no slot begins there
  unfoldable pub strip_give : Outcome
  strip_give =
      let u = v (TaskUnit t) in
      cond (is_strip_unit u) (strip_give_at (slot_of_unit u)) bad

  -- ---- the beginning of a strip's free

  -- "A unit from 8,192 where no strip starts is 10, and one whose free has begun is 11": the unit u, where the slot s
  -- begins. 14 where the byte is out of its range, or tells of an order whose pieces do not begin at s
  unfoldable pub begin_free_at : ℕ → ℕ → Outcome
  begin_free_at u s =
      let x = v (SlotByte s) in
      cond (eqb x 0) (refuse 10)
      (cond (leb x LAST_BYTE && can_begin s (order_in x))
      (cond (leb FREE_BEGUN x) (refuse 11)
      (accept nothing
      (TaskPlace t := STRIP_GIVE ∷ TaskUnit t := u ∷ TaskLost t := 0 ∷ SlotByte s := (x + ORDERS) ∷ [])
      []))
      bad)

  -- the beginning of a free of the unit u from 8,192 up
  unfoldable pub begin_free_strip : ℕ → Outcome
  begin_free_strip u = cond (is_strip_unit u) (begin_free_at u (slot_of_unit u)) (refuse 10)
