-- The ways out of the steps of strips and of the beginning of their free, from the facts that lead there.
use Prim.Native.Nat.{ℕ, ◌+◌, ◌-◌, ◌≤◌, ◌<◌}
use mathlib.Core.Path.{◌≡◌, ap, ◌∙◌}
use mathlib.Core.Logic.{◌≢◌}
use mathlib.Core.Bool.{true, false}
use mathlib.Core.List.{List, [], ◌∷◌}
use borrow.Author.Tests.{lt-ltb, le-ltb, le-leb, lt-leb, eq-eqb, ne_eqb}
use lib.Dec.{leb}
use Rattle.limits.specs.Limits.{WHOLE_ORDER, ORDERS}
use Rattle.fields.specs.Columns.{View, ◌:=◌}
use Rattle.strip_tree.specs.declared.tree.Tree.{Tree}
use Rattle.std.specs.declared.option.Option.{Option}
use Rattle.std.specs.declared.option.Option.TheVariants.{None, Some}
use Rattle.strip_tree.specs.declared.find.Found.{Found}
use Rattle.strip_tree.specs.Trees.{without_free}
use Rattle.strip_tree.specs.TreeMoves.{find, halving, joining, node_of, slot_of_node, can_begin}
use Rattle.strip_tree.specs.SlotStates.{IN_HAND, FREE_BEGUN, LAST_BYTE, order_in}
use Rattle.pieces.specs.StripUnits.{strip_unit, slot_of_unit, is_strip_unit}
use Rattle.plain.specs.Moves.{nothing, strip_taken, strip_given, no_strip}
use Rattle.control.specs.Layout.{changed, SlotByte, TaskLost, TaskPlace, TaskUnit}
use Rattle.control.specs.Places.{IDLE, STRIP_GIVE}
use Rattle.control.specs.Answers.{Allocated, Freed, NoStrip}
use Rattle.stepped.specs.Outcome.{refuse, bad, accept, over}
use Rattle.stepped.specs.StripSteps.{tree_of, tree_writes, strip_take, strip_take_at, strip_give, strip_give_at}
use Rattle.stepped.specs.StripSteps.{begin_free_at, begin_free_strip}

-- the stores of a strip that is taken or given back: u is the slot, x its byte and n the tree that the code has
pub stored : (before : List ℕ) {idle middle after : List ℕ} (task u x s y : ℕ) (n w : Tree)
    → idle ≡ changed (TaskPlace task := IDLE ∷ []) before → middle ≡ changed (SlotByte u := x ∷ []) idle
    → after ≡ changed (tree_writes n) middle → u ≡ s → x ≡ y → n ≡ w
    → after ≡ changed (TaskPlace task := IDLE ∷ SlotByte s := y ∷ tree_writes w) before
stored before task u x s y n w a b c d e f =
    rw (← d, ← e, ← f) (c ∙ ap (changed (tree_writes n)) (b ∙ ap (changed (SlotByte u := x ∷ [])) a))

module _ (v : View) (t c : ℕ) where
  -- ---- the step that takes a strip: tree is what the code reads, and f what it finds

  pub order-large : ORDERS ≤ c → strip_take v t c ≡ bad
  unfolding strip_take
  order-large h = rw (le-ltb _ _ h)

  module _ (tree : Tree) (read : tree ≡ tree_of v) where
    pub cut : (i j : ℕ)
        → strip_take_at v t c i j
        ≡ over (Allocated (strip_unit (slot_of_node j i))) (strip_taken (slot_of_node j i))
        (TaskPlace t := IDLE
        ∷ SlotByte (slot_of_node j i) := (IN_HAND + c)
        ∷ tree_writes (halving (without_free tree i) (j - c) i))
        []
    unfolding strip_take_at
    cut i j = rw read

    module _ (h : c < ORDERS) (f : Option Found) (sought : f ≡ find tree c) where
      pub take-one : (y : Found) → f ≡ Some y → strip_take v t c ≡ strip_take_at v t c y.node y.order
      unfolding strip_take
      take-one y e = rw (lt-ltb _ _ h, ← read, ← sought, e)

      pub take_none : f ≡ None → strip_take v t c ≡ over NoStrip no_strip (TaskPlace t := IDLE ∷ []) []
      unfolding strip_take
      take_none e = rw (lt-ltb _ _ h, ← read, ← sought, e)

module _ (v : View) (t : ℕ) where
  -- ---- the step that frees a strip, by the unit that the code reads

  module _ (u : ℕ) (read : u ≡ v (TaskUnit t)) where
    pub give-nowhere : is_strip_unit u ≡ false → strip_give v t ≡ bad
    unfolding strip_give
    give-nowhere h = rw (← read, h)

    pub give-there : (s : ℕ) → s ≡ slot_of_unit u → is_strip_unit u ≡ true → strip_give v t ≡ strip_give_at v t s
    unfolding strip_give
    give-there s e h = rw (e, ← read, h)

  -- ---- the beginning of a strip's free, by its unit

  pub begin-nowhere : (u : ℕ) → is_strip_unit u ≡ false → begin_free_strip v t u ≡ refuse 10
  unfolding begin_free_strip
  begin-nowhere u h = rw h

  pub begin-there : (u s : ℕ) → s ≡ slot_of_unit u → is_strip_unit u ≡ true
      → begin_free_strip v t u ≡ begin_free_at v t u s
  unfolding begin_free_strip
  begin-there u s e h = rw (e, h)

  -- x is the byte that the code reads, and k its order
  module _ (s x : ℕ) (read : x ≡ v (SlotByte s)) where
    -- ---- the step that frees a strip, by its slot

    pub give-small : leb FREE_BEGUN x ≡ false → strip_give_at v t s ≡ bad
    unfolding strip_give_at
    give-small h = rw (← read, h)

    module _ (h : leb FREE_BEGUN x ≡ true) where
      pub give-large : leb x LAST_BYTE ≡ false → strip_give_at v t s ≡ bad
      unfolding strip_give_at
      give-large l = rw (← read, h, l)

      module _ (l : leb x LAST_BYTE ≡ true) (k : ℕ) (order : k ≡ order_in x) where
        pub give-bad : can_begin s k ≡ false → strip_give_at v t s ≡ bad
        unfolding strip_give_at
        give-bad d = rw (← read, h, l, ← order, d)

        pub give-done : can_begin s k ≡ true
            → strip_give_at v t s
            ≡ over Freed (strip_given s)
            (TaskPlace t := IDLE
            ∷ SlotByte s := 0
            ∷ tree_writes (joining (tree_of v) (WHOLE_ORDER - k) (node_of k s)))
            []
        unfolding strip_give_at
        give-done d = rw (← read, h, l, ← order, d)

    -- ---- the beginning of a strip's free, by its slot

    module _ (u : ℕ) where
      pub begin-none : x ≡ 0 → begin_free_at v t u s ≡ refuse 10
      unfolding begin_free_at
      begin-none h = rw (← read, eq-eqb _ _ h)

      module _ (h : x ≢ 0) where
        pub begin-large : leb x LAST_BYTE ≡ false → begin_free_at v t u s ≡ bad
        unfolding begin_free_at
        begin-large l = rw (← read, ne_eqb _ _ h, l)

        module _ (l : leb x LAST_BYTE ≡ true) (k : ℕ) (order : k ≡ order_in x) where
          pub begin-bad : can_begin s k ≡ false → begin_free_at v t u s ≡ bad
          unfolding begin_free_at
          begin-bad d = rw (← read, ne_eqb _ _ h, l, ← order, d)

          module _ (d : can_begin s k ≡ true) where
            pub begin-begun : FREE_BEGUN ≤ x → begin_free_at v t u s ≡ refuse 11
            unfolding begin_free_at
            begin-begun m = rw (← read, ne_eqb _ _ h, l, ← order, d, le-leb _ _ m)

            pub begin-done : x < FREE_BEGUN
                → begin_free_at v t u s
                ≡ accept nothing
                (TaskPlace t := STRIP_GIVE ∷ TaskUnit t := u ∷ TaskLost t := 0 ∷ SlotByte s := (x + ORDERS) ∷ [])
                []
            unfolding begin_free_at
            begin-done m = rw (← read, ne_eqb _ _ h, l, ← order, d, lt-leb _ _ m)
