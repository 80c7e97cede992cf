-- Every write of a strip's step, and of the beginning of its free, is to a field of the layout, its value fits there,
-- and it is to no other task's place, whatever the memories hold.
use Prim.Native.Nat.{ℕ, ◌-◌, ◌%◌, ◌≤◌, ◌<◌}
use mathlib.Core.Path.{◌≡◌, refl}
use mathlib.Core.Bool.{true, ◌&&◌}
use mathlib.Core.List.{◌∷◌}
use native.Mathlib.Omega.{arith}
use borrow.Author.Tests.{eqb-true, leb-true, ltb-true, leb-false}
use lib.Dec.{eqb, leb, ltb}
use Rattle.limits.specs.Limits.{TASKS, ORDERS, SLOTS, UNITS, BOTH_UNITS, SLOT_UNITS, WHOLE_ORDER}
use Rattle.fields.specs.Columns.{View, ◌:=◌, Sound}
use Rattle.pieces.specs.StripUnits.{slot_of_unit, is_strip_unit}
use Rattle.strip_tree.specs.declared.tree.Tree.{Tree}
use Rattle.std.specs.declared.option.Option.{Option}
use Rattle.std.specs.declared.option.Option.TheVariants.{None, Some}
use Rattle.strip_tree.specs.declared.find.Found.{Found}
use Rattle.strip_tree.specs.Trees.{without_free}
use Rattle.strip_tree.specs.TreeMoves.{find, joining, node_of, can_begin}
use Rattle.strip_tree.specs.SlotStates.{FREE_BEGUN, LAST_BYTE, order_in}
use Rattle.strip_tree.proofs.Found.{finds, in-level}
use Rattle.strip_tree.proofs.Powers.{slot-below}
use Rattle.strips_agreement.specs.SmallWords.{SmallWords}
use Rattle.strips_agreement.proofs.SmallWords.{cleared-small, halving-small, joining-small}
use Rattle.control.specs.Layout.{layout, FreeNodes, SlotByte, TaskPlace, TaskUnit}
use Rattle.control.specs.Places.{IDLE}
use Rattle.stepped.specs.StripSteps as Strips
use Rattle.stepped.specs.StripSteps.{tree_of, tree_writes}
use Rattle.stepped.proofs.Conjunction.{both}
use Rattle.agreement.proofs.Both.{Fitting}
use Rattle.agreement.proofs.SoundMoves.{Fit, none, test}
use Rattle.agreement.proofs.Ways.{branch}

-- the words of a tree whose words are small fit
pub tree-sound : (t : Tree) → SmallWords t → Sound layout (tree_writes t)
tree-sound t s = omega (arith, s.a, s.b, s.c, s.d)

-- the unit of a slot names one of the slots
pub unit-slot : (u : ℕ) → is_strip_unit u ≡ true
    → (UNITS ≤ u) × (u < BOTH_UNITS) × (u % SLOT_UNITS ≡ 0) × (slot_of_unit u < SLOTS)
unit-slot u e =
    let a = both (leb UNITS u && ltb u BOTH_UNITS) (eqb (u % SLOT_UNITS) 0) e in
    let b = both (leb UNITS u) (ltb u BOTH_UNITS) a.0 in
    let from = leb-true UNITS u b.0 in
    let to = ltb-true u BOTH_UNITS b.1 in
    (from, to, eqb-true (u % SLOT_UNITS) 0 a.1, omega arith)

module _ (v : View) (fits : Fitting v) {t : ℕ} (task : t < TASKS) where
  -- the fields hold words
  pub small-tree : SmallWords (tree_of v)
  small-tree = record {
    a = fits (FreeNodes 0) (omega arith);
    b = fits (FreeNodes 1) (omega arith);
    c = fits (FreeNodes 2) (omega arith);
    d = fits (FreeNodes 3) (omega arith);
  }

  -- ---- the steps

  pub take_found : {c : ℕ} → c < ORDERS → (f : Option Found) → find (tree_of v) c ≡ f → Fit t (Strips.strip_take_by v t c f)
  unfolding Strips.strip_take_at
  take_found {c} few (Some f) e =
      let i = f.node in
      let j = f.order in
      let x = in-level (tree_of v) c i j (finds (tree_of v) c i j few e) in
      let S = halving-small (j - c) (without_free (tree_of v) i) i (cleared-small (tree_of v) i small-tree) in
      record {
        sound = (
          omega (arith, task),
          (
            omega (arith, few, slot-below j i x.order x.from x.below),
            tree-sound _ S,
          ),
        );
        own = omega arith;
      }
  take_found few None e = record { sound = omega (arith, task); own = omega arith }

  pub strip-take : (c : ℕ) → Fit t (Strips.strip_take v t c)
  unfolding Strips.strip_take
  strip-take c =
      test (ltb c ORDERS) (λ e. take_found (ltb-true c ORDERS e) (find (tree_of v) c) refl)

  -- the writes that give the strip at the slot s back
  pub given-sound : (s : ℕ) → s < SLOTS
      → let x = v (SlotByte s) in
      Sound layout
      (TaskPlace t := IDLE
      ∷ SlotByte s := 0
      ∷ tree_writes (joining (tree_of v) (WHOLE_ORDER - order_in x) (node_of (order_in x) s)))
  given-sound s l =
      let x = v (SlotByte s) in
      let S = joining-small (WHOLE_ORDER - order_in x) (tree_of v) (node_of (order_in x) s) small-tree in
      (omega (arith, task), (omega (arith, l), tree-sound _ S))

  give_at : (s : ℕ) → s < SLOTS → Fit t (Strips.strip_give_at v t s)
  unfolding Strips.strip_give_at
  give_at s l =
      let x = v (SlotByte s) in
      test (leb FREE_BEGUN x && leb x LAST_BYTE && can_begin s (order_in x)) (λ e.
      record { sound = given-sound s l; own = omega arith })

  pub strip-give : Fit t (Strips.strip_give v t)
  unfolding Strips.strip_give
  strip-give =
      test (is_strip_unit (v (TaskUnit t)))
      (λ e. give_at (slot_of_unit (v (TaskUnit t))) (unit-slot (v (TaskUnit t)) e).3)

  -- ---- the beginning

  begin-at : (u s : ℕ) → u < BOTH_UNITS → s < SLOTS → Fit t (Strips.begin_free_at v t u s)
  unfolding Strips.begin_free_at
  begin-at u s k l =
      let x = v (SlotByte s) in
      branch (Fit t) (eqb x 0) (λ e. none) (λ e.
      test (leb x LAST_BYTE && can_begin s (order_in x)) (λ f.
      branch (Fit t) (leb FREE_BEGUN x) (λ g. none) (λ g.
      record { sound = omega (arith, task, k, l, leb-false FREE_BEGUN x g); own = omega arith })))

  pub begin-strip : (u : ℕ) → Fit t (Strips.begin_free_strip v t u)
  unfolding Strips.begin_free_strip
  begin-strip u =
      branch (Fit t) (is_strip_unit u)
      (λ e. let k = unit-slot u e in begin-at u (slot_of_unit u) k.1 k.3) (λ e. none)
