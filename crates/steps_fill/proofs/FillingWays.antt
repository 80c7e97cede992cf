-- The outcome of the steps that fill the cache or open a region, on each of their ways, from the tests that lead there.
use mathlib.Core.Path.{◌≡◌}
use mathlib.Core.Bool.{true, false}
use mathlib.Core.List.{[], ◌∷◌}
use Prim.Native.Nat.{ℕ, ◌+◌, ◌-◌, ◌*◌, ◌≤◌, ◌<◌}
use borrow.Author.Tests.{lt-ltb, le-ltb, eq-eqb, ne_eqb}
use lib.Dec.{ltb, leb}
use Rattle.limits.specs.Limits.{REGION_UNITS, DESCRIPTORS}
use Rattle.fields.specs.Columns.{View, ◌:=◌}
use Rattle.links.specs.Link.{◌⇒◌}
use Rattle.classes.specs.Classes.{units, per_region}
use Rattle.classes.specs.Geometry.{unit_of}
use Rattle.plain.specs.Moves.{nothing}
use Rattle.control.specs.Layout.{Anchor, CacheTop, CacheCount, TaskIndex, TaskLeft, TaskPlace, TaskDescriptor}
use Rattle.control.specs.Layout.{TaskRegion}
use Rattle.control.specs.Layout.{DescriptorRegion, DescriptorClass, Map}
use Rattle.control.specs.Places.{A1, A8}
use Rattle.stepped.specs.Outcome.{bad, accept}
use Rattle.stepped.specs.Ranges.{is_top}
use Rattle.stepped.specs.Allocate.{a4, a4_move, a7, a8, a8_put}
use Rattle.steps_allocate.specs.AnchorWords.{full_word}

module _ (v : View) (link : ℕ → ℕ) (regions t c : ℕ) where
  -- ---- step 4

  module _ (u left k top : ℕ) where
    pub a4_move-last : left ≡ 1
        → a4_move v link regions t c u left k top
        ≡ accept nothing (TaskPlace t := A1 ∷ CacheTop t c := u ∷ CacheCount t c := (k + 1) ∷ []) (u ⇒ top ∷ [])
    unfolding a4_move
    a4_move-last h = rw (eq-eqb _ _ h)

    -- the link of the block is x, and a region has n blocks of the class
    module _ {x n : ℕ} (s : left ≡ 1 → ⊥) (e : x ≡ link u) (f : n ≡ per_region c) where
      pub a4_move-bad : ltb x n ≡ false → a4_move v link regions t c u left k top ≡ bad
      unfolding a4_move
      a4_move-bad h = rw (ne_eqb _ _ s, ← e, ← f, h)

      pub a4_move-on : ltb x n ≡ true
          → a4_move v link regions t c u left k top
          ≡ accept nothing
          (TaskIndex t := x ∷ TaskLeft t := (left - 1) ∷ CacheTop t c := u ∷ CacheCount t c := (k + 1) ∷ [])
          (u ⇒ top ∷ [])
      unfolding a4_move
      a4_move-on h = rw (ne_eqb _ _ s, ← e, ← f, h)

  -- the step reads the values r, i, left, k and top, in this order; a region has n blocks of the class
  module _ {r : ℕ} (e : r ≡ v (TaskRegion t)) where
    pub a4-region : regions ≤ r → a4 v link regions t c ≡ bad
    unfolding a4
    a4-region h = rw (← e, le-ltb _ _ h)

    module _ (a : r < regions) {i n : ℕ} (f : i ≡ v (TaskIndex t)) (g : n ≡ per_region c) where
      pub a4-index : ltb i n ≡ false → a4 v link regions t c ≡ bad
      unfolding a4
      a4-index h = rw (← e, lt-ltb _ _ a, ← f, ← g, h)

      module _ (b : ltb i n ≡ true) {left : ℕ} (j : left ≡ v (TaskLeft t)) where
        pub a4-none : leb 1 left ≡ false → a4 v link regions t c ≡ bad
        unfolding a4
        a4-none h = rw (← e, lt-ltb _ _ a, ← f, ← g, b, ← j, h)

        module _ (d : leb 1 left ≡ true) where
          pub a4-many : leb left n ≡ false → a4 v link regions t c ≡ bad
          unfolding a4
          a4-many h = rw (← e, lt-ltb _ _ a, ← f, ← g, b, ← j, d, h)

          module _ (m : leb left n ≡ true) {k : ℕ} (o : k ≡ v (CacheCount t c)) where
            pub a4-full : ltb k n ≡ false → a4 v link regions t c ≡ bad
            unfolding a4
            a4-full h = rw (← e, lt-ltb _ _ a, ← f, ← g, b, ← j, d, m, ← o, h)

            module _ (p : ltb k n ≡ true) {top : ℕ} (q : top ≡ v (CacheTop t c)) where
              pub a4-top : is_top regions c k top ≡ false → a4 v link regions t c ≡ bad
              unfolding a4
              a4-top h = rw (← e, lt-ltb _ _ a, ← f, ← g, b, ← j, d, m, ← o, p, ← q, h)

              pub a4-moves : {u : ℕ} → u ≡ unit_of r c i → is_top regions c k top ≡ true
                  → a4 v link regions t c ≡ a4_move v link regions t c u left k top
              unfolding a4
              a4-moves w h = rw (w, ← e, lt-ltb _ _ a, ← f, ← g, b, ← j, d, m, ← o, p, ← q, h)

  -- ---- step 7

  -- the task has the descriptor d and the region r in hand
  module _ {d : ℕ} (e : d ≡ v (TaskDescriptor t)) where
    pub a7-none : DESCRIPTORS ≤ d → a7 v link regions t c ≡ bad
    unfolding a7
    a7-none h = rw (← e, le-ltb _ _ h)

    module _ (l : d < DESCRIPTORS) {r : ℕ} (f : r ≡ v (TaskRegion t)) where
      pub a7-region : regions ≤ r → a7 v link regions t c ≡ bad
      unfolding a7
      a7-region h = rw (← e, lt-ltb _ _ l, ← f, le-ltb _ _ h)

      pub a7-opens : {full : ℕ} → r < regions → full ≡ full_word c
          → a7 v link regions t c
          ≡ accept nothing
          (TaskPlace t := A8
          ∷ TaskIndex t := 0
          ∷ Anchor d := full
          ∷ DescriptorRegion d := r
          ∷ DescriptorClass d := c
          ∷ Map r := (d + 1)
          ∷ [])
          []
      unfolding a7
      a7-opens h k = rw (← e, lt-ltb _ _ l, ← f, lt-ltb _ _ h, k)

  -- ---- step 8

  module _ (u i k top : ℕ) {n : ℕ} (f : n ≡ per_region c) where
    pub a8_put-last : i + 1 ≡ n
        → a8_put v link regions t c u i k top
        ≡ accept nothing (TaskPlace t := A1 ∷ CacheTop t c := u ∷ CacheCount t c := (k + 1) ∷ []) (u ⇒ top ∷ [])
    unfolding a8_put
    a8_put-last h = rw (← f, eq-eqb _ _ h)

    pub a8_put-next : (i + 1 ≡ n → ⊥)
        → a8_put v link regions t c u i k top
        ≡ accept nothing (TaskIndex t := (i + 1) ∷ CacheTop t c := u ∷ CacheCount t c := (k + 1) ∷ []) (u ⇒ top ∷ [])
    unfolding a8_put
    a8_put-next h = rw (← f, ne_eqb _ _ h)

  -- the step reads the values r, i, k and top, in this order; a region has n blocks of the class
  module _ {r : ℕ} (e : r ≡ v (TaskRegion t)) where
    pub a8-region : regions ≤ r → a8 v link regions t c ≡ bad
    unfolding a8
    a8-region h = rw (← e, le-ltb _ _ h)

    module _ (a : r < regions) {i n : ℕ} (f : i ≡ v (TaskIndex t)) (g : n ≡ per_region c) where
      pub a8-index : ltb i n ≡ false → a8 v link regions t c ≡ bad
      unfolding a8
      a8-index h = rw (← e, lt-ltb _ _ a, ← f, ← g, h)

      module _ (b : ltb i n ≡ true) {k : ℕ} (o : k ≡ v (CacheCount t c)) where
        pub a8-full : ltb k n ≡ false → a8 v link regions t c ≡ bad
        unfolding a8
        a8-full h = rw (← e, lt-ltb _ _ a, ← f, ← g, b, ← o, h)

        module _ (p : ltb k n ≡ true) {top : ℕ} (q : top ≡ v (CacheTop t c)) where
          pub a8-top : is_top regions c k top ≡ false → a8 v link regions t c ≡ bad
          unfolding a8
          a8-top h = rw (← e, lt-ltb _ _ a, ← f, ← g, b, ← o, p, ← q, h)

          pub a8-puts : {o : ℕ} → o ≡ units c * i → is_top regions c k top ≡ true
              → a8 v link regions t c ≡ a8_put v link regions t c (REGION_UNITS * r + o) i k top
          unfolding a8
          a8-puts w h = rw (w, ← e, lt-ltb _ _ a, ← f, ← g, b, ← o, p, ← q, h)
