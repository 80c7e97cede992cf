-- The beginning of a free, one law for each way out.
use Rattle.std.proofs.Common.{◌≡◌, ℕ, ◌+◌, ◌-◌, ◌/◌, ◌%◌, ◌<◌, ◌≤◌, Bool, true, false, cond, ◌≢◌, [], ◌∷◌, sym}
use Rattle.std.proofs.Common.{ap, ◌∙◌, subst, arith, le-ltb, lt-ltb, eq-eqb, ne_eqb, le-leb}
use borrow.Author.Tests.{lt-leb}
use Rattle.limits.specs.Limits.{CLASSES, DESCRIPTORS, WORD_MARKS, UNITS}
use Rattle.fields.specs.Columns.{View, ◌:=◌}
use Rattle.words.specs.Anchor.{EMPTY, anchor_of}
use Rattle.words.specs.Mark.{is_set, with_clear}
use Rattle.classes.specs.Geometry.{region_of, is_first}
use Rattle.plain.specs.Moves.{nothing}
use Rattle.control.specs.Layout.{Anchor, Marks, TaskUnit, TaskLost, TaskPlace, TaskClass, DescriptorRegion}
use Rattle.control.specs.Layout.{DescriptorClass, Map}
use Rattle.control.specs.Places.{F1}
use Rattle.stepped.specs.Outcome.{Outcome, refuse, bad, accept}
use Rattle.stepped.specs.Ranges.{is_anchor}
use Rattle.stepped.specs.Calls.{begin_free, begin_free_small, free_entry, free_by, free_open, free_marked}
use Rattle.stepped.specs.StripSteps.{begin_free_strip}

module _ (v : View) (t u c : ℕ) where
  -- the request begins, and the unit's word of marks becomes x
  abbrev pub begun : ℕ → Outcome
  begun x =
      accept nothing
      (TaskPlace t := F1
      ∷ TaskClass t := c
      ∷ TaskUnit t := u
      ∷ TaskLost t := 0
      ∷ Marks (u / WORD_MARKS) := x
      ∷ [])
      []

  pub mark-clear : (w : ℕ) → w ≡ v (Marks (u / WORD_MARKS)) → is_set w (u % WORD_MARKS) ≡ false
      → free_marked v t u c ≡ refuse 11
  unfolding free_marked
  mark-clear w e h = rw (subst (λ (x : ℕ). is_set x (u % WORD_MARKS) ≡ false) e h)

  pub mark_set : (w cleared : ℕ) → w ≡ v (Marks (u / WORD_MARKS)) → is_set w (u % WORD_MARKS) ≡ true
      → cleared ≡ with_clear w (u % WORD_MARKS)
      → free_marked v t u c ≡ begun cleared
  unfolding free_marked
  mark_set w cleared e h k =
      ap (λ (b : Bool). cond b (begun (with_clear (v (Marks (u / WORD_MARKS))) (u % WORD_MARKS))) (refuse 11))
      (subst (λ (x : ℕ). is_set x (u % WORD_MARKS) ≡ true) e h)
      ∙ ap begun (sym (k ∙ ap (λ (x : ℕ). with_clear x (u % WORD_MARKS)) e))

module _ (v : View) (t u d : ℕ) where
  pub no-class : CLASSES ≤ v (DescriptorClass d) → free_open v t u d ≡ bad
  unfolding free_open
  no-class h = rw (le-ltb (v (DescriptorClass d)) CLASSES h)

  pub no-first : (c : ℕ) → c ≡ v (DescriptorClass d) → c < CLASSES → is_first c u ≡ false
      → free_open v t u d ≡ refuse 10
  unfolding free_open
  no-first c e h k = rw (← e, lt-ltb c CLASSES h, k)

  pub is-first : (c : ℕ) → c ≡ v (DescriptorClass d) → c < CLASSES → is_first c u ≡ true
      → free_open v t u d ≡ free_marked v t u c
  unfolding free_open
  is-first c e h k = rw (← e, lt-ltb c CLASSES h, k)

module _ (v : View) (regions t u d : ℕ) where
  pub outside : regions ≤ v (DescriptorRegion d) → free_by v regions t u d ≡ bad
  unfolding free_by
  outside h = rw (le-ltb (v (DescriptorRegion d)) regions h)

  pub other-region : v (DescriptorRegion d) < regions → v (DescriptorRegion d) ≢ region_of u
      → free_by v regions t u d ≡ refuse 10
  unfolding free_by
  other-region h e = rw (lt-ltb (v (DescriptorRegion d)) regions h, ne_eqb (v (DescriptorRegion d)) (region_of u) e)

  module _ (h : v (DescriptorRegion d) < regions) (e : v (DescriptorRegion d) ≡ region_of u) where
    pub no-anchor : (w : ℕ) → w ≡ v (Anchor d) → is_anchor w ≡ false → free_by v regions t u d ≡ bad
    unfolding free_by
    no-anchor w i a =
        rw (
          lt-ltb (v (DescriptorRegion d)) regions h,
          eq-eqb (v (DescriptorRegion d)) (region_of u) e,
          subst (λ (x : ℕ). is_anchor x ≡ false) i a,
        )

    pub is-empty : (w : ℕ) → w ≡ v (Anchor d) → is_anchor w ≡ true → (anchor_of w).state ≡ EMPTY
        → free_by v regions t u d ≡ refuse 10
    unfolding free_by
    is-empty w i a s =
        rw (
          lt-ltb (v (DescriptorRegion d)) regions h,
          eq-eqb (v (DescriptorRegion d)) (region_of u) e,
          subst (λ (x : ℕ). is_anchor x ≡ true) i a,
          eq-eqb (anchor_of (v (Anchor d))).state EMPTY (subst (λ (x : ℕ). (anchor_of x).state ≡ EMPTY) i s),
        )

    pub is_open : (w : ℕ) → w ≡ v (Anchor d) → is_anchor w ≡ true → (anchor_of w).state ≢ EMPTY
        → free_by v regions t u d ≡ free_open v t u d
    unfolding free_by
    is_open w i a s =
        rw (
          lt-ltb (v (DescriptorRegion d)) regions h,
          eq-eqb (v (DescriptorRegion d)) (region_of u) e,
          subst (λ (x : ℕ). is_anchor x ≡ true) i a,
          ne_eqb (anchor_of (v (Anchor d))).state EMPTY (subst (λ (x : ℕ). (anchor_of x).state ≢ EMPTY) i s),
        )

module _ (v : View) (regions t u entry : ℕ) where
  pub no-entry : entry ≡ 0 → free_entry v regions t u entry ≡ refuse 10
  unfolding free_entry
  no-entry e = rw (eq-eqb entry 0 e)

  pub bad-entry : DESCRIPTORS < entry → free_entry v regions t u entry ≡ bad
  unfolding free_entry
  bad-entry h = rw (ne_eqb entry 0 (λ e. omega arith), lt-leb entry DESCRIPTORS h)

  -- d is the entry less one
  pub by-entry : (d : ℕ) → d + 1 ≡ entry → d < DESCRIPTORS
      → free_entry v regions t u entry ≡ free_by v regions t u d
  unfolding free_entry
  by-entry d e h =
      let less : entry - 1 ≡ d = omega arith in
      rw (ne_eqb entry 0 (λ z. omega arith), le-leb entry DESCRIPTORS (omega arith), less)

module _ (v : View) (regions t u : ℕ) where
  -- a unit from UNITS up is one of strips
  pub of-strips : UNITS ≤ u → begin_free v regions t u ≡ begin_free_strip v t u
  unfolding begin_free
  of-strips h = rw (le-ltb u UNITS h)

  pub of_blocks : u < UNITS → begin_free v regions t u ≡ begin_free_small v regions t u
  unfolding begin_free
  of_blocks h = rw (lt-ltb u UNITS h)

  pub no-unit : regions ≤ region_of u → begin_free_small v regions t u ≡ refuse 10
  unfolding begin_free_small
  no-unit h = rw (le-ltb (region_of u) regions h)

  pub in-area : (r entry : ℕ) → r ≡ region_of u → r < regions → entry ≡ v (Map r)
      → begin_free_small v regions t u ≡ free_entry v regions t u entry
  unfolding begin_free_small
  in-area r entry e h k =
      rw (lt-ltb (region_of u) regions (omega arith), k ∙ ap (λ (x : ℕ). v (Map x)) e)
