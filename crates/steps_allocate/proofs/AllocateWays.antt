-- The outcome of each step on each of its ways, from the tests that lead there.
use mathlib.Core.Path.{◌≡◌, refl, ap, sym, ◌∙◌}
use mathlib.Core.Bool.{Bool, true, false}
use mathlib.Core.List.{List, [], ◌∷◌}
use Rattle.std.specs.Prelude.{Ok, Err, IsErrAnd}
use Rattle.std.specs.declared.result.Result.{Result}
use Prim.Native.Nat.{ℕ, ◌-◌, ◌/◌, ◌%◌, ◌≤◌, ◌<◌}
use borrow.Author.Tests.{lt-ltb, le-ltb, eq-eqb, ne_eqb}
use lib.Dec.{eqb, leb}
use Rattle.limits.specs.Limits.{DESCRIPTORS, WORD_MARKS}
use Rattle.limits.specs.declared.refusal.Refusal.{Refusal}
use Rattle.limits.specs.declared.refusal.Refusal.TheVariants as refusal
use Rattle.fields.specs.Columns.{View, ◌:=◌}
use Rattle.words.specs.Anchor.{EMPTY, anchor_of}
use Rattle.words.specs.declared.anchor.Anchor.{Anchor as Parts}
use Rattle.words.specs.Mark.{with_set}
use Rattle.classes.specs.Classes.{per_region}
use Rattle.plain.specs.Moves.{nothing, anchor_empty, took, anchor_lost}
use Rattle.control.specs.Layout.{Anchor, Marks, TaskAnchor, CacheTop, CacheCount, TaskIndex, TaskLeft, TaskPlace}
use Rattle.control.specs.Layout.{TaskDescriptor, TaskRegion, DescriptorRegion}
use Rattle.control.specs.Answers.{Allocated, answer_of}
use Rattle.control.specs.declared.answer.Answer.{Answer}
use Rattle.control.specs.Places.{IDLE, POP_PARTIAL, PUSH_RETIRE, A3_READ, A3_EXCHANGE, A4}
use Rattle.stepped.specs.Done.{Done, DoneIn}
use Rattle.stepped.proofs.Doing.{done, done-in}
use Rattle.stepped.specs.Outcome.{Outcome, bad, accept, over, lose}
use Rattle.stepped.specs.Ranges.{is_top, is_block, is_anchor, has_chain}
use Rattle.steps_allocate.specs.AnchorWords.{is_empty, full_word}
use Rattle.stepped.specs.Allocate.{a1, a1_take, a3_read, a3_read_of, a3_exchange, a3_exchange_of}

-- a test came out as s
pub shown : {b test s : Bool} → b ≡ test → b ≡ s → test ≡ s
shown e h = sym e ∙ h

-- a test of the state among the parts of the anchor w came out as s
state : {a : Parts} (w : ℕ) {s : Bool} → a ≡ anchor_of w → eqb a.state EMPTY ≡ s → is_empty w ≡ s
state w g h = ap (λ (x : Parts). eqb x.state EMPTY) (sym g) ∙ h

-- a value that is out of its range is refused, by `?`, where nothing has been written
pub refuses : {o : Outcome} {before : List ℕ} (r : Result Answer Refusal) → o ≡ bad
    → IsErrAnd r (λ e. e ≡ refusal.OutOfRange) → Done o before before r
refuses (Ok x) e h = elim h [ ]
refuses (Err x) e h = done e (ap (λ (y : Refusal). answer_of (Err y)) h) refl refl

pub refuses-in : {o : Outcome} {c a : List ℕ} (r : Result Answer Refusal) → o ≡ bad
    → IsErrAnd r (λ e. e ≡ refusal.OutOfRange) → DoneIn o c a c a r
refuses-in (Ok x) e h = elim h [ ]
refuses-in (Err x) e h = done-in e (ap (λ (y : Refusal). answer_of (Err y)) h) refl refl

module _ (v : View) (link : ℕ → ℕ) (regions t c : ℕ) where
  -- ---- step 1

  module _ (k u : ℕ) where
    pub a1_take-block : is_block regions c u ≡ false → a1_take v link regions t c k u ≡ bad
    unfolding a1_take
    a1_take-block h = rw h

    -- the link of the block is x, and `left` blocks are left
    module _ {x left : ℕ} (e : x ≡ link u) (f : left ≡ k - 1) (b : is_block regions c u ≡ true) where
      pub a1_take-below : is_top regions c left x ≡ false → a1_take v link regions t c k u ≡ bad
      unfolding a1_take
      a1_take-below h = rw (← e, ← f, b, h)

      pub a1_take-taken : is_top regions c left x ≡ true
          → a1_take v link regions t c k u
          ≡ over (Allocated u) nothing
          (TaskPlace t := IDLE
          ∷ CacheTop t c := x
          ∷ CacheCount t c := left
          ∷ Marks (u / WORD_MARKS) := with_set (v (Marks (u / WORD_MARKS))) (u % WORD_MARKS)
          ∷ [])
          []
      unfolding a1_take
      a1_take-taken h = rw (← e, ← f, b, h)

  -- the cache has k blocks
  module _ {k : ℕ} (e : k ≡ v (CacheCount t c)) where
    pub a1-empty : k ≡ 0 → a1 v link regions t c ≡ accept nothing (TaskPlace t := POP_PARTIAL ∷ []) []
    unfolding a1
    a1-empty h = rw (← e, eq-eqb _ _ h)

    module _ {n : ℕ} (f : n ≡ per_region c) (s : k ≡ 0 → ⊥) where
      pub a1-many : leb k n ≡ false → a1 v link regions t c ≡ bad
      unfolding a1
      a1-many h = rw (← e, ← f, ne_eqb _ _ s, h)

      pub a1-some : {u : ℕ} → u ≡ v (CacheTop t c) → leb k n ≡ true
          → a1 v link regions t c ≡ a1_take v link regions t c k u
      unfolding a1
      a1-some g h = rw (← e, ← f, ← g, ne_eqb _ _ s, h)

  -- ---- step 3

  -- the anchor of the descriptor d is w, whose parts are a
  module _ (d : ℕ) {w : ℕ} (f : w ≡ v (Anchor d)) where
    pub a3_read_of-none : is_anchor w ≡ false → a3_read_of v link regions t c d ≡ bad
    unfolding a3_read_of
    a3_read_of-none h = rw (← f, h)

    module _ (b : is_anchor w ≡ true) {a : Parts} (g : a ≡ anchor_of w) where
      pub a3_read_of-empty : a.state ≡ EMPTY
          → a3_read_of v link regions t c d ≡ accept (anchor_empty d) (TaskPlace t := PUSH_RETIRE ∷ []) []
      unfolding a3_read_of
      a3_read_of-empty h = rw (← f, b, state _ g (eq-eqb _ _ h))

      module _ {n : ℕ} (k : n ≡ per_region c) (s : a.state ≡ EMPTY → ⊥) where
        pub a3_read_of-chain : has_chain n w ≡ false → a3_read_of v link regions t c d ≡ bad
        unfolding a3_read_of
        a3_read_of-chain h = rw (← f, b, state _ g (ne_eqb _ _ s), ← k, h)

        pub a3_read_of-noted : has_chain n w ≡ true
            → a3_read_of v link regions t c d
            ≡ accept nothing (TaskPlace t := A3_EXCHANGE ∷ TaskAnchor t := w ∷ []) []
        unfolding a3_read_of
        a3_read_of-noted h = rw (← f, b, state _ g (ne_eqb _ _ s), ← k, h)

  -- the task has the descriptor d in hand
  module _ {d : ℕ} (e : d ≡ v (TaskDescriptor t)) where
    pub a3_read-none : DESCRIPTORS ≤ d → a3_read v link regions t c ≡ bad
    unfolding a3_read
    a3_read-none h = rw (← e, le-ltb _ _ h)

    pub a3_read-some : d < DESCRIPTORS → a3_read v link regions t c ≡ a3_read_of v link regions t c d
    unfolding a3_read
    a3_read-some h = rw (← e, lt-ltb _ _ h)

  -- the anchor of the descriptor d is w
  module _ (d word : ℕ) {w : ℕ} (f : w ≡ v (Anchor d)) where
    pub a3_exchange_of-none : is_anchor w ≡ false → a3_exchange_of v link regions t c d word ≡ bad
    unfolding a3_exchange_of
    a3_exchange_of-none h = rw (← f, h)

    module _ (b : is_anchor w ≡ true) where
      pub a3_exchange_of-lost : (w ≡ word → ⊥)
          → a3_exchange_of v link regions t c d word ≡ lose v t (anchor_lost d) A3_READ
      unfolding a3_exchange_of
      a3_exchange_of-lost h = rw (← f, b, ne_eqb _ _ h)

      module _ (g : w ≡ word) {r : ℕ} (e : r ≡ v (DescriptorRegion d)) where
        pub a3_exchange_of-region : regions ≤ r → a3_exchange_of v link regions t c d word ≡ bad
        unfolding a3_exchange_of
        a3_exchange_of-region h = rw (← f, b, eq-eqb _ _ g, ← e, le-ltb _ _ h)

        -- the parts of the anchor are a
        pub a3_exchange_of-won : {full : ℕ} {a : Parts} → full ≡ full_word c → a ≡ anchor_of w → r < regions
            → a3_exchange_of v link regions t c d word
            ≡ accept (took d)
            (TaskPlace t := A4
            ∷ Anchor d := full
            ∷ TaskRegion t := r
            ∷ TaskIndex t := a.avail
            ∷ TaskLeft t := a.count
            ∷ [])
            []
        unfolding a3_exchange_of
        a3_exchange_of-won k i h = rw (← f, b, eq-eqb _ _ g, ← e, lt-ltb _ _ h, k, i, g)

  -- the task has the descriptor d in hand
  module _ {d : ℕ} (e : d ≡ v (TaskDescriptor t)) where
    pub a3_exchange-none : DESCRIPTORS ≤ d → a3_exchange v link regions t c ≡ bad
    unfolding a3_exchange
    a3_exchange-none h = rw (← e, le-ltb _ _ h)

    -- and has noted the anchor `word`
    module _ (l : d < DESCRIPTORS) {word n : ℕ} (f : word ≡ v (TaskAnchor t)) (k : n ≡ per_region c) where
      pub a3_exchange-chain : has_chain n word ≡ false → a3_exchange v link regions t c ≡ bad
      unfolding a3_exchange
      a3_exchange-chain h = rw (← e, lt-ltb _ _ l, ← f, ← k, h)

      pub a3_exchange-some : has_chain n word ≡ true
          → a3_exchange v link regions t c ≡ a3_exchange_of v link regions t c d word
      unfolding a3_exchange
      a3_exchange-some h = rw (← e, lt-ltb _ _ l, ← f, ← k, h)
