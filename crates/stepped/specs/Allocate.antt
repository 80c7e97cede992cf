-- docs/POOL.md, "Allocate"
-- The steps of an allocation that are no list moves: 1, 3, 4, 7 and 8.
use Rattle.std.specs.Prelude.{ℕ, ◌+◌, ◌-◌, ◌/◌, ◌%◌, cond, ◌&&◌, [], ◌∷◌, ltb, leb, eqb}
use Rattle.limits.specs.Limits.{DESCRIPTORS, WORD_MARKS}
use Rattle.fields.specs.Columns.{View, ◌:=◌}
use Rattle.links.specs.Link.{◌⇒◌}
use Rattle.words.specs.Anchor.{EMPTY, anchor_of, anchor_word, full}
use Rattle.words.specs.Mark.{with_set}
use Rattle.classes.specs.Classes.{per_region}
use Rattle.classes.specs.Geometry.{unit_of}
use Rattle.plain.specs.Moves.{nothing, anchor_empty, took, anchor_lost}
use Rattle.control.specs.Layout.{Anchor, Marks, TaskAnchor, CacheTop, CacheCount, TaskIndex, TaskLeft, TaskPlace}
use Rattle.control.specs.Layout.{TaskDescriptor, TaskRegion, DescriptorRegion, DescriptorClass, Map}
use Rattle.control.specs.Places.{IDLE, A1, A3_READ, A3_EXCHANGE, A4, A8}
use Rattle.control.specs.Answers.{Allocated}
use Rattle.control.specs.declared.moves.Pop.TheVariants.{Partial}
use Rattle.control.specs.declared.moves.Push.TheVariants.{Retire}
use Rattle.stepped.specs.Outcome.{Outcome, bad, accept, over, lose}
use Rattle.stepped.specs.Ranges.{one_to, is_top, is_block, is_anchor, has_chain}
use Rattle.stepped.specs.Lists.{pop_place, push_place}

-- v: what stands in the fields; link: each block's link; t: the task, whose request is of the class c
module _ (v : View) (link : ℕ → ℕ) (regions t c : ℕ) where
  -- how many blocks of the class a region has
  abbrev n : ℕ
  n = per_region c

  -- ---- step 1: "If the cache has a block, take the top, set its mark and finish. Else go on."

  -- the top u of a cache of k blocks is taken
  unfoldable pub a1_take : ℕ → ℕ → Outcome
  a1_take k u =
      cond (is_block regions c u && is_top regions c (k - 1) (link u))
      (over (Allocated u) nothing
      (TaskPlace t := IDLE
      ∷ CacheTop t c := link u
      ∷ CacheCount t c := (k - 1)
      ∷ Marks (u / WORD_MARKS) := with_set (v (Marks (u / WORD_MARKS))) (u % WORD_MARKS)
      ∷ [])
      [])
      bad

  -- step 1, by how many blocks the cache has
  unfoldable pub a1 : Outcome
  a1 =
      let k = v (CacheCount t c) in
      cond (eqb k 0)
      (accept nothing (TaskPlace t := pop_place Partial ∷ []) [])
      (cond (leb k n) (a1_take k (v (CacheTop t c))) bad)

  -- ---- step 3: "Read the anchor. EMPTY: push the descriptor on the spare list, then 2. Else exchange it for (FULL, n,
  -- 0); lost: read again."

  -- the read of the anchor of the descriptor d
  unfoldable pub a3_read_of : ℕ → Outcome
  a3_read_of d =
      let word = v (Anchor d) in
      cond (is_anchor word)
      (cond (eqb (anchor_of word).state EMPTY)
      (accept (anchor_empty d) (TaskPlace t := push_place Retire ∷ []) [])
      (cond (has_chain n word)
      (accept nothing (TaskPlace t := A3_EXCHANGE ∷ TaskAnchor t := word ∷ []) [])
      bad))
      bad

  -- the read of the anchor of the descriptor in hand
  unfoldable pub a3_read : Outcome
  a3_read = cond (ltb (v (TaskDescriptor t)) DESCRIPTORS) (a3_read_of (v (TaskDescriptor t))) bad

  -- the exchange of the descriptor d, whose anchor was noted as `word`
  unfoldable pub a3_exchange_of : ℕ → ℕ → Outcome
  a3_exchange_of d word =
      let r = v (DescriptorRegion d) in
      cond (is_anchor (v (Anchor d)))
      (cond (eqb (v (Anchor d)) word)
      (cond (ltb r regions)
      (accept (took d)
      (TaskPlace t := A4
      ∷ Anchor d := anchor_word (full n)
      ∷ TaskRegion t := r
      ∷ TaskIndex t := (anchor_of word).avail
      ∷ TaskLeft t := (anchor_of word).count
      ∷ [])
      [])
      bad)
      (lose v t (anchor_lost d) A3_READ))
      bad

  -- the exchange of the anchor of the descriptor in hand
  unfoldable pub a3_exchange : Outcome
  a3_exchange =
      let d = v (TaskDescriptor t) in
      let word = v (TaskAnchor t) in
      cond (ltb d DESCRIPTORS && has_chain n word) (a3_exchange_of d word) bad

  -- ---- step 4: "Move the taken chain to the cache, one block a step in chain order; after the last, 1." The block's
  -- own link is read before the push overwrites it.

  -- the block u, with `left` of the chain still to move, goes on top of a cache of k blocks
  unfoldable pub a4_move : ℕ → ℕ → ℕ → ℕ → Outcome
  a4_move u left k top =
      cond (eqb left 1)
      (accept nothing (TaskPlace t := A1 ∷ CacheTop t c := u ∷ CacheCount t c := (k + 1) ∷ []) (u ⇒ top ∷ []))
      (cond (ltb (link u) n)
      (accept nothing
      (TaskIndex t := link u ∷ TaskLeft t := (left - 1) ∷ CacheTop t c := u ∷ CacheCount t c := (k + 1) ∷ [])
      (u ⇒ top ∷ []))
      bad)

  -- step 4, by the task's region, index and number of blocks left
  unfoldable pub a4 : Outcome
  a4 =
      let r = v (TaskRegion t) in
      let i = v (TaskIndex t) in
      let left = v (TaskLeft t) in
      let k = v (CacheCount t c) in
      let top = v (CacheTop t c) in
      cond (ltb r regions && ltb i n && one_to n left && ltb k n && is_top regions c k top)
      (a4_move (unit_of r c i) left k top) bad

  -- ---- step 7: "One step writes the descriptor (FULL, n, 0) and the map."

  -- step 7, by the task's descriptor and region
  unfoldable pub a7 : Outcome
  a7 =
      let d = v (TaskDescriptor t) in
      let r = v (TaskRegion t) in
      cond (ltb d DESCRIPTORS && ltb r regions)
      (accept nothing
      (TaskPlace t := A8
      ∷ TaskIndex t := 0
      ∷ Anchor d := anchor_word (full n)
      ∷ DescriptorRegion d := r
      ∷ DescriptorClass d := c
      ∷ Map r := (d + 1)
      ∷ [])
      [])
      bad

  -- ---- step 8: "Put blocks 0 to n − 1 on the cache, one a step; then 1."

  -- block i, the unit u, goes on top of a cache of k blocks
  unfoldable pub a8_put : ℕ → ℕ → ℕ → ℕ → Outcome
  a8_put u i k top =
      cond (eqb (i + 1) n)
      (accept nothing (TaskPlace t := A1 ∷ CacheTop t c := u ∷ CacheCount t c := (k + 1) ∷ []) (u ⇒ top ∷ []))
      (accept nothing (TaskIndex t := (i + 1) ∷ CacheTop t c := u ∷ CacheCount t c := (k + 1) ∷ []) (u ⇒ top ∷ []))

  -- step 8, by the task's region and index
  unfoldable pub a8 : Outcome
  a8 =
      let r = v (TaskRegion t) in
      let i = v (TaskIndex t) in
      let k = v (CacheCount t c) in
      let top = v (CacheTop t c) in
      cond (ltb r regions && ltb i n && ltb k n && is_top regions c k top) (a8_put (unit_of r c i) i k top) bad
