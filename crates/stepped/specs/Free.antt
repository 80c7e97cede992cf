-- docs/POOL.md, "Free"
-- The steps of a free that are no list moves: 1, 2, 3 and the first of 4. From 2 on they are those of leaving, too.
use Rattle.std.specs.Prelude.{ℕ, ◌+◌, ◌-◌, cond, ◌&&◌, [], ◌∷◌, ltb, leb, eqb}
use Rattle.limits.specs.Limits.{DESCRIPTORS}
use Rattle.fields.specs.Columns.{View, ◌:=◌}
use Rattle.links.specs.Link.{◌⇒◌}
use Rattle.words.specs.Anchor.{anchor_of, anchor_word, returned}
use Rattle.classes.specs.Classes.{per_region}
use Rattle.classes.specs.Geometry.{unit_of, region_of, index_of}
use Rattle.plain.specs.Moves.{nothing, gave, anchor_lost}
use Rattle.control.specs.Layout.{Anchor, TaskAnchor, CacheTop, CacheCount, TaskUnit, GroupFirst, GroupLast}
use Rattle.control.specs.Layout.{GroupCount, TaskPlace, TaskDescriptor, TaskRegion, TaskState, Map}
use Rattle.control.specs.Places.{IDLE, F2, F3_READ, F3_LINK, F3_EXCHANGE, F4_CLEAR}
use Rattle.control.specs.Answers.{Freed}
use Rattle.control.specs.declared.moves.Push.TheVariants.{Release}
use Rattle.stepped.specs.Outcome.{Outcome, bad, accept, over, lose}
use Rattle.stepped.specs.Ranges.{one_to, is_top, is_block, is_anchor, has_first, has_room}
use Rattle.stepped.specs.Lists.{push_place, f5}

-- v: what stands in the fields; link: each block's link; t: the task, whose class is c
module _ (v : View) (link : ℕ → ℕ) (regions t c : ℕ) where
  -- how many blocks of the class a region has
  abbrev n : ℕ
  n = per_region c

  -- ---- step 1: "If the cache holds fewer than n, push the block and finish. Else go on."

  -- the block u goes on top of a cache of k blocks
  unfoldable pub f1_put : ℕ → ℕ → ℕ → Outcome
  f1_put u k top =
      cond (is_block regions c u && is_top regions c k top)
      (over Freed nothing (TaskPlace t := IDLE ∷ CacheTop t c := u ∷ CacheCount t c := (k + 1) ∷ []) (u ⇒ top ∷ []))
      bad

  -- step 1, by how many blocks the cache has
  unfoldable pub f1 : Outcome
  f1 =
      let k = v (CacheCount t c) in
      cond (leb k n)
      (cond (ltb k n)
      (f1_put (v (TaskUnit t)) k (v (CacheTop t c)))
      (accept nothing (TaskPlace t := F2 ∷ GroupCount t := 0 ∷ []) []))
      bad

  -- ---- step 2: "A step takes the cache's top into the group, if the group is empty or the top is of the same region.
  -- Otherwise, or with the cache empty, that step closes the group. A taken block is linked behind the last."

  -- the first block of a group: the top u of a cache of k blocks
  unfoldable pub f2_first : ℕ → ℕ → Outcome
  f2_first k u =
      cond (is_top regions c (k - 1) (link u))
      (accept nothing
      (TaskRegion t := region_of u
      ∷ GroupFirst t := index_of c u
      ∷ GroupLast t := index_of c u
      ∷ GroupCount t := 1
      ∷ CacheTop t c := link u
      ∷ CacheCount t c := (k - 1)
      ∷ [])
      [])
      bad

  -- a further block of a group of g blocks of the region r: the top u of a cache of k blocks
  unfoldable pub f2_more : ℕ → ℕ → ℕ → ℕ → Outcome
  f2_more k u g r =
      let last = v (GroupLast t) in
      cond (ltb g n && ltb last n && is_top regions c (k - 1) (link u))
      (accept nothing
      (GroupLast t := index_of c u ∷ GroupCount t := (g + 1) ∷ CacheTop t c := link u ∷ CacheCount t c := (k - 1) ∷ [])
      (unit_of r c last ⇒ index_of c u ∷ []))
      bad

  -- the step that closes the group
  abbrev pub f2_close : Outcome
  f2_close = accept nothing (TaskPlace t := F3_READ ∷ []) []

  -- the top u of a cache of k blocks beside a group of g blocks: it goes into the group, or closes it
  unfoldable pub f2_top : ℕ → ℕ → ℕ → Outcome
  f2_top k u g =
      let r = v (TaskRegion t) in
      cond (is_block regions c u)
      (cond (eqb g 0) (f2_first k u)
      (cond (ltb r regions) (cond (eqb (region_of u) r) (f2_more k u g r) f2_close) bad))
      bad

  -- step 2, by how many blocks the cache and the group have
  unfoldable pub f2 : Outcome
  f2 =
      let k = v (CacheCount t c) in
      let g = v (GroupCount t) in
      cond (leb k n && leb g n)
      (cond (eqb k 0) f2_close (f2_top k (v (CacheTop t c)) g))
      bad

  -- ---- step 3: "Read the anchor. Write the last link to its avail. Exchange: avail is the group's first, count grows
  -- by the group, state is EMPTY if count is now n, else PARTIAL. Lost: read again."

  -- the read of the anchor of the descriptor d, for a group of g blocks
  unfoldable pub f3_read_of : ℕ → ℕ → Outcome
  f3_read_of d g =
      let word = v (Anchor d) in
      cond (is_anchor word && has_room n g word)
      (accept nothing (TaskPlace t := F3_LINK ∷ TaskDescriptor t := d ∷ TaskAnchor t := word ∷ []) [])
      bad

  -- the read of the anchor of the descriptor that a map entry names, for a group of g blocks
  unfoldable pub f3_read_by : ℕ → ℕ → Outcome
  f3_read_by entry g = cond (one_to DESCRIPTORS entry) (f3_read_of (entry - 1) g) bad

  -- "Read the anchor", by the map's entry of the group's region
  unfoldable pub f3_read : Outcome
  f3_read =
      let r = v (TaskRegion t) in
      let g = v (GroupCount t) in
      cond (ltb r regions && one_to n g) (f3_read_by (v (Map r)) g) bad

  -- "Write the last link to its avail", the noted anchor's
  unfoldable pub f3_link : Outcome
  f3_link =
      let r = v (TaskRegion t) in
      let last = v (GroupLast t) in
      let word = v (TaskAnchor t) in
      cond (ltb r regions && ltb last n && is_anchor word && has_first n word)
      (accept nothing (TaskPlace t := F3_EXCHANGE ∷ []) (unit_of r c last ⇒ (anchor_of word).avail ∷ []))
      bad

  -- the won exchange: step 4 if it is now EMPTY, else step 5 by the state before
  unfoldable pub f3_won : ℕ → ℕ → ℕ → ℕ → Outcome
  f3_won d word first g =
      let a = anchor_of word in
      let ws = Anchor d := anchor_word (returned a first g n) ∷ TaskState t := a.state ∷ [] in
      cond (eqb (a.count + g) n) (accept (gave d) (TaskPlace t := F4_CLEAR ∷ ws) [])
      (f5 v regions t c a.state (gave d) ws)

  -- the exchange of the anchor of the descriptor d, which was noted as `word`: "Lost: read again"
  unfoldable pub f3_exchange_of : ℕ → ℕ → ℕ → ℕ → Outcome
  f3_exchange_of d word first g =
      cond (is_anchor (v (Anchor d)))
      (cond (eqb (v (Anchor d)) word)
      (f3_won d word first g)
      (lose v t (anchor_lost d) F3_READ))
      bad

  -- "Exchange", by the task's notes
  unfoldable pub f3_exchange : Outcome
  f3_exchange =
      let d = v (TaskDescriptor t) in
      let word = v (TaskAnchor t) in
      let first = v (GroupFirst t) in
      let g = v (GroupCount t) in
      cond (ltb d DESCRIPTORS && ltb first n && one_to n g && is_anchor word && has_room n g word)
      (f3_exchange_of d word first g) bad

  -- ---- step 4: "If now EMPTY: one step clears the map entry of the group's region, then push that region on its spare
  -- list."

  -- the step that clears the entry
  unfoldable pub f4_clear : Outcome
  f4_clear =
      let r = v (TaskRegion t) in
      cond (ltb r regions) (accept nothing (TaskPlace t := push_place Release ∷ Map r := 0 ∷ []) []) bad
