-- How each step of the step list ends: the steps that are no list moves, and one pass over the list.
use Prim.Native.Nat.{ℕ, zero, suc, ◌+◌, ◌-◌, ◌<◌}
use mathlib.Core.Path.{◌≡◌, refl}
use mathlib.Core.Bool.{◌&&◌}
use mathlib.Core.List.{List, [], ◌∷◌}
use native.Mathlib.Omega.{arith}
use lib.Dec.{eqb, leb, ltb}
use lib.ListN.{get_or}
use Rattle.limits.specs.Limits.{CLASSES, DESCRIPTORS}
use Rattle.fields.specs.Columns.{View, ◌:=◌}
use Rattle.words.specs.Anchor.{EMPTY, anchor_of, anchor_word, returned}
use Rattle.classes.specs.Classes.{per_region}
use Rattle.classes.specs.Geometry.{region_of, unit_of}
use Rattle.plain.specs.Moves.{gave}
use Rattle.control.specs.Layout.{Anchor, TaskAnchor, CacheTop, CacheCount, TaskUnit, TaskIndex, TaskLeft, GroupFirst}
use Rattle.control.specs.Layout.{GroupLast, GroupCount}
use Rattle.control.specs.Layout.{TaskPlace, TaskClass, TaskDescriptor, TaskRegion, TaskState, DescriptorRegion, Map}
use Rattle.control.specs.Layout.{Regions}
use Rattle.control.specs.Places.{A1, A3_READ, A3_EXCHANGE, A4, A8, F1, F2, F3_READ, F3_LINK, F3_EXCHANGE, F4_CLEAR}
use Rattle.control.specs.Places.{IDLE}
use Rattle.control.specs.declared.moves.Pop.TheVariants.{Partial, Spare, Region}
use Rattle.control.specs.declared.moves.Push.TheVariants.{Retire, Back, Release, Offer}
use Rattle.stepped.specs.Outcome.{Outcome, bad}
use Rattle.stepped.specs.Ranges.{one_to, is_block, is_top, is_anchor, has_chain, has_first, has_room}
use Rattle.stepped.specs.Lists.{pop_place, push_place}
use Rattle.stepped.specs.Allocate as Allocate
use Rattle.stepped.specs.Free as Free
use Rattle.stepped.specs.Leaving.{leave_end}
use Rattle.stepped.specs.Steps as Steps
use Rattle.stepped.proofs.Conjunction.{left-true}
use Rattle.agreement.proofs.Ways.{branch, PlaceEnding, wrong, either, test, to, stay, finish, back}
use Rattle.agreement.proofs.MoveWays.{pop-read, pop-next, pop-exchange, push-read, push-next, push-exchange, f5}
use mathlib.Core.Logic.{inl, inr}
use Rattle.limits.specs.Limits.{ORDERS}
use Rattle.pieces.specs.StripUnits.{slot_of_unit, is_strip_unit}
use Rattle.std.specs.declared.option.Option.{Option}
use Rattle.std.specs.declared.option.Option.TheVariants.{None, Some}
use Rattle.strip_tree.specs.declared.find.Found.{Found}
use Rattle.strip_tree.specs.TreeMoves.{find, can_begin}
use Rattle.strip_tree.specs.SlotStates.{FREE_BEGUN, LAST_BYTE, order_in}
use Rattle.control.specs.Layout.{SlotByte}
use Rattle.control.specs.Places.{STRIP_TAKE, STRIP_GIVE, LEAVE_END}
use Rattle.stepped.specs.StripSteps as Strips
use Rattle.stepped.specs.StripSteps.{tree_of}
use Rattle.strip_tree.proofs.NoFreeNodes.{none_free}
use borrow.Author.Tests.{ltb-true}

module _ (v : View) (link : ℕ → ℕ) (t : ℕ) (fits : v (TaskClass t) < CLASSES) where
  abbrev c : ℕ
  c = v (TaskClass t)

  abbrev regions : ℕ
  regions = v Regions

  abbrev End : Outcome → Type 0
  End = PlaceEnding v t

  -- ---- allocate

  a1 : v (TaskPlace t) ≡ A1 → End (Allocate.a1 v link regions t c)
  unfolding Allocate.a1 Allocate.a1_take
  a1 here =
      let k = v (CacheCount t c) in
      let u = v (CacheTop t c) in
      let below = is_top regions c (k - 1) (link u) in
      either (eqb k 0) (to (pop_place Partial) (omega arith) (λ u. (refl, λ j. refl)) refl)
      (test (leb k (per_region c))
      (branch End (is_block regions c u && below)
      (λ e. finish
      (inl (record { place = here; class = fits; top = refl; is-block = left-true (is_block regions c u) below e }))
      (λ u. (refl, λ j. refl)) refl)
      (λ e. wrong)))

  a3-read : End (Allocate.a3_read v link regions t c)
  unfolding Allocate.a3_read Allocate.a3_read_of
  a3-read =
      let d = v (TaskDescriptor t) in
      let word = v (Anchor d) in
      test (ltb d DESCRIPTORS) (test (is_anchor word)
      (either (eqb (anchor_of word).state EMPTY) (to (push_place Retire) (omega arith) (λ u. (refl, λ j. refl)) refl)
      (test (has_chain (per_region c) word) (to A3_EXCHANGE (omega arith) (λ u. (refl, λ j. refl)) refl))))

  a3-exchange : End (Allocate.a3_exchange v link regions t c)
  unfolding Allocate.a3_exchange Allocate.a3_exchange_of
  a3-exchange =
      let d = v (TaskDescriptor t) in
      let word = v (TaskAnchor t) in
      test (ltb d DESCRIPTORS && has_chain (per_region c) word) (test (is_anchor (v (Anchor d)))
      (either (eqb (v (Anchor d)) word)
      (test (ltb (v (DescriptorRegion d)) regions) (to A4 (omega arith) (λ u. (refl, λ j. refl)) refl))
      (back A3_READ (λ i. absurd (omega arith)) refl)))

  a4 : End (Allocate.a4 v link regions t c)
  unfolding Allocate.a4 Allocate.a4_move
  a4 =
      let r = v (TaskRegion t) in
      let i = v (TaskIndex t) in
      let left = v (TaskLeft t) in
      let k = v (CacheCount t c) in
      let n = per_region c in
      test (ltb r regions && ltb i n && one_to n left && ltb k n && is_top regions c k (v (CacheTop t c)))
      (either (eqb left 1) (to A1 (omega arith) (λ u. (refl, λ j. refl)) refl)
      (test (ltb (link (unit_of r c i)) n) (stay (λ u. (refl, λ j. refl)))))

  a7 : End (Allocate.a7 v link regions t c)
  unfolding Allocate.a7
  a7 =
      test (ltb (v (TaskDescriptor t)) DESCRIPTORS && ltb (v (TaskRegion t)) regions)
      (to A8 (omega arith) (λ u. (refl, λ j. refl)) refl)

  a8 : End (Allocate.a8 v link regions t c)
  unfolding Allocate.a8 Allocate.a8_put
  a8 =
      let i = v (TaskIndex t) in
      let k = v (CacheCount t c) in
      let n = per_region c in
      test (ltb (v (TaskRegion t)) regions && ltb i n && ltb k n && is_top regions c k (v (CacheTop t c)))
      (either (eqb (i + 1) n) (to A1 (omega arith) (λ u. (refl, λ j. refl)) refl) (stay (λ u. (refl, λ j. refl))))

  -- ---- free

  f1 : v (TaskPlace t) ≡ F1 → End (Free.f1 v link regions t c)
  unfolding Free.f1 Free.f1_put
  f1 here =
      let k = v (CacheCount t c) in
      let n = per_region c in
      test (leb k n)
      (either (ltb k n)
      (test (is_block regions c (v (TaskUnit t)) && is_top regions c k (v (CacheTop t c)))
      (finish (inl here) (λ u. (refl, λ j. refl)) refl))
      (to F2 (omega arith) (λ u. (refl, λ j. refl)) refl))

  f2 : End (Free.f2 v link regions t c)
  unfolding Free.f2 Free.f2_top Free.f2_first Free.f2_more
  f2 =
      let k = v (CacheCount t c) in
      let g = v (GroupCount t) in
      let u = v (CacheTop t c) in
      let r = v (TaskRegion t) in
      let n = per_region c in
      let below = is_top regions c (k - 1) (link u) in
      let close = to F3_READ (omega arith) (λ u. (refl, λ j. refl)) refl in
      test (leb k n && leb g n) (either (eqb k 0) close
      (test (is_block regions c u) (either (eqb g 0) (test below (stay (λ u. (refl, λ j. refl))))
      (test (ltb r regions) (either (eqb (region_of u) r)
      (test (ltb g n && ltb (v (GroupLast t)) n && below) (stay (λ u. (refl, λ j. refl))))
      close)))))

  f3-read : End (Free.f3_read v link regions t c)
  unfolding Free.f3_read Free.f3_read_by Free.f3_read_of
  f3-read =
      let r = v (TaskRegion t) in
      let g = v (GroupCount t) in
      let word = v (Anchor (v (Map r) - 1)) in
      test (ltb r regions && one_to (per_region c) g) (test (one_to DESCRIPTORS (v (Map r)))
      (test (is_anchor word && has_room (per_region c) g word)
      (to F3_LINK (omega arith) (λ u. (refl, λ j. refl)) refl)))

  f3-link : End (Free.f3_link v link regions t c)
  unfolding Free.f3_link
  f3-link =
      let n = per_region c in
      let word = v (TaskAnchor t) in
      test (ltb (v (TaskRegion t)) regions && ltb (v (GroupLast t)) n && is_anchor word && has_first n word)
      (to F3_EXCHANGE (omega arith) (λ u. (refl, λ j. refl)) refl)

  f3-exchange : End (Free.f3_exchange v link regions t c)
  unfolding Free.f3_exchange Free.f3_exchange_of Free.f3_won
  f3-exchange =
      let d = v (TaskDescriptor t) in
      let word = v (TaskAnchor t) in
      let first = v (GroupFirst t) in
      let g = v (GroupCount t) in
      let n = per_region c in
      let a = anchor_of word in
      let ws = Anchor d := anchor_word (returned a first g n) ∷ TaskState t := a.state ∷ [] in
      test (ltb d DESCRIPTORS && ltb first n && one_to n g && is_anchor word && has_room n g word)
      (test (is_anchor (v (Anchor d)))
      (either (eqb (v (Anchor d)) word)
      (either (eqb (a.count + g) n) (to F4_CLEAR (omega arith) (λ u. (refl, λ j. refl)) refl)
      (f5 v t fits a.state (gave d) ws (λ u. (refl, λ j. refl)) refl))
      (back F3_READ (λ i. absurd (omega arith)) refl)))

  take_found : v (TaskPlace t) ≡ STRIP_TAKE → c < ORDERS → (f : Option Found) → find (tree_of v) c ≡ f
      → End (Strips.strip_take_by v t c f)
  unfolding Strips.strip_take_at
  take_found here few (Some f) e =
      finish (inr (record { place = here; order = few; node = f.node; found-order = f.order; found = e; is = refl }))
      (λ u. (refl, λ j. refl)) refl
  take_found here few None e =
      finish (record { place = here; order = few; none = none_free (tree_of v) c few e }) (λ u. (refl, λ j. refl)) refl

  strip-take : v (TaskPlace t) ≡ STRIP_TAKE → End (Strips.strip_take v t c)
  unfolding Strips.strip_take
  strip-take here =
      branch End (ltb c ORDERS) (λ e. take_found here (ltb-true c ORDERS e) (find (tree_of v) c) refl) (λ e. wrong)

  strip-give : v (TaskPlace t) ≡ STRIP_GIVE → End (Strips.strip_give v t)
  unfolding Strips.strip_give Strips.strip_give_at
  strip-give here =
      let s = slot_of_unit (v (TaskUnit t)) in
      let x = v (SlotByte s) in
      test (is_strip_unit (v (TaskUnit t)))
      (test (leb FREE_BEGUN x && leb x LAST_BYTE && can_begin s (order_in x))
      (finish (inr (inl here)) (λ u. (refl, λ j. refl)) refl))

  leave-end : v (TaskPlace t) ≡ LEAVE_END → End (leave_end v t)
  leave-end here = finish (inr (inr here)) (λ u. (refl, λ j. refl)) refl

  f4-clear : End (Free.f4_clear v link regions t c)
  unfolding Free.f4_clear
  f4-clear = test (ltb (v (TaskRegion t)) regions) (to (push_place Release) (omega arith) (λ u. (refl, λ j. refl)) refl)

  -- ---- the step list

  -- idle is not the place of a task that has a request in hand
  not-idle : {o : Outcome} → IDLE < v (TaskPlace t) → v (TaskPlace t) ≡ IDLE → End o
  not-idle busy e = absurd (omega arith)

  -- a list of steps from the place k on
  data EachEnds : ℕ → List Outcome → Type 0 where
    end : {k : ℕ} → EachEnds k []
    ◌then◌ : {k : ℕ} {o : Outcome} {os : List Outcome} → (v (TaskPlace t) ≡ k → End o) → EachEnds (suc k) os
        → EachEnds k (o ∷ os)

  infixr 5 ◌then◌
  all : IDLE < v (TaskPlace t) → EachEnds IDLE (Steps.step_list v link regions t c)
  all busy =
      not-idle busy
      then a1
      then pop-read v t fits Partial
      then (λ e. pop-next v t fits Partial)
      then (λ e. pop-exchange v t fits Partial)
      then pop-read v t fits Spare
      then (λ e. pop-next v t fits Spare)
      then (λ e. pop-exchange v t fits Spare)
      then pop-read v t fits Region
      then (λ e. pop-next v t fits Region)
      then (λ e. pop-exchange v t fits Region)
      then push-read v t fits Retire
      then push-next v t fits Retire
      then push-exchange v t fits Retire
      then push-read v t fits Back
      then push-next v t fits Back
      then push-exchange v t fits Back
      then push-read v t fits Release
      then push-next v t fits Release
      then push-exchange v t fits Release
      then push-read v t fits Offer
      then push-next v t fits Offer
      then push-exchange v t fits Offer
      then (λ e. a3-read)
      then (λ e. a3-exchange)
      then (λ e. a4)
      then (λ e. a7)
      then (λ e. a8)
      then f1
      then (λ e. f2)
      then (λ e. f3-read)
      then (λ e. f3-link)
      then (λ e. f3-exchange)
      then (λ e. f4-clear)
      then (λ e. strip-take e)
      then (λ e. strip-give e)
      then leave-end
      then end

  -- the step at a place ends so, and a place past the list is outside its range
  at_place : {k : ℕ} {os : List Outcome} → EachEnds k os → (n : ℕ) → v (TaskPlace t) ≡ k + n → End (get_or os n bad)
  at_place end n e = wrong
  at_place (◌then◌ h hs) zero e = h (omega arith)
  at_place (◌then◌ h hs) (suc n) e = at_place hs n (omega arith)

  -- a task that is not idle: its step is refused by 14 alone
  pub step-at : IDLE < v (TaskPlace t) → PlaceEnding v t (Steps.step_at v link regions t c (v (TaskPlace t)))
  unfolding Steps.step_at
  step-at busy = at_place (all busy) (v (TaskPlace t)) (omega arith)
