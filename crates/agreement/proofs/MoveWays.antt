-- How the steps of the pops and the pushes end, and free's steps 5 and 6 that follow two of them.
use Prim.Native.Nat.{ℕ, ◌+◌, ◌-◌, ◌<◌}
use mathlib.Core.Path.{◌≡◌, refl}
use mathlib.Core.Logic.{inl, inr}
use mathlib.Core.Bool.{false, ◌&&◌}
use mathlib.Core.List.{List, [], ◌∷◌}
use native.Mathlib.Omega.{arith}
use borrow.Author.Tests.{eqb-true, leb-true, ltb-true}
use lib.Dec.{eqb, leb, ltb}
use Rattle.limits.specs.Limits.{CLASSES}
use Rattle.fields.specs.Columns.{View, Write, ◌:=◌}
use Rattle.links.specs.Link.{LinkWrite}
use Rattle.words.specs.Head.{item_of, advanced_word}
use Rattle.words.specs.Anchor.{FULL, is_state}
use Rattle.classes.specs.Classes.{per_region}
use Rattle.plain.specs.Moves.{Decided, nothing, found_empty, popped, pushed}
use Rattle.control.specs.Layout.{Head, TaskHead, CacheCount, TaskPlace, TaskClass, TaskNext, TaskState, Regions}
use Rattle.control.specs.Layout.{TaskUnit, LEAVING}
use Rattle.control.specs.Places.{A3_READ, A7, F1, F2, LEAVE_END}
use Rattle.control.specs.Places.{TO_NEXT, TO_EXCHANGE}
use Rattle.control.specs.declared.moves.Pop.{Pop}
use Rattle.control.specs.declared.moves.Pop.TheVariants.{Partial, Spare, Region}
use Rattle.control.specs.declared.moves.Push.{Push}
use Rattle.control.specs.declared.moves.Push.TheVariants.{Retire, Back, Release, Offer}
use Rattle.stepped.specs.Outcome.{Outcome, accept}
use Rattle.stepped.specs.Ranges.{one_to}
use Rattle.stepped.specs.Lists as Lists
use Rattle.stepped.specs.Lists.{Items, descriptor_items, region_items, how_many, next_field, pop_place, pop_items}
use Rattle.stepped.specs.Lists.{push_place, push_items}
use Rattle.stepped.specs.Leaving.{next_cached, count_fits, leave_from}
use Rattle.agreement.specs.Ends.{FindsEmpty, WinsPush, InPush}
use Rattle.agreement.specs.LostExchanges.{is_lost}
use Rattle.stepped.proofs.Conjunction.{left-true, right-true}
use Rattle.agreement.proofs.ListMoves.{pop-first}
use Rattle.agreement.proofs.Ways.{branch, PlaceEnding, going, Keeps, wrong, either, test, to, finish, back}

-- the next of an item is no place
next-keeps : (t : ℕ) (items : Items) (x y : ℕ) → Keeps t (next_field items x := y ∷ [])
next-keeps t descriptor_items x y u = (refl, λ j. refl)
next-keeps t region_items x y u = (refl, λ j. refl)

module _ (v : View) (t : ℕ) (fits : v (TaskClass t) < CLASSES) where
  abbrev c : ℕ
  c = v (TaskClass t)

  abbrev regions : ℕ
  regions = v Regions

  abbrev End : Outcome → Type 0
  End = PlaceEnding v t

  -- ---- pops

  when-empty : (p : Pop) → FindsEmpty p v t → End (Lists.when_empty v regions t c p (found_empty (Lists.pop_list p c)))
  when-empty Partial h = to (pop_place Spare) (omega arith) (λ u. (refl, λ j. refl)) refl
  when-empty Spare h = finish h (λ u. (refl, λ j. refl)) refl
  when-empty Region h = going (λ i. inl h) (λ j. refl)

  pub pop-read : (p : Pop) → v (TaskPlace t) ≡ pop_place p → End (Lists.pop_read v regions t c p)
  unfolding Lists.pop_read
  pop-read p e =
      let item = item_of (v (Head (Lists.pop_list p c))) in
      branch End (eqb item 0) (λ h. when-empty p (record { place = e; class = fits; empty = eqb-true item 0 h }))
      (λ h. test (leb item (how_many (pop_items p) regions)) (to (pop_place p + TO_NEXT) (omega (arith, pop-first p))
      (λ u. (refl, λ j. refl)) refl))

  pub pop-next : (p : Pop) → End (Lists.pop_next v regions t c p)
  unfolding Lists.pop_next Lists.pop_next_of
  pop-next p =
      let item = item_of (v (TaskHead t)) in
      let items = how_many (pop_items p) regions in
      test (one_to items item)
      (test (leb (v (next_field (pop_items p) (item - 1))) items)
      (to (pop_place p + TO_EXCHANGE) (omega (arith, pop-first p)) (λ u. (refl, λ j. refl)) refl))

  when-popped : (p : Pop) (x : ℕ) (e : Decided) (ws : List Write) → Keeps t ws → is_lost e ≡ false
      → End (Lists.when_popped v regions t c p x e ws)
  when-popped Partial x e ws h n = to A3_READ (omega arith) (λ u. h _) n
  when-popped Spare x e ws h n = to (pop_place Region) (omega arith) (λ u. h _) n
  when-popped Region x e ws h n = to A7 (omega arith) (λ u. h _) n

  pub pop-exchange : (p : Pop) → End (Lists.pop_exchange v regions t c p)
  unfolding Lists.pop_exchange
  pop-exchange p =
      let ℓ = Lists.pop_list p c in
      let items = how_many (pop_items p) regions in
      let word = v (TaskHead t) in
      let x = item_of word - 1 in
      test (one_to items (item_of word) && leb (v (TaskNext t)) items && leb (item_of (v (Head ℓ))) items)
      (either (eqb (v (Head ℓ)) word)
      (when-popped p x (popped ℓ x) (Head ℓ := advanced_word word (v (TaskNext t)) ∷ []) (λ u. (refl, λ j. refl)) refl)
      (back (pop_place p) (λ i. absurd (omega (arith, pop-first p))) refl))

  -- ---- pushes

  -- from one place of a push to another
  within : {ws : List Write} {ls : List LinkWrite} (p : Push) (q : ℕ) → InPush p q → InPush p (v (TaskPlace t))
      → Keeps t ws → End (accept nothing (TaskPlace t := q ∷ ws) ls)
  within Retire q i h k = to q (omega arith) k refl
  within Back q i h k = going (λ j. inr h) (λ j. (k _).1 j)
  within Release q i h k = to q (omega arith) k refl
  within Offer q i h k = to q (omega arith) k refl

  -- a lost push is in the push back before, if it is there behind it
  to-head : (p : Push) → InPush p (v (TaskPlace t)) → InPush Back (push_place p) → InPush Back (v (TaskPlace t))
  to-head Retire h i = absurd (omega arith)
  to-head Back h i = h
  to-head Release h i = absurd (omega arith)
  to-head Offer h i = absurd (omega arith)

  pub push-read : (p : Push) → v (TaskPlace t) ≡ push_place p → End (Lists.push_read v regions t c p)
  unfolding Lists.push_read
  push-read p e =
      test (leb (item_of (v (Head (Lists.push_list p c)))) (how_many (push_items p) regions))
      (within p (push_place p + TO_NEXT) (omega arith) (omega arith) (λ u. (refl, λ j. refl)))

  pub push-next : (p : Push) → v (TaskPlace t) ≡ push_place p + TO_NEXT → End (Lists.push_next v regions t c p)
  unfolding Lists.push_next
  push-next p e =
      let x = v (Lists.hand_field (push_items p) t) in
      let below = item_of (v (TaskHead t)) in
      let items = how_many (push_items p) regions in
      test (ltb x items && leb below items)
      (within p (push_place p + TO_EXCHANGE) (omega arith) (omega arith) (next-keeps t (push_items p) x below))

  -- where leaving goes on
  leave-from : (j : ℕ) (e : Decided) (ws : List Write) → Keeps t ws → is_lost e ≡ false → End (leave_from v t j e ws)
  unfolding leave_from
  leave-from j e ws h n =
      let i = next_cached v t j in
      test (count_fits v t i)
      (branch (λ x. End (accept e x [])) (eqb i CLASSES) (λ b. to LEAVE_END (omega arith) h n)
      (λ b. to F2 (omega arith) (λ u. h _) n))

  -- free, steps 6 and 5
  f6 : (e : Decided) (ws : List Write) → Keeps t ws → is_lost e ≡ false → End (Lists.f6 v regions t c e ws)
  unfolding Lists.f6 Lists.when_returned
  f6 e ws h n =
      let k = v (CacheCount t c) in
      let u = v (TaskUnit t) in
      test (leb k (per_region c))
      (either (eqb k 0)
      (test (leb u LEAVING) (either (eqb u LEAVING) (leave-from (c + 1) e ws h n) (to F1 (omega arith) h n)))
      (to F2 (omega arith) (λ u. h _) n))

  pub f5 : (was : ℕ) (e : Decided) (ws : List Write) → Keeps t ws → is_lost e ≡ false
      → End (Lists.f5 v regions t c was e ws)
  unfolding Lists.f5
  f5 was e ws h n = either (eqb was FULL) (to (push_place Offer) (omega arith) h n) (f6 e ws h n)

  when-pushed : (p : Push) (e : Decided) (ws : List Write) → WinsPush p v t → Keeps t ws → is_lost e ≡ false
      → End (Lists.when_pushed v regions t c p e ws)
  when-pushed Retire e ws w h n = to (pop_place Partial) (omega arith) h n
  when-pushed Back e ws w h n = finish w h n
  when-pushed Release e ws w h n = test (is_state (v (TaskState t))) (f5 (v (TaskState t)) e ws h n)
  when-pushed Offer e ws w h n = f6 e ws h n

  pub push-exchange : (p : Push) → v (TaskPlace t) ≡ push_place p + TO_EXCHANGE
      → End (Lists.push_exchange v regions t c p)
  unfolding Lists.push_exchange
  push-exchange p e =
      let ℓ = Lists.push_list p c in
      let items = how_many (push_items p) regions in
      let word = v (TaskHead t) in
      let x = v (Lists.hand_field (push_items p) t) in
      let tests = ltb x items && leb (item_of word) items in
      branch End (tests && leb (item_of (v (Head ℓ))) items)
      (λ h.
      let q = left-true tests (leb (item_of (v (Head ℓ))) items) h in
      branch End (eqb (v (Head ℓ)) word)
      (λ i. when-pushed p (pushed ℓ x) (Head ℓ := advanced_word word (x + 1) ∷ []) (record {
        place = e;
        class = fits;
        item = ltb-true x items (left-true (ltb x items) (leb (item_of word) items) q);
        noted = leb-true (item_of word) items (right-true (ltb x items) (leb (item_of word) items) q);
        same = eqb-true (v (Head ℓ)) word i;
      }) (λ u. (refl, λ j. refl)) refl)
      (λ i. back (push_place p) (to-head p (omega arith)) refl))
      (λ h. wrong)
