-- Every write of a list move is to a field of the layout, its value fits there, and it is to no other task's place,
-- whatever the two memories hold.
use Prim.Native.Nat.{ℕ, zero, suc, ◌+◌, ◌-◌, ◌≤◌, ◌<◌}
use mathlib.Core.Path.{◌≡◌, refl}
use mathlib.Core.Bool.{Bool, true, cond, ◌&&◌}
use mathlib.Core.List.{List, [], ◌∷◌}
use native.Mathlib.Omega.{arith}
use borrow.Author.Tests.{leb-true, ltb-true}
use lib.Dec.{eqb, leb, ltb}
use Rattle.limits.specs.Limits.{REGIONS, TASKS, CLASSES, DESCRIPTORS, LISTS}
use Rattle.fields.specs.Columns.{View, Write, ◌:=◌, Sound}
use Rattle.words.specs.Head.{item_of}
use Rattle.words.specs.Anchor.{FULL, is_state}
use Rattle.words.proofs.Heads.{advanced_word-below}
use Rattle.classes.specs.Classes.{per_region}
use Rattle.plain.specs.Moves.{Decided}
use Rattle.control.specs.Layout.{layout, Head, TaskHead, TaskPlace, TaskNext, TaskState, CacheCount}
use Rattle.control.specs.Layout.{TaskUnit, TaskLost, LEAVING}
use Rattle.control.proofs.OneMoreLost.{more-fits}
use Rattle.control.specs.declared.moves.Pop.{Pop}
use Rattle.control.specs.declared.moves.Pop.TheVariants.{Partial, Spare, Region}
use Rattle.control.specs.declared.moves.Push.{Push}
use Rattle.control.specs.declared.moves.Push.TheVariants.{Retire, Back, Release, Offer}
use Rattle.stepped.specs.Outcome.{Outcome, refuse, bad, accept, lose}
use Rattle.stepped.specs.Ranges.{one_to}
use Rattle.stepped.specs.Leaving.{first_cached, next_cached, count_fits, leave_from, leave_end}
use Rattle.stepped.specs.Lists as Lists
use Rattle.stepped.specs.Lists.{Items, descriptor_items, region_items, how_many, next_field, hand_field, pop_list}
use Rattle.stepped.specs.Lists.{pop_items}
use Rattle.stepped.specs.Lists.{push_list, push_items}
use Rattle.stepped.proofs.Conjunction.{left-true, right-true}
use Rattle.agreement.proofs.ListMoves.{pop-first, push-later, popped-list, pushed-list, below-lists, most-items}
use Rattle.agreement.proofs.Both.{Fitting}
use Rattle.agreement.proofs.Ways.{branch}

-- a write is to no place but that of the task t, and where it notes a state, that is EMPTY, PARTIAL or FULL
abbrev pub Own : ℕ → Write → Type 0
Own t (f := x) =
    cond (eqb f.column (TaskPlace t).column) (f.index ≡ t)
    (cond (eqb f.column (TaskState t).column) (x ≤ FULL) (Unit {0}))

abbrev pub Owns : ℕ → List Write → Type 0
Owns t [] = Unit {0}
Owns t (w ∷ ws) = Own t w × Owns t ws

-- writes of a call of the task t: each is to a field of the layout and fits there, to no other task's place, and notes
-- no state but the three
pub record Written (t : ℕ) (ws : List Write) : Type 0 where
  pub sound : Sound layout ws
  pub own : Owns t ws

-- what an outcome writes
pub record Fit (t : ℕ) (o : Outcome) : Type 0 where
  pub sound : Sound layout o.writes
  pub own : Owns t o.writes

-- a refusal writes nothing
pub none : {t n : ℕ} → Fit t (refuse n)
none = record { sound = tt; own = tt }

-- a test whose failure is 14
pub test : {t : ℕ} (b : Bool) {x : Outcome} → (b ≡ true → Fit t x) → Fit t (cond b x bad)
test {t} b h = branch (Fit t) b h (λ e. none)

-- a lost exchange: the count fits, and one more does
pub loses : (v : View) → Fitting v → {t : ℕ} → t < TASKS → (e : Decided) (back : ℕ) → back < 256
    → Fit t (lose v t e back)
loses v fits {t} task e back l = record {
  sound = omega (arith, task, l, more-fits (v (TaskLost t)) (fits (TaskLost t) (omega (arith, task))));
  own = omega arith;
}

-- the search for the next cache finds one of the classes, or none
first-max : (v : View) (t n c : ℕ) → first_cached v t c n ≤ c + n
unfolding first_cached
first-max v t zero c = omega arith
first-max v t (suc n) c =
    branch (λ (j : ℕ). j ≤ c + suc n) (eqb (v (CacheCount t c)) 0) (λ e. omega (arith, first-max v t n (c + 1)))
    (λ e. omega arith)

next-max : (v : View) (t c : ℕ) → c ≤ CLASSES → next_cached v t c ≤ CLASSES
next-max v t c l = omega (arith, first-max v t (CLASSES - c) c)

-- the last step of leaving
pub leave-end : (v : View) {t : ℕ} → t < TASKS → Fit t (leave_end v t)
leave-end v task = record { sound = omega (arith, task); own = omega arith }

-- where leaving goes on
pub leave-from : (v : View) {t : ℕ} → t < TASKS → (j : ℕ) → j ≤ CLASSES → (e : Decided) (ws : List Write)
    → Written t ws → Fit t (leave_from v t j e ws)
unfolding leave_from
leave-from v {t} task j l e ws s =
    let i = next_cached v t j in
    test (count_fits v t i) (λ h. branch (λ x. Fit t (accept e x [])) (eqb i CLASSES)
    (λ b. record { sound = (omega (arith, task), s.sound); own = (refl, s.own) })
    (λ b. record {
      sound = (
        omega (arith, task),
        (omega (arith, task, next-max v t j l), (omega (arith, task), s.sound)),
      );
      own = (refl, (tt, (tt, s.own)));
    }))

module _ (v : View) (fits : Fitting v) {regions t c : ℕ} (few : regions ≤ REGIONS) (task : t < TASKS)
    (class : c < CLASSES) where
  -- a move's list is one of the lists, and no list has more items than there are descriptors
  pop-below : (p : Pop) → pop_list p c < LISTS
  pop-below p = below-lists (popped-list p c class)

  push-below : (p : Push) → push_list p c < LISTS
  push-below p = below-lists (pushed-list p c class)

  most : (items : Items) → how_many items regions ≤ DESCRIPTORS
  most items = most-items items few

  -- ---- the end of a return

  pub f6 : (e : Decided) (ws : List Write) → Written t ws → Fit t (Lists.f6 v regions t c e ws)
  unfolding Lists.f6 Lists.when_returned
  f6 e ws s =
      let k = v (CacheCount t c) in
      let u = v (TaskUnit t) in
      test (leb k (per_region c)) (λ h.
      branch (Fit t) (eqb k 0)
      (λ i. test (leb u LEAVING)
      (λ z. branch (Fit t) (eqb u LEAVING) (λ y. leave-from v task (c + 1) (omega arith) e ws s)
      (λ y. record { sound = (omega (arith, task), s.sound); own = (refl, s.own) })))
      (λ i. record { sound = (omega (arith, task), (omega (arith, task), s.sound)); own = (refl, (tt, s.own)) }))

  pub f5 : (was : ℕ) (e : Decided) (ws : List Write) → Written t ws → Fit t (Lists.f5 v regions t c was e ws)
  unfolding Lists.f5
  f5 was e ws s =
      branch (Fit t) (eqb was FULL) (λ h. record { sound = (omega (arith, task), s.sound); own = (refl, s.own) })
      (λ h. f6 e ws s)

  -- ---- pops

  when-empty : (p : Pop) (e : Decided) → Fit t (Lists.when_empty v regions t c p e)
  when-empty Partial e = record { sound = omega (arith, task); own = omega arith }
  when-empty Spare e = record { sound = omega (arith, task); own = omega arith }
  when-empty Region e = record { sound = omega (arith, task); own = omega arith }

  pub pop-read : (p : Pop) → Fit t (Lists.pop_read v regions t c p)
  unfolding Lists.pop_read
  pop-read p =
      let word = v (Head (pop_list p c)) in
      branch (Fit t) (eqb (item_of word) 0) (λ e. when-empty p _)
      (λ e. test (leb (item_of word) (how_many (pop_items p) regions)) (λ h.
      record {
        sound = omega (arith, task, pop-first p, fits (Head (pop_list p c)) (omega (arith, pop-below p)));
        own =
            omega arith;
      }))

  pub pop-next : (p : Pop) → Fit t (Lists.pop_next v regions t c p)
  unfolding Lists.pop_next Lists.pop_next_of
  pop-next p =
      let item = item_of (v (TaskHead t)) in
      let next = v (next_field (pop_items p) (item - 1)) in
      let items = how_many (pop_items p) regions in
      test (one_to items item) (λ h. test (leb next items) (λ i.
      record {
        sound = omega (arith, task, pop-first p, most (pop_items p), leb-true next items i);
        own = omega arith;
      }))

  when-popped : (p : Pop) (x : ℕ) (e : Decided) (ws : List Write) → x < 256 → Written t ws
      → Fit t (Lists.when_popped v regions t c p x e ws)
  when-popped Partial x e ws l s =
      record { sound = (omega (arith, task), (omega (arith, task, l), s.sound)); own = (refl, (tt, s.own)) }
  when-popped Spare x e ws l s =
      record { sound = (omega (arith, task), (omega (arith, task, l), s.sound)); own = (refl, (tt, s.own)) }
  when-popped Region x e ws l s =
      record { sound = (omega (arith, task), (omega (arith, task, l), s.sound)); own = (refl, (tt, s.own)) }

  pub pop-exchange : (p : Pop) → Fit t (Lists.pop_exchange v regions t c p)
  unfolding Lists.pop_exchange
  pop-exchange p =
      let ℓ = pop_list p c in
      let items = how_many (pop_items p) regions in
      let word = v (TaskHead t) in
      let next = v (TaskNext t) in
      let item = one_to items (item_of word) in
      let noted = leb next items in
      let found = leb (item_of (v (Head ℓ))) items in
      test (item && noted && found) (λ h.
      let one =
      right-true (leb 1 (item_of word)) (leb (item_of word) items)
      (left-true item noted (left-true (item && noted) found h)) in
      let few-next = leb-true next items (right-true item noted (left-true (item && noted) found h)) in
      branch (Fit t) (eqb (v (Head ℓ)) word)
      (λ e. when-popped p _ _ _ (omega (arith, most (pop_items p), leb-true (item_of word) items one))
      (record {
        sound = omega (arith, pop-below p, advanced_word-below word next (omega (arith, most (pop_items p), few-next)));
        own = omega arith;
      }))
      (λ e. loses v fits task _ _ (omega (arith, pop-first p))))

  -- ---- pushes

  -- an item's next
  item-next : (items : Items) (x : ℕ) → x < how_many items regions → (y : ℕ) → y < 256
      → Written t (next_field items x := y ∷ [])
  item-next descriptor_items x h y l = record { sound = omega (arith, h, l); own = omega arith }
  item-next region_items x h y l = record { sound = omega (arith, few, h, l); own = omega arith }

  pub push-read : (p : Push) → Fit t (Lists.push_read v regions t c p)
  unfolding Lists.push_read
  push-read p =
      test (leb (item_of (v (Head (push_list p c)))) (how_many (push_items p) regions)) (λ h.
      record {
        sound = omega (arith, task, push-later p, fits (Head (push_list p c)) (omega (arith, push-below p)));
        own =
            omega arith;
      })

  pub push-next : (p : Push) → Fit t (Lists.push_next v regions t c p)
  unfolding Lists.push_next
  push-next p =
      let x = v (hand_field (push_items p) t) in
      let below = item_of (v (TaskHead t)) in
      let items = how_many (push_items p) regions in
      test (ltb x items && leb below items) (λ h.
      let y = leb-true below items (right-true (ltb x items) (leb below items) h) in
      let w =
      item-next (push_items p) x (ltb-true x items (left-true (ltb x items) (leb below items) h)) below
      (omega (arith, y, most (push_items p))) in
      record { sound = (omega (arith, task, push-later p), w.sound); own = (refl, w.own) })

  when-pushed : (p : Push) (e : Decided) (ws : List Write) → Written t ws
      → Fit t (Lists.when_pushed v regions t c p e ws)
  when-pushed Retire e ws s = record { sound = (omega (arith, task), s.sound); own = (refl, s.own) }
  when-pushed Back e ws s = record { sound = (omega (arith, task), s.sound); own = (refl, s.own) }
  when-pushed Release e ws s = test (is_state (v (TaskState t))) (λ h. f5 (v (TaskState t)) e ws s)
  when-pushed Offer e ws s = f6 e ws s

  pub push-exchange : (p : Push) → Fit t (Lists.push_exchange v regions t c p)
  unfolding Lists.push_exchange
  push-exchange p =
      let ℓ = push_list p c in
      let items = how_many (push_items p) regions in
      let word = v (TaskHead t) in
      let x = v (hand_field (push_items p) t) in
      let item = ltb x items in
      let noted = leb (item_of word) items in
      let found = leb (item_of (v (Head ℓ))) items in
      test (item && noted && found) (λ h.
      let low = ltb-true x items (left-true item noted (left-true (item && noted) found h)) in
      branch (Fit t) (eqb (v (Head ℓ)) word)
      (λ e. when-pushed p _ _
      (record {
        sound = omega (arith, push-below p, advanced_word-below word (x + 1) (omega (arith, most (push_items p), low)));
        own = omega arith;
      }))
      (λ e. loses v fits task _ _ (omega (arith, push-later p))))
