-- What a task noted of a list is in its range, by its place.
use Prim.Native.Nat.{ℕ, ◌+◌, ◌≤◌, ◌<◌}
use mathlib.Core.Path.{◌≡◌, sym, subst, ◌∙◌}
use mathlib.Core.Bool.{cond}
use native.Mathlib.Omega.{arith}
use borrow.Author.Tests.{lt-ltb, le-ltb}
use lib.Dec.{ltb}
use Rattle.fields.specs.Columns.{View}
use Rattle.words.specs.Head.{item_of}
use Rattle.plain.specs.State.{Phase, Mem}
use Rattle.control.specs.Layout.{TaskHead, TaskPlace, TaskNext}
use Rattle.control.specs.Places.{POP_PARTIAL, POP_SPARE, POP_REGION, PUSH_BACK, PUSH_RELEASE, PUSH_OFFER}
use Rattle.control.specs.Places.{A3_READ}
use Rattle.control.specs.Places.{TO_NEXT, TO_EXCHANGE}
use Rattle.control.specs.declared.moves.Pop.{Pop}
use Rattle.control.specs.declared.moves.Pop.TheVariants.{Partial, Spare, Region}
use Rattle.control.specs.declared.moves.Push.{Push}
use Rattle.control.specs.declared.moves.Push.TheVariants.{Retire, Back, Release, Offer}
use Rattle.stepped.specs.Lists.{how_many, pop_place, pop_items, push_place, push_items}
use Rattle.agreement.specs.Contents.{Slot, slot_of}
use Rattle.agreement.specs.Relation.{MoveRelated, at_read, at_next, at_exchange, PopRelated}
use Rattle.agreement.specs.InRange.{OneTo, ListsInRange}
use Rattle.agreement.proofs.ListMoves.{pop-first, push-later}
use Rattle.agreement.proofs.WorkPlaces.{span}

-- ---- a place belongs to one move

-- q is one of the three places from b on
record Span (b q : ℕ) : Type 0 where
  from : b ≤ q
  to : q ≤ b + TO_EXCHANGE

-- the pop and the push that have the place q
abbrev pop_at : ℕ → Pop
pop_at q = cond (ltb q POP_SPARE) Partial (cond (ltb q POP_REGION) Spare Region)

abbrev push_at : ℕ → Push
push_at q = cond (ltb q PUSH_BACK) Retire (cond (ltb q PUSH_RELEASE) Back (cond (ltb q PUSH_OFFER) Release Offer))

pop-at : (p : Pop) (q : ℕ) → Span (pop_place p) q → pop_at q ≡ p
pop-at Partial q h = rw (lt-ltb q POP_SPARE (omega arith))
pop-at Spare q h = rw (le-ltb q POP_SPARE (omega arith), lt-ltb q POP_REGION (omega arith))
pop-at Region q h = rw (le-ltb q POP_SPARE (omega arith), le-ltb q POP_REGION (omega arith))

push-at : (p : Push) (q : ℕ) → Span (push_place p) q → push_at q ≡ p
push-at Retire q h = rw (lt-ltb q PUSH_BACK (omega arith))
push-at Back q h = rw (le-ltb q PUSH_BACK (omega arith), lt-ltb q PUSH_RELEASE (omega arith))
push-at Release q h =
    rw (le-ltb q PUSH_BACK (omega arith), le-ltb q PUSH_RELEASE (omega arith), lt-ltb q PUSH_OFFER (omega arith))
push-at Offer q h =
    rw (le-ltb q PUSH_BACK (omega arith), le-ltb q PUSH_RELEASE (omega arith), le-ltb q PUSH_OFFER (omega arith))

-- ---- what one move noted

module _ {m : Mem} {s : Slot} {b ℓ items least : ℕ} {Ready : ℕ → Type 0} where
  noted-head : {φ : Phase} → MoveRelated m s b ℓ items least Ready φ → b + TO_NEXT ≤ s.place
      → (least ≤ s.noted.head.item) × (s.noted.head.item ≤ items)
  noted-head (at_read e) h = absurd (omega arith)
  noted-head (at_next e N i j) h = (i, j)
  noted-head (at_exchange e N i j r) h = (i, j)

  -- before its exchange a move is ready, for some noted number
  is-ready : {φ : Phase} {A : Type 0} → MoveRelated m s b ℓ items least Ready φ → b + TO_EXCHANGE ≤ s.place
      → ((n : ℕ) → Ready n → A) → A
  is-ready (at_read e) h f = absurd (omega arith)
  is-ready (at_next e N i j) h f = absurd (omega arith)
  is-ready (at_exchange {n} e N i j r) h f = f n r

-- ---- one task

module _ (regions : ℕ) (v : View) (m : Mem) (t : ℕ) where
  abbrev q : ℕ
  q = v (TaskPlace t)

  abbrev Lists : Type 0
  Lists = ListsInRange regions v t

  -- no move is under way
  pub none : (POP_PARTIAL ≤ q → q < A3_READ → ⊥) → Lists
  none h = record {
    pop_head = λ p i j. absurd (h (omega (arith, pop-first p)) (omega (arith, pop-first p)));
    pop-next = λ p i j. absurd (h (omega (arith, pop-first p)) (omega (arith, pop-first p)));
    push_head = λ p i j. absurd (h (omega (arith, push-later p)) (omega (arith, push-later p)));
  }

  -- the pop P is under way
  pub of-pop : {φ : Phase} (P : Pop) → PopRelated regions m (slot_of v t) P φ → Lists
  of-pop P h =
      let i = span h in
      let own : Span (pop_place P) q = omega arith in
      record {
        pop_head = λ p a b.
            subst
            (λ (z : Pop). pop_place z + TO_NEXT ≤ q → OneTo (how_many (pop_items z) regions) (item_of (v (TaskHead t))))
            (sym (pop-at P q own) ∙ pop-at p q (omega arith)) (noted-head h) a;
        pop-next = λ p a b.
            subst (λ (z : Pop). pop_place z + TO_EXCHANGE ≤ q → v (TaskNext t) ≤ how_many (pop_items z) regions)
            (sym (pop-at P q own) ∙ pop-at p q (omega arith)) (λ b. is-ready h b (λ n r. r.most)) a;
        push_head = λ p a b. absurd (omega (arith, pop-first P, push-later p));
      }

  -- the push P is under way
  pub of-push : {ℓ least : ℕ} {Ready : ℕ → Type 0} {φ : Phase} (P : Push)
      → MoveRelated m (slot_of v t) (push_place P) ℓ (how_many (push_items P) regions) least Ready φ → Lists
  of-push P h =
      let i = span h in
      let own : Span (push_place P) q = omega arith in
      record {
        pop_head = λ p a b. absurd (omega (arith, pop-first p, push-later P));
        pop-next = λ p a b. absurd (omega (arith, pop-first p, push-later P));
        push_head = λ p a b.
            subst
            (λ (z : Push). push_place z + TO_NEXT ≤ q → item_of (v (TaskHead t)) ≤ how_many (push_items z) regions)
            (sym (push-at P q own) ∙ push-at p q (omega arith)) (λ b. (noted-head h b).1) a;
      }
