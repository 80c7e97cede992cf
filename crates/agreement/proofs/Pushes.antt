-- The three steps of a push, in both pools, for every reason.
use mathlib.Core.Path.{◌≡◌, refl, sym, ap, subst, ◌∙◌}
use mathlib.Core.Bool.{◌&&◌}
use mathlib.Core.List.{List, [], ◌∷◌}
use Prim.Native.Nat.{ℕ, suc, ◌+◌, ◌<◌}
use native.Mathlib.Omega.{arith}
use native.Mathlib.Numerals.{add-one}
use borrow.Author.Tests.{lt-ltb, le-leb}
use lib.Dec.{ltb, leb}
use Rattle.limits.specs.Limits.{TAGS, SPARE_DESCRIPTORS, SPARE_REGIONS}
use Rattle.rows.specs.Linked.{Linked, links}
use Rattle.fields.specs.Columns.{View, ◌:=◌}
use Rattle.words.specs.Head.{item_of}
use Rattle.words.specs.Anchor.{is_state}
use Rattle.words.specs.Anchor as Words
use Rattle.plain.specs.State.{State, Phase, read, next, exchange, Place, idle}
use Rattle.plain.specs.State.{popping}
use Rattle.plain.specs.State.{pushing, Mem, working}
use Rattle.plain.specs.State as Plain
use Rattle.plain.specs.Moves.{pushed, lost}
use Rattle.plain.specs.Steps as Steps
use Rattle.control.specs.Layout.{Head, TaskPlace, TaskHead, TaskClass, TaskUnit, TaskDescriptor, TaskRegion, TaskState}
use Rattle.control.specs.Places.{IDLE, POP_PARTIAL}
use Rattle.control.specs.Places.{TO_NEXT, TO_EXCHANGE}
use Rattle.control.specs.Answers.{Accepted, NoRegion}
use Rattle.control.specs.declared.moves.Pop.TheVariants.{Partial}
use Rattle.control.specs.declared.moves.Push.{Push}
use Rattle.control.specs.declared.moves.Push.TheVariants.{Retire, Back, Release, Offer}
use Rattle.stepped.specs.Lists as Lists
use Rattle.stepped.specs.Lists.{Items, descriptor_items, region_items, how_many, next_field, hand_field, push_items}
use Rattle.stepped.specs.Steps as Stepped
use Rattle.stepped.proofs.MovePlaces.{push-steps}
use Rattle.agreement.proofs.TaskBlocks.{unit-fits}
use Rattle.agreement.specs.Events.{Recent}
use Rattle.agreement.specs.Contents.{slot_of, contents_of, purpose_of}
use Rattle.agreement.specs.Relation.{at_read, at_next, at_exchange, nexts, in_hand, PushRelated, plain_push}
use Rattle.agreement.specs.Relation.{ReleaseNoted, r_popping, r_pushing, r_idle, r_working}
use Rattle.agreement.proofs.BothPass.{both_true}
use Rattle.agreement.proofs.Slots.{to_place}
use Rattle.agreement.proofs.TurnInBoth.{mine}
use Rattle.agreement.proofs.NotedAnchors.{number-max}
use Rattle.agreement.proofs.Both.{Both, pass}
use Rattle.agreement.proofs.Turns.{At, loses}
use Rattle.agreement.proofs.ListMoves.{push-later, ListOf, pushed-list}
use Rattle.agreement.proofs.HeldItems.{HoldsItem, push-holds}
use Rattle.agreement.proofs.MoveSteps.{list-of, Won, kept, notes, exchanges}
use Rattle.agreement.proofs.Nexts.{next-set, held_below, writes-next}
use Rattle.agreement.proofs.PushLeads.{advanced, leads-to, leads-five, leads-six}

-- ---- the push that the task t has under way, where z is the state found; its list; and its item

abbrev pub push_of : View → ℕ → State → Push → Plain.Push
push_of v t z P = plain_push P (v (TaskClass t)) (purpose_of (v (TaskUnit t))) (slot_of v t).hand z

abbrev pub list_of : View → ℕ → Push → ℕ
list_of v t P = Lists.push_list P (v (TaskClass t))

abbrev pub item_at : View → ℕ → Push → ℕ
item_at v t P = v (hand_field (push_items P) t)

-- both pools name the same list
push-list : (v : View) (t : ℕ) (z : State) (P : Push) → Steps.push_list (push_of v t z P) ≡ list_of v t P
push-list v t z Retire = refl
push-list v t z Back = refl
push-list v t z Release = refl
push-list v t z Offer = refl

-- the item that a push has in hand is in the task's field of its kind
item-is : (v : View) (t : ℕ) (items : Items) → in_hand items (slot_of v t).hand ≡ v (hand_field items t)
item-is v t descriptor_items = refl
item-is v t region_items = refl

-- the next of an item is in the column of its kind
next-is : (v : View) (area : List ℕ) (items : Items) (x : ℕ)
    → nexts items (contents_of v area) x ≡ v (next_field items x)
next-is v area descriptor_items x = refl
next-is v area region_items x = refl

-- a push holds its item
item-held : (v : View) (t : ℕ) (P : Push) (z : State) (φ : Phase)
    → HoldsItem (push_items P) (item_at v t P) (working (pushing (push_of v t z P) φ))
item-held v t P z φ =
    rw (item-is v t (push_items P)) at
    (push-holds P (v (TaskClass t)) (purpose_of (v (TaskUnit t))) (slot_of v t).hand z φ)

module _ {regions : ℕ} {v : View} {area : List ℕ} {m : Mem} {t : ℕ} {k : ℕ → List ℕ} where
  kind : {p : Place} (P : Push) → At regions v area m t p k → ListOf (push_items P) (list_of v t P)
  kind P w = pushed-list P (v (TaskClass t)) (mine w.pair).fits

  -- ---- the head read

  pub push-read : (P : Push) (z : State) → At regions v area m t (working (pushing (push_of v t z P) read)) k
      → ReleaseNoted P (v (TaskState t)) z
      → Both regions v area m (Lists.push_read v regions t (v (TaskClass t)) P)
      (Steps.push_step t k (push_of v t z P) read m)
  unfolding Lists.push_read
  push-read P z w f =
      let ℓ = list_of v t P in
      let L = list-of w (kind P w) in
      let item = item_of (v (Head ℓ)) in
      let items = how_many (push_items P) regions in
      let p' = working (pushing (push_of v t z P) (next (m.won ℓ))) in
      rw (push-list v t z P)
      (pass (leb item items) (le-leb item items L.head)
      (notes w ℓ (Lists.push_place P + TO_NEXT) p' L.below (omega (arith, push-later P))
      (r_working (r_pushing P z f (at_next refl (kept w p' L.noted) (omega arith) L.head)))))

  -- ---- the next written

  pub push-next : (P : Push) (z : State) {n : ℕ}
      → At regions v area m t (working (pushing (push_of v t z P) (next n))) k
      → ReleaseNoted P (v (TaskState t)) z
      → PushRelated regions (contents_of v area) m (slot_of v t) P (next n)
      → Both regions v area m (Lists.push_next v regions t (v (TaskClass t)) P)
      (Steps.push_step t k (push_of v t z P) (next n) m)
  unfolding Lists.push_next
  push-next P z {n} w f (at_next e N i l) =
      let x = item_at v t P in
      let items = how_many (push_items P) regions in
      let below = item_of (v (TaskHead t)) in
      let b = Lists.push_place P + TO_EXCHANGE in
      let p' = working (pushing (push_of v t z P) (exchange n)) in
      let h = item-held v t P z (next n) in
      pass (ltb x items && leb below items)
      (both_true (lt-ltb x items (held_below w (push_items P) x h)) (le-leb below items l))
      (writes-next w (push_items P) x below b p' h l (omega (arith, push-later P))
      (r_working (r_pushing P z f (at_exchange refl (kept w p' N) i l (record {
        written = rw (item-is v t (push_items P))
            (next-set (push_items P) t (to_place b (slot_of v t)) x below (contents_of v area));
      })))))

  -- ---- the exchange

  push-won : (P : Push) (z : State) {n : ℕ} → At regions v area m t (working (pushing (push_of v t z P) (exchange n))) k
      → ReleaseNoted P (v (TaskState t)) z
      → Won v m t (push_items P) (list_of v t P) (item_at v t P + 1) (item_at v t P ∷ m.row (list_of v t P))
      → Both regions v area m
      (Lists.when_pushed v regions t (v (TaskClass t)) P (pushed (list_of v t P) (item_at v t P))
      (Head (list_of v t P) := advanced v t (item_at v t P) ∷ []))
      (Steps.push_put t k (push_of v t z P) m)
  push-won Retire z w f W =
      let d = v (TaskDescriptor t) in
      leads-to w (kind Retire w) d W Accepted (pushed SPARE_DESCRIPTORS d) POP_PARTIAL
      (working (popping (Plain.partial (v (TaskClass t))) read))
      (omega arith) (r_working (r_popping Partial (at_read refl)))
  push-won Back z w f W =
      let d = v (TaskDescriptor t) in
      leads-to w (kind Back w) d W NoRegion (pushed SPARE_DESCRIPTORS d) IDLE idle (omega arith) (r_idle refl)
  push-won Release z w f W =
      let r = v (TaskRegion t) in
      let was = v (TaskState t) in
      pass (is_state was) (le-leb was Words.FULL (rw f (number-max z)))
      (leads-five w (kind Release w) r W (pushed SPARE_REGIONS r) z (unit-fits w.pair (λ x. omega arith)) f)
  push-won Offer z w f W =
      let d = v (TaskDescriptor t) in
      leads-six w (kind Offer w) d W (pushed (v (TaskClass t)) d) (unit-fits w.pair (λ x. omega arith))

  pub push-exchange : (P : Push) (z : State) {n : ℕ}
      → At regions v area m t (working (pushing (push_of v t z P) (exchange n))) k
      → ReleaseNoted P (v (TaskState t)) z
      → PushRelated regions (contents_of v area) m (slot_of v t) P (exchange n)
      → m.won (list_of v t P) < n + TAGS
      → Both regions v area m (Lists.push_exchange v regions t (v (TaskClass t)) P)
      (Steps.push_step t k (push_of v t z P) (exchange n) m)
  unfolding Lists.push_exchange
  push-exchange P z {n} w f (at_exchange e N i l r) near =
      let ℓ = list_of v t P in
      let K = kind P w in
      let L = list-of w K in
      let x = item_at v t P in
      let items = how_many (push_items P) regions in
      let item = item_of (v (TaskHead t)) in
      let head = item_of (v (Head ℓ)) in
      let j = held_below w (push_items P) x (item-held v t P z (exchange n)) in
      rw (push-list v t z P)
      (pass (ltb x items && leb item items && leb head items)
      (both_true (both_true (lt-ltb x items j) (le-leb item items l)) (le-leb head items L.head))
      (exchanges w L N near
      (λ y u.
      let same =
      L.noted.same refl ∙ sym (N.same (sym y)) ∙ sym r.written ∙ next-is v area (push_items P) _
      ∙ ap (λ (x : ℕ). v (next_field (push_items P) x)) (item-is v t (push_items P)) in
      rw (push-list v t z P) at (push-won P z w f (record {
        tag = u;
        most = omega (arith, L.most);
        linked = links (add-one x)
            (subst (λ (h : ℕ). Linked (λ (y : ℕ). v (next_field (push_items P) y)) suc 0 h (m.row ℓ)) same L.linked);
      })))
      (loses w (lost ℓ) (Lists.push_place P) (working (pushing (push_of v t z P) read))
      (omega (arith, push-later P)) (r_working (r_pushing P z f (at_read refl))))))

-- ---- the step list

-- a step of a push, wherever it is
pub push-both : {regions : ℕ} {v : View} {area : List ℕ} {m : Mem} {t : ℕ} {k : ℕ → List ℕ} {φ : Phase} (link : ℕ → ℕ)
    (P : Push) (z : State) → At regions v area m t (working (pushing (push_of v t z P) φ)) k
    → ReleaseNoted P (v (TaskState t)) z → PushRelated regions (contents_of v area) m (slot_of v t) P φ
    → Recent (m.won (Steps.push_list (push_of v t z P))) φ
    → Both regions v area m (Stepped.step_at v link regions t (v (TaskClass t)) (v (TaskPlace t)))
    (Steps.push_step t k (push_of v t z P) φ m)
push-both {regions} {v} {t = t} link P z w f (at_read e) near =
    rw (e, (push-steps v link regions t (v (TaskClass t)) P).0) (push-read P z w f)
push-both {regions} {v} {t = t} link P z w f (at_next e N i l) near =
    rw (e, (push-steps v link regions t (v (TaskClass t)) P).1) (push-next P z w f (at_next e N i l))
push-both {regions} {v} {t = t} link P z w f (at_exchange e N i l r) near =
    rw (e, (push-steps v link regions t (v (TaskClass t)) P).2)
    (push-exchange P z w f (at_exchange e N i l r) (rw (push-list v t z P) at near))
