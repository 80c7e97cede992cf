-- The three steps of a pop, in both pools, for every reason.
use mathlib.Core.Path.{◌≡◌, refl, sym, ap, subst, ◌∙◌}
use mathlib.Core.Bool.{◌&&◌}
use mathlib.Core.List.{List, [], ◌∷◌}
use Prim.Native.Nat.{ℕ, suc, ◌+◌, ◌-◌, ◌≤◌, ◌<◌}
use native.Mathlib.Omega.{arith}
use native.Mathlib.Numerals.{sub-one}
use borrow.Author.Tests.{eq-eqb, ne_eqb, le-leb}
use lib.Dec.{eqb, leb}
use Rattle.limits.specs.Limits.{DESCRIPTORS, TAGS, SPARE_DESCRIPTORS, SPARE_REGIONS}
use Rattle.rows.specs.Linked.{Linked}
use Rattle.fields.specs.Columns.{View, ◌:=◌, assigned}
use Rattle.words.specs.Head.{item_of, head_of, advanced_word}
use Rattle.words.proofs.Heads.{advanced_word-below}
use Rattle.plain.specs.State.{EMPTY, Phase, read, next, exchange, Place, idle, popping, pushing, Mem, set_row, working}
use Rattle.plain.specs.State as Plain
use Rattle.plain.specs.Moves.{Decided, found_empty, popped, lost, going}
use Rattle.plain.specs.Steps.{top}
use Rattle.plain.specs.Steps as Steps
use Rattle.control.specs.Layout.{Head, TaskPlace, TaskHead, TaskNext, TaskClass, TaskDescriptor, TaskRegion}
use Rattle.control.specs.Places.{IDLE, POP_SPARE, POP_REGION, PUSH_BACK, A3_READ, A7}
use Rattle.control.specs.Places.{TO_NEXT, TO_EXCHANGE}
use Rattle.control.specs.Answers.{Accepted, NoDescriptor}
use Rattle.control.specs.declared.moves.Pop.{Pop}
use Rattle.control.specs.declared.moves.Pop.TheVariants.{Partial, Spare, Region}
use Rattle.control.specs.declared.moves.Push.TheVariants.{Back}
use Rattle.stepped.specs.Outcome.{accept}
use Rattle.stepped.specs.Ranges.{one_to}
use Rattle.stepped.specs.Lists as Lists
use Rattle.stepped.specs.Lists.{Items, how_many, next_field, pop_items}
use Rattle.stepped.specs.Steps as Stepped
use Rattle.stepped.proofs.MovePlaces.{pop-steps}
use Rattle.agreement.specs.Events.{Recent}
use Rattle.agreement.specs.Contents.{slot_of, contents_of}
use Rattle.agreement.specs.Relation.{tail, at_read, at_next, at_exchange, PopRelated, plain_pop, r_popping}
use Rattle.agreement.specs.Relation.{r_pushing, r_a3_read, r_a7, PlaceRelated, r_idle, r_working}
use Rattle.agreement.proofs.BothPass.{both_true}
use Rattle.agreement.proofs.Slots.{to_place, to_next, to_descriptor, to_region}
use Rattle.agreement.proofs.Sets.{set_slot, set_head}
use Rattle.agreement.proofs.AssignedContents.{head-written}
use Rattle.agreement.proofs.ListTops.{top_of, tail_of, next_of}
use Rattle.agreement.proofs.TurnInBoth.{mine}
use Rattle.agreement.proofs.Both.{Both, pass, by_row, has-top}
use Rattle.agreement.proofs.Turns.{At, goes, loses}
use Rattle.agreement.proofs.ListMoves.{pop-first, ListOf, popped-list}
use Rattle.agreement.proofs.MoveSteps.{list-of, Won, kept, moves, notes, exchanges, wins}

-- the pop that the task t has under way, and its list
abbrev pub pop_of : View → ℕ → Pop → Plain.Pop
pop_of v t P = plain_pop P (v (TaskClass t)) (slot_of v t).hand

abbrev pub list_of : View → ℕ → Pop → ℕ
list_of v t P = Lists.pop_list P (v (TaskClass t))

-- both pools name the same list
pop-list : (v : View) (t : ℕ) (P : Pop) → Steps.pop_list (pop_of v t P) ≡ list_of v t P
pop-list v t Partial = refl
pop-list v t Spare = refl
pop-list v t Region = refl

-- the head word that a won pop writes: the noted one, advanced to the noted next
abbrev advanced : View → ℕ → ℕ
advanced v t = advanced_word (v (TaskHead t)) (v (TaskNext t))

advanced-fits : {v : View} {m : Mem} {t ℓ : ℕ} {items : Items} {q : List ℕ} → Won v m t items ℓ (v (TaskNext t)) q
    → advanced v t < 18446744073709551616
advanced-fits {v} {t = t} W = advanced_word-below (v (TaskHead t)) (v (TaskNext t)) (omega (arith, W.most))

module _ {regions : ℕ} {v : View} {area : List ℕ} {m : Mem} {t : ℕ} {k : ℕ → List ℕ} where
  kind : {p : Place} (P : Pop) → At regions v area m t p k → ListOf (pop_items P) (list_of v t P)
  kind P w = popped-list P (v (TaskClass t)) (mine w.pair).fits

  -- ---- the head read

  found_none : (P : Pop) → At regions v area m t (working (popping (pop_of v t P) read)) k
      → Both regions v area m (Lists.when_empty v regions t (v (TaskClass t)) P (found_empty (list_of v t P)))
      (Steps.pop_read t k (pop_of v t P) [] m)
  found_none Partial w =
      let c = v (TaskClass t) in
      moves w Accepted (found_empty c) POP_SPARE (working (popping (Plain.spare c) read)) (omega arith)
      (r_working (r_popping Spare (at_read refl)))
  found_none Spare w = moves w NoDescriptor (found_empty SPARE_DESCRIPTORS) IDLE idle (omega arith) (r_idle refl)
  found_none Region w =
      moves w Accepted (found_empty SPARE_REGIONS) PUSH_BACK
      (working (pushing (Plain.back (v (TaskClass t)) (v (TaskDescriptor t))) read))
      (omega arith) (r_working (r_pushing Back EMPTY tt (at_read refl)))

  pub pop-read : (P : Pop) → At regions v area m t (working (popping (pop_of v t P) read)) k
      → Both regions v area m (Lists.pop_read v regions t (v (TaskClass t)) P)
      (Steps.pop_step t k (pop_of v t P) read m)
  unfolding Lists.pop_read
  pop-read P w =
      let ℓ = list_of v t P in
      let L = list-of w (kind P w) in
      let item = item_of (v (Head ℓ)) in
      let items = how_many (pop_items P) regions in
      let p' = working (popping (pop_of v t P) (next (m.won ℓ))) in
      rw (pop-list v t P)
      (by_row (eqb item 0) (λ q. Steps.pop_read t k (pop_of v t P) q m) (m.row ℓ)
      (λ e. eq-eqb item 0 (L.noted.same refl ∙ ap top e))
      (λ x q e. ne_eqb item 0 (omega (arith, L.noted.same refl, ap top e)))
      (λ e. found_none P w)
      (λ x q e. rw (pop-list v t P)
      (pass (leb item items) (le-leb item items L.head)
      (notes w ℓ (Lists.pop_place P + TO_NEXT) p' L.below (omega (arith, pop-first P))
      (r_working (r_popping P
      (at_next refl (kept w p' L.noted) (omega (arith, L.noted.same refl, ap top e)) L.head)))))))

  -- ---- the next read

  pub pop-next : (P : Pop) {n : ℕ} → At regions v area m t (working (popping (pop_of v t P) (next n))) k
      → PopRelated regions m (slot_of v t) P (next n)
      → Both regions v area m (Lists.pop_next v regions t (v (TaskClass t)) P)
      (Steps.pop_step t k (pop_of v t P) (next n) m)
  unfolding Lists.pop_next Lists.pop_next_of
  pop-next P {n} w (at_next e N i l) =
      let L = list-of w (kind P w) in
      let items = how_many (pop_items P) regions in
      let item = item_of (v (TaskHead t)) in
      let below = v (next_field (pop_items P) (item - 1)) in
      let b : below ≤ items = L.nexts (item - 1) (omega arith) in
      let p' = working (popping (pop_of v t P) (exchange n)) in
      pass (one_to items item) (both_true (le-leb 1 item i) (le-leb item items l))
      (pass (leb below items) (le-leb below items b)
      (record {
        says = refl;
        keeps = (refl, refl);
        rel = goes w (TaskPlace t := (Lists.pop_place P + TO_EXCHANGE) ∷ TaskNext t := below ∷ [])
            (to_place (Lists.pop_place P + TO_EXCHANGE) (to_next below (slot_of v t))) p'
            refl (rw (eq-eqb t t refl)) (λ j n. rw (ne_eqb t j n)) refl refl
            (r_working (r_popping P (at_exchange refl (kept w p' N) i l (record {
              most = b;
              below = λ z. rw (sub-one item) (next_of item L.linked (N.same z) i);
            }))));
        sound = omega (arith, w.pair.turn.fits, pop-first P, L.most);
        apart = tt;
      }))

  -- ---- the exchange

  -- won with the descriptor x, which is then in hand
  descriptor-won : {items : Items} {ℓ : ℕ} {p : Place} {q : List ℕ} → At regions v area m t p k → ListOf items ℓ
      → Won v m t items ℓ (v (TaskNext t)) q
      → (e : Decided) (x b : ℕ) (p' : Place) → x < DESCRIPTORS → b < 256
      → PlaceRelated regions (set_slot t (to_place b (to_descriptor x (slot_of v t)))
      (set_head ℓ (head_of (advanced v t)) (contents_of v area))) (Steps.at_place t k p' (set_row ℓ q m))
      (to_place b (to_descriptor x (slot_of v t))) p'
      → Both regions v area m (accept e (TaskPlace t := b ∷ TaskDescriptor t := x ∷ Head ℓ := advanced v t ∷ []) [])
      (Steps.at_place t k p' (set_row ℓ q m), going e)
  descriptor-won {ℓ} w K W e x b p' l i pl =
      let ws = TaskPlace t := b ∷ TaskDescriptor t := x ∷ Head ℓ := advanced v t ∷ [] in
      record {
        says = refl;
        keeps = (refl, refl);
        rel = wins w K W ws (to_place b (to_descriptor x (slot_of v t))) p'
            (head-written v (slot_of (assigned ws v)) area ℓ (advanced v t))
            (rw (eq-eqb t t refl)) (λ j n. rw (ne_eqb t j n)) (mine w.pair).fits refl pl;
        sound = omega (arith, w.pair.turn.fits, (list-of w K).below, advanced-fits W);
        apart = tt;
      }

  -- won with the item x
  pop-won : (P : Pop) {n : ℕ} {q : List ℕ} → At regions v area m t (working (popping (pop_of v t P) (exchange n))) k
      → (x : ℕ) → x < DESCRIPTORS
      → Won v m t (pop_items P) (list_of v t P) (v (TaskNext t)) q
      → Both regions v area m
      (Lists.when_popped v regions t (v (TaskClass t)) P x (popped (list_of v t P) x)
      (Head (list_of v t P) := advanced v t ∷ [])) (
        Steps.at_work t k (Steps.when_popped (pop_of v t P) x) (set_row (list_of v t P) q m),
        going (popped (list_of v t P) x),
      )
  pop-won Partial w x l W =
      let c = v (TaskClass t) in
      descriptor-won w (kind Partial w) W (popped c x) x A3_READ (working (Plain.a3-read c x)) l (omega arith)
      (r_working (r_a3_read refl))
  pop-won Spare w x l W =
      descriptor-won w (kind Spare w) W (popped SPARE_DESCRIPTORS x) x POP_REGION
      (working (popping (Plain.region (v (TaskClass t)) x) read)) l
      (omega arith) (r_working (r_popping Region (at_read refl)))
  pop-won Region w x l W =
      let ws = TaskPlace t := A7 ∷ TaskRegion t := x ∷ Head SPARE_REGIONS := advanced v t ∷ [] in
      record {
        says = refl;
        keeps = (refl, refl);
        rel = wins w (kind Region w) W ws (to_place A7 (to_region x (slot_of v t)))
            (working (Plain.a7 (v (TaskClass t)) (v (TaskDescriptor t)) x))
            (head-written v (slot_of (assigned ws v)) area SPARE_REGIONS (advanced v t))
            (rw (eq-eqb t t refl)) (λ j n. rw (ne_eqb t j n)) (mine w.pair).fits refl
            (r_working (r_a7 refl));
        sound = omega (arith, w.pair.turn.fits, advanced-fits W);
        apart = tt;
      }

  pub pop-exchange : (P : Pop) {n : ℕ} → At regions v area m t (working (popping (pop_of v t P) (exchange n))) k
      → PopRelated regions m (slot_of v t) P (exchange n)
      → m.won (list_of v t P) < n + TAGS
      → Both regions v area m (Lists.pop_exchange v regions t (v (TaskClass t)) P)
      (Steps.pop_step t k (pop_of v t P) (exchange n) m)
  unfolding Lists.pop_exchange
  pop-exchange P w (at_exchange e N i l r) near =
      let ℓ = list_of v t P in
      let L = list-of w (kind P w) in
      let items = how_many (pop_items P) regions in
      let item = item_of (v (TaskHead t)) in
      let head = item_of (v (Head ℓ)) in
      let below = v (TaskNext t) in
      rw (pop-list v t P)
      (pass (one_to items item && leb below items && leb head items)
      (both_true (both_true (both_true (le-leb 1 item i) (le-leb item items l)) (le-leb below items r.most))
      (le-leb head items L.head))
      (exchanges w L N near
      (λ z g. has-top (λ q. Steps.pop_take t k (pop_of v t P) q m) (m.row ℓ)
      (λ u. absurd (omega (arith, N.same (sym z), ap top u)))
      (λ y q u. rw (pop-list v t P)
      (let same : item - 1 ≡ y = omega (arith, N.same (sym z), ap top u) in
      let rest = tail_of (subst (Linked (λ (x : ℕ). v (next_field (pop_items P) x)) suc 0 head) u L.linked) in
      let here : below ≡ v (next_field (pop_items P) y) =
      r.below (sym z) ∙ ap (λ (q : List ℕ). top (tail q)) u ∙ sym (top_of rest) in
      rw (← same) (pop-won P w (item - 1) (omega (arith, L.most))
      (record { tag = g; most = omega (arith, L.most); linked = rw here rest })))))
      (loses w (lost ℓ) (Lists.pop_place P) (working (popping (pop_of v t P) read)) (omega (arith, pop-first P))
      (r_working (r_popping P (at_read refl))))))

-- ---- the step list

-- a step of a pop, at whichever of them it is
pub pop-both : {regions : ℕ} {v : View} {area : List ℕ} {m : Mem} {t : ℕ} {k : ℕ → List ℕ} {φ : Phase} (link : ℕ → ℕ)
    (P : Pop) → At regions v area m t (working (popping (pop_of v t P) φ)) k → PopRelated regions m (slot_of v t) P φ
    → Recent (m.won (Steps.pop_list (pop_of v t P))) φ
    → Both regions v area m (Stepped.step_at v link regions t (v (TaskClass t)) (v (TaskPlace t)))
    (Steps.pop_step t k (pop_of v t P) φ m)
pop-both {regions} {v} {t = t} link P w (at_read e) near =
    rw (e, (pop-steps v link regions t (v (TaskClass t)) P).0) (pop-read P w)
pop-both {regions} {v} {t = t} link P w (at_next e N i l) near =
    rw (e, (pop-steps v link regions t (v (TaskClass t)) P).1) (pop-next P w (at_next e N i l))
pop-both {regions} {v} {t = t} link P w (at_exchange e N i l r) near =
    rw (e, (pop-steps v link regions t (v (TaskClass t)) P).2)
    (pop-exchange P w (at_exchange e N i l r) (rw (pop-list v t P) at near))
