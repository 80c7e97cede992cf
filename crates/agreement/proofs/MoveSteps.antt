-- The lists, for pops and pushes alike: what the relation says of one, and the steps that both moves have.
use mathlib.Core.Path.{◌≡◌, refl, ◌∙◌}
use mathlib.Core.Logic.{◌≢◌}
use mathlib.Core.Bool.{cond}
use mathlib.Core.List.{List, [], ◌∷◌}
use Prim.Native.Nat.{ℕ, suc, ◌+◌, ◌≤◌, ◌<◌}
use native.Mathlib.Omega.{arith}
use native.Mathlib.Decide.{ℕ_discrete}
use borrow.Author.Tests.{eq-eqb, ne_eqb, eqb-true}
use lib.Dec.{eqb}
use Rattle.limits.specs.Limits.{CLASSES, DESCRIPTORS, TAGS, SPARE_REGIONS, LISTS, DESCRIPTOR_LISTS}
use Rattle.rows.specs.Branch.{if}
use Rattle.rows.specs.Linked.{Linked}
use Rattle.fields.specs.Columns.{View, Write, ◌:=◌, assigned}
use Rattle.words.specs.Head.{TAG_WEIGHT, item_of, tag_of, head_of, advanced_word}
use Rattle.words.specs.declared.head.Head.{Head as HeadWord}
use Rattle.words.proofs.Heads.{item_of-advanced, tag_of-advanced}
use Rattle.plain.specs.State.{Place, Mem, set_row}
use Rattle.plain.specs.Moves.{Decided, nothing, going}
use Rattle.plain.specs.Steps.{Result, at_place}
use Rattle.plain.proofs.PlaceAlone.{task_of}
use Rattle.control.specs.Layout.{Head, DescriptorNext, RegionNext, TaskPlace, TaskHead}
use Rattle.control.specs.Answers.{code_of, value_of}
use Rattle.control.specs.Answers.{Answer}
use Rattle.stepped.specs.Outcome.{Outcome, accept, over}
use Rattle.stepped.specs.Lists.{Items, how_many, next_field}
use Rattle.agreement.specs.Contents.{Slot, slot_of, contents_of}
use Rattle.agreement.specs.Relation.{wrap, HeadNoted, PlaceRelated, Related}
use Rattle.agreement.proofs.ListMoves.{ListOf, descriptors, spare-regions}
use Rattle.agreement.proofs.Slots.{to_place, to_head}
use Rattle.agreement.proofs.Sets.{with_slots, set_slot, set_head}
use Rattle.agreement.proofs.ListTops.{top_of, top-le, listed, listed-region, same_word, word_same, won-same}
use Rattle.agreement.proofs.ListTops.{same-won, next-tag, fresh}
use Rattle.agreement.proofs.TurnChanges.{heading}
use Rattle.agreement.proofs.Both.{Both, decide}
use Rattle.agreement.proofs.Turns.{At, goes}
use Rattle.agreement.proofs.Sharing.{shares}

-- what the relation says of a list
pub record ListTied (regions : ℕ) (v : View) (m : Mem) (items : Items) (ℓ : ℕ) : Type 0 where
  pub below : ℓ < LISTS
  pub most : how_many items regions ≤ DESCRIPTORS
  pub linked : Linked (λ (x : ℕ). v (next_field items x)) suc 0 (item_of (v (Head ℓ))) (m.row ℓ)
  pub nexts : (x : ℕ) → x < how_many items regions → v (next_field items x) ≤ how_many items regions
  pub noted : HeadNoted m ℓ (head_of (v (Head ℓ))) (m.won ℓ)
  pub head : item_of (v (Head ℓ)) ≤ how_many items regions

-- the exchange with the noted head is won, and leaves the item x, which is a number plus one, on top of the row q
pub record Won (v : View) (m : Mem) (t : ℕ) (items : Items) (ℓ x : ℕ) (q : List ℕ) : Type 0 where
  pub tag : wrap (tag_of (v (TaskHead t)) + 1) ≡ wrap (m.won ℓ + 1)
  pub most : x ≤ DESCRIPTORS
  pub linked : Linked (λ (y : ℕ). v (next_field items y)) suc 0 x q

-- a list of descriptors is linked by their nexts, one of regions by theirs
module _ (v : View) {f : ℕ} {q : List ℕ} where
  of-descriptors : {items : Items} {ℓ : ℕ} → ListOf items ℓ → Linked (λ (y : ℕ). v (next_field items y)) suc 0 f q
      → ℓ < DESCRIPTOR_LISTS
      → Linked (λ (y : ℕ). v (DescriptorNext y)) suc 0 f q
  of-descriptors (descriptors l) h b = h
  of-descriptors spare-regions h b = absurd (omega arith)

  of-regions : {items : Items} {ℓ : ℕ} → ListOf items ℓ → Linked (λ (y : ℕ). v (next_field items y)) suc 0 f q
      → ℓ ≡ SPARE_REGIONS
      → Linked (λ (y : ℕ). v (RegionNext y)) suc 0 f q
  of-regions (descriptors l) h b = absurd (omega arith)
  of-regions spare-regions h b = h

module _ {regions : ℕ} {v : View} {area : List ℕ} {m : Mem} {t : ℕ} {p : Place} {k : ℕ → List ℕ}
    (w : At regions v area m t p k) where
  pub list-of : {items : Items} {ℓ : ℕ} → ListOf items ℓ → ListTied regions v m items ℓ
  list-of (descriptors {ℓ = ℓ} l) =
      let C = w.pair.rel.core in
      record {
        below = omega arith;
        most = omega arith;
        linked = C.lists.rows ℓ l;
        nexts = C.lists.descriptor_nexts;
        noted = fresh (head_of (v (Head ℓ))) (C.lists.tags ℓ (omega arith)) (top_of (C.lists.rows ℓ l));
        head = top-le (C.lists.rows ℓ l) (listed w.pair.turn.inv ℓ l);
      }
  list-of spare-regions =
      let C = w.pair.rel.core in
      record {
        below = omega arith;
        most = omega (arith, w.pair.small);
        linked = C.lists.spare_row;
        nexts = C.lists.region_nexts;
        noted =
            fresh (head_of (v (Head SPARE_REGIONS))) (C.lists.tags SPARE_REGIONS (omega arith))
            (top_of C.lists.spare_row);
        head = top-le C.lists.spare_row (listed-region w.pair.turn.inv);
      }

  -- what is noted stands where the task alone changes
  pub kept : {ℓ n : ℕ} {h : HeadWord} (p' : Place) → HeadNoted m ℓ h n → HeadNoted (at_place t k p' m) ℓ h n
  kept p' N = record { past = N.past; tags = N.tags; same = N.same }

  -- the place alone changes, as where a list is found empty
  pub moves : (A : Answer) (e : Decided) (b : ℕ) (p' : Place) → b < 256
      → PlaceRelated regions (set_slot t (to_place b (slot_of v t)) (contents_of v area)) (at_place t k p' m)
      (to_place b (slot_of v t)) p'
      → Both regions v area m (over A e (TaskPlace t := b ∷ []) [])
      (at_place t k p' m, record { code = code_of A; value = value_of A; decided = e })
  moves A e b p' l h = record {
    says = refl;
    keeps = (refl, refl);
    rel = goes w (TaskPlace t := b ∷ []) (to_place b (slot_of v t)) p'
        refl (rw (eq-eqb t t refl)) (λ j n. rw (ne_eqb t j n)) refl refl h;
    sound = omega (arith, w.pair.turn.fits);
    apart = tt;
  }

  -- the head read: the head word is noted
  pub notes : (ℓ b : ℕ) (p' : Place) → ℓ < LISTS → b < 256
      → PlaceRelated regions
      (set_slot t (to_place b (to_head (head_of (v (Head ℓ))) (slot_of v t))) (contents_of v area))
      (at_place t k p' m) (to_place b (to_head (head_of (v (Head ℓ))) (slot_of v t))) p'
      → Both regions v area m (accept nothing (TaskPlace t := b ∷ TaskHead t := v (Head ℓ) ∷ []) [])
      (at_place t k p' m, going nothing)
  notes ℓ b p' i l h = record {
    says = refl;
    keeps = (refl, refl);
    rel = goes w (TaskPlace t := b ∷ TaskHead t := v (Head ℓ) ∷ [])
        (to_place b (to_head (head_of (v (Head ℓ))) (slot_of v t))) p'
        refl (rw (eq-eqb t t refl)) (λ j n. rw (ne_eqb t j n)) refl refl h;
    sound = omega (arith, w.pair.turn.fits, w.fitting (Head ℓ) (omega arith));
    apart = tt;
  }

  -- the exchange is won in both pools or in neither
  pub exchanges : {items : Items} {ℓ n : ℕ} → ListTied regions v m items ℓ → HeadNoted m ℓ (head_of (v (TaskHead t))) n
      → m.won ℓ < n + TAGS → {o o' : Outcome} {y y' : Result}
      → (m.won ℓ ≡ n → wrap (tag_of (v (TaskHead t)) + 1) ≡ wrap (m.won ℓ + 1) → Both regions v area m o y)
      → Both regions v area m o' y'
      → Both regions v area m (cond (eqb (v (Head ℓ)) (v (TaskHead t))) o o') (if (ℕ_discrete (m.won ℓ) n) y y')
  exchanges {ℓ} {n = n} L N near f g =
      let h = v (Head ℓ) in
      let w = v (TaskHead t) in
      decide (eqb h w) (ℕ_discrete (m.won ℓ) n)
      (λ e. won-same N (head_of h) L.noted.tags near (word_same h w (eqb-true h w e)))
      (λ e. eq-eqb h w (same_word h w (same-won N (head_of h) L.noted.tags (L.noted.same refl) e)))
      (λ b e. f e (next-tag N (head_of h) L.noted.tags e)) (λ b e. g)

  -- The exchange is won, and the writes ws, the new head word among them, change the task's own part to s, but not its
  -- caches: it goes to the place p'.
  pub wins : {items : Items} {ℓ x : ℕ} {q : List ℕ} → ListOf items ℓ → Won v m t items ℓ x q
      → (ws : List Write) (s : Slot) (p' : Place)
      → contents_of (assigned ws v) area
      ≡ with_slots (slot_of (assigned ws v))
      (set_head ℓ (head_of (advanced_word (v (TaskHead t)) x)) (contents_of v area))
      → slot_of (assigned ws v) t ≡ s → ((j : ℕ) → t ≢ j → slot_of (assigned ws v) j ≡ slot_of v j)
      → s.class < CLASSES → s.caches ≡ (slot_of v t).caches
      → PlaceRelated regions
      (set_slot t s (set_head ℓ (head_of (advanced_word (v (TaskHead t)) x)) (contents_of v area)))
      (at_place t k p' (set_row ℓ q m)) s p'
      → Related regions (contents_of (assigned ws v) area) (at_place t k p' (set_row ℓ q m))
  wins {ℓ} {x = x} {q = q} K W ws s p' e own others f g pl =
      let word = v (TaskHead t) in
      let new = head_of (advanced_word word x) in
      let i : x < TAG_WEIGHT = omega (arith, W.most) in
      shares w ws s p' (set_head ℓ new (contents_of v area)) (set_row ℓ q m)
      (heading w.pair ℓ new q s (task_of p' k) (tag_of-advanced word x i ∙ W.tag)
      (of-descriptors v K (rw (item_of-advanced word x i) W.linked))
      (of-regions v K (rw (item_of-advanced word x i) W.linked)))
      e refl refl own others f g pl
