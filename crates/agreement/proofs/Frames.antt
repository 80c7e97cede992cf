-- What a task's step leaves to the other tasks.
use mathlib.Core.Path.{◌≡◌, refl, sym, ap, subst, ◌∙◌}
use mathlib.Core.Logic.{◌≢◌}
use mathlib.Core.List.{List, [], ◌∷◌, ◌++◌}
use Prim.Native.Nat.{ℕ, ◌≤◌, ◌<◌}
use native.Mathlib.Omega.{arith}
use Rattle.limits.specs.Limits.{TASKS, CLASSES}
use Rattle.words.specs.declared.anchor.Anchor.{Anchor}
use Rattle.words.specs.declared.head.Head.{Head}
use Rattle.rows.specs.Counting.{count}
use Rattle.rows.specs.Update.{update}
use Rattle.rows.proofs.Counting.{count-append}
use Rattle.rows.proofs.Linked.{linked-frame}
use Rattle.rows.proofs.Totals.{total-one}
use Rattle.rows.proofs.Update.{update-all₂}
use Rattle.rows.proofs.Weights.{when-same}
use Rattle.links.specs.Link.{link}
use Rattle.plain.specs.State.{Mem, Note, Phase, Work, Place, working, Task, Purpose}
use Rattle.plain.specs.Noted.{Noted, unnoted, pop_noted, push_noted, anchor_noted, entry_noted, noted}
use Rattle.plain.specs.Held.{holds_descriptor, holds_region, under_way, own_blocks}
use Rattle.plain.specs.HolderWeights.{block_weight, row_weight}
use Rattle.stepped.specs.Lists.{Items, descriptor_items, region_items, push_items}
use Rattle.agreement.specs.Contents.{Lists, Contents, Slot, purpose_of}
use Rattle.agreement.specs.Relation.{HeadNoted, MoveRelated, at_read, at_next, at_exchange, PopReady, nexts}
use Rattle.agreement.specs.Relation.{in_hand, NoteRelated, GroupRelated, WorkRelated, r_a1, r_popping, r_pushing}
use Rattle.agreement.specs.Relation.{r_a3_read, r_a3_exchange, r_a4, r_a7, r_a8, r_f1, r_f2, r_f2_more, r_f3_read}
use Rattle.agreement.specs.Relation.{r_f3_link, r_f3_exchange, r_f4_clear, PlaceRelated, r_idle, r_working}
use Rattle.agreement.specs.Relation.{SlotRelated, Core, Related}
use Rattle.agreement.proofs.HeldItems.{HoldsItem, push-holds}
use Rattle.agreement.specs.Relation.{r_strip_take, r_strip_give, r_leave_end}
use Rattle.agreement.proofs.Purposes.{group-in}

-- x is the descriptor whose anchor is noted
abbrev pub Reads : ℕ → Noted → Type 0
Reads x unnoted = ⊥
Reads x (pop_noted p φ) = ⊥
Reads x (push_noted p φ) = ⊥
Reads x (anchor_noted d n) = x ≡ d
Reads x (entry_noted y d n) = x ≡ d

-- what a turn leaves of the lists to a task at the place p: what it noted stands or is past, and the nexts of what it
-- holds
pub record KeptLists (l l' : Lists) (won won' : ℕ → ℕ) (row row' : ℕ → List ℕ) (p : Place) : Type 0 where
  pub wins : (ℓ : ℕ) → won ℓ ≤ won' ℓ
  pub still : (ℓ : ℕ) → won' ℓ ≡ won ℓ → row' ℓ ≡ row ℓ
  pub descriptor_nexts : (x : ℕ) → 1 ≤ holds_descriptor x p → l'.descriptor_next x ≡ l.descriptor_next x
  pub region_nexts : (x : ℕ) → 1 ≤ holds_region x p → l'.region_next x ≡ l.region_next x

-- lists that have not changed are kept
pub lists-kept : {l : Lists} {won : ℕ → ℕ} {row : ℕ → List ℕ} {p : Place} → KeptLists l l won won row row p
lists-kept =
    record { wins = λ ℓ. omega arith; still = λ ℓ e. refl; descriptor_nexts = λ x h. refl; region_nexts = λ x h. refl }

-- what a turn leaves to another task
pub record Framed (a a' : Contents) (m m' : Mem) (T : Task) : Type 0 where
  pub lists : KeptLists a.lists a'.lists m.won m'.won m.row m'.row T.place
  pub links : (v : ℕ) → 1 ≤ block_weight v 0 T → link a'.area v ≡ link a.area v
  pub regions : (x : ℕ) → Reads x (noted T.place) → (m'.descriptor x).region ≡ (m.descriptor x).region

module _ {a a' : Contents} {m m' : Mem} {T : Task} (K : Framed a a' m m' T) where
  kept-noted : {ℓ : ℕ} {h : Head} {n : ℕ} → HeadNoted m ℓ h n → HeadNoted m' ℓ h n
  kept-noted {ℓ} {h} {n} N = record {
    past = omega (arith, K.lists.wins ℓ, N.past);
    tags = N.tags;
    same =
        λ e. rw (K.lists.still ℓ (omega (arith, K.lists.wins ℓ, N.past, e)))
        (N.same (omega (arith, K.lists.wins ℓ, N.past, e)));
  }

  kept_move : {s : Slot} {b ℓ items least : ℕ} {Ready Ready' : ℕ → Type 0} {φ : Phase}
      → ((n : ℕ) → HeadNoted m ℓ s.noted.head n → Ready n → Ready' n)
      → MoveRelated m s b ℓ items least Ready φ → MoveRelated m' s b ℓ items least Ready' φ
  kept_move f (at_read e) = at_read e
  kept_move f (at_next e N i l) = at_next e (kept-noted N) i l
  kept_move f (at_exchange {n} e N i l r) = at_exchange e (kept-noted N) i l (f n N r)

  -- a pop stays ready: its list is the same while the noted number stands
  kept-ready : {s : Slot} {ℓ items : ℕ} (n : ℕ) → HeadNoted m ℓ s.noted.head n → PopReady m s ℓ items n
      → PopReady m' s ℓ items n
  kept-ready {ℓ = ℓ} n N R = record {
    most = R.most;
    below =
        λ i. rw (K.lists.still ℓ (omega (arith, K.lists.wins ℓ, N.past, i)))
        (R.below (omega (arith, K.lists.wins ℓ, N.past, i)));
  }

  kept-note : {c d : ℕ} {n : Note} {b : Anchor} → (m'.descriptor d).region ≡ (m.descriptor d).region
      → NoteRelated m c d n b → NoteRelated m' c d n b
  kept-note {c} {d} {n} e N =
      record { state = N.state; count = N.count; avail = N.avail; first = rw e N.first; none = N.none }

  kept-group : {s : Slot} {y : ℕ} {g : List ℕ} → ((v : ℕ) → 1 ≤ count v (y ∷ g) → link a'.area v ≡ link a.area v)
      → GroupRelated a s y g → GroupRelated a' s y g
  kept-group {s} {y} {g} h G = record {
    front = G.front;
    last = G.last;
    is = G.is;
    linked =
        linked-frame (λ v e. h v (omega (arith, ap (count v) G.is, count-append v G.front (G.last ∷ []))))
        G.linked;
    last_is = G.last_is;
    counts = G.counts;
    region = G.region;
  }

-- the blocks under way count with the task's
under-links : {a a' : Contents} {m m' : Mem} {T : Task} → Framed a a' m m' T → (v : ℕ)
    → 1 ≤ count v (under_way T.place)
    → link a'.area v ≡ link a.area v
under-links K v h = K.links v (omega arith)

-- the blocks of a group count with the task's, behind its own
group-links : {a a' : Contents} {m m' : Mem} {T : Task} → Framed a a' m m' T → (z : Purpose) (q : List ℕ)
    → under_way T.place ≡ own_blocks z ++ q → (v : ℕ) → 1 ≤ count v q → link a'.area v ≡ link a.area v
group-links K z q e v h = under-links K v (omega (arith, ap (count v) e, group-in z q v))

-- the next of an item that the other task holds
kept_next : {a a' : Contents} {m m' : Mem} {T : Task} (items : Items) (x : ℕ) → Framed a a' m m' T
    → HoldsItem items x T.place
    → nexts items a' x ≡ nexts items a x
kept_next descriptor_items x K h = K.lists.descriptor_nexts x h
kept_next region_items x K h = K.lists.region_nexts x h

kept-work : {regions : ℕ} {a a' : Contents} {m m' : Mem} {s : Slot} {w : Work} {k : ℕ → List ℕ}
    → Framed a a' m m' (record { place = working w; cache = k }) → WorkRelated regions a m s w
    → WorkRelated regions a' m' s w
unfolding kept-group
kept-work K (r_a1 e) = r_a1 e
kept-work K (r_popping P h) = r_popping P (kept_move K (kept-ready K) h)
kept-work {s = s} K (r_pushing P z {φ} f h) =
    let same = kept_next (push_items P) (in_hand (push_items P) s.hand) K
    (push-holds P s.class (purpose_of s.unit) s.hand z φ) in
    r_pushing P z f (kept_move K (λ n N r. record { written = same ∙ r.written }) h)
kept-work K (r_a3_read e) = r_a3_read e
kept-work {s = s} K (r_a3_exchange e N i j k l) =
    r_a3_exchange e (kept-note K (K.regions s.hand.descriptor refl) N) i j k l
kept-work K (r_a4 e l n h) = r_a4 e (linked-frame (under-links K) l) n h
kept-work K (r_a7 e) = r_a7 e
kept-work K (r_a8 e) = r_a8 e
kept-work K (r_f1 e) = r_f1 e
kept-work K (r_f2 e z) = r_f2 e z
kept-work {s = s} K (r_f2_more {y = y} {g = g} e G) =
    r_f2_more e (kept-group K (group-links K (purpose_of s.unit) (y ∷ g) refl) G)
kept-work {s = s} K (r_f3_read {y = y} {g = g} e G) =
    r_f3_read e (kept-group K (group-links K (purpose_of s.unit) (y ∷ g) refl) G)
kept-work {s = s} K (r_f3_link {y = y} {g = g} e G N l) =
    r_f3_link e (kept-group K (group-links K (purpose_of s.unit) (y ∷ g) refl) G)
    (kept-note K (K.regions s.hand.descriptor refl) N) l
kept-work {s = s} K (r_f3_exchange {y = y} {g = g} e G N l f) =
    r_f3_exchange e (kept-group K (group-links K (purpose_of s.unit) (y ∷ g) refl) G)
    (kept-note K (K.regions s.hand.descriptor refl) N) l
    (under-links K G.last
    (omega (
      arith,
      ap (count G.last) G.is,
      count-append G.last G.front (G.last ∷ []),
      when-same G.last
          1,
      group-in (purpose_of s.unit) (y ∷ g) G.last,
    )) ∙ f)
kept-work K (r_f4_clear e h) = r_f4_clear e h
kept-work K (r_strip_take e) = r_strip_take e
kept-work K (r_strip_give e h) = r_strip_give e h
kept-work K (r_leave_end e) = r_leave_end e

kept-place : {regions : ℕ} {a a' : Contents} {m m' : Mem} {s : Slot} {p : Place} {k : ℕ → List ℕ}
    → Framed a a' m m' (record { place = p; cache = k }) → PlaceRelated regions a m s p → PlaceRelated regions a' m' s p
kept-place K (r_idle e) = r_idle e
kept-place {k = k} K (r_working W) = r_working (kept-work {k = k} K W)

pub kept_slot : {regions : ℕ} {a a' : Contents} {m m' : Mem} {s : Slot} {T : Task} → Framed a a' m m' T
    → SlotRelated regions a m s T → SlotRelated regions a' m' s T
kept_slot {T = T} K S = record {
  fits = S.fits;
  place = kept-place {p = T.place} {k = T.cache} K S.place;
  caches = record {
    tops = λ c l. linked-frame (λ v h. K.links v (omega (arith, total-one CLASSES (row_weight v) T.cache c l)))
        (S.caches.tops c l);
    counts = S.caches.counts;
  };
}

-- a task's step: what stands after it for that task, and what is kept for the others
pub after : {regions : ℕ} {a a' : Contents} {m m' : Mem} (t : ℕ) (s : Slot) (T : Task) → a'.slot ≡ update a.slot t s
    → m'.task ≡ update m.task t T
    → Core regions a' m' → SlotRelated regions a' m' s T → ((j : ℕ) → j < TASKS → j ≢ t → Framed a a' m m' (m.task j))
    → ((j : ℕ) → j < TASKS → SlotRelated regions a m (a.slot j) (m.task j)) → Related regions a' m'
after {regions} {a} {a'} {m} {m'} t s T e f C own kept old = record {
  core = C;
  slots =
      subst (λ (F : ℕ → Slot). (j : ℕ) → j < TASKS → SlotRelated regions a' m' (F j) (m'.task j)) (sym e)
      (subst (λ (G : ℕ → Task). (j : ℕ) → j < TASKS → SlotRelated regions a' m' (update a.slot t s j) (G j))
      (sym f)
      (update-all₂ (λ j z U. j < TASKS → SlotRelated regions a' m' z U) a.slot m.task t s T (λ l. own)
      (λ j d l. kept_slot (kept j l d) (old j l))));
}
