-- A cache of the task changes: what its two fields make of the tasks' parts, and a block under way that goes on top.
use mathlib.Core.Path.{◌≡◌, refl, sym, ap, subst, ◌∙◌}
use mathlib.Core.Logic.{◌≢◌}
use mathlib.Core.Bool.{true}
use mathlib.Core.List.{List, [], ◌∷◌, ◌++◌}
use Prim.Native.Nat.{ℕ, suc, ◌+◌, ◌≤◌, ◌<◌}
use native.Mathlib.Omega.{arith}
use native.Mathlib.Numerals.{add-one}
use lib.ListN.{length}
use Rattle.limits.specs.Limits.{UNITS, CLASSES}
use Rattle.rows.specs.Counting.{count}
use Rattle.rows.specs.Linked.{Linked, links}
use Rattle.rows.specs.Update.{update}
use Rattle.rows.proofs.Linked.{linked-frame}
use Rattle.fields.specs.Columns.{View, Write, ◌:=◌, assign, assigned, Sound}
use Rattle.classes.specs.Classes.{per_region}
use Rattle.classes.proofs.Tables.{per_region-high}
use Rattle.links.specs.Link.{◌⇒◌, link, with_link}
use Rattle.plain.specs.State.{Place, Mem}
use Rattle.plain.specs.Moves.{Decided}
use Rattle.plain.specs.Steps.{cached}
use Rattle.plain.specs.Held.{under_way}
use Rattle.plain.proofs.Owners.{home_of}
use Rattle.plain.proofs.PlaceAlone.{task_of}
use Rattle.control.specs.Answers.{code_of, value_of}
use Rattle.control.specs.Answers.{Answer}
use Rattle.control.specs.Layout
use Rattle.control.specs.Layout.{layout, Tasks, Regions, CacheTop, CacheCount, TaskClass}
use Rattle.stepped.specs.Outcome.{over}
use Rattle.stepped.specs.Ranges.{is_top}
use Rattle.agreement.specs.Contents.{TaskCaches, Slot, Contents, slot_of, contents_of}
use Rattle.agreement.specs.Relation.{PlaceRelated, Related}
use Rattle.agreement.proofs.Images.{append-sound}
use Rattle.agreement.proofs.Slots.{to_cache, with_caches}
use Rattle.agreement.proofs.Sets.{with_slots, set_slot, set_link}
use Rattle.agreement.proofs.AssignedContents.{becomes, cache-here, cache-there}
use Rattle.agreement.proofs.TurnInBoth.{Pair, mine, linking}
use Rattle.agreement.proofs.TaskBlocks.{below-tested, home_below, top-max, mine-under, mine-apart, cache-agrees}
use Rattle.agreement.proofs.TaskBlocks.{wrote, re-cache}
use Rattle.agreement.proofs.Both.{Both}
use Rattle.agreement.proofs.Turns.{At, cache-top, cache-count}

-- ---- lists of writes

-- writes after others
assigned-append : (ws xs : List Write) (v : View) → assigned (ws ++ xs) v ≡ assigned xs (assigned ws v)
assigned-append [] xs v = refl
assigned-append (x ∷ ws) xs v = assigned-append ws xs (assign x v)

-- ---- the fields of a cache

-- the view v after the writes of a cache's two fields
abbrev pub with_cache : ℕ → ℕ → ℕ → ℕ → View → View
with_cache t c b n v = assigned (CacheTop t c := b ∷ CacheCount t c := n ∷ []) v

module _ (v : View) (t c b n : ℕ) (l : c < CLASSES) where
  -- the task's part after the writes of a cache's two fields: it has that cache
  pub cache-own : slot_of (with_cache t c b n v) t ≡ to_cache c b n (slot_of v t)
  cache-own z = with_caches (record {
    top = cache-here (λ i. v (Layout.TopOfCache i)) t c b l z;
    count = cache-here (λ i. v (Layout.CountOfCache i)) t c n l z;
  }) (slot_of v t)

  -- the other tasks' parts after the writes of a cache's two fields: they are as they were
  pub cache-others : (j : ℕ) → t ≢ j → slot_of (with_cache t c b n v) j ≡ slot_of v j
  cache-others j d z = with_caches (record {
    top = cache-there (λ i. v (Layout.TopOfCache i)) t c b j l d z;
    count = cache-there (λ i. v (Layout.CountOfCache i)) t c n j l d z;
  }) (slot_of v j)

-- The memories after own and shared writes, which made v₁ of the view v, and those of a cache's two fields: what is
-- shared is as in a, and of the tasks' parts only that of t has changed, which is s with that cache.
pub cache-becomes : (v v₁ : View) (area : List ℕ) (t c b n : ℕ) (s : Slot) (a : Contents) → c < CLASSES
    → contents_of v₁ area ≡ with_slots (slot_of v₁) a → a.slot ≡ slot_of v → slot_of v₁ t ≡ s
    → ((j : ℕ) → t ≢ j → slot_of v₁ j ≡ slot_of v j)
    → contents_of (with_cache t c b n v₁) area ≡ set_slot t (to_cache c b n s) a
cache-becomes v v₁ area t c b n s a l e f own others =
    becomes v (with_cache t c b n v₁) area t (to_cache c b n s) a
    (ap (with_slots (slot_of (with_cache t c b n v₁))) e) f
    (cache-own v₁ t c b n l ∙ ap (to_cache c b n) own) (λ j d. cache-others v₁ t c b n l j d ∙ others j d)

-- over records: the block u under way goes on top of the cache of the request's class, above x
pushed : {regions : ℕ} {a : Contents} {m : Mem} {t : ℕ} {p : Place} {k : ℕ → List ℕ} (w : Pair regions a m t p k)
    (u x n : ℕ) (s : Slot) (p' : Place) → 1 ≤ count u (under_way p) → (a.slot t).caches.top (a.slot t).class ≡ x
    → n ≡ suc (length (k (a.slot t).class)) → s.class ≡ (a.slot t).class
    → s.caches ≡ (to_cache (a.slot t).class u n (a.slot t)).caches
    → PlaceRelated regions (set_slot t s (set_link u x a)) (cached t k (a.slot t).class (u ∷ k (a.slot t).class) p' m)
    s p'
    → Related regions (set_slot t s (set_link u x a)) (cached t k (a.slot t).class (u ∷ k (a.slot t).class) p' m)
pushed {a = a} {t = t} {k = k} w u x n s p' o i e f j pl =
    let c = (a.slot t).class in
    let lk : Linked (link a.area) (λ u. u) UNITS x (k c) =
    subst (λ (z : ℕ). Linked (link a.area) (λ u. u) UNITS z (k c)) i ((mine w).caches.tops c (mine w).fits) in
    let wr = wrote w u x o (top-max w c x (k c) lk (λ v. omega arith)) in
    linking w u x s (task_of p' (update k c (u ∷ k c))) (mine-under w u o).0
    (re-cache w _ _ s p' c u n (u ∷ k c) (λ e l. cache-agrees w u x o e l) f j
    (links refl (subst (λ (z : ℕ). Linked (link (with_link a.area u x)) (λ u. u) UNITS z (k c)) (sym wr)
    (linked-frame (cache-agrees w u x o c (mine w).fits) lk)))
    e pl)

module _ {regions : ℕ} {v : View} {area : List ℕ} {m : Mem} {t : ℕ} {p : Place} {k : ℕ → List ℕ}
    (w : At regions v area m t p k) where
  -- the top of the cache passes its test
  pub top-tested : is_top regions (v (TaskClass t)) (v (CacheCount t (v (TaskClass t))))
      (v (CacheTop t (v (TaskClass t)))) ≡ true
  top-tested =
      let c = v (TaskClass t) in
      rw (cache-count w)
      (below-tested w.pair c (v (CacheTop t c)) (k c) (λ u. omega arith)
      (subst (λ (z : ℕ). Linked (link area) (λ u. u) UNITS z (k c)) (cache-top w)
      ((mine w.pair).caches.tops c (mine w.pair).fits)))

  -- a block under way is a unit
  pub under-max : (u : ℕ) → 1 ≤ count u (under_way p) → u < UNITS
  under-max u o = omega (arith, w.pair.small, home_below w.pair (home_of w.pair.turn u o))

  -- The block u under way goes on top of the cache of the request's class, after the own writes ws, which make s of the
  -- task's part and do not change the caches: the task goes to the place p'.
  pub cache-push : (ws : List Write) (u : ℕ) (s : Slot) (p' : Place) → 1 ≤ count u (under_way p)
      → contents_of (assigned ws v) area ≡ with_slots (slot_of (assigned ws v)) (contents_of v area)
      → slot_of (assigned ws v) t ≡ s → ((j : ℕ) → t ≢ j → slot_of (assigned ws v) j ≡ slot_of v j)
      → s.class ≡ (slot_of v t).class → s.caches ≡ (slot_of v t).caches
      → PlaceRelated regions
      (set_slot t (to_cache (v (TaskClass t)) u (v (CacheCount t (v (TaskClass t))) + 1) s)
      (set_link u (v (CacheTop t (v (TaskClass t)))) (contents_of v area)))
      (cached t k (v (TaskClass t)) (u ∷ k (v (TaskClass t))) p' m)
      (to_cache (v (TaskClass t)) u (v (CacheCount t (v (TaskClass t))) + 1) s) p'
      → Related regions
      (contents_of (with_cache t (v (TaskClass t)) u (v (CacheCount t (v (TaskClass t))) + 1) (assigned ws v))
      (with_link area u (v (CacheTop t (v (TaskClass t))))))
      (cached t k (v (TaskClass t)) (u ∷ k (v (TaskClass t))) p' m)
  cache-push ws u s p' o e own others f g pl =
      let c = v (TaskClass t) in
      let n = v (CacheCount t c) + 1 in
      let x = v (CacheTop t c) in
      subst (λ (z : Contents). Related regions z (cached t k c (u ∷ k c) p' m))
      (sym (cache-becomes v (assigned ws v) (with_link area u x) t c u n s (set_link u x (contents_of v area))
      (mine w.pair).fits
      (ap (set_link u x) e) refl own others))
      (pushed w.pair u x n (to_cache c u n s) p' o (cache-top w)
      (add-one (v (CacheCount t c)) ∙ ap suc (cache-count w)) f
      (ap (λ (z : TaskCaches). record { top = update z.top c u; count = update z.count c n }) g) pl)

  -- The block u under way goes on top of the cache of the request's class, as a step: the cache has fewer than n
  -- blocks, and ws are sound.
  pub push-both : (answer : Answer) (e : Decided) (ws : List Write) (u : ℕ) (s : Slot) (p' : Place)
      → 1 ≤ count u (under_way p) → length (k (v (TaskClass t))) < per_region (v (TaskClass t)) → Sound layout ws
      → (assigned ws v Tasks ≡ v Tasks) × (assigned ws v Regions ≡ v Regions)
      → contents_of (assigned ws v) area ≡ with_slots (slot_of (assigned ws v)) (contents_of v area)
      → slot_of (assigned ws v) t ≡ s → ((j : ℕ) → t ≢ j → slot_of (assigned ws v) j ≡ slot_of v j)
      → s.class ≡ (slot_of v t).class → s.caches ≡ (slot_of v t).caches
      → PlaceRelated regions
      (set_slot t (to_cache (v (TaskClass t)) u (v (CacheCount t (v (TaskClass t))) + 1) s)
      (set_link u (v (CacheTop t (v (TaskClass t)))) (contents_of v area)))
      (cached t k (v (TaskClass t)) (u ∷ k (v (TaskClass t))) p' m)
      (to_cache (v (TaskClass t)) u (v (CacheCount t (v (TaskClass t))) + 1) s) p'
      → Both regions v area m
      (over answer e
      (ws
      ++ (CacheTop t (v (TaskClass t)) := u ∷ CacheCount t (v (TaskClass t)) := (v (CacheCount t (v (TaskClass t))) + 1)
      ∷ []))
      (u ⇒ v (CacheTop t (v (TaskClass t))) ∷ [])) (
        cached t k (v (TaskClass t)) (u ∷ k (v (TaskClass t))) p' m,
        record { code = code_of answer; value = value_of answer; decided = e },
      )
  push-both answer e ws u s p' o room sound keeps i own others f g pl =
      let c = v (TaskClass t) in
      let n = v (CacheCount t c) + 1 in
      let xs = CacheTop t c := u ∷ CacheCount t c := n ∷ [] in
      record {
        says = refl;
        rel = subst
            (λ (z : View). Related regions (contents_of z (with_link area u (v (CacheTop t c))))
            (cached t k c (u ∷ k c) p' m))
            (sym (assigned-append ws xs v)) (cache-push ws u s p' o i own others f g pl);
        keeps = (
          ap (λ (z : View). z Tasks) (assigned-append ws xs v) ∙ keeps.0,
          ap (λ (z : View). z Regions) (assigned-append ws xs v) ∙ keeps.1,
        );
        sound = append-sound ws xs sound
            (omega (
              arith,
              w.pair.turn.fits,
              (mine w.pair).fits,
              under-max u o,
              cache-count w,
              room,
              per_region-high
                  c,
            ));
        apart = (mine-apart w.pair u (mine-under w.pair u o).0, tt);
      }
