-- The beginnings of requests, in both pools.
use mathlib.Core.Path.{◌≡◌, refl, sym, ap, subst, ◌∙◌}
use mathlib.Core.Bool.{Bool, true, false, cond, false≢true}
use mathlib.Core.List.{List, [], ◌∷◌}
use Prim.Native.Nat.{ℕ, zero, suc, ◌/◌, ◌%◌, ◌≤◌, ◌<◌}
use native.Mathlib.Omega.{arith}
use native.Mathlib.Numerals.{sub-one}
use native.Mathlib.Decide.{ℕ_discrete, dec_lt}
use borrow.Author.Tests.{eq-eqb, ne_eqb, le-leb, lt-ltb, eqb-true, eqb-false, ltb-true}
use lib.Dec.{eqb, ltb}
use Rattle.limits.specs.Limits.{REGION_UNITS, CLASSES, DESCRIPTORS, LARGEST_SIZE, LARGEST_STRIP, WORD_MARKS}
use Rattle.rows.specs.Branch.{if, both}
use Rattle.fields.specs.Columns.{View, Write, ◌:=◌, assigned}
use Rattle.words.specs.Anchor.{anchor_of}
use Rattle.words.specs.Anchor as Words
use Rattle.words.specs.Mark.{bit_at, is_set, with_clear}
use Rattle.words.proofs.Marks.{clear-below, clear-here, clear-others}
use Rattle.classes.specs.Classes.{units, per_region}
use Rattle.classes.specs.Sizes.{class_of}
use Rattle.classes.specs.Geometry.{region_of, index_of, is_first}
use Rattle.classes.proofs.Sizes.{is_class}
use Rattle.pieces.specs.StripSizes.{order_of}
use Rattle.pieces.proofs.StripSizes.{rounds}
use Rattle.plain.specs.State.{state_number, Place, idle, a1, f1, Mem, Task, set_task}
use Rattle.plain.specs.State.{set_hands}
use Rattle.plain.specs.State.{strip-take, Work, working}
use Rattle.plain.specs.Moves.{going, nothing, refused}
use Rattle.plain.specs.Steps.{Result}
use Rattle.plain.specs.Calls as Plain
use Rattle.plain.specs.Invariant.{Invariant}
use Rattle.plain.proofs.Homes.{inside-open}
use Rattle.plain.proofs.PlaceAlone.{task_of}
use Rattle.plain.proofs.ByState.{not-empty, larger-is}
use Rattle.control.specs.Layout.{TaskLost}
use Rattle.control.specs.Layout.{Anchor, Marks, TaskUnit, TaskPlace, TaskClass, DescriptorRegion, DescriptorClass}
use Rattle.control.specs.Places.{IDLE, A1, F1, STRIP_TAKE, PLACES}
use Rattle.stepped.specs.Outcome.{Outcome, refuse, accept}
use Rattle.stepped.specs.Ranges.{is_anchor}
use Rattle.stepped.specs.Calls as Stepped
use Rattle.agreement.proofs.TaskBlocks.{re-slot}
use Rattle.agreement.specs.Contents.{Slot, Contents, slot_of, contents_of}
use Rattle.agreement.specs.Relation.{PlaceRelated, r_idle, r_a1, r_f1, Related}
use Rattle.agreement.specs.Relation.{r_working, r_strip_take, WorkRelated}
use Rattle.agreement.proofs.BothPass.{both_true}
use Rattle.agreement.proofs.Slots.{to_request}
use Rattle.agreement.proofs.Sets.{set_slot, set_mark}
use Rattle.agreement.proofs.AssignedContents.{becomes, mark-written}
use Rattle.agreement.proofs.TurnInBoth.{quiet}
use Rattle.agreement.proofs.TurnChanges.{marking}
use Rattle.agreement.proofs.NotedAnchors.{anchor-tested}
use Rattle.stepped.proofs.Conjunction.{left-true, right-true}
use Rattle.agreement.proofs.Both.{Both, pass, meet, choose, decide}
use Rattle.agreement.proofs.Turns.{At}
use Rattle.agreement.proofs.WorkPlaces.{work-place}

module _ {regions : ℕ} {v : View} {area : List ℕ} {m : Mem} (R : Related regions (contents_of v area) m) where
  -- a refused call changes nothing
  pub refusal : (n : ℕ) → Both regions v area m (refuse n) (m, refused n)
  refusal n = record { says = refl; rel = R; keeps = (refl, refl); sound = tt; apart = tt }

  module _ (t : ℕ) (x : Outcome) (y : Result) where
    -- "6 the task has a request in hand"
    pub when-idle : (p : Place) → PlaceRelated regions (contents_of v area) m (slot_of v t) p
        → (p ≡ idle → Both regions v area m x y)
        → Both regions v area m (Stepped.when_idle v t x) (Plain.when_idle p y m)
    unfolding Stepped.when_idle
    when-idle p (r_idle e) h =
        rw (lt-ltb (v (TaskPlace t)) PLACES (omega arith), eq-eqb (v (TaskPlace t)) IDLE e) (h refl)
    when-idle p (r_working W) h =
        let i = work-place W in
        rw (lt-ltb (v (TaskPlace t)) PLACES (omega arith), ne_eqb (v (TaskPlace t)) IDLE (omega arith)) (refusal 6)

-- ---- an idle task begins a request

module _ {regions : ℕ} {v : View} {area : List ℕ} {m : Mem} {t : ℕ} {k : ℕ → List ℕ}
    (w : At regions v area m t idle k) where
  abbrev R : Related regions (contents_of v area) m
  R = w.pair.rel

  -- the beginning of an allocation writes the task's place, its class, or its order, and no lost exchange
  begins : (place c : ℕ) (p : Work) → c < CLASSES → place < PLACES
      → WorkRelated regions (set_slot t (to_request place c (v (TaskUnit t)) (slot_of v t)) (contents_of v area))
      (set_task t (task_of (working p) k) m) (to_request place c (v (TaskUnit t)) (slot_of v t)) p
      → Both regions v area m (accept nothing (TaskPlace t := place ∷ TaskClass t := c ∷ TaskLost t := 0 ∷ []) [])
      (set_task t (record { place = working p; cache = (m.task t).cache }) m, going nothing)
  begins place c p l n r =
      let s = to_request place c (v (TaskUnit t)) (slot_of v t) in
      let ws = TaskPlace t := place ∷ TaskClass t := c ∷ TaskLost t := 0 ∷ [] in
      record {
        says = refl;
        rel =
            subst (λ (z : Contents). Related regions z
            (set_task t (record { place = working p; cache = (m.task t).cache }) m))
            (sym (becomes v (assigned ws v) area t s (contents_of v area) refl refl (rw (eq-eqb t t refl))
            (λ j n. rw (ne_eqb t j n))))
            (subst (λ (q : ℕ → List ℕ). Related regions (set_slot t s (contents_of v area))
            (set_task t (record { place = working p; cache = q }) m)) (sym cache-is)
            (quiet w.pair s (task_of (working p) k) (re-slot w.pair _ _ s (working p) refl l refl (r_working r))));
        keeps = (refl, refl);
        sound = omega (arith, w.pair.turn.fits);
        apart = tt;
      }
    where
      cache-is : (m.task t).cache ≡ k
      cache-is = ap (λ (T : Task). T.cache) w.pair.turn.is

  -- allocate: "8 size 0"; "9 now means above 65,536"; up to 256 a small block, else a strip
  pub allocate-both : (size : ℕ) → Both regions v area m (Stepped.begin_allocate t size) (Plain.begin_allocate t size m)
  unfolding Stepped.begin_allocate
  allocate-both size =
      decide (eqb size 0) (ℕ_discrete size 0) (eqb-true size 0) (eq-eqb size 0) (λ e f. refusal R 8)
      (λ e f. decide (ltb LARGEST_STRIP size) (dec_lt LARGEST_STRIP size) (ltb-true LARGEST_STRIP size)
      (lt-ltb LARGEST_STRIP size)
      (λ g h. refusal R 9)
      (λ g h. sized (ltb LARGEST_SIZE size) (dec_lt LARGEST_SIZE size) (ltb-true LARGEST_SIZE size)
      (lt-ltb LARGEST_SIZE size) (omega arith)))
    where
      -- the place and the class, or the order, that the test of the size leads to
      sized : (b : Bool) (d : Dec (LARGEST_SIZE < size)) → (b ≡ true → LARGEST_SIZE < size)
          → (LARGEST_SIZE < size → b ≡ true) → size ≤ LARGEST_STRIP
          → Both regions v area m
          (cond b (accept nothing (TaskPlace t := STRIP_TAKE ∷ TaskClass t := order_of size ∷ TaskLost t := 0 ∷ []) [])
          (accept nothing (TaskPlace t := A1 ∷ TaskClass t := class_of size ∷ TaskLost t := 0 ∷ []) [])) (
            set_task t (record {
              place = working (if d (strip-take (order_of size)) (a1 (class_of size)));
              cache = (m.task t).cache;
            }) m,
            going nothing,
          )
      sized true (yes q) f g few =
          let l = (rounds size few).within in
          begins STRIP_TAKE (order_of size) (strip-take (order_of size)) (omega arith) (omega arith) (r_strip_take refl)
      sized true (no n) f g few = absurd (n (f refl))
      sized false (yes q) f g few = absurd (false≢true (g q))
      sized false (no n) f g few =
          begins A1 (class_of size) (a1 (class_of size)) (is_class size (omega arith)) (omega arith) (r_a1 refl)

-- ---- free

-- the test of a block's first unit, in both pools
first-same : (c u : ℕ) → is_first c u ≡ true → Plain.First c u
unfolding is_first
first-same c u e = (
  eqb-true (u % REGION_UNITS % units c) 0
      (left-true (eqb (u % REGION_UNITS % units c) 0) (ltb (index_of c u) (per_region c)) e),
  ltb-true (index_of c u) (per_region c)
      (right-true (eqb (u % REGION_UNITS % units c) 0) (ltb (index_of c u) (per_region c)) e),
)

same_first : (c u : ℕ) → Plain.First c u → is_first c u ≡ true
unfolding is_first
same_first c u p = both_true (eq-eqb (u % REGION_UNITS % units c) 0 p.0) (lt-ltb (index_of c u) (per_region c) p.1)

module _ {regions : ℕ} {v : View} {area : List ℕ} {m : Mem} {t : ℕ} {k : ℕ → List ℕ} (w : At regions v area m t idle k)
    (u : ℕ)
    (inside : region_of u < regions) where
  abbrev I : Invariant regions m
  I = w.pair.turn.inv

  -- the plain pool after the beginning of the free of a block of the class c
  abbrev freed : ℕ → Result
  freed c =
      (set_task t (record { place = working (f1 c u); cache = (m.task t).cache }) (set_hands u 0 m), going nothing)

  -- the test of an open region and a first unit fails
  ten : {P : Type 0} (e : Dec P) (y : Result) → ¬ P → Both regions v area m (refuse 10) (if e y (m, refused 10))
  ten (yes p) y n = absurd (n p)
  ten (no p) y n = refusal (R w) 10

  -- "11 such a unit, but its mark is clear"; else the mark is cleared
  marked : (c : ℕ) → c < CLASSES → (e : Dec (m.hands u ≡ 0))
      → Both regions v area m (Stepped.free_marked v t u c) (if e (m, refused 11) (freed c))
  unfolding Stepped.free_marked
  marked c l (yes e) =
      rw (ne_eqb (bit_at (v (Marks (u / WORD_MARKS))) (u % WORD_MARKS)) 1 (λ i. omega (arith, mark)))
      (refusal (R w) 11)
    where
      mark : bit_at (v (Marks (u / WORD_MARKS))) (u % WORD_MARKS) ≡ m.hands u
      mark = (R w).core.entries.marks u (omega (arith, w.pair.small))
  marked c l (no e) =
      meet (refuse 11) (is_set (v (Marks (u / WORD_MARKS))) (u % WORD_MARKS))
      (eq-eqb (bit_at (v (Marks (u / WORD_MARKS))) (u % WORD_MARKS)) 1 (mark ∙ one))
      (record {
        says = refl;
        rel = subst (λ (z : Contents). Related regions z (freed c).0)
            (sym (becomes v (assigned ws v) area t s (set_mark u 0 (contents_of v area))
            (mark-written v (slot_of (assigned ws v)) area u 0 _
            (clear-here (v (Marks (u / WORD_MARKS))) (u % WORD_MARKS))
            (clear-others (v (Marks (u / WORD_MARKS))) (u % WORD_MARKS)))
            refl (rw (eq-eqb t t refl)) (λ j n. rw (ne_eqb t j n))))
            (subst (λ (q : ℕ → List ℕ). Related regions (set_slot t s (set_mark u 0 (contents_of v area)))
            (set_task t (record { place = working (f1 c u); cache = q }) (set_hands u 0 m))) (sym cache-is)
            (marking w.pair u 0 s (task_of (working (f1 c u)) k)
            (re-slot w.pair _ _ s (working (f1 c u)) refl l refl (r_working (r_f1 refl)))));
        keeps = (refl, refl);
        sound =
            omega (
              arith,
              w.pair.turn.fits,
              w.pair.small,
              clear-below (v (Marks (u / WORD_MARKS))) (u % WORD_MARKS) WORD_MARKS
                  (w.fitting (Marks (u / WORD_MARKS)) (omega (arith, w.pair.small))) (omega arith),
            );
        apart = tt;
      })
    where
      mark : bit_at (v (Marks (u / WORD_MARKS))) (u % WORD_MARKS) ≡ m.hands u
      mark = (R w).core.entries.marks u (omega (arith, w.pair.small))

      one : m.hands u ≡ 1
      one = omega (arith, I.blocks u, inside-open I u)

      ws : List Write
      ws =
          TaskPlace t := F1 ∷ TaskClass t := c ∷ TaskUnit t := u
          ∷ Marks (u / WORD_MARKS) := with_clear (v (Marks (u / WORD_MARKS))) (u % WORD_MARKS) ∷ []

      s : Slot
      s = to_request F1 c u (slot_of v t)

      cache-is : (m.task t).cache ≡ k
      cache-is = ap (λ (T : Task). T.cache) w.pair.turn.is

  -- the descriptor d, which the map names for the region, opens it or not; then its class and the unit
  opened : (d : ℕ) → d < DESCRIPTORS → Both regions v area m (Stepped.free_by v regions t u d)
      (Plain.free_in (m.descriptor d) t u m)
  unfolding Stepped.free_by Stepped.free_open
  opened d l =
      let D = (R w).core.descriptors.each d l in
      let n = state_number (m.descriptor d).state in
      let test = both (Plain.opens? (m.descriptor d) (region_of u)) (Plain.first? (m.descriptor d).class u) in
      pass (ltb (v (DescriptorRegion d)) regions)
      (lt-ltb (v (DescriptorRegion d)) regions ((R w).core.descriptors.region_numbers d l))
      (choose (eqb (v (DescriptorRegion d)) (region_of u))
      (λ e.
      pass (is_anchor (v (Anchor d))) (anchor-tested v area (R w) d l)
      (choose (eqb (anchor_of (v (Anchor d))).state Words.EMPTY)
      (λ z. ten test _
      (λ p. absurd
      (omega (
        arith,
        eqb-true (anchor_of (v (Anchor d))).state Words.EMPTY z,
        D.state,
        not-empty (m.descriptor d).state
            p.0.1,
      ))))
      (λ z.
      let live : Plain.NotEmpty (m.descriptor d).state =
      larger-is (m.descriptor d).state
      (omega (arith, eqb-false (anchor_of (v (Anchor d))).state Words.EMPTY z, D.state)) in
      pass (ltb (v (DescriptorClass d)) CLASSES)
      (lt-ltb (v (DescriptorClass d)) CLASSES ((R w).core.descriptors.class_numbers d l))
      (subst (λ (c : ℕ). Both regions v area m (cond (is_first c u) (Stepped.free_marked v t u c) (refuse 10))
      (Plain.free_in (m.descriptor d) t u m)) (sym D.class)
      (decide (is_first (m.descriptor d).class u) test
      (λ f. (
        (sym D.region ∙ eqb-true (v (DescriptorRegion d)) (region_of u) e, live),
        first-same
            (m.descriptor d).class u f,
      ))
      (λ p. same_first (m.descriptor d).class u p.1)
      (λ f p. marked (m.descriptor d).class (omega (arith, D.class, (R w).core.descriptors.class_numbers d l))
      (ℕ_discrete (m.hands u) 0))
      (λ f p. refusal (R w) 10))))))
      (λ e. ten test _ (λ p. absurd (eqb-false (v (DescriptorRegion d)) (region_of u) e (D.region ∙ p.0.0)))))

  -- the map's entry
  entry : (z : ℕ) → z ≤ DESCRIPTORS
      → Both regions v area m (Stepped.free_entry v regions t u z) (Plain.free_entry z t u m)
  unfolding Stepped.free_entry
  entry zero l = refusal (R w) 10
  entry (suc d) l =
      rw (ne_eqb (suc d) 0 (omega arith), le-leb (suc d) DESCRIPTORS l, sub-one)
      (opened d l)

-- "10 not the first unit of a block of an open region"
pub small-both : {regions : ℕ} {v : View} {area : List ℕ} {m : Mem} {t : ℕ} {k : ℕ → List ℕ}
    (w : At regions v area m t idle k) (u : ℕ)
    → Both regions v area m (Stepped.begin_free_small v regions t u) (Plain.begin_free_small t u regions m)
unfolding Stepped.begin_free_small
small-both {regions} {v} {area} {m} {t} w u =
    decide (ltb (region_of u) regions) (dec_lt (region_of u) regions) (ltb-true (region_of u) regions)
    (lt-ltb (region_of u) regions)
    (λ e l. subst
    (λ (z : ℕ). Both regions v area m (Stepped.free_entry v regions t u z)
    (Plain.free_entry (m.map (region_of u)) t u m))
    (sym ((R w).core.entries.maps (region_of u) l))
    (entry w u l (m.map (region_of u)) (w.pair.turn.inv.entries (region_of u))))
    (λ e l. refusal (R w) 10)
