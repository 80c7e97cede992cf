-- From the relation to what is compared.
use mathlib.Core.Path.{◌≡◌, refl, sym, ap, subst, ◌∙◌}
use mathlib.Core.Logic.{◌≢◌}
use mathlib.Core.List.{List, [], ◌∷◌}
use Prim.Native.Nat.{ℕ, zero, suc, ◌+◌, ◌≤◌, ◌<◌}
use native.Mathlib.Omega.{arith}
use native.Mathlib.Decide.{ℕ_discrete, dec_lt}
use lib.ListN.{length}
use Rattle.limits.specs.Limits.{REGIONS, TASKS, CLASSES, DESCRIPTORS, SPARE_REGIONS, DESCRIPTOR_LISTS}
use Rattle.rows.specs.Branch.{if, both}
use Rattle.rows.specs.Weights.{below}
use Rattle.rows.specs.Counting.{count}
use Rattle.rows.specs.Totals.{total}
use Rattle.rows.specs.Linked.{Linked, ends, links, walk}
use Rattle.rows.proofs.Totals.{total-one, total-two, total-only, total-same}
use Rattle.rows.proofs.Pigeonhole.{pigeonhole}
use Rattle.rows.proofs.Linked.{linked-walk}
use Rattle.classes.specs.Geometry.{unit_of, BlockOf}
use Rattle.classes.proofs.BlockUnits.{unit-again, unit-below}
use Rattle.links.specs.Link.{link}
use Rattle.plain.specs.State.{State, EMPTY, PARTIAL, FULL, state_number, Mem}
use Rattle.plain.specs.Calls.{rising, Opens, opens?}
use Rattle.words.specs.Anchor as Words
use Rattle.plain.specs.ByState.{if_open, IfOpen}
use Rattle.plain.specs.Blocks.{count_block}
use Rattle.plain.specs.HolderWeights.{row_weight, inside_weight, chain_weight, block_weight}
use Rattle.plain.specs.Invariant.{Invariant, OpenDescriptor}
use Rattle.plain.proofs.Blocks.{block-counts, counts-block}
use Rattle.plain.proofs.ByState.{open-holds, not-empty, larger-is}
use Rattle.plain.proofs.Homes.{inside-open}
use Rattle.plain.proofs.OnePlace.{found}
use Rattle.plain.proofs.StartInvariant.{rising-count, length-rising}
use Rattle.agreement.specs.Contents.{Contents}
use Rattle.agreement.specs.Relation.{DescriptorRelated, Related}
use Rattle.agreement.specs.Observe.{list_from, class_by, chain_by, plain_class_by, plain_chain_by, plain_class}
use Rattle.agreement.specs.Observe.{plain_chain, in_cache, with_task}
use Rattle.agreement.specs.Observe.{holder_of, SameObserved}
use Rattle.agreement.proofs.TurnInBoth.{Pair}
use Rattle.agreement.proofs.NotedAnchors.{number-open}
use Rattle.agreement.proofs.UnderWays.{under-way}
use Rattle.plain.specs.Invariant.{StripsHold}
use Rattle.agreement.proofs.ObservedStrips.{pieces-same, one-slot, plain-one-slot, freed-once, joined-row}

-- ---- lists

-- a linked list is read off its links
list_read : {nx : ℕ → ℕ} {f : ℕ} {q : List ℕ} (n : ℕ) → Linked nx suc 0 f q → length q ≤ n → list_from nx n f ≡ q
list_read zero (ends e) h = refl
list_read zero (links e l) h = absurd (omega arith)
list_read {nx} (suc n) (ends e) h = ap (list_from nx (suc n)) e
list_read {nx} (suc n) (links {u = u} {r = r} e l) h =
    ap (list_from nx (suc n)) e ∙ ap (λ (z : List ℕ). u ∷ z) (list_read n l (omega arith))

-- a row of different numbers below n has no more than n
pub short : (n : ℕ) (q : List ℕ) → ((v : ℕ) → count v q ≤ below v n) → length q ≤ n
short n q h = omega (arith, pigeonhole q (rising n 0) (λ v. omega (arith, h v, rising-count n v)), length-rising n 0)

more : {l n : ℕ} → l ≤ n → l ≤ suc n
more h = omega arith

-- ---- open regions

module _ {regions : ℕ} {a : Contents} {m : Mem} (R : Related regions a m) (I : Invariant regions m) where
  -- the tests of an open region come out alike
  tests : {X : Type 0} (d r : ℕ) → d < DESCRIPTORS → (x y x' y' : X)
      → (Words.EMPTY < state_number (m.descriptor d).state → (m.descriptor d).region ≡ r → x ≡ x')
      → y ≡ y'
      → if (both (ℕ_discrete (a.descriptors.region d) r) (dec_lt Words.EMPTY (a.descriptors.anchor d).state)) x y
      ≡ if (opens? (m.descriptor d) r) x' y'
  tests d r l x y x' y' f g =
      by (both (ℕ_discrete (a.descriptors.region d) r) (dec_lt Words.EMPTY (a.descriptors.anchor d).state))
      (opens? (m.descriptor d) r)
    where
      D : DescriptorRelated (link a.area) (a.descriptors.anchor d) (a.descriptors.region d)
          (a.descriptors.class d) (m.descriptor d)
      D = R.core.descriptors.each d l

      by : (p : Dec ((a.descriptors.region d ≡ r) × (Words.EMPTY < (a.descriptors.anchor d).state)))
          (q : Dec (Opens (m.descriptor d) r)) → if p x y ≡ if q x' y'
      by (yes p) (yes q) = f (not-empty (m.descriptor d).state q.1) q.0
      by (yes p) (no q) =
          absurd (q (sym D.region ∙ p.0, larger-is (m.descriptor d).state (omega (arith, D.state, p))))
      by (no p) (yes q) =
          absurd (p (D.region ∙ q.0, omega (arith, D.state, not-empty (m.descriptor d).state q.1)))
      by (no p) (no q) = g

  classes : (z r : ℕ) → z ≤ DESCRIPTORS → class_by z r a ≡ plain_class_by z r m
  classes zero r l = refl
  classes (suc d) r l =
      tests d r l (suc (a.descriptors.class d)) 0 (suc (m.descriptor d).class) 0
      (λ h e. ap suc (R.core.descriptors.each d l).class) refl

  chains : (z r : ℕ) → z ≤ DESCRIPTORS → chain_by z r a ≡ plain_chain_by z r m
  chains zero r l = refl
  chains (suc d) r l =
      tests d r l
      (walk (link a.area) (unit_of r (a.descriptors.class d)) (a.descriptors.anchor d).avail
      (a.descriptors.anchor d).count) [] (m.descriptor d).chain [] walked refl
    where
      walked : 1 ≤ state_number (m.descriptor d).state → (m.descriptor d).region ≡ r
          → walk (link a.area) (unit_of r (a.descriptors.class d)) (a.descriptors.anchor d).avail
          (a.descriptors.anchor d).count ≡ (m.descriptor d).chain
      walked h e =
          let D = R.core.descriptors.each d l in
          let C = open-holds (m.descriptor d).state (number-open (m.descriptor d).state h) D.chain in
          let L = open-holds (m.descriptor d).state (number-open (m.descriptor d).state h) (I.chains d l) in
          rw (C.counts, D.class, ← e)
          (linked-walk (unit_of (m.descriptor d).region (m.descriptor d).class) C.linked
          (λ v g. unit-again
          (counts-block (m.descriptor d).region (m.descriptor d).class v (omega (arith, L.inside v)))))

-- ---- holders

-- the holder depends on the tasks' counts alone, not on how they are counted
holder-same : (n : ℕ) (f g : ℕ → ℕ) (c t : ℕ) → ((j : ℕ) → t ≤ j → j < t + n → f j ≡ g j)
    → holder_of n f c t ≡ holder_of n g c t
holder-same zero f g c t h = refl
holder-same (suc n) f g c t h =
    rw (h t (omega arith) (omega arith), holder-same n f g c (suc t) (λ j l k. h j (omega arith) (omega arith)))

module _ {regions : ℕ} {a : Contents} {m : Mem} (small : regions ≤ REGIONS) (R : Related regions a m)
    (I : Invariant regions m) (H : StripsHold m) where
  with-task : (t v : ℕ) → t < TASKS → with_task a t v ≡ block_weight v t (m.task t)
  with-task t v l =
      let S = R.slots t l in
      let w : Pair regions a m t (m.task t).place (m.task t).cache =
      record { rel = R; turn = record { inv = I; fits = l; is = refl }; small = small } in
      omega (
        arith,
        ap (count v) (under-way w S.place),
        total-same CLASSES (λ c n. in_cache a v ((a.slot t).caches.top c) n) (a.slot t).caches.count (row_weight v)
            (m.task t).cache (λ c i.
            ap (λ (n : ℕ). in_cache a v ((a.slot t).caches.top c) n) (S.caches.counts c i)
            ∙ ap (count v) (linked-walk (λ u. u) (S.caches.tops c i) (λ u e. refl))),
      )

  classes-at : (r : ℕ) → r < regions → class_by (a.entries.map r) r a ≡ plain_class m r
  classes-at r l =
      subst (λ (z : ℕ). class_by z r a ≡ plain_class m r) (sym (R.core.entries.maps r l))
      (classes R I (m.map r) r (I.entries r))

  chains-at : (r : ℕ) → r < regions → chain_by (a.entries.map r) r a ≡ plain_chain m r
  chains-at r l =
      subst (λ (z : ℕ). chain_by z r a ≡ plain_chain m r) (sym (R.core.entries.maps r l))
      (chains R I (m.map r) r (I.entries r))

  -- ---- one place

  -- a chain has blocks of its own region alone
  own-blocks : (v j : ℕ) → (z : State) → IfOpen z (OpenDescriptor (m.descriptor j))
      → if_open z (count v (m.descriptor j).chain) ≤ if_open z
      (count_block v (m.descriptor j).region (m.descriptor j).class)
  own-blocks v j EMPTY L = omega arith
  own-blocks v j PARTIAL L = L.inside v
  own-blocks v j FULL L = L.inside v

  one_in : (z r c v : ℕ) → m.map r ≡ z → z ≤ DESCRIPTORS → plain_class_by z r m ≡ suc c → BlockOf r c v
      → m.hands v + total TASKS (block_weight v) m.task + count v (plain_chain_by z r m) ≡ 1
  one_in zero r c v e l f b = absurd (omega arith)
  one_in (suc d) r c v e l f b = by (opens? (m.descriptor d) r) f
    where
      lone : (j : ℕ) → j < DESCRIPTORS → j ≢ d → inside_weight v d (m.descriptor d) ≡ 1
          → chain_weight v j (m.descriptor j) ≡ 0
      lone j k n i =
          omega (
            arith,
            total-two DESCRIPTORS (inside_weight v) m.descriptor j d n k l,
            inside-open I v,
            own-blocks v
                j (m.descriptor j).state (I.chains j k),
          )

      by : (q : Dec (Opens (m.descriptor d) r)) → if q (suc (m.descriptor d).class) 0 ≡ suc c
          → m.hands v + total TASKS (block_weight v) m.task + count v (if q (m.descriptor d).chain []) ≡ 1
      by (no q) f = absurd (omega arith)
      by (yes q) f =
          let D = m.descriptor d in
          let g = number-open D.state (not-empty D.state q.1) in
          let b' : BlockOf D.region D.class v =
          subst (λ (x : ℕ). BlockOf x D.class v) (sym q.0)
          (subst (λ (x : ℕ). BlockOf r x v) (omega arith) b) in
          let i : inside_weight v d D ≡ 1 = g (count_block v D.region D.class) ∙ block-counts b' in
          omega (
            arith,
            I.blocks v,
            i,
            inside-open I v,
            total-one DESCRIPTORS (inside_weight v) m.descriptor d l,
            g (count v D.chain),
            total-only DESCRIPTORS (chain_weight v) m.descriptor d l (λ j k n. lone j k n i),
          )

  plain-one : (r c v : ℕ) → r < regions → plain_class m r ≡ suc c → BlockOf r c v
      → m.hands v + total TASKS (block_weight v) m.task + count v (plain_chain m r) ≡ 1
  plain-one r c v l f b = one_in (m.map r) r c v refl (I.entries r) f b

  chain-blocks : (z r c v : ℕ) → z ≤ DESCRIPTORS → plain_class_by z r m ≡ suc c → 1 ≤ count v (plain_chain_by z r m)
      → BlockOf r c v
  chain-blocks zero r c v l f h = absurd (omega arith)
  chain-blocks (suc d) r c v l f h = by (opens? (m.descriptor d) r) f h
    where
      by : (q : Dec (Opens (m.descriptor d) r)) → if q (suc (m.descriptor d).class) 0 ≡ suc c
          → 1 ≤ count v (if q (m.descriptor d).chain []) → BlockOf r c v
      by (no q) f h = absurd (omega arith)
      by (yes q) f h =
          let D = m.descriptor d in
          let L = open-holds D.state (number-open D.state (not-empty D.state q.1)) (I.chains d l) in
          subst (λ (x : ℕ). BlockOf r x v) (omega arith)
          (subst (λ (x : ℕ). BlockOf x D.class v) q.0
          (counts-block D.region D.class v (omega (arith, L.inside v))))

  pub observed : SameObserved regions a m
  observed = record {
    lists =
        λ ℓ l. list_read (suc DESCRIPTORS) (R.core.lists.rows ℓ l)
        (more (short DESCRIPTORS (m.row ℓ)
        (λ v. omega (arith, I.descriptors v, total-one DESCRIPTOR_LISTS (row_weight v) m.row ℓ l))));
    spares =
        list_read (suc regions) R.core.lists.spare_row
        (more (short regions (m.row SPARE_REGIONS) (λ v. omega (arith, I.regions v))));
    classes = classes-at;
    chains = chains-at;
    holders = λ r v l k.
        rw (
          R.core.entries.marks v k,
          chains-at r l,
          holder-same TASKS (λ t. with_task a t v)
              (λ t. block_weight v t (m.task t)) (count v (plain_chain m r)) 0 (λ t i j. with-task t v (omega arith)),
        );
    one_place = λ r c v l f b. omega (
      arith,
      plain-one r c v l (sym (classes-at r l) ∙ f) b,
      R.core.entries.marks v (omega (arith, unit-below b (omega arith))),
      ap (count v) (chains-at r l),
      total-same TASKS (λ t s. with_task a t v) a.slot (block_weight v) m.task (λ t i. with-task t v i),
    );
    plain_one_place = plain-one;
    own-blocks = λ r c v l f h. chain-blocks (m.map r) r c v (I.entries r) f h;
    held = λ v h. found I v (omega (arith, I.blocks v));
    pieces = pieces-same R H;
    one_piece = one-slot R H;
    plain_one_piece = plain-one-slot R H;
    one_freeing = freed-once R H;
    none_to_join = joined-row R H;
  }
