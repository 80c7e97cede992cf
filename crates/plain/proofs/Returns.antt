-- Step 3 of a free: its group goes before its region's chain; at n blocks the region closes.
use mathlib.Core.Path.{◌≡◌, refl, sym, ap, ◌∙◌}
use mathlib.Core.List.{List, ◌∷◌, ◌++◌}
use Prim.Native.Nat.{ℕ, ◌+◌, ◌≤◌}
use native.Mathlib.Omega.{arith}
use native.Mathlib.Decide.{ℕ_discrete}
use lib.ListN.{length}
use Rattle.rows.specs.Weights.{when, one}
use Rattle.rows.specs.Counting.{count}
use Rattle.rows.proofs.Weights.{when-add, when-le, when-zero}
use Rattle.rows.proofs.Counting.{count-append}
use Rattle.classes.specs.Classes.{per_region}
use Rattle.plain.specs.State.{State, EMPTY, PARTIAL, FULL, state_number, Descriptor, Note, f3-exchange, Mem}
use Rattle.plain.specs.State.{working, Purpose}
use Rattle.plain.specs.Steps.{AsNoted, as_noted?, f3_won, f3_exchange}
use Rattle.plain.specs.Blocks.{count_block}
use Rattle.plain.specs.ByState.{one_if_full}
use Rattle.plain.specs.Held.{owed, own_blocks}
use Rattle.plain.specs.Invariant.{all_returned}
use Rattle.plain.proofs.CallTests.{either, KeepsInvariant}
use Rattle.plain.proofs.Turn.{Turn}
use Rattle.plain.proofs.PlaceAlone.{task_of, place_holds, placed, note_holds, lengths}
use Rattle.plain.proofs.Owners.{Owner}
use Rattle.plain.proofs.Continues.{f5-held, f5-holds, f5-note}
use Rattle.plain.proofs.Held.{alike}
use Rattle.plain.proofs.AnchorExchange.{anchored}
use Rattle.plain.proofs.GroupFits.{Grouped, group-owner, group-opened, group-joined, group-fits, group-whole}

-- ---- what a free owes

-- A free that found FULL owes the descriptor, which then is no longer counted as FULL.
owed-full : (s s' : State) (x d : ℕ) → state_number s ≡ state_number s' → count x (owed s' d) ≡ when x d (one_if_full s)
owed-full EMPTY EMPTY x d e = sym (when-zero x d)
owed-full EMPTY PARTIAL x d e = absurd (omega arith)
owed-full EMPTY FULL x d e = absurd (omega arith)
owed-full PARTIAL EMPTY x d e = absurd (omega arith)
owed-full PARTIAL PARTIAL x d e = sym (when-zero x d)
owed-full PARTIAL FULL x d e = absurd (omega arith)
owed-full FULL EMPTY x d e = absurd (omega arith)
owed-full FULL PARTIAL x d e = absurd (omega arith)
owed-full FULL FULL x d e = omega arith

-- A free owes no descriptor but d, and d at most once.
owed-le : (s : State) (x d : ℕ) → count x (owed s d) ≤ one x d
owed-le EMPTY x d = omega arith
owed-le PARTIAL x d = omega arith
owed-le FULL x d = omega arith

-- ---- the won exchange

module _ {area : ℕ} {m : Mem} {t c : ℕ} {z : Purpose} {y d : ℕ} {g : List ℕ} {n : Note} {k : ℕ → List ℕ}
    (w : Turn area m t (task_of (working (f3-exchange c z y g d n)) k)) where
  -- the descriptor before the exchange
  abbrev D : Descriptor
  D = m.descriptor d

  -- the group and the chain
  abbrev joined : List ℕ
  joined = y ∷ (g ++ (m.descriptor d).chain)

  group : Grouped m (working (f3-exchange c z y g d n)) c z y g d
  group = record { blocks = refl; class = refl; together = (place_holds w).2; named = (note_holds w).1 }

  opener : Owner m c y d
  opener = group-owner w group

  -- the descriptor is of the class
  of-class : (f i : ℕ) → when f (m.descriptor d).class i ≡ when f c i
  of-class f i = ap (λ (x : ℕ). when f x i) opener.class

  -- The group leaves what is under way and joins the chain.
  moved : (v : ℕ)
      → count v (own_blocks z ++ (y ∷ g)) + count v (m.descriptor d).chain ≡ count v (own_blocks z) + count v joined
  moved v = omega (arith, count-append v (own_blocks z) (y ∷ g), group-joined w group v)

  moved-class : (f v : ℕ) → when f c (count v (own_blocks z ++ (y ∷ g))) + when f c (count v (m.descriptor d).chain)
      ≡ when f c (count v (own_blocks z)) + when f c (count v joined)
  moved-class f v = omega (
    arith,
    when-add f c (count v (own_blocks z ++ (y ∷ g))) (count v (m.descriptor d).chain),
    when-add f c (count v (own_blocks z)) (count v joined),
    ap (when f c) (moved v),
  )

  -- The descriptor that is owed is of the class.
  owed-class : (f x : ℕ) → when f c (count x (owed n.state d)) ≤ when f (m.descriptor d).class (one x d)
  owed-class f x = omega (
    arith,
    when-le f c (count x (owed n.state d)) (one x d) (owed-le n.state x d),
    of-class f (one x d),
  )

  -- Fewer than n blocks: PARTIAL.
  to-partial : AsNoted (m.descriptor d) n → (h : ¬ (length joined ≡ per_region c))
      → KeepsInvariant area (f3_won t k (no h) c z y g d n.state m)
  to-partial s no_end =
      let o = opener.counts in
      anchored w _ d _ (f5-held k n.state c z d) (record {
        fits = opener.fits;
        counts = o;
        class = refl;
        region = refl;
        descriptors = λ x. omega (arith, owed-full D.state n.state x d s.0.0, when-zero x d);
        regions = λ r. omega (arith, o (one r D.region));
        unmapped = λ r. omega arith;
        classes = λ f x. omega (arith, owed-class f x);
        spares = λ x. omega arith;
        blocks = λ v. omega (arith, moved v, o (count v D.chain), o (count_block v D.region D.class));
        block_classes = λ f v. omega (
          arith,
          moved-class f v,
          o (when f D.class (count v D.chain)),
          o (when f D.class (count_block v D.region D.class)),
          of-class f (count v D.chain),
          of-class f (count v joined),
        );
        chain = record {
          fits = (group-opened w group).fits;
          inside = λ v. (group-joined w group v).1;
          sized = (omega arith, omega (arith, group-fits w group, ap per_region opener.class));
        };
        closed = tt;
      })
      (f5-holds k (lengths w) n.state c z d (place_holds w).0 (omega (arith, (place_holds w).1)))
      (f5-note m.row m.won m.map k n.state c z d)

  -- n blocks: EMPTY, and the region is no longer open, but held by the task.
  to-empty : AsNoted (m.descriptor d) n → (h : length joined ≡ per_region c)
      → KeepsInvariant area (f3_won t k (yes h) c z y g d n.state m)
  to-empty s end =
      let o = opener.counts in
      anchored w _ d _ (alike refl) (record {
        fits = opener.fits;
        counts = o;
        class = refl;
        region = refl;
        descriptors = λ x. omega (arith, owed-full D.state n.state x d s.0.0, when-zero x d);
        regions = λ r. omega (arith, o (one r D.region), ap (one r) opener.region);
        unmapped = λ r. omega arith;
        classes = λ f x. omega (arith, owed-class f x);
        spares = λ x. omega arith;
        blocks = λ v. omega (
          arith,
          moved v,
          group-whole w group end v,
          o (count v D.chain),
          o (count_block v D.region D.class),
        );
        block_classes = λ f v. omega (
          arith,
          moved-class f v,
          o (when f D.class (count v D.chain)),
          o (when f D.class (count_block v D.region D.class)),
          of-class f (count v D.chain),
          of-class f (count_block v D.region D.class),
          ap (when f c) (group-whole w group end v),
        );
        chain = tt;
        closed = all_returned (group-opened w group).fits (λ v. sym (group-whole w group end v))
            (end ∙ ap per_region (sym opener.class));
      })
      ((place_holds w).0, omega (arith, (place_holds w).1)) tt

  -- The exchange, won or lost.
  pub f3-exchange-inv : KeepsInvariant area (f3_exchange t k c z y g d n m)
  f3-exchange-inv = either (KeepsInvariant area) (as_noted? (m.descriptor d) n) _ _
      (λ s. by (ℕ_discrete (length joined) (per_region c)) (to-empty s) (to-partial s))
      (λ s. placed w _ refl ((place_holds w).0, (place_holds w).1, (place_holds w).2) tt)
    where
      by : {P : Type 0} (e : Dec P) → ((h : P) → KeepsInvariant area (f3_won t k (yes h) c z y g d n.state m))
          → ((h : ¬ P) → KeepsInvariant area (f3_won t k (no h) c z y g d n.state m))
          → KeepsInvariant area (f3_won t k e c z y g d n.state m)
      by (yes h) a b = a h
      by (no h) a b = b h
