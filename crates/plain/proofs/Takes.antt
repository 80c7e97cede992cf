-- Step 3 of an allocate: the anchor read, and the exchange that takes the chain.
use mathlib.Core.Path.{◌≡◌, refl, ap}
use mathlib.Core.List.{List, ◌∷◌, []}
use Prim.Native.Nat.{ℕ, ◌+◌, ◌≤◌, ◌<◌}
use native.Mathlib.Omega.{arith}
use lib.ListN.{length}
use Rattle.limits.specs.Limits.{DESCRIPTORS}
use Rattle.rows.specs.Comparisons.{same, other, same?}
use Rattle.rows.specs.Weights.{when, one}
use Rattle.rows.specs.Counting.{count}
use Rattle.rows.proofs.Weights.{when-same, when-other, when-zero}
use Rattle.classes.specs.Classes.{per_region}
use Rattle.plain.specs.State.{State, EMPTY, PARTIAL, FULL, state_number, Note, read, retire, pushing, a3-read}
use Rattle.plain.specs.State.{a3-exchange, Mem, set_descriptor, working}
use Rattle.plain.specs.Steps.{moving, AsNoted, as_noted?, chained, a3_read, a3_exchange, at_work}
use Rattle.plain.specs.Blocks.{count_block}
use Rattle.plain.specs.ByState.{if_open, IsOpen, one_if_full, one_if_empty}
use Rattle.plain.specs.Invariant.{ChainLength, OpenDescriptor, Invariant}
use Rattle.plain.proofs.CallTests.{either, KeepsInvariant}
use Rattle.plain.proofs.ByState.{open-holds, IsState, is-empty, is-partial, is-full, state?}
use Rattle.plain.proofs.NotesKept.{as_before}
use Rattle.plain.proofs.Turn.{Turn, fewer, enough, as-mapped, turn-inv}
use Rattle.plain.proofs.PlaceAlone.{task_of, place_holds, lengths, placed}
use Rattle.plain.proofs.Held.{alike}
use Rattle.plain.proofs.AnchorExchange.{in-hand, class_of, anchored}

-- the descriptor whose chain is taken: it was noted as not EMPTY, and as it is held it is not FULL
pub record TakenChain (m : Mem) (c d : ℕ) : Type 0 where
  pub fits : d < DESCRIPTORS
  pub counts : IsOpen (m.descriptor d).state
  pub state : (m.descriptor d).state ≡ PARTIAL
  pub class : c ≡ (m.descriptor d).class
  pub opened : OpenDescriptor (m.descriptor d)
  pub chain : (1 ≤ length (m.descriptor d).chain) × (length (m.descriptor d).chain < per_region c)

-- An exchange of an anchor that is as noted takes such a descriptor's chain.
pub taken : {area : ℕ} {m : Mem} {t : ℕ} {k : ℕ → List ℕ} {c d : ℕ} {n : Note}
    → Turn area m t (task_of (working (a3-exchange c d n)) k) → AsNoted (m.descriptor d) n → TakenChain m c d
taken {m = m} {c = c} {d = d} {n = n} w s = by (state? (m.descriptor d).state)
  where
    hand : (d < DESCRIPTORS) × (one_if_full (m.descriptor d).state ≡ 0)
    hand = in-hand w d (omega (arith, when-same d 1))

    of-class : c ≡ (m.descriptor d).class
    of-class = class_of w c d (place_holds w).0 (omega (arith, when-same c (one d d + 0), when-same d 1))

    by : IsState (m.descriptor d).state → TakenChain m c d
    by (is-empty e) = absurd (omega (arith, s, (place_holds w).2, ap state_number e))
    by (is-full e) = absurd (omega (arith, hand.1, ap one_if_full e))
    by (is-partial e) =
        let D = m.descriptor d in
        let o : IsOpen D.state = λ i. ap (λ (z : State). if_open z i) e in
        let v : OpenDescriptor D = open-holds D.state o (w.inv.chains d hand.0) in
        let z : ChainLength PARTIAL (per_region D.class) (length D.chain) = rw e at v.sized in
        record {
          fits = hand.0;
          counts = o;
          state = e;
          class = of-class;
          opened = v;
          chain = (omega arith, omega (arith, ap per_region of-class));
        }

module _ {area : ℕ} {m : Mem} {t : ℕ} {k : ℕ → List ℕ} where
  -- The anchor read: an EMPTY descriptor is held as spare from now on, any other is exchanged next.
  pub a3-read-inv : (c d : ℕ) (s : State) → (m.descriptor d).state ≡ s
      → Turn area m t (task_of (working (a3-read c d)) k)
      → KeepsInvariant area (a3_read t k c d s m)
  a3-read-inv c d EMPTY e w = turn-inv w _ (task_of (working (pushing (retire c d) read)) k) refl (record {
    descriptors = λ x. omega arith;
    regions = λ r. omega arith;
    classes = λ f x l. fewer (omega (arith, when-zero f c));
    spares = λ x. elim (same? x d) [
      | same f ↦ enough (rw f (omega (arith, ap one_if_empty e)))
      | other f ↦ fewer (omega (arith, when-other x d 1 f))
    ];
    blocks = λ v. omega arith;
    block_classes = λ f v. omega (arith, w.inv.block_classes f v);
    chains = w.inv.chains;
    closed = w.inv.closed;
    maps = w.inv.maps;
    entries = w.inv.entries;
    unmapped = λ r. as-mapped (omega arith) refl;
    own = record { lengths = lengths w; place = place_holds w; note = tt };
    kept = λ r h. refl;
    exchanges = λ ℓ. as_before refl refl;
  })
  a3-read-inv c d PARTIAL e w = placed w _ refl
      ((place_holds w).0, (place_holds w).1, omega (arith, ap state_number e)) (omega (arith, when-same d 1))
  a3-read-inv c d FULL e w = placed w _ refl
      ((place_holds w).0, (place_holds w).1, omega (arith, ap state_number e)) (omega (arith, when-same d 1))

  -- The won exchange: the chain's blocks are under way from now on.
  take-inv : (c d : ℕ) (n : Note) (q : List ℕ) → (m.descriptor d).chain ≡ q
      → Turn area m t (task_of (working (a3-exchange c d n)) k) → AsNoted (m.descriptor d) n
      → Invariant area (at_work t k (moving c q) (set_descriptor d (chained (m.descriptor d) FULL []) m))
  take-inv c d n [] e w s = absurd (omega (arith, (taken w s).chain, ap length e))
  take-inv c d n (y ∷ q) e w s =
      let D = m.descriptor d in
      let T = taken w s in
      anchored w _ d _ (alike refl) (record {
        fits = T.fits;
        counts = T.counts;
        class = refl;
        region = refl;
        descriptors = λ x. omega (arith, ap (when x d) (ap one_if_full T.state), when-zero x d);
        regions = λ r. omega (arith, T.counts (one r D.region));
        unmapped = λ r. omega arith;
        classes = λ f x. omega (arith, when-zero f c);
        spares = λ x. omega arith;
        blocks = λ v. omega (
          arith,
          ap (count v) e,
          T.counts (count v D.chain),
          T.counts (count_block v D.region D.class),
        );
        block_classes = λ f v. omega (
          arith,
          T.counts (when f D.class (count v D.chain)),
          T.counts (when f D.class (count_block v D.region D.class)),
          ap (λ (z : ℕ). when f z (count v (y ∷ q))) T.class,
          ap (λ (z : List ℕ). when f D.class (count v z)) e,
          when-zero f D.class,
        );
        chain = record { fits = T.opened.fits; inside = λ v. omega arith; sized = refl };
        closed = tt;
      })
      ((place_holds w).0, omega (arith, (place_holds w).1, T.chain, ap length e)) tt

  -- The exchange, won or lost.
  pub a3-exchange-inv : (c d : ℕ) (n : Note) → Turn area m t (task_of (working (a3-exchange c d n)) k)
      → KeepsInvariant area (a3_exchange t k c d n m)
  a3-exchange-inv c d n w = either (KeepsInvariant area) (as_noted? (m.descriptor d) n) _ _
      (λ s. take-inv c d n (m.descriptor d).chain refl w s)
      (λ s. placed w _ refl ((place_holds w).0, (place_holds w).1) tt)
