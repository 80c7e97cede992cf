-- Each block of an open region has one place, and no other unit has any; each item of a list stands there once.
use mathlib.Core.Path.{◌≡◌, sym, ap, ◌∙◌}
use mathlib.Core.Logic.{◌≢◌}
use Prim.Native.Nat.{ℕ, ◌+◌, ◌≤◌, ◌<◌}
use native.Mathlib.Omega.{arith}
use Rattle.limits.specs.Limits.{TASKS, DESCRIPTORS, DESCRIPTOR_LISTS}
use Rattle.rows.specs.Comparisons.{same, other, same?, before, after, order?}
use Rattle.rows.specs.Weights.{when, one}
use Rattle.rows.specs.Counting.{count}
use Rattle.rows.specs.Totals.{total}
use Rattle.rows.proofs.Weights.{when-same, when-other, when-max, below-max, below-is}
use Rattle.rows.proofs.Totals.{total-one, total-two, total-zero, total-only, total-found}
use Rattle.classes.specs.Geometry.{region_of, BlockOf}
use Rattle.classes.proofs.BlockUnits.{region-is}
use Rattle.plain.specs.State.{Mem}
use Rattle.plain.specs.Blocks.{count_block}
use Rattle.plain.specs.ByState.{IsOpen}
use Rattle.plain.specs.HolderWeights.{row_weight, inside_weight, inside_class_weight, chain_weight, open_weight}
use Rattle.plain.specs.HolderWeights.{block_weight}
use Rattle.plain.specs.HolderWeights.{block_class_weight}
use Rattle.plain.specs.Invariant.{Invariant}
use Rattle.plain.specs.OnePlace.{OpenBlock, OnePlace, OnceListed}
use Rattle.plain.proofs.Blocks.{block-counts, counts-block, is_block-region, first-is-block, block-is-first}
use Rattle.plain.proofs.ByState.{open-le, open-max, open-le-asked, open_is, is_open, open_counts, open-holds}
use Rattle.plain.proofs.ByState.{open-map}
use Rattle.plain.proofs.Homes.{inside-open}

module _ {area : ℕ} {m : Mem} (I : Invariant area m) where
  -- What counts in a chain is a block of the chain's region.
  chain-inside : (v i : ℕ) → i < DESCRIPTORS → chain_weight v i (m.descriptor i) ≤ inside_weight v i (m.descriptor i)
  chain-inside v i l =
      let D = m.descriptor i in
      open-le-asked D.state (count v D.chain) (count_block v D.region D.class)
      (open-map D.state (λ g h. h.inside v) (I.chains i l))

  -- A block of a descriptor's region lies in that region.
  inside-region : (v i : ℕ) → inside_weight v i (m.descriptor i) ≤ open_weight (region_of v) i (m.descriptor i)
  inside-region v i =
      let D = m.descriptor i in
      open-le D.state (is_block-region D.region D.class v)

  -- a block of an open region: its descriptor is one of the 64, and the only one whose region has the block
  record Of (v d : ℕ) : Type 0 where
    fits : d < DESCRIPTORS
    counts : IsOpen (m.descriptor d).state
    one-region : open_weight (region_of v) d (m.descriptor d) ≡ 1
    is_block : count_block v (m.descriptor d).region (m.descriptor d).class ≡ 1
    others : (i : ℕ) → i < DESCRIPTORS → i ≢ d → inside_weight v i (m.descriptor i) ≡ 0

  of : (v d : ℕ) → OpenBlock m v d → Of v d
  of v d b =
      let D = m.descriptor d in
      let l : d < DESCRIPTORS = omega (arith, I.entries (region_of v), b.entry) in
      let o : IsOpen D.state = open_is D.state b.opens.1 in
      let h : open_weight (region_of v) d D ≡ 1 = omega (
        arith,
        o (one (region_of v) D.region),
        ap (one (region_of v)) b.opens.0,
        when-same (region_of v) 1,
      ) in
      record {
        fits = l;
        counts = o;
        one-region = h;
        is_block = block-counts (rw b.opens.0 (first-is-block D.class v b.first));
        others = λ i f n. omega (
          arith,
          inside-region v i,
          inside-open I v,
          total-two DESCRIPTORS (open_weight (region_of v)) m.descriptor i d n f l,
        );
      }

  -- the descriptor that has v in its region, if the region has it at all
  pub found : (v : ℕ) → 1 ≤ total DESCRIPTORS (inside_weight v) m.descriptor → (d : ℕ) × OpenBlock m v d
  found v h =
      let f = total-found DESCRIPTORS (inside_weight v) m.descriptor h in
      let D = m.descriptor f.at in
      let g = open_counts D.state (count_block v D.region D.class) f.has in
      let b : BlockOf D.region D.class v = counts-block D.region D.class v g.0 in (
        f.at,
        record {
          entry = rw (region-is b) (open-holds D.state g.1 (I.maps f.at f.fits));
          opens = (sym (region-is b), is_open D.state g.1);
          first = block-is-first b;
        },
      )

  -- Each unit has one place, or none.
  pub one_place : (v : ℕ) → OnePlace m v
  one_place v = record { once = once; class = class; nowhere = nowhere }
    where
      once : (d : ℕ) → OpenBlock m v d
          → m.hands v + total TASKS (block_weight v) m.task + count v (m.descriptor d).chain ≡ 1
      once d b =
          let f = of v d b in
          let D = m.descriptor d in
          omega (
            arith,
            I.blocks v,
            total-only DESCRIPTORS (inside_weight v) m.descriptor d f.fits f.others,
            total-only DESCRIPTORS (chain_weight v) m.descriptor d f.fits
                (λ i l n. omega (arith, chain-inside v i l, f.others i l n)),
            f.counts (count v D.chain),
            f.counts (count_block v D.region D.class),
            f.is_block,
          )

      class : (d : ℕ) → OpenBlock m v d → (c : ℕ) → c ≢ (m.descriptor d).class
          → total TASKS (block_class_weight c v) m.task ≡ 0
      class d b c n =
          omega (arith, I.block_classes c v, total-zero DESCRIPTORS (inside_class_weight c v) m.descriptor none)
        where
          none : (i : ℕ) → i < DESCRIPTORS → inside_class_weight c v i (m.descriptor i) ≡ 0
          none i l =
              let D = m.descriptor i in
              elim (same? i d) [
                | same e ↦ (let z : (m.descriptor i).class ≡ (m.descriptor d).class = rw e in
                    omega (
                      arith,
                      open-max D.state (when c D.class (count_block v D.region D.class)),
                      when-other c D.class (count_block v D.region D.class) (λ f. n (f ∙ z)),
                    ))
                | other e ↦ omega (
                  arith,
                  (of v d b).others i l e,
                  open-le D.state (when-max c D.class (count_block v D.region D.class)),
                )
              ]

      nowhere : ((d : ℕ) → ¬ OpenBlock m v d)
          → (m.hands v ≡ 0) × (total TASKS (block_weight v) m.task ≡ 0)
          × (total DESCRIPTORS (chain_weight v) m.descriptor ≡ 0)
      nowhere n = elim (order? 0 (total DESCRIPTORS (inside_weight v) m.descriptor)) [
        | before h ↦ (let f = found v h in absurd (n f.0 f.1))
        | after h ↦ omega (arith, I.blocks v)
      ]

  -- Each item of a list stands there once.
  pub once-listed : OnceListed area m
  once-listed = record {
    descriptors = λ d. omega (arith, I.descriptors d, below-max d DESCRIPTORS);
    descriptor = λ ℓ d l.
        omega (arith, I.descriptors d, below-max d DESCRIPTORS, total-one DESCRIPTOR_LISTS (row_weight d) m.row ℓ l);
    below = λ ℓ d l h.
        below-is d DESCRIPTORS (omega (arith, I.descriptors d, total-one DESCRIPTOR_LISTS (row_weight d) m.row ℓ l));
    region = λ r. omega (arith, I.regions r, below-max r area);
    in_area = λ r h. below-is r area (omega (arith, I.regions r));
  }
