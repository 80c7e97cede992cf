-- A group of blocks that a free returns: where its blocks lie, and what a written last link leaves of it.
use mathlib.Core.Path.{◌≡◌, sym, ap, subst, ◌∙◌}
use mathlib.Core.List.{List, [], ◌∷◌, ◌++◌}
use Prim.Native.Nat.{ℕ, ◌≤◌, ◌<◌}
use native.Mathlib.Omega.{arith}
use Rattle.rows.specs.Counting.{count}
use Rattle.rows.specs.Linked.{Linked, ends, links}
use Rattle.rows.specs.Comparisons.{other, same, same?}
use Rattle.rows.proofs.Counting.{count-append}
use Rattle.rows.proofs.Weights.{when-other, when-same}
use Rattle.classes.specs.Classes.{per_region}
use Rattle.classes.specs.Geometry.{BlockOf, index_of, region_of, unit_of}
use Rattle.classes.proofs.BlockUnits.{index_below, unit-again}
use Rattle.links.specs.Link.{link}
use Rattle.plain.specs.State.{Mem, Place}
use Rattle.plain.specs.Held.{class_at, under_way}
use Rattle.plain.specs.TaskHolds.{Together}
use Rattle.plain.proofs.Owners.{home_of}
use Rattle.agreement.specs.Contents.{TaskGroup, Contents, Slot}
use Rattle.agreement.specs.Relation.{GroupRelated}
use Rattle.agreement.proofs.TaskBlocks.{home_below, mine-under}
use Rattle.agreement.proofs.TurnInBoth.{Pair}

-- a group goes over to another place, where the task's part and the links say the same of it
pub same-group : {a a' : Contents} {s₀ s : Slot} {y : ℕ} {g : List ℕ} → s.class ≡ s₀.class → s.group ≡ s₀.group
    → s.hand.region ≡ s₀.hand.region → a'.area ≡ a.area → GroupRelated a s₀ y g → GroupRelated a' s y g
same-group e f r i G = record {
  front = G.front;
  last = G.last;
  is = G.is;
  linked = rw (i, e, ap (λ (z : TaskGroup). z.first) f) G.linked;
  last_is = rw (ap (λ (z : TaskGroup). z.last) f, e) G.last_is;
  counts = ap (λ (z : TaskGroup). z.count) f ∙ G.counts;
  region = r ∙ G.region;
}

-- where the group's last block is: in the group's region, where its index says
pub record Last (s : Slot) (l : ℕ) : Type 0 where
  pub block : BlockOf s.hand.region s.class l
  pub at : unit_of s.hand.region s.class s.group.last ≡ l

-- the task's group is under way at its place
module _ {regions : ℕ} {a : Contents} {m : Mem} {t : ℕ} {p : Place} {k : ℕ → List ℕ} {y : ℕ} {g : List ℕ}
    (w : Pair regions a m t p k) (G : GroupRelated a (a.slot t) y g)
    (sub : (v : ℕ) → count v (y ∷ g) ≤ count v (under_way p)) (class : class_at p ≡ (a.slot t).class)
    (together : Together y g) where
  pub last-in : 1 ≤ count G.last (y ∷ g)
  last-in =
      omega (
        arith,
        ap (count G.last) G.is,
        count-append G.last G.front (G.last ∷ []),
        when-same G.last
            1,
      )

  -- the group's blocks are of its region and the request's class
  pub of-region : (v : ℕ) → 1 ≤ count v (y ∷ g) → BlockOf (a.slot t).hand.region (a.slot t).class v
  of-region v h =
      let f = home_of w.turn v (omega (arith, sub v)) in
      let z : region_of v ≡ region_of y = elim (same? v y) [
        | same e ↦ ap (λ (x : ℕ). region_of x) e
        | other e ↦ together v (omega (arith, when-other v y 1 e))
      ] in
      let r : (m.descriptor f.d).region ≡ (a.slot t).hand.region = f.region ∙ z ∙ sym G.region in
      subst (λ (c : ℕ). BlockOf (a.slot t).hand.region c v) (f.class ∙ class)
      (subst (λ (x : ℕ). BlockOf x (m.descriptor f.d).class v) r f.block)

  pub last-at : Last (a.slot t) G.last
  last-at =
      let b = of-region G.last last-in in
      record { block = b; at = ap (unit_of (a.slot t).hand.region (a.slot t).class) G.last_is ∙ unit-again b }

  -- the indexes of the group's first and last block are below n
  pub last-below : (a.slot t).group.last < per_region (a.slot t).class
  last-below = omega (arith, G.last_is, index_below (of-region G.last last-in))

  pub first_below : (a.slot t).group.first < per_region (a.slot t).class
  first_below = by G.front G.is G.linked
    where
      by : (q : List ℕ) → y ∷ g ≡ q ++ (G.last ∷ [])
          → Linked (link a.area) (index_of (a.slot t).class) (index_of (a.slot t).class G.last)
          (a.slot t).group.first q
          → (a.slot t).group.first < per_region (a.slot t).class
      by [] e (ends f) =
          omega (
            arith,
            index_below
                (of-region G.last (omega (arith, ap (count G.last) e, when-same G.last 1))),
          )
      by (z ∷ q) e (links f l) = omega (arith, index_below (of-region z (omega (arith, ap (count z) e, when-same z 1))))

  -- the group's region is one of the area's
  pub region-below : (a.slot t).hand.region < regions
  region-below =
      omega (arith, G.region, home_below w (home_of w.turn y (omega (arith, sub y, when-same y 1))))

  -- the last block is under way, and the blocks before it do not have it
  pub last_under : 1 ≤ count G.last (under_way p)
  last_under = omega (arith, sub G.last, last-in)

  pub front_out : count G.last G.front ≡ 0
  front_out = omega (
    arith,
    ap (count G.last) G.is,
    count-append G.last G.front (G.last ∷ []),
    when-same G.last 1,
    mine-under w G.last last_under,
    sub G.last,
  )

  pub front-sub : (v : ℕ) → count v G.front ≤ count v (under_way p)
  front-sub v = omega (arith, sub v, ap (count v) G.is, count-append v G.front (G.last ∷ []))
