-- A cache that is not empty: what its two fields say, and that the tests of its top pass.
use mathlib.Core.Path.{◌≡◌, ap, ◌∙◌}
use mathlib.Core.Bool.{true}
use mathlib.Core.List.{List, ◌∷◌}
use Prim.Native.Nat.{ℕ, suc, ◌-◌, ◌≤◌, ◌<◌}
use native.Mathlib.Omega.{arith}
use lib.ListN.{length}
use Rattle.limits.specs.Limits.{UNITS}
use Rattle.rows.specs.Counting.{count}
use Rattle.rows.specs.Linked.{Linked}
use Rattle.rows.specs.Weights.{one}
use Rattle.rows.proofs.Weights.{when-same}
use Rattle.fields.specs.Columns.{View}
use Rattle.links.specs.Link.{link}
use Rattle.classes.specs.Classes.{per_region}
use Rattle.classes.specs.Geometry.{index_of}
use Rattle.classes.proofs.BlockUnits.{index_below}
use Rattle.plain.specs.State.{Mem, Place}
use Rattle.control.specs.Layout.{CacheTop, CacheCount, TaskClass}
use Rattle.stepped.specs.Ranges.{is_block, is_top}
use Rattle.agreement.proofs.ListTops.{first_of, rest_of}
use Rattle.agreement.proofs.TurnInBoth.{mine}
use Rattle.agreement.proofs.TaskBlocks.{below-tested, cached-home, cached-unit, home_below, top-max}
use Rattle.agreement.proofs.Turns.{At, cache-top, cache-count}

-- the cache of the class c has the row x ∷ q; its fields say the top u and n blocks
pub record Topped (regions : ℕ) (area : List ℕ) (c u n x : ℕ) (q : List ℕ) : Type 0 where
  pub is : u ≡ x
  pub linked : Linked (link area) (λ z. z) UNITS (link area u) q
  pub counts : n ≡ suc (length q)
  pub rest : n - 1 ≡ length q
  pub block : is_block regions c u ≡ true
  pub below : is_top regions c (n - 1) (link area u) ≡ true
  pub unit : u < UNITS
  pub index : index_of c u < per_region c
  pub link-max : link area u ≤ UNITS

pub topped : {regions : ℕ} {v : View} {area : List ℕ} {m : Mem} {t : ℕ} {p : Place} {k : ℕ → List ℕ}
    (w : At regions v area m t p k) (x : ℕ) (q : List ℕ) → k (v (TaskClass t)) ≡ x ∷ q
    → Topped regions area (v (TaskClass t)) (v (CacheTop t (v (TaskClass t)))) (v (CacheCount t (v (TaskClass t)))) x q
topped {v = v} {area} {t = t} {k = k} w x q f =
    let c = v (TaskClass t) in
    let u = v (CacheTop t c) in
    let lk : Linked (link area) (λ z. z) UNITS u (x ∷ q) =
    rw (← (cache-top w), ← f) ((mine w.pair).caches.tops c (mine w.pair).fits) in
    let i : u ≡ x = first_of lk in
    let l : Linked (link area) (λ z. z) UNITS (link area u) q = rw i (rest_of lk) in
    let n : v (CacheCount t c) ≡ suc (length q) = cache-count w ∙ ap length f in
    let r : v (CacheCount t c) - 1 ≡ length q = omega arith in
    let h : 1 ≤ count u (k c) = omega (arith, ap (count u) f, ap (one u) i, when-same u 1) in
    let H = cached-home w.pair c u h in
    let sub : (y : ℕ) → count y q ≤ count y (k c) = λ y. omega (arith, ap (count y) f) in
    record {
      is = i;
      linked = l;
      counts = n;
      rest = r;
      block = cached-unit w.pair c u h;
      below = rw r (below-tested w.pair c (link area u) q sub l);
      unit = omega (arith, w.pair.small, home_below w.pair H);
      index = rw H.class at (index_below H.block);
      link-max = top-max w.pair c (link area u) q l sub;
    }
