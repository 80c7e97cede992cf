-- Whether a request has blocks of a region, as it is read, is the plain pool's.
use mathlib.Core.Path.{◌≡◌, sym, ap, ◌∙◌}
use mathlib.Core.Bool.{true}
use mathlib.Core.List.{List, [], ◌∷◌}
use Prim.Native.Nat.{ℕ, suc, ◌≤◌, ◌<◌}
use native.Mathlib.Omega.{arith}
use borrow.Author.Tests.{le-leb, leb-true}
use lib.Dec.{leb}
use Rattle.limits.specs.Limits.{REGIONS, TASKS}
use Rattle.rows.specs.Comparisons.{same, other, same?}
use Rattle.rows.specs.Weights.{when, one}
use Rattle.rows.specs.Counting.{count}
use Rattle.rows.proofs.Counting.{count-first}
use Rattle.rows.proofs.Weights.{when-same, when-other, when-is}
use Rattle.fields.specs.Columns.{View}
use Rattle.classes.specs.Geometry.{region_of}
use Rattle.plain.specs.State.{Mem}
use Rattle.plain.specs.Held.{class_at, under_way}
use Rattle.plain.specs.Invariant.{Invariant}
use Rattle.agreement.specs.Contents.{contents_of}
use Rattle.agreement.specs.Relation.{Related}
use Rattle.agreement.specs.Observe.{plain_class}
use Rattle.reports.specs.ByRegion.{in_region}
use Rattle.report_requests.specs.OneRegion.{has_blocks}
use Rattle.report_agreement.specs.Whereabouts.{times_running_by}
use Rattle.report_agreement.proofs.RequestsTold.{request-told}
use Rattle.report_agreement.proofs.KeptBlocks.{running-class}

-- a row with blocks of a region has one
row-some : (r : ℕ) (q : List ℕ) → 1 ≤ in_region r q → (u : ℕ) × (region_of u ≡ r) × (1 ≤ count u q)
row-some r [] h = absurd (omega arith)
row-some r (x ∷ q) h = elim (same? r (region_of x)) [
  | same e ↦ (x, sym e, count-first x q)
  | other d ↦ (let f = row-some r q (omega (arith, when-other r (region_of x) 1 d)) in
      (f.0, f.1, omega (arith, f.2)))
]

-- and a row that has one counts it
row_has : (r : ℕ) (q : List ℕ) (u : ℕ) → region_of u ≡ r → 1 ≤ count u q → 1 ≤ in_region r q
row_has r [] u e h = absurd (omega arith)
row_has r (x ∷ q) u e h = elim (same? u x) [
  | same f ↦ omega (arith, ap (one r) (sym (ap region_of f) ∙ e), when-same r 1)
  | other d ↦ omega (arith, row_has r q u e (omega (arith, when-other u x 1 d)))
]

module _ {regions : ℕ} {m : Mem} (v : View) (area : List ℕ) (small : regions ≤ REGIONS)
    (R : Related regions (contents_of v area) m) (I : Invariant regions m) (r c : ℕ)
    (opened : plain_class m r ≡ suc c) (t : ℕ) (task : t < TASKS) where
  -- how many are told
  many : ℕ
  many = when c (class_at (m.task t).place) (in_region r (under_way (m.task t).place))

  told : has_blocks v regions c r t ≡ leb 1 many
  unfolding has_blocks many
  told = ap (leb 1) ((request-told v area small R I t task).number c r)

  -- where some are told, the request has one,
  pub has-running : has_blocks v regions c r t ≡ true
      → (u : ℕ) × (region_of u ≡ r) × (1 ≤ times_running_by (m.task t) u)
  unfolding many
  has-running e =
      let q = under_way (m.task t).place in
      row-some r q (when-is c (class_at (m.task t).place) (in_region r q) (leb-true 1 many (sym told ∙ e))).1

  -- and where it has one, some are told
  pub running-told : (u : ℕ) → region_of u ≡ r → 1 ≤ times_running_by (m.task t) u → has_blocks v regions c r t ≡ true
  unfolding many
  running-told u e h =
      let q = under_way (m.task t).place in
      let z : class_at (m.task t).place ≡ c = running-class I r c opened t u task e h in
      told ∙ le-leb 1 many
      (omega (arith, ap (λ (x : ℕ). when c x (in_region r q)) z, when-same c (in_region r q), row_has r q u e h))
