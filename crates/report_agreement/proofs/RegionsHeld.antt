-- Whether a task has a region itself, as it is read by its place and its region, is the plain pool's.
use mathlib.Core.Path.{◌≡◌, refl, sym, ap, ◌∙◌}
use mathlib.Core.Bool.{Bool, true, false}
use mathlib.Core.List.{List}
use Prim.Native.Nat.{ℕ, ◌+◌, ◌<◌}
use native.Mathlib.Omega.{arith}
use borrow.Author.Tests.{lt-ltb, eq-eqb, ne_eqb}
use lib.Dec.{leb}
use Rattle.limits.specs.Limits.{TASKS}
use Rattle.rows.specs.Comparisons.{same, other, same?}
use Rattle.rows.specs.Weights.{one}
use Rattle.rows.proofs.Weights.{when-same, when-other, below-is}
use Rattle.rows.proofs.Totals.{total-one}
use Rattle.fields.specs.Columns.{View}
use Rattle.plain.specs.State.{Phase, Place, Mem, Work, working}
use Rattle.plain.specs.Held.{holds_region}
use Rattle.plain.specs.HolderWeights.{region_weight}
use Rattle.plain.specs.Invariant.{Invariant}
use Rattle.control.specs.Layout.{TaskPlace, TaskRegion}
use Rattle.control.specs.Places.{TO_NEXT, TO_EXCHANGE}
use Rattle.control.specs.declared.moves.Pop.TheVariants.{Partial, Spare, Region}
use Rattle.control.specs.declared.moves.Push.TheVariants.{Retire, Back, Release, Offer}
use Rattle.agreement.specs.Contents.{slot_of, contents_of}
use Rattle.agreement.specs.Relation.{MoveRelated, at_read, at_next, at_exchange, WorkRelated, r_a1}
use Rattle.agreement.specs.Relation.{r_popping, r_pushing, r_a3_read, r_a3_exchange, r_a4, r_a7, r_a8, r_f1, r_f2}
use Rattle.agreement.specs.Relation.{r_f2_more, r_f3_read, r_f3_link, r_f3_exchange, r_f4_clear, r_strip_take}
use Rattle.agreement.specs.Relation.{r_strip_give, r_leave_end, PlaceRelated, r_idle, r_working, Related}
use Rattle.reports.proofs.Passing.{all-pass}
use Rattle.report_requests.specs.OneRegion.{is_with_region, has_region, held_region_fits, held_regions_in_range}

-- what is told of a task at the place p: it has the region that its field names, or none
data HeldTold (v : View) (t : ℕ) (p : Place) : Type 0 where
  this : is_with_region (v (TaskPlace t)) ≡ true → ((r : ℕ) → holds_region r p ≡ one r (v (TaskRegion t)) + 0)
      → HeldTold v t p
  none : is_with_region (v (TaskPlace t)) ≡ false → ((r : ℕ) → holds_region r p ≡ 0) → HeldTold v t p

-- ---- place by place

module _ {m : Mem} (v : View) (t : ℕ) where
  -- a move of a list, whose three places are alike
  in-move : {b ℓ items least : ℕ} {Ready : ℕ → Type 0} {φ : Phase} (x : Bool)
      → (is_with_region b ≡ x) × (is_with_region (b + TO_NEXT) ≡ x) × (is_with_region (b + TO_EXCHANGE) ≡ x)
      → MoveRelated m (slot_of v t) b ℓ items least Ready φ → is_with_region (v (TaskPlace t)) ≡ x
  in-move x h (at_read e) = ap is_with_region e ∙ h.0
  in-move x h (at_next e N i l) = ap is_with_region e ∙ h.1
  in-move x h (at_exchange e N i l r) = ap is_with_region e ∙ h.2

module _ {regions : ℕ} {m : Mem} (v : View) (area : List ℕ) (t : ℕ) where
  -- a task at work
  at-work : {p : Work} → WorkRelated regions (contents_of v area) m (slot_of v t) p → HeldTold v t (working p)
  unfolding is_with_region
  at-work (r_a1 e) = none (ap is_with_region e) (λ r. refl)
  at-work (r_popping Partial h) = none (in-move v t false (refl, refl, refl) h) (λ r. refl)
  at-work (r_popping Spare h) = none (in-move v t false (refl, refl, refl) h) (λ r. refl)
  at-work (r_popping Region h) = none (in-move v t false (refl, refl, refl) h) (λ r. refl)
  at-work (r_pushing Retire s f h) = none (in-move v t false (refl, refl, refl) h) (λ r. refl)
  at-work (r_pushing Back s f h) = none (in-move v t false (refl, refl, refl) h) (λ r. refl)
  at-work (r_pushing Release s f h) = this (in-move v t true (refl, refl, refl) h) (λ r. omega arith)
  at-work (r_pushing Offer s f h) = none (in-move v t false (refl, refl, refl) h) (λ r. refl)
  at-work (r_a3_read e) = none (ap is_with_region e) (λ r. refl)
  at-work (r_a3_exchange e N i j l o) = none (ap is_with_region e) (λ r. refl)
  at-work (r_a4 e l n f) = none (ap is_with_region e) (λ r. refl)
  at-work (r_a7 e) = this (ap is_with_region e) (λ r. omega arith)
  at-work (r_a8 e) = none (ap is_with_region e) (λ r. refl)
  at-work (r_f1 e) = none (ap is_with_region e) (λ r. refl)
  at-work (r_f2 e f) = none (ap is_with_region e) (λ r. refl)
  at-work (r_f2_more e G) = none (ap is_with_region e) (λ r. refl)
  at-work (r_f3_read e G) = none (ap is_with_region e) (λ r. refl)
  at-work (r_f3_link e G N l) = none (ap is_with_region e) (λ r. refl)
  at-work (r_f3_exchange e G N l f) = none (ap is_with_region e) (λ r. refl)
  at-work (r_f4_clear e f) = this (ap is_with_region e) (λ r. omega arith)
  at-work (r_strip_take e) = none (ap is_with_region e) (λ r. refl)
  at-work (r_strip_give e f) = none (ap is_with_region e) (λ r. refl)
  at-work (r_leave_end e) = none (ap is_with_region e) (λ r. refl)

  -- any task
  at_place : {p : Place} → PlaceRelated regions (contents_of v area) m (slot_of v t) p → HeldTold v t p
  unfolding is_with_region
  at_place (r_idle e) = none (ap is_with_region e) (λ r. refl)
  at_place (r_working W) = at-work W

-- ---- every task

module _ {regions : ℕ} {m : Mem} (v : View) (area : List ℕ) (R : Related regions (contents_of v area) m)
    (I : Invariant regions m) where
  -- whether a task has the region
  pub held-told : (r t : ℕ) → t < TASKS → has_region v r t ≡ leb 1 (holds_region r (m.task t).place)
  unfolding has_region
  held-told r t l = elim (at_place v area t (R.slots t l).place) [
    | none e h ↦ rw (e, h r)
    | this e h ↦ elim (same? r (v (TaskRegion t))) [
      | same z ↦ rw (e, h r, eq-eqb (v (TaskRegion t)) r (sym z), z, when-same (v (TaskRegion t)) 1)
      | other d ↦ rw (e, h r, ne_eqb (v (TaskRegion t)) r (λ z. d (sym z)), when-other r (v (TaskRegion t)) 1 d)
    ]
  ]

  -- a region that a task has is one of the area's
  fits : (t : ℕ) → t < TASKS → held_region_fits v regions t ≡ true
  unfolding held_region_fits
  fits t l = elim (at_place v area t (R.slots t l).place) [
    | none e h ↦ rw e
    | this e h ↦ (let z = v (TaskRegion t) in
        rw e
        (lt-ltb z regions (below-is z regions
        (omega (arith, h z, when-same z 1, I.regions z, total-one TASKS (region_weight z) m.task t l)))))
  ]

  pub held-pass : held_regions_in_range v regions ≡ true
  unfolding held_regions_in_range
  held-pass = all-pass TASKS (held_region_fits v regions) fits
