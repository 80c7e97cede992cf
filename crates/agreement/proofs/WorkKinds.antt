-- The request of a task at work, by the number of its place.
use mathlib.Core.Path.{◌≡◌, refl, ap, ◌∙◌}
use mathlib.Core.Logic.{◌≢◌}
use mathlib.Core.Bool.{true, ◌&&◌}
use Prim.Native.Nat.{ℕ, suc, ◌<◌}
use native.Mathlib.Omega.{arith}
use borrow.Author.Tests.{eq-eqb, eqb-true}
use lib.Dec.{eqb}
use Rattle.rows.specs.Comparisons.{same, other, same?}
use Rattle.pieces.specs.StripUnits.{strip_unit}
use Rattle.control.specs.Layout.{LEAVING}
use Rattle.plain.specs.State.{Place, Work, strip-take, strip-give, leave-end, working, Mem}
use Rattle.plain.specs.Requests.{allocation, freeing, leaving, return_request, pop_request, request_at}
use Rattle.plain.specs.Requests.{strip_freed, frees_strip}
use Rattle.control.specs.Places.{A1, F1, STRIP_TAKE, STRIP_GIVE, LEAVE_END}
use Rattle.control.specs.declared.moves.Pop.{Pop}
use Rattle.control.specs.declared.moves.Pop.TheVariants.{Partial, Spare, Region}
use Rattle.control.specs.declared.moves.Push.TheVariants.{Retire, Back, Release, Offer}
use Rattle.stepped.proofs.Conjunction.{both}
use Rattle.agreement.specs.Contents.{Contents, Slot, TaskHand, purpose_of}
use Rattle.agreement.specs.Relation.{plain_pop, PlaceRelated, r_idle, r_working, WorkRelated, r_a1, r_popping}
use Rattle.agreement.specs.Relation.{r_pushing, r_a3_read, r_a3_exchange, r_a4, r_a7, r_a8, r_f1, r_f2}
use Rattle.agreement.specs.Relation.{r_f2_more, r_f3_read, r_f3_link, r_f3_exchange, r_f4_clear, r_strip_take}
use Rattle.agreement.specs.Relation.{r_strip_give, r_leave_end}
use Rattle.agreement.proofs.BothPass.{both_true}
use Rattle.agreement.proofs.Purposes.{is-leaving, is-freeing}
use Rattle.agreement.proofs.ListMoves.{pop-first}
use Rattle.agreement.proofs.WorkPlaces.{span}

-- a task at work allocates a small block, and is not at step 1 of a free; or frees one, and is not at step 1 of an
-- allocation; or it is to take a strip, or to give one back; or it leaves, and is at step 1 of neither,
-- or at the last step of leaving
pub data Works (s : Slot) (w : Work) : Type 0 where
  allocates : request_at w ≡ allocation s.class → s.place ≢ F1 → s.place < STRIP_TAKE → Works s w
  frees : request_at w ≡ freeing s.class s.unit → s.place ≢ A1 → s.place < STRIP_TAKE → Works s w
  takes : w ≡ strip-take s.class → s.place ≡ STRIP_TAKE → Works s w
  gives_back : (q : ℕ) → w ≡ strip-give q → s.unit ≡ strip_unit q → s.place ≡ STRIP_GIVE → Works s w
  leaves : request_at w ≡ leaving → s.place ≢ A1 → s.place ≢ F1 → s.place < STRIP_TAKE → Works s w
  ends-leaving : w ≡ leave-end → s.place ≡ LEAVE_END → Works s w

pops : (P : Pop) (c : ℕ) (h : TaskHand) → pop_request (plain_pop P c h) ≡ allocation c
pops Partial c h = refl
pops Spare c h = refl
pops Region c h = refl

-- a task that returns a cache frees a block or leaves
returns : {s : Slot} {w : Work} → request_at w ≡ return_request s.class (purpose_of s.unit) → s.place ≢ A1
    → s.place ≢ F1 → s.place < STRIP_TAKE → Works s w
returns {s} e n f l = elim (same? s.unit LEAVING) [
  | same i ↦ leaves (e ∙ ap (return_request s.class) (is-leaving i)) n f l
  | other i ↦ frees (e ∙ ap (return_request s.class) (is-freeing i)) n l
]

module _ {regions : ℕ} {a : Contents} {m : Mem} {s : Slot} where
  pub works : {w : Work} → WorkRelated regions a m s w → Works s w
  works (r_a1 e) = allocates refl (λ f. absurd (omega arith)) (omega arith)
  works (r_popping P h) =
      let i = span h in
      let j = pop-first P in
      allocates (pops P s.class s.hand) (λ f. absurd (omega arith)) (omega arith)
  works (r_pushing Retire z f h) = let i = span h in allocates refl (λ g. absurd (omega arith)) (omega arith)
  works (r_pushing Back z f h) = let i = span h in allocates refl (λ g. absurd (omega arith)) (omega arith)
  works (r_pushing Release z f h) =
      let i = span h in
      returns refl (λ g. absurd (omega arith)) (λ g. absurd (omega arith)) (omega arith)
  works (r_pushing Offer z f h) =
      let i = span h in
      returns refl (λ g. absurd (omega arith)) (λ g. absurd (omega arith)) (omega arith)
  works (r_a3_read e) = allocates refl (λ f. absurd (omega arith)) (omega arith)
  works (r_a3_exchange e N i j l o) = allocates refl (λ f. absurd (omega arith)) (omega arith)
  works (r_a4 e l n h) = allocates refl (λ f. absurd (omega arith)) (omega arith)
  works (r_a7 e) = allocates refl (λ f. absurd (omega arith)) (omega arith)
  works (r_a8 e) = allocates refl (λ f. absurd (omega arith)) (omega arith)
  works (r_f1 e) = frees refl (λ f. absurd (omega arith)) (omega arith)
  works (r_f2 e z) = returns refl (λ f. absurd (omega arith)) (λ f. absurd (omega arith)) (omega arith)
  works (r_f2_more e G) = returns refl (λ f. absurd (omega arith)) (λ f. absurd (omega arith)) (omega arith)
  works (r_f3_read e G) = returns refl (λ f. absurd (omega arith)) (λ f. absurd (omega arith)) (omega arith)
  works (r_f3_link e G N l) = returns refl (λ f. absurd (omega arith)) (λ f. absurd (omega arith)) (omega arith)
  works (r_f3_exchange e G N l i) = returns refl (λ f. absurd (omega arith)) (λ f. absurd (omega arith)) (omega arith)
  works (r_f4_clear e i) = returns refl (λ f. absurd (omega arith)) (λ f. absurd (omega arith)) (omega arith)
  works (r_strip_take e) = takes refl e
  works (r_strip_give {q} e i) = gives_back q refl i e
  works (r_leave_end e) = ends-leaving refl e

  -- the fields of a task say that it frees the strip at the slot q exactly where the plain pool's task does
  pub frees-there : {p : Place} → PlaceRelated regions a m s p → (q : ℕ) → frees_strip p ≡ suc q
      → (eqb s.place STRIP_GIVE && eqb s.unit (strip_unit q)) ≡ true
  frees-there (r_idle e) q h = absurd (omega arith)
  frees-there (r_working {w} W) q h = by (works W)
    where
      by : Works s w → (eqb s.place STRIP_GIVE && eqb s.unit (strip_unit q)) ≡ true
      by (allocates e n l) = absurd (omega (arith, ap strip_freed e))
      by (frees e n l) = absurd (omega (arith, ap strip_freed e))
      by (leaves e i j l) = absurd (omega (arith, ap strip_freed e))
      by (ends-leaving e l) = absurd (omega (arith, ap (λ x. strip_freed (request_at x)) e))
      by (takes e l) = absurd (omega (arith, ap (λ x. strip_freed (request_at x)) e))
      by (gives_back z e i l) =
          both_true (eq-eqb s.place STRIP_GIVE l)
          (eq-eqb s.unit (strip_unit q) (omega (arith, i, ap (λ x. strip_freed (request_at x)) e)))

  pub there-frees : {p : Place} → PlaceRelated regions a m s p → (q : ℕ)
      → (eqb s.place STRIP_GIVE && eqb s.unit (strip_unit q)) ≡ true → frees_strip p ≡ suc q
  there-frees P q h =
      let b = both (eqb s.place STRIP_GIVE) (eqb s.unit (strip_unit q)) h in
      of P (eqb-true s.place STRIP_GIVE b.0) (eqb-true s.unit (strip_unit q) b.1)
    where
      of : {p : Place} → PlaceRelated regions a m s p → s.place ≡ STRIP_GIVE → s.unit ≡ strip_unit q
          → frees_strip p ≡ suc q
      of (r_idle e) f g = absurd (omega arith)
      of (r_working {w} W) f g = by (works W)
        where
          by : Works s w → frees_strip (working w) ≡ suc q
          by (allocates e n l) = absurd (omega arith)
          by (frees e n l) = absurd (omega arith)
          by (leaves e i j l) = absurd (omega arith)
          by (ends-leaving e l) = absurd (omega arith)
          by (takes e l) = absurd (omega arith)
          by (gives_back z e i l) = ap (λ x. strip_freed (request_at x)) e ∙ ap suc (omega (arith, i, g))
