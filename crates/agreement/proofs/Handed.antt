-- What a finished allocation hands out: of any memories by its class, and along runs by the size that was asked for.
use mathlib.Core.Path.{◌≡◌, refl, sym, ap, subst, subst⁻¹, ◌∙◌}
use mathlib.Core.Logic.{◌↔◌, ⊎_elim}
use mathlib.Core.Bool.{true}
use Prim.Native.Nat.{ℕ, ◌≤◌, ◌<◌}
use native.Mathlib.Omega.{arith}
use borrow.Author.Tests.{ltb-true}
use lib.Dec.{ltb}
use Rattle.std.specs.declared.option.Option.TheVariants.{None}
use Rattle.limits.specs.Limits.{TASKS, CLASSES, ORDERS, WHOLE_ORDER}
use Rattle.fields.specs.Columns.{View}
use Rattle.links.specs.Link.{link}
use Rattle.classes.specs.Geometry.{region_of, is_first}
use Rattle.classes.proofs.BlockUnits.{first_block, block-aligned}
use Rattle.plain.specs.State.{strip-take, strip-give, working, Mem, leave-end, Place}
use Rattle.plain.specs.Requests.{strip_allocation, frees_strip}
use Rattle.plain.specs.Calls.{Pool, Lengths}
use Rattle.control.specs.Layout.{SlotByte, TaskUnit, TaskPlace, TaskClass, Regions, seen}
use Rattle.control.specs.Places.{A1, STRIP_TAKE}
use Rattle.control.specs.Answers.{Allocated, Freed, NoStrip}
use Rattle.stepped.specs.Outcome.{Memories}
use Rattle.stepped.specs.Ranges.{is_block}
use Rattle.stepped.specs.Calls.{Tested, step_outcome}
use Rattle.stepped.proofs.Conjunction.{left-true, right-true}
use Rattle.plain.specs.Leaving.{EmptyFrom, empty_below}
use Rattle.agreement.specs.Reached.{History, Reached}
use Rattle.agreement.specs.Asked.{Asked, nothing_yet, for_bytes, for_free, asked, for_leave}
use Rattle.agreement.specs.AtWhatAsked.{StripServes, AsAsked}
use Rattle.agreement.specs.Handed.{AlignedBlock, StripHanded, StripGiven, Gives, EndsWith16, AllEmpty}
use Rattle.agreement.proofs.GivesAsked.{gives, gives_none, gives-strip, gives_left, hands-strip}
use Rattle.agreement.proofs.Ways.{TakesTop, TakesStrip}
use Rattle.agreement.proofs.Ends.{ends_by, no_strip}
use Rattle.agreement.proofs.Reaching.{reached-tied, reached-asked}
use Rattle.pieces.specs.Pieces.{begun, Pieces}
use Rattle.pieces.specs.Strips.{StripTaken, none_found, strip_at, take_strip, give_strip}
use Rattle.pieces.specs.StripSizes.{strip_bytes, order_of}
use Rattle.pieces.specs.StripSlots.{FreeStretch}
use Rattle.pieces.specs.StripUnits.{strip_unit}
use Rattle.pieces.specs.PieceRows.{pieces_row, RowTakes, RowGives, NoneToJoin}
use Rattle.pieces.proofs.FreeStretches.{none-exactly}
use Rattle.pieces.proofs.StripGiving.{give-joined}
use Rattle.pieces.proofs.StripSizes.{rounds, less-than-twice}
use Rattle.pieces.proofs.Strips.{taken-row, taken-fits, taken-aligned, given-row, none_left}
use Rattle.strip_tree.specs.TreeMoves.{find, found_at, slot_of_node}
use Rattle.strip_tree.proofs.NoFreeNodes.{none_free, finds-none, found-once, found-none}
use Rattle.strips_agreement.specs.TreeFollows.{Follows}
use Rattle.strips_agreement.specs.StripsAgree.{TakeAgrees}
use Rattle.strips_agreement.proofs.StripsAgree.{take-agrees}
use Rattle.plain.specs.Steps.{step_of}
use Rattle.plain.specs.TaskHolds.{PlaceHolds}
use Rattle.stepped.specs.StripSteps.{tree_of}
use Rattle.agreement.proofs.AskedAtPlaces.{AtFirstStep, asked-at, after-take, after-give, after_leave}

-- ---- whatever the memories hold

-- a unit that passes the test of a block of the class
tested-block : (regions c u : ℕ) → c < CLASSES → is_block regions c u ≡ true → AlignedBlock regions c u
tested-block regions c u l e =
    let r = ltb (region_of u) regions in
    let b = first_block c u (right-true r (is_first c u) e) in
    record {
      is_class = l;
      in-area = ltb-true (region_of u) regions (left-true r (is_first c u) e);
      is-block = b;
      aligned = block-aligned b;
    }

-- the top of a task's cache that step 1 of an allocation takes is such a block
taken-block : {v : View} {t u : ℕ} → TakesTop v t u → AlignedBlock (v Regions) (v (TaskClass t)) u
taken-block {v} {t} {u} H = tested-block (v Regions) (v (TaskClass t)) u H.class H.is-block

-- A step that finishes the allocation of a small block hands out an aligned block of the class of the task's request.
pub hands_out : (lent : Lengths) (v : View) (links : ℕ → ℕ) (t u : ℕ) → v (TaskPlace t) ≡ A1
    → (step_outcome lent v links t).answer ≡ Allocated u
    → AlignedBlock (v Regions) (v (TaskClass t)) u
hands_out lent v links t u here e =
    ⊎_elim taken-block (λ K. absurd (omega (arith, here, K.place)))
    (ends_by lent v links t (Allocated u) tt e).1

-- ---- along runs

module _ {h : History} {s₁ : Memories} {s : Pool} (R : Reached h s₁ s) (lent : Lengths) (t : ℕ) where
  abbrev v : View
  v = seen s₁.control

  abbrev links : ℕ → ℕ
  links = link s₁.area

  abbrev m : Mem
  m = s.mem

  abbrev after : Mem
  after = (step_of t m).0

  started : Tested lent v t → 1 ≤ s.tasks
  started T = omega (arith, T.started, (reached-tied R).tasks)

  -- the task of a step that passes the tests
  at-task : Tested lent v t
      → AtFirstStep (asked t h) (m.task t).place (v (TaskPlace t)) (v (TaskClass t)) (v (TaskUnit t))
  at-task T =
      let l : t < TASKS = omega (arith, T.below, T.tasks) in
      asked-at (asked t h) (((reached-tied R).related (started T)).slots t l).place (reached-asked R t)

  follows : Tested lent v t → Follows (tree_of v) (λ q. v (SlotByte q)) m.strips
  follows T = ((reached-tied R).related (started T)).core.strips

  -- ---- a strip is taken

  -- what the tree finds is what the plain pool takes
  taken : {u : ℕ} → TakesStrip v t u → (x : StripTaken) → take_strip (v (TaskClass t)) m.strips ≡ x
      → TakeAgrees (tree_of v) (λ q. v (SlotByte q)) (v (TaskClass t)) x
      → (m.task t).place ≡ working (strip-take (v (TaskClass t)))
      → (size : ℕ) → StripServes size (v (TaskClass t)) → StripHanded m.strips after.strips size u
  taken K none_found e A p size Z =
      found-none (sym K.found ∙ A)
  taken {u} K (strip_at q pieces) e A p size Z =
      let f = found-once (sym A.found ∙ K.found) in
      let i = f.0 in
      let j = f.1 in
      let here : slot_of_node K.found-order K.node ≡ q = rw (i, j) at A.slot in
      let c = v (TaskClass t) in
      let r = rounds size Z.1 in
      let d = after-take t m c q pieces p e in
      let e' : take_strip (order_of size) m.strips ≡ strip_at q pieces =
      subst (λ (n : ℕ). take_strip n m.strips ≡ strip_at q pieces) Z.2 e in
      record {
        slot = q;
        is = K.is ∙ ap strip_unit here;
        fits = taken-fits (order_of size) q m.strips pieces e';
        aligned = taken-aligned (order_of size) q m.strips pieces e' r.within;
        rounds = r;
        less = ⊎_elim (λ z. omega (arith, Z.0, ap strip_bytes z)) (λ z. z) (less-than-twice size (order_of size) r);
        taken =
            subst⁻¹ (λ (x : Pieces WHOLE_ORDER). RowTakes (order_of size) q (pieces_row 0 m.strips) (pieces_row 0 x)) d
            (taken-row (order_of size) q m.strips pieces e');
      }

  -- a step that finishes an allocation hands out what was asked for
  pub handed : (u : ℕ) → (step_outcome lent v links t).answer ≡ Allocated u
      → Gives s.regions m after t (asked t h) u
  handed u e =
      let E = ends_by lent v links t (Allocated u) tt e in
      let T = E.0 in
      let regions : v Regions ≡ s.regions = (reached-tied R).regions (started T) in
      ⊎_elim
      (λ H. gives s.regions m after t (asked t h) ((at-task T).at-a1 H.place)
      (subst (λ (r : ℕ). AlignedBlock r (v (TaskClass t)) u) regions (taken-block H)))
      (λ K. let B = (at-task T).at_take K.place in
      let c = v (TaskClass t) in
      hands-strip s.regions m after t (asked t h) B.1
      (taken K (take_strip c m.strips) refl
      (take-agrees (tree_of v) (λ q. v (SlotByte q)) m.strips (follows T) c K.order) B.0))
      E.1

  -- ---- a strip is given back

  given : t < TASKS → (q : ℕ) → (m.task t).place ≡ working (strip-give q) → 1 ≤ s.tasks → (u : ℕ) → u ≡ strip_unit q
      → StripGiven m.strips after.strips t u
  given l q p k u e =
      let H = (reached-tied R).good.strips k in
      let B = H.begun_by t q l (ap frees_strip p) in
      let d = after-give t m q p in
      record {
        slot = q;
        order = B.0;
        is = e;
        given =
            subst⁻¹
            (λ (x : Pieces WHOLE_ORDER). RowGives B.0 q (begun t) (pieces_row 0 m.strips) (pieces_row 0 x)) d
            (given-row m.strips q B.0 (begun t) B.1);
        none_left =
            subst⁻¹ (λ (x : Pieces WHOLE_ORDER). NoneToJoin (pieces_row 0 x)) d
            (none_left (give_strip q m.strips) (give-joined m.strips q H.joined));
      }

  -- ---- a task has left

  left : t < TASKS → (m.task t).place ≡ working leave-end → 1 ≤ s.tasks → AllEmpty (after.task t).cache
  left l p k =
      after_leave t m p
      (subst (λ (x : Place). EmptyFrom (m.task t).cache 0 (empty_below x)) p
      (((reached-tied R).good.leaves k).empty t l))

  -- a step that finishes a free, or leaving, finishes one that was asked for
  pub freed : (step_outcome lent v links t).answer ≡ Freed → Gives s.regions m after t (asked t h) 0
  freed e =
      let E = ends_by lent v links t Freed tt e in
      let T = E.0 in
      let l : t < TASKS = omega (arith, T.below, T.tasks) in
      ⊎_elim
      (λ H. gives_none s.regions m after t (v (TaskClass t)) (v (TaskUnit t)) (asked t h) ((at-task T).at-f1 H))
      (⊎_elim
      (λ H. let B = (at-task T).at_give H in
      gives-strip s.regions m after t B.0 (asked t h) B.1.1 (given l B.0 B.1.0 (started T)))
      (λ H. let B = (at-task T).at-leave H in
      gives_left s.regions m after t (asked t h) B.1 (left l B.0 (started T))))
      E.1

  -- ---- 16

  -- the search finds nothing exactly where the plain pool has no strip
  none_alike : Tested lent v t → v (TaskClass t) < ORDERS
      → (find (tree_of v) (v (TaskClass t)) ≡ None) ↔ (take_strip (v (TaskClass t)) m.strips ≡ none_found)
  none_alike T few =
      by (take_strip (v (TaskClass t)) m.strips) refl
      (take-agrees (tree_of v) (λ q. v (SlotByte q)) m.strips (follows T) (v (TaskClass t)) few)
    where
      by : (x : StripTaken) → take_strip (v (TaskClass t)) m.strips ≡ x
          → TakeAgrees (tree_of v) (λ q. v (SlotByte q)) (v (TaskClass t)) x
          → (find (tree_of v) (v (TaskClass t)) ≡ None) ↔ (take_strip (v (TaskClass t)) m.strips ≡ none_found)
      by none_found e A = (λ f. e, λ f. A)
      by (strip_at q pieces) e A = (
        λ f. found-none (sym A.found ∙ f),
        λ f. let g : strip_at q pieces ≡ none_found = sym e ∙ f in
            let y : ◌≡◌ {A = ℕ} 0 1 = cc in absurd (omega arith),
      )

  -- A step of a strip's request ends with 16 exactly where no aligned stretch of the rounded size is free.
  pub sixteen-exactly : Tested lent v t → v (TaskPlace t) ≡ STRIP_TAKE
      → EndsWith16 m.strips (asked t h) ((step_outcome lent v links t).answer ≡ NoStrip)
  sixteen-exactly T here = by (asked t h) refl B.1
    where
      B : ((m.task t).place ≡ working (strip-take (v (TaskClass t)))) × AsAsked (asked t h)
          (strip_allocation (v (TaskClass t)))
      B = (at-task T).at_take here

      few : v (TaskClass t) < ORDERS
      few =
          let I = (reached-tied R).good.inv (started T) in
          let l : t < TASKS = omega (arith, T.below, T.tasks) in
          subst (PlaceHolds (m.task t).cache) B.0 (I.tasks t l).place

      exact : (k : ℕ) → k ≡ v (TaskClass t)
          → ((step_outcome lent v links t).answer ≡ NoStrip) ↔ ((q : ℕ) → FreeStretch m.strips k q → ⊥)
      exact k e =
          let N = no_strip lent v links t in
          let M = none_alike T few in
          let X = none-exactly (v (TaskClass t)) m.strips (omega (arith, few))
          ((reached-tied R).good.strips (started T)).joined in
          subst⁻¹ (λ (n : ℕ). ((step_outcome lent v links t).answer ≡ NoStrip)
          ↔ ((q : ℕ) → FreeStretch m.strips n q → ⊥)) e (
            λ f. X.0 (M.0 (finds-none (tree_of v) (v (TaskClass t)) few (N.0 f).1.none)),
            λ f. N.1 (
              T,
              record {
                place = here;
                order = few;
                none = none_free (tree_of v) (v (TaskClass t)) few (M.1 (X.1 f));
              },
            ),
          )

      by : (a : Asked) → asked t h ≡ a → AsAsked a (strip_allocation (v (TaskClass t)))
          → EndsWith16 m.strips (asked t h) ((step_outcome lent v links t).answer ≡ NoStrip)
      by (for_bytes size) e Z =
          record { size = size; asked_for = e; is_strip = Z.0; exactly = exact (order_of size) (sym Z.2) }
      by nothing_yet e Z = absurd Z
      by (for_free unit) e Z = absurd Z
      by for_leave e Z = absurd Z
