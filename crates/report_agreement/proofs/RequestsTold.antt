-- What is told of the tasks' requests is what the plain pool has under way, place by place.
use mathlib.Core.Path.{◌≡◌, refl, sym, ap, ◌∙◌}
use mathlib.Core.Bool.{true, false, not}
use mathlib.Core.List.{List, [], ◌∷◌, ◌++◌}
use Prim.Native.Nat.{ℕ, zero, suc, ◌+◌, ◌-◌, ◌≤◌, ◌<◌}
use native.Mathlib.Omega.{arith}
use lib.Dec.{eqb}
use lib.ListN.{length}
use Rattle.std.specs.Prelude.{is_ok}
use Rattle.std.specs.declared.result.Result.{Result}
use Rattle.limits.specs.declared.index.OutOfRange.{OutOfRange}
use Rattle.limits.specs.Limits.{REGIONS, TASKS}
use Rattle.rows.specs.Weights.{when}
use Rattle.rows.specs.Counting.{count}
use Rattle.rows.specs.Totals.{total}
use Rattle.rows.proofs.Counting.{count-first}
use Rattle.rows.proofs.Weights.{when-zero}
use Rattle.rows.proofs.Totals.{total-same}
use Rattle.fields.specs.Columns.{View}
use Rattle.classes.specs.Classes.{per_region}
use Rattle.classes.specs.Geometry.{unit_of, region_of}
use Rattle.classes.proofs.BlockUnits.{region-again, region-is}
use Rattle.plain.specs.State.{Phase, Place, Mem, Work, working, Purpose, to_free, to_leave}
use Rattle.plain.specs.Held.{class_at, under_way, own_blocks}
use Rattle.plain.specs.Blocks.{blocks_from}
use Rattle.plain.specs.TaskHolds.{Together}
use Rattle.plain.specs.Invariant.{Invariant}
use Rattle.plain.proofs.Blocks.{counts-block}
use Rattle.plain.proofs.PlaceAlone.{place_holds}
use Rattle.control.specs.Layout.{TaskUnit, LEAVING, TaskIndex, TaskLeft, GroupCount, TaskPlace, TaskClass, TaskRegion}
use Rattle.control.specs.Places.{A1, A3_READ, A3_EXCHANGE, A4, A7, A8, F1, F2, F3_READ, F3_LINK, F3_EXCHANGE}
use Rattle.control.specs.Places.{F4_CLEAR, TO_NEXT, TO_EXCHANGE}
use Rattle.control.specs.declared.moves.Pop.TheVariants.{Partial, Spare, Region}
use Rattle.control.specs.declared.moves.Push.TheVariants.{Retire, Back, Release, Offer}
use Rattle.ranges.proofs.Passed.{block-passed}
use Rattle.agreement.specs.Contents.{slot_of, contents_of, purpose_of}
use Rattle.agreement.specs.Relation.{MoveRelated, at_read, at_next, at_exchange, GroupRelated, WorkRelated, r_a1}
use Rattle.agreement.specs.Relation.{r_popping, r_pushing, r_a3_read, r_a3_exchange, r_a4, r_a7, r_a8, r_f1, r_f2}
use Rattle.agreement.specs.Relation.{r_f2_more, r_f3_read, r_f3_link, r_f3_exchange, r_f4_clear, r_strip_take}
use Rattle.agreement.specs.Relation.{r_strip_give, r_leave_end, PlaceRelated, r_idle, r_working, Related}
use Rattle.agreement.proofs.TurnInBoth.{Pair, mine}
use Rattle.agreement.proofs.TaskBlocks.{under-unit}
use Rattle.agreement.proofs.Purposes.{group-in}
use Rattle.agreement.proofs.GroupBlocks.{of-region, region-below}
use Rattle.reports.specs.ByRegion.{in_region}
use Rattle.reports.proofs.Passing.{all-pass}
use Rattle.report_requests.specs.declared.RequestBlocks.{RequestBlocks}
use Rattle.report_requests.specs.UnderWay.{count_at, least_at, is_return, is_freeing, is_without, no_blocks}
use Rattle.report_requests.specs.UnderWay.{request_blocks, in_request}
use Rattle.report_requests.specs.UnderWay.{requests_in_range, blocks_in_requests}
use Rattle.report_agreement.proofs.RequestTests.{RequestTold, one-region, carved-region, Line, line_of, line_with}
use Rattle.report_agreement.proofs.RequestTests.{no-blocks, row_told, freed-told, return-told}

-- the task's own block alone, if there is one
alone : (z : Purpose) → own_blocks z ≡ own_blocks z ++ []
alone (to_free u) = refl
alone to_leave = refl

-- the first of the blocks still to be carved is one of them
first-carved : (z c i k : ℕ) → 1 ≤ k → 1 ≤ count (unit_of z c i) (blocks_from z c i k)
first-carved z c i zero h = absurd (omega arith)
first-carved z c i (suc k) h = count-first (unit_of z c i) (blocks_from z c (suc i) k)

-- ---- what is read by the place

-- nothing is under way
abbrev none : Line
none = line_with 0 0 false

-- a return: the block being freed, unless the task leaves
abbrev own : View → ℕ → Line
own v t = line_with 0 0 (not (eqb (v (TaskUnit t)) LEAVING))

-- a return with a group, of which so many blocks are due at least
abbrev own_and_group : View → ℕ → ℕ → Line
own_and_group v t least = line_with (v (GroupCount t)) least (not (eqb (v (TaskUnit t)) LEAVING))

module _ (v : View) (t : ℕ) where
  -- at the place n the line is x
  at_place : (n : ℕ) (x : Line) → v (TaskPlace t) ≡ n → line_of v t n ≡ x → line_of v t (v (TaskPlace t)) ≡ x
  at_place n x e h = ap (line_of v t) e ∙ h

  -- at the three places of a list move the line is x
  in-move : {m : Mem} {b ℓ items least : ℕ} {Ready : ℕ → Type 0} {φ : Phase} (x : Line)
      → (line_of v t b ≡ x) × (line_of v t (b + TO_NEXT) ≡ x) × (line_of v t (b + TO_EXCHANGE) ≡ x)
      → MoveRelated m (slot_of v t) b ℓ items least Ready φ → line_of v t (v (TaskPlace t)) ≡ x
  in-move {b = b} x h (at_read e) = at_place b x e h.0
  in-move {b = b} x h (at_next e N i l) = at_place (b + TO_NEXT) x e h.1
  in-move {b = b} x h (at_exchange e N i l r) = at_place (b + TO_EXCHANGE) x e h.2

-- ---- what follows from it

module _ {regions : ℕ} {m : Mem} {p : Place} {k : ℕ → List ℕ} (v : View) (area : List ℕ) (t : ℕ)
    (w : Pair regions (contents_of v area) m t p k) where
  -- a block under way lies in the area
  in-area : (u : ℕ) → 1 ≤ count u (under_way p) → region_of u < regions
  in-area u h = omega (arith, block-passed regions (class_at p) u (under-unit w u h))

  -- a task that has none under way, of whatever class
  without-told : is_without (v (TaskPlace t)) ≡ true → under_way p ≡ [] → RequestTold (request_blocks v regions t) p
  unfolding request_blocks in_request
  without-told e u =
      let none-there : request_blocks v regions t ≡ no_blocks = rw e in
      record {
        fits = ap (λ (q : Result RequestBlocks OutOfRange). is_ok q) none-there;
        number = λ c r.
            ap (in_request c r) none-there
            ∙ ap (when c 0) (omega (arith, when-zero r 0))
            ∙ when-zero c 0
            ∙ sym (ap (λ (q : List ℕ). when c (class_at p) (in_region r q)) u ∙ when-zero c (class_at p));
      }

  -- nothing is under way yet
  quiet : line_of v t (v (TaskPlace t)) ≡ none → under_way p ≡ [] → RequestTold (request_blocks v regions t) p
  quiet e u =
      row_told (no-blocks e (mine w).fits) {p = p} refl (λ c r.
      ap (when c (v (TaskClass t))) (when-zero r (v (TaskRegion t)))
      ∙ when-zero c (v (TaskClass t))
      ∙ sym (ap (λ (q : List ℕ). when c (class_at p) (in_region r q)) u ∙ when-zero c (class_at p)))

  -- n blocks of the task's region
  rowed : (n least : ℕ) → line_of v t (v (TaskPlace t)) ≡ line_with n least false → least ≤ n
      → n ≤ per_region (v (TaskClass t)) → v (TaskRegion t) < regions → class_at p ≡ v (TaskClass t)
      → ((r : ℕ) → in_region r (under_way p) ≡ when r (v (TaskRegion t)) n) → RequestTold (request_blocks v regions t) p
  rowed n least e due most region c-is number =
      row_told (record { line = e; class = (mine w).fits; due = due; most = most; region = λ h. region }) {p = p} refl
      (λ c r. rw (number r, c-is))

  -- a return with no group
  returned : line_of v t (v (TaskPlace t)) ≡ own v t
      → under_way p ≡ own_blocks (purpose_of (v (TaskUnit t))) → class_at p ≡ v (TaskClass t)
      → RequestTold (request_blocks v regions t) p
  returned e u c-is =
      return-told {p = p} [] w.small (no-blocks e (mine w).fits) (under-unit w) c-is
      (u ∙ alone (purpose_of (v (TaskUnit t)))) (λ r. when-zero r (v (TaskRegion t)))

  -- a return with a group
  grouped : {y : ℕ} {g : List ℕ} (least : ℕ) → least ≤ 1
      → line_of v t (v (TaskPlace t)) ≡ own_and_group v t least
      → GroupRelated (contents_of v area) (slot_of v t) y g
      → under_way p ≡ own_blocks (purpose_of (v (TaskUnit t))) ++ (y ∷ g) → class_at p ≡ v (TaskClass t) → Together y g
      → suc (length g) ≤ per_region (v (TaskClass t)) → RequestTold (request_blocks v regions t) p
  grouped {y} {g} least one e G u c-is together most =
      let z = purpose_of (v (TaskUnit t)) in
      let sub : (x : ℕ) → count x (y ∷ g) ≤ count x (under_way p) = λ x.
      omega (arith, ap (count x) u, group-in z (y ∷ g) x) in
      return-told {p = p} (y ∷ g) w.small
      (record {
        line = e;
        class = (mine w).fits;
        due = omega (arith, G.counts);
        most = omega (arith, G.counts);
        region = λ h. region-below w G sub c-is together;
      }) (under-unit w) c-is u (λ r.
      ap (when r (v (TaskRegion t))) G.counts
      ∙ sym (one-region r (v (TaskRegion t)) (y ∷ g) (λ x h. region-is (of-region w G sub c-is together x h))))

-- ---- place by place

module _ {regions : ℕ} {m : Mem} {k : ℕ → List ℕ} (v : View) (area : List ℕ) (t : ℕ) where
  -- of a task at work
  at-work : {p : Work} (w : Pair regions (contents_of v area) m t (working p) k)
      → WorkRelated regions (contents_of v area) m (slot_of v t) p
      → RequestTold (request_blocks v regions t) (working p)
  unfolding count_at least_at is_return is_freeing is_without
  at-work w (r_a1 e) = quiet v area t w (at_place v t A1 none e refl) refl
  at-work w (r_popping Partial h) = quiet v area t w (in-move v t none (refl, refl, refl) h) refl
  at-work w (r_popping Spare h) = quiet v area t w (in-move v t none (refl, refl, refl) h) refl
  at-work w (r_popping Region h) = quiet v area t w (in-move v t none (refl, refl, refl) h) refl
  at-work w (r_pushing Retire s f h) = quiet v area t w (in-move v t none (refl, refl, refl) h) refl
  at-work w (r_pushing Back s f h) = quiet v area t w (in-move v t none (refl, refl, refl) h) refl
  at-work w (r_pushing Release s f h) = returned v area t w (in-move v t (own v t) (refl, refl, refl) h) refl refl
  at-work w (r_pushing Offer s f h) = returned v area t w (in-move v t (own v t) (refl, refl, refl) h) refl refl
  at-work w (r_a3_read e) = quiet v area t w (at_place v t A3_READ none e refl) refl
  at-work w (r_a3_exchange e N i j l o) = quiet v area t w (at_place v t A3_EXCHANGE none e refl) refl
  at-work w (r_a4 {x = x} {q = q} e l n f) =
      let c = v (TaskClass t) in
      let z = v (TaskRegion t) in
      let there : (u : ℕ) → 1 ≤ count u (x ∷ q) → region_of u ≡ z = λ u h.
      region-is (counts-block z c u (omega (arith, f u))) in
      rowed v area t w (v (TaskLeft t)) 1 (at_place v t A4 (line_with (v (TaskLeft t)) 1 false) e refl)
      (omega (arith, n)) (omega (arith, n, (place_holds w.turn).1))
      (omega (arith, there x (count-first x q), in-area v area t w x (count-first x q))) refl
      (λ r. one-region r z (x ∷ q) there ∙ ap (when r z) (sym n))
  at-work w (r_a7 e) = quiet v area t w (at_place v t A7 none e refl) refl
  at-work w (r_a8 e) =
      let c = v (TaskClass t) in
      let z = v (TaskRegion t) in
      let i = v (TaskIndex t) in
      let h : i < per_region c = (place_holds w.turn).2 in
      let inside : z < regions =
      rw (region-again z c i h) at (in-area v area t w (unit_of z c i)
      (first-carved z c i (per_region c - i) (omega arith))) in
      rowed v area t w (per_region c - i) 1 (at_place v t A8 (line_with (per_region c - i) 1 false) e refl)
      (omega arith) (omega arith) inside refl (λ r. carved-region r z c i (per_region c - i) (omega arith))
  at-work w (r_f1 e) =
      let u = v (TaskUnit t) in
      freed-told (no-blocks (at_place v t F1 (line_with 0 0 true) e refl) (mine w).fits) [] w.small refl
      (under-unit w u (count-first u [])) refl refl (λ r. when-zero r (v (TaskRegion t)))
  at-work w (r_f2 e z) =
      returned v area t w
      (at_place v t F2 (own_and_group v t 0) e refl
      ∙ ap (λ (n : ℕ). line_with n 0 (not (eqb (v (TaskUnit t)) LEAVING))) z)
      (sym (alone (purpose_of (v (TaskUnit t))))) refl
  at-work w (r_f2_more e G) =
      grouped v area t w 0 (omega arith) (at_place v t F2 (own_and_group v t 0) e refl) G refl refl
      (place_holds w.turn).3 (omega (arith, (place_holds w.turn).2))
  at-work w (r_f3_read e G) =
      grouped v area t w 1 (omega arith) (at_place v t F3_READ (own_and_group v t 1) e refl) G refl refl
      (place_holds w.turn).2 (omega (arith, (place_holds w.turn).1))
  at-work w (r_f3_link e G N l) =
      grouped v area t w 1 (omega arith) (at_place v t F3_LINK (own_and_group v t 1) e refl) G refl refl
      (place_holds w.turn).2 (omega (arith, (place_holds w.turn).1))
  at-work w (r_f3_exchange e G N l f) =
      grouped v area t w 1 (omega arith) (at_place v t F3_EXCHANGE (own_and_group v t 1) e refl) G refl refl
      (place_holds w.turn).2 (omega (arith, (place_holds w.turn).1))
  at-work w (r_f4_clear e f) = returned v area t w (at_place v t F4_CLEAR (own v t) e refl) refl refl
  at-work w (r_strip_take e) = without-told v area t w (ap is_without e) refl
  at-work w (r_strip_give e f) = without-told v area t w (ap is_without e) refl
  at-work w (r_leave_end e) = without-told v area t w (ap is_without e) refl

  -- of any task
  told_at : {p : Place} (w : Pair regions (contents_of v area) m t p k)
      → PlaceRelated regions (contents_of v area) m (slot_of v t) p → RequestTold (request_blocks v regions t) p
  unfolding is_without
  told_at w (r_idle e) = without-told v area t w (ap is_without e) refl
  told_at w (r_working W) = at-work w W

-- ---- every task

module _ {regions : ℕ} {m : Mem} (v : View) (area : List ℕ) (small : regions ≤ REGIONS)
    (R : Related regions (contents_of v area) m) (I : Invariant regions m) where
  -- the request of a task is told as the plain pool has it
  pub request-told : (t : ℕ) → t < TASKS → RequestTold (request_blocks v regions t) (m.task t).place
  request-told t l =
      told_at v area t (record { rel = R; turn = record { inv = I; fits = l; is = refl }; small = small })
      (R.slots t l).place

  -- the requests of all tasks are in their ranges
  pub requests-pass : requests_in_range v regions ≡ true
  unfolding requests_in_range
  requests-pass = all-pass TASKS (λ t. is_ok (request_blocks v regions t)) (λ t l. (request-told t l).fits)

  -- the blocks of a class and a region that the requests have are those that the plain pool has under way
  pub requests-told : (c r : ℕ) → blocks_in_requests v regions c r
      ≡ total TASKS (λ t T. when c (class_at T.place) (in_region r (under_way T.place))) m.task
  unfolding blocks_in_requests
  requests-told c r =
      total-same TASKS (λ t q. in_request c r q) (request_blocks v regions)
      (λ t T. when c (class_at T.place) (in_region r (under_way T.place))) m.task
      (λ t l. (request-told t l).number c r)
