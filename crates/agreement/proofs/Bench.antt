-- The starred rows of the bench table, as one statement over the table.
use mathlib.Core.Path.{◌≡◌, refl, ap, ◌∙◌}
use mathlib.Core.Bool.{Bool, true, false, cond}
use mathlib.Core.List.{List, [], ◌∷◌, ◌++◌, map}
use Prim.Native.Nat.{ℕ, zero, suc, ◌+◌, ◌-◌, ◌/◌, ◌≤◌, ◌<◌}
use native.Mathlib.Omega.{arith}
use native.Mathlib.Decide.{ℕ_discrete, dec_lt}
use borrow.Author.Tests.{eq-eqb, ne_eqb, lt-ltb, le-ltb}
use lib.Dec.{eqb, ltb}
use lib.ListN.{length, replicate, length-replicate, drop}
use Rattle.limits.specs.Limits.{REGION_BYTES, CLASSES, DESCRIPTORS, LARGEST_SIZE, TAGS}
use Rattle.limits.specs.Limits.{SPARE_DESCRIPTORS}
use Rattle.limits.specs.Limits.{SPARE_REGIONS}
use Rattle.rows.specs.Branch.{if}
use Rattle.rows.proofs.Branch.{if_no}
use Rattle.rows.proofs.Update.{update_same}
use Rattle.fields.specs.Columns.{View, ◌:=◌}
use Rattle.words.specs.Head.{word, next_tag}
use Rattle.classes.specs.Classes.{units, per_region}
use Rattle.std.specs.Prelude.{Ok, Err}
use Rattle.limits.specs.declared.refusal.Refusal.TheVariants.{SizeZero, SizeTooLarge}
use Rattle.classes.specs.Sizes.{class_of, choice}
use Rattle.classes.specs.Geometry.{unit_of}
use Rattle.classes.specs.declared.size.Choice.TheVariants.{Class, Strip}
use Rattle.classes.proofs.Sizes.{is_class}
use Rattle.classes.proofs.Tables.{per_region-high}
use Rattle.plain.specs.State.{a1, working, Mem, set_task}
use Rattle.plain.specs.Moves.{nothing, going, refused}
use Rattle.plain.specs.Steps.{step_of}
use Rattle.plain.specs.Calls.{Pool, Start, allocate, step, start_mem, rising, unstarted}
use Rattle.plain.specs.Calls as Plain
use Rattle.plain.proofs.PlaceAlone.{task_of}
use Rattle.plain.proofs.CallTests.{passed, start-passed}
use Rattle.control.specs.Layout.{TaskPlace, TaskClass, TaskLost}
use Rattle.control.specs.Places.{A1}
use Rattle.stepped.specs.Outcome.{Memories, refuse, accept}
use Rattle.stepped.specs.Calls.{Lent, lengths}
use Rattle.stepped.specs.Calls as Stepped
use Rattle.agreement.specs.Events.{call, whole, Premises}
use Rattle.agreement.specs.Reached.{starting}
use Rattle.agreement.proofs.BenchSizes.{Served, served, sizes, sizes-hold}
use Rattle.agreement.proofs.Undisturbed.{brief, finishing, task_answers, Finishes, told, opens}
use Rattle.agreement.proofs.AnswersOfRuns.{stepped_answers, whole_answers, answered-from-start, WritesHeld, short}
use Rattle.limits.specs.Limits.{LARGEST_STRIP, WHOLE_ORDER, ORDERS}
use borrow.Author.Tests.{le-leb}
use lib.Dec.{leb}
use Rattle.rows.proofs.Branch.{if_yes}
use Rattle.pieces.specs.Strips.{halved_to, none_found, strip_at, take_strip}
use Rattle.pieces.specs.StripSizes.{order_of}
use Rattle.pieces.specs.StripUnits.{strip_unit}
use Rattle.pieces.proofs.StripSizes.{rounds}
use Rattle.plain.specs.State.{Work, strip-take}
use Rattle.plain.specs.Steps.{strip_take_step, step_at}
use Rattle.plain.specs.Calls.{first_place}
use Rattle.control.specs.Places.{STRIP_TAKE}
use Rattle.agreement.proofs.Undisturbed.{last, taken}
use Rattle.agreement.proofs.BenchTable.{Row, of_size, first-allocation, table, stepped_begins, plain_begins}
use Rattle.agreement.proofs.BenchTable.{allocating, RowHolds, Every}

-- ---- sizes

stepped-size : (s t : ℕ) (v : View) → stepped_begins v t (Stepped.begin_allocate t s) ≡ served s (choice s)
unfolding Stepped.begin_allocate choice
stepped-size s t v = by (eqb s 0) (ltb LARGEST_STRIP s) (ltb LARGEST_SIZE s)
  where
    by : (a b c : Bool)
        → stepped_begins v t (cond a (refuse 8) (cond b (refuse 9)
        (cond c (accept nothing (TaskPlace t := STRIP_TAKE ∷ TaskClass t := order_of s ∷ TaskLost t := 0 ∷ []) [])
        (accept nothing (TaskPlace t := A1 ∷ TaskClass t := class_of s ∷ TaskLost t := 0 ∷ []) []))))
        ≡ served s (cond a (Err SizeZero) (cond b (Err SizeTooLarge) (cond c (Ok Strip) (Ok (Class (class_of s))))))
    by true b c = refl
    by false true c = refl
    by false false true = rw (eq-eqb t t refl)
    by false false false = rw (eq-eqb t t refl)

plain_size : (s t : ℕ) (m : Mem) → plain_begins t (Plain.begin_allocate t s m) ≡ served s (choice s)
unfolding choice
plain_size s t m = by (ℕ_discrete s 0) (dec_lt LARGEST_STRIP s) (dec_lt LARGEST_SIZE s)
  where
    by : (a : Dec (s ≡ 0)) (b : Dec (LARGEST_STRIP < s)) (c : Dec (LARGEST_SIZE < s))
        → plain_begins t
        (if a (m, refused 8)
        (if b (m, refused 9) (
          set_task t (task_of (working (if c (strip-take (order_of s)) (a1 (class_of s)))) (m.task t).cache) m,
          going nothing,
        )))
        ≡ served s (choice s)
    by (yes e) b c = rw (eq-eqb s 0 e)
    by (no e) (yes l) c = rw (ne_eqb s 0 e, lt-ltb LARGEST_STRIP s l)
    by (no e) (no l) (yes k) =
        rw (
          ne_eqb s 0 e,
          le-ltb LARGEST_STRIP s (omega arith),
          lt-ltb LARGEST_SIZE s k,
          update_same m.task t (task_of (working (strip-take (order_of s))) (m.task t).cache),
        )
    by (no e) (no l) (no k) =
        rw (
          ne_eqb s 0 e,
          le-ltb LARGEST_STRIP s (omega arith),
          le-ltb LARGEST_SIZE s (omega arith),
          update_same m.task t (task_of (working (a1 (class_of s))) (m.task t).cache),
        )

-- a list of sizes that are shown as they should be
each : (q : List (ℕ × Served)) → map (λ r. served r.0 (choice r.0)) q ≡ map (λ r. r.1) q
    → Every (map (λ r. of_size r.0 r.1) q)
each [] h = tt
each (r ∷ q) h =
    let e : served r.0 (choice r.0) ≡ r.1 = cc in
    (λ t v m. (stepped-size r.0 t v ∙ e, plain_size r.0 t m ∙ e), each q (cc))

join : (p q : List Row) → Every p → Every q → Every (p ++ q)
join [] q h k = k
join (r ∷ p) q h k = (h.0, join p q h.1 k)

-- ---- first allocations

module _ (lent : Lent) (b : Start) (t : ℕ) (T : Plain.StartTested b (lengths lent)) (l : t < b.tasks) where
  abbrev regions : ℕ
  regions = length lent.area / REGION_BYTES

  -- the started pool, with what it keeps
  abbrev pool : Mem → Pool
  pool m = record { tasks = b.tasks; regions = regions; mem = m }

  passes : (m : Mem) → Plain.Tested t (lengths lent) (pool m)
  passes m = record {
    control_is = T.control_is;
    started = T.tasks.0;
    lengths = (omega (arith, T.lengths.0), T.lengths.1);
    below = l;
  }

  starts : whole (starting b lent) unstarted ≡ (pool (start_mem regions), going nothing)
  unfolding Plain.plain_call
  starts =
      start-passed unstarted T

  -- the pool with the allocation begun: no cache has a block
  abbrev begun : ℕ → Mem
  begun size = set_task t (task_of (working (first_place size)) (λ c. [])) (start_mem regions)

  begins-so : (size : ℕ) → 1 ≤ size → size ≤ LARGEST_STRIP
      → whole (call (allocate t size) lent) (pool (start_mem regions)) ≡ (pool (begun size), going nothing)
  unfolding Plain.plain_call start_mem
  begins-so size p q =
      passed (Plain.begin_allocate t size (start_mem regions)) (passes (start_mem regions))
      ∙ ap (Plain.became (pool (start_mem regions)))
      (if_no (ℕ_discrete size 0) _ _ (λ e. absurd (omega arith))
      ∙ if_no (dec_lt LARGEST_STRIP size) _ _ (λ e. absurd (omega arith)))

  -- n steps of the task
  steps-so : (n : ℕ) (m : Mem) → whole_answers (replicate n (call (step t) lent)) (pool m) ≡ task_answers t n m
  unfolding Plain.plain_call
  steps-so zero m = refl
  steps-so (suc n) m =
      ap (λ x. x.1 ∷ whole_answers (replicate n (call (step t) lent)) x.0)
      (passed (step_of t m) (passes m))
      ∙ ap (λ q. (step_of t m).1 ∷ q) (steps-so n (step_of t m).0)

  -- "partial lists empty", "both spare lists rising from item 0 on top"
  unlisted : (c : ℕ) → c < CLASSES → (start_mem regions).row c ≡ []
  unfolding start_mem
  unlisted c i =
      if_no (ℕ_discrete c SPARE_DESCRIPTORS) _ _ (λ e. absurd (omega arith))
      ∙ if_no (ℕ_discrete c SPARE_REGIONS) _ _ (λ e. absurd (omega arith))

  spare-descriptors : (start_mem regions).row SPARE_DESCRIPTORS ≡ 0 ∷ rising (DESCRIPTORS - 1) 1
  unfolding start_mem rising ℕ_discrete
  spare-descriptors = refl

  spare-regions : (start_mem regions).row SPARE_REGIONS ≡ 0 ∷ rising (regions - 1) 1
  unfolding start_mem rising ℕ_discrete
  spare-regions =
      let e : regions ≡ suc (regions - 1) = omega (arith, T.lengths.0) in
      ap (λ n. rising n 0) e

  -- i is the last block of a region
  finishes : (size i : ℕ) → size ≤ LARGEST_SIZE → suc i ≡ per_region (class_of size)
      → Finishes t (unit_of 0 (class_of size) i) (i + 10) (begun size)
  finishes size i q e =
      opens t (class_of size) (λ c. []) 0 0 i (rising (DESCRIPTORS - 1) 1) (rising (regions - 1) 1) refl
      (unlisted (class_of size) (is_class size q))
      spare-descriptors spare-regions e
      (update_same (start_mem regions).task t (task_of (working (first_place size)) (λ c. []))
      ∙ ap (λ (p : Work). task_of (working p) (λ c. []))
      (if_no (dec_lt LARGEST_SIZE size) _ _ (λ k. absurd (omega arith))))

  -- the first strip: the whole memory is free, and its first slot is taken
  first-strip : (size : ℕ) → LARGEST_SIZE < size → size ≤ LARGEST_STRIP → Finishes t (strip_unit 0) 0 (begun size)
  unfolding start_mem take_strip
  first-strip size q f =
      let k = order_of size in
      last (taken t (begun size) (task_of (working (first_place size)) (λ c. []))
      (update_same (start_mem regions).task t (task_of (working (first_place size)) (λ c. [])))
      ∙ ap (λ (p : Work). step_at t (λ c. []) p (begun size)) (if_yes (dec_lt LARGEST_SIZE size) _ _ q)
      ∙ ap (λ (b : Bool). strip_take_step t (λ c. [])
      (cond (leb (cond b WHOLE_ORDER ORDERS) WHOLE_ORDER) (strip_at 0 (halved_to k WHOLE_ORDER)) none_found)
      (begun size))
      (le-leb k WHOLE_ORDER (rounds size f).within))

  -- what the plain pool does is what the stepped run answers: so few events meet the premises, since none is a write
  carried : (size n unit : ℕ) → 1 ≤ size → size ≤ LARGEST_STRIP → n + 3 ≤ TAGS → Finishes t unit n (begun size)
      → (before : Memories)
      → map brief (stepped_answers (allocating lent b t size (suc n)) before) ≡ finishing (suc (suc n)) unit
  unfolding unstarted
  carried size n unit p q few F before =
      let steps = replicate (suc n) (call (step t) lent) in
      let es = call (allocate t size) lent ∷ steps in
      let P : Premises (starting b lent ∷ es) unstarted =
      short 0 (starting b lent ∷ es) unstarted (λ h. absurd (omega arith))
      (omega (arith, length-replicate (suc n) (call (step t) lent))) (no_writes (suc n) _) in
      ap (map brief) (answered-from-start es before unstarted b lent T P.1)
      ∙ ap (λ x. map brief (x.1 ∷ whole_answers es x.0)) starts
      ∙ ap (λ x. (0, 0) ∷ map brief (x.1 ∷ whole_answers steps x.0)) (begins-so size p q)
      ∙ ap (λ q. (0, 0) ∷ ((0, 0) ∷ map brief q)) (steps-so (suc n) (begun size))
      ∙ ap (λ q. (0, 0) ∷ ((0, 0) ∷ q)) (told t F)
    where
      no_writes : (n : ℕ) (s : Pool) → WritesHeld (replicate n (call (step t) lent)) s
      no_writes zero s = tt
      no_writes (suc n) s = no_writes n _

-- The first allocation of a size: it opens region 0 and gives the last of its n blocks, at step n + 10.
pub first : (size i : ℕ) → 1 ≤ size → size ≤ LARGEST_SIZE → suc i ≡ per_region (class_of size)
    → RowHolds (first-allocation size (suc (i + 10)) (unit_of 0 (class_of size) i))
first size i p q e lent b t before T l =
    carried lent b t T l size (i + 10) (unit_of 0 (class_of size) i) p (omega arith)
    (omega (arith, per_region-high (class_of size)))
    (finishes lent b t T l size i q e) before

first-256 : RowHolds (first-allocation 256 26 480)
unfolding units per_region class_of
first-256 = first 256 15 (omega arith) (omega arith) refl

first-8 : RowHolds (first-allocation 8 522 511)
unfolding units per_region class_of
first-8 = first 8 511 (omega arith) (omega arith) refl

-- "The bench row for 257 becomes a strip of 512": the first strip in a fresh pool is at unit 8,192, in its first step
strip-257 : RowHolds (first-allocation 257 1 8192)
strip-257 lent b t before T l =
    carried lent b t T l 257 0 8192 (omega arith) (omega arith) (omega arith)
    (first-strip lent b t T l 257 (omega arith) (omega arith)) before

-- ---- the statement

-- every row of the table holds
pub bench : Every table
bench =
    join (map (λ r. of_size r.0 r.1) sizes) (drop 7 table) (each sizes sizes-hold) (
      first-256,
      (
        first-8,
        (
          strip-257,
          (λ w item e. ap (λ (t : ℕ). word item (next_tag t)) e, (λ first. refl, (λ first. refl, tt))),
        ),
      ),
    )
