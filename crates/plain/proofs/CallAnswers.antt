-- What a call answers, in every state: never 14; 12 and 13 at an empty list alone; at most one more won
-- exchange.
use mathlib.Core.Path.{◌≡◌, refl, sym, ap, ◌∙◌}
use mathlib.Core.Logic.{◌≢◌}
use mathlib.Core.List.{List}
use Prim.Native.Nat.{ℕ, zero, suc, ◌≤◌, ◌<◌}
use native.Mathlib.Omega.{arith}
use native.Mathlib.Decide.{ℕ_discrete, dec_lt}
use Rattle.limits.specs.Limits.{CONTROL_BYTES, UNITS, LARGEST_STRIP, SPARE_DESCRIPTORS}
use Rattle.rows.specs.Branch.{both}
use Rattle.rows.proofs.Branch.{if_yes}
use Rattle.rows.proofs.Update.{update_same}
use Rattle.classes.specs.Geometry.{region_of}
use Rattle.plain.specs.State.{read, spare, region, back, Place, idle, pushing, Task, Mem, working}
use Rattle.plain.specs.Moves.{found_empty, pushed, no_strip, Answer, ended, refused}
use Rattle.plain.specs.Steps.{Result, pop_read, push_put, strip_take_step, step_at, step_of, when_working}
use Rattle.plain.specs.Calls.{Pool, Call, start, allocate, free, leave, start_mem, opens?}
use Rattle.plain.specs.Calls.{first?, free_entry, strip_unit?, free_strip_at, StartedLengths}
use Rattle.pieces.specs.Pieces.{free as free_piece, held, begun}
use Rattle.pieces.specs.Strips.{StripTaken, StripStart, nowhere, here, strip_starts}
use Rattle.pieces.specs.StripUnits.{slot_of_unit}
use Rattle.plain.specs.Calls.{when_idle, refuse, became, tested, plain_call, Lengths, step}
use Rattle.plain.specs.Codes.{StepCode, under-way, no_request, no_descriptor, no_region, no_stretch, finishes}
use Rattle.plain.specs.Codes.{ReadsNoSpare, FindsNoStrip, EndsBy16}
use Rattle.plain.specs.Codes.{PushesBack, ReadsNoRegion, CallIs, starts, begins, steps, EndsBy12, EndsBy13}
use Rattle.plain.specs.Codes.{AtMost}
use Rattle.plain.proofs.CallTests.{either, by_tests, passed, start-numbers, by-start-tests}
use Rattle.plain.proofs.Steps.{step-facts}

-- ---- 12 and 13 always come at these reads and exchanges

-- A step that reads the empty list of spare descriptors ends the request with 12.
pub always-12 : (t : ℕ) (m : Mem) → ReadsNoSpare t m → (step_of t m).1 ≡ ended 12 (found_empty SPARE_DESCRIPTORS)
unfolding step_of
always-12 t m r =
    let k = (m.task t).cache in
    ap (λ (p : Place). (when_working p (λ w. step_at t k w m) m).1) r.place
    ∙ ap (λ (q : List ℕ). (pop_read t k (spare r.c) q m).1) r.row

-- A step that wins the exchange that pushes a descriptor back ends the request with 13.
pub always-13 : (t : ℕ) (m : Mem) (d : ℕ) → PushesBack t m d → (step_of t m).1 ≡ ended 13 (pushed SPARE_DESCRIPTORS d)
unfolding step_of
always-13 t m d r =
    let k = (m.task t).cache in
    ap (λ (p : Place). (when_working p (λ w. step_at t k w m) m).1) r.place
    ∙ ap (λ (x : Result). x.1)
    (if_yes (ℕ_discrete (m.won SPARE_DESCRIPTORS) r.n) (push_put t k (back r.c d) m) _ r.won)

-- A step that reads the empty list of spare regions goes to that push.
pub always-back : (t : ℕ) (m : Mem) (c d : ℕ) → ReadsNoRegion t m c d
    → ((step_of t m).0.task t).place ≡ working (pushing (back c d) read)
unfolding step_of
always-back t m c d r =
    let k = (m.task t).cache in
    ap (λ (p : Place). ((when_working p (λ w. step_at t k w m) m).0.task t).place) r.place
    ∙ ap (λ (q : List ℕ). ((pop_read t k (region c d) q m).0.task t).place) r.row
    ∙ ap (λ (T : Task). T.place) (update_same m.task t _)

-- A step that is to take a strip, where there is none, ends the request with 16.
pub always-16 : (t : ℕ) (m : Mem) → FindsNoStrip t m → (step_of t m).1 ≡ ended 16 no_strip
unfolding step_of
always-16 t m r =
    let k = (m.task t).cache in
    ap (λ (p : Place). (when_working p (λ w. step_at t k w m) m).1) r.place
    ∙ ap (λ (x : StripTaken). (strip_take_step t k x m).1) r.none

-- ---- what a call is

module _ (c : Call) (s : Pool) where
  -- a refusal with at most 11
  refuses : (n : ℕ) → n ≤ 11 → CallIs c s (refuse n s)
  refuses n h = begins h refl (λ ℓ. refl)

  -- a result that wins nothing, with a code of at most 11
  abbrev Small : Result → Type 0
  Small x = (x.1.code ≤ 11) × ((ℓ : ℕ) → x.0.won ℓ ≡ s.mem.won ℓ)

  small : (n : ℕ) → n ≤ 11 → Small (s.mem, refused n)
  small n h = (h, λ ℓ. refl)

  small-idle : (p : Place) (x : Result) → Small x → Small (when_idle p x s.mem)
  small-idle idle x h = h
  small-idle (working w) x h = small 6 (omega arith)

  small-free : (z t u : ℕ) → Small (free_entry z t u s.mem)
  small-free zero t u = small 10 (omega arith)
  small-free (suc d) t u =
      let D = s.mem.descriptor d in
      either Small (both (opens? D (region_of u)) (first? D.class u)) _ _
      (λ a. either Small (ℕ_discrete (s.mem.hands u) 0) _ _
      (λ b. small 11 (omega arith)) (λ b. (omega arith, λ ℓ. refl)))
      (λ a. small 10 (omega arith))

  small-strip : (x : StripStart) (t n : ℕ) → Small (free_strip_at x t n s.mem)
  small-strip nowhere t n = small 10 (omega arith)
  small-strip (here k free_piece) t n = small 10 (omega arith)
  small-strip (here k held) t n = (omega arith, λ ℓ. refl)
  small-strip (here k (begun u)) t n = small 11 (omega arith)

  -- the tests of a call that is no start
  tested-is : (t : ℕ) (lent : Lengths) (x : Result) → (t < s.tasks → CallIs c s (became s x))
      → CallIs c s (tested t lent s x)
  tested-is t lent x h = by_tests (CallIs c s) t lent s x (λ n k l. refuses n (omega arith)) h

  begins-is : (x : Result) → Small x → CallIs c s (became s x)
  begins-is x h = begins h.0 refl h.1

-- A call is a start, a refusal or beginning, or a step.
pub call-is : (c : Call) (lent : Lengths) (s : Pool) → CallIs c s (plain_call c lent s)
unfolding plain_call start_mem
call-is (start n) lent s =
    by-start-tests (CallIs (start n) s) n lent s
    (λ k F. refuses (start n) s k (omega (arith, start-numbers F))) (λ T. starts refl (λ ℓ. refl))
call-is (allocate t size) lent s =
    let c = allocate t size in
    tested-is c s t lent _ (λ l. begins-is c s _ (small-idle c s (s.mem.task t).place _
    (either (Small c s) (ℕ_discrete size 0) _ _ (λ a. small c s 8 (omega arith))
    (λ a. either (Small c s) (dec_lt LARGEST_STRIP size) _ _
    (λ b. small c s 9 (omega arith)) (λ b. (omega arith, λ ℓ. refl))))))
call-is (free t u) lent s =
    let c = free t u in
    tested-is c s t lent _ (λ l. begins-is c s _ (small-idle c s (s.mem.task t).place _
    (either (Small c s) (dec_lt u UNITS) _ _
    (λ z. either (Small c s) (dec_lt (region_of u) s.regions) _ _
    (λ a. small-free c s (s.mem.map (region_of u)) t u) (λ a. small c s 10 (omega arith)))
    (λ z. either (Small c s) (strip_unit? u) _ _
    (λ a. small-strip c s (strip_starts s.mem.strips (slot_of_unit u)) t (slot_of_unit u))
    (λ a. small c s 10 (omega arith))))))
call-is (leave t) lent s =
    let c = leave t in
    tested-is c s t lent _ (λ l. begins-is c s _ (small-idle c s (s.mem.task t).place _ (omega arith, λ ℓ. refl)))
call-is (step t) lent s =
    tested-is (step t) s t lent (step_of t s.mem) (λ l. steps t refl l refl)

-- A step call that passes the tests is a step of its task.
pub step-is-step : (t : ℕ) (lent : Lengths) (s : Pool) → t < s.tasks → lent.control ≡ CONTROL_BYTES
    → StartedLengths lent s.regions → plain_call (step t) lent s ≡ became s (step_of t s.mem)
unfolding plain_call
step-is-step t lent s l c e =
    passed (step_of t s.mem) (record { control_is = c; started = omega arith; lengths = e; below = l })

-- ---- what follows

-- If a call is a step, the step's code is the call's.
answer-code : (s : Pool) {x : Pool × Answer} {y : Result} {n : ℕ}
    → x ≡ became s y → x.1.code ≡ n → y.1.code ≡ n
answer-code s h e = sym (ap (λ (z : Pool × Answer). z.1.code) h) ∙ e

-- A step's code is not 14.
step-not-14 : (n : ℕ) → StepCode n → n ≢ 14
step-not-14 n under-way e = absurd (omega arith)
step-not-14 n no_request e = absurd (omega arith)
step-not-14 n no_descriptor e = absurd (omega arith)
step-not-14 n no_region e = absurd (omega arith)
step-not-14 n no_stretch e = absurd (omega arith)
step-not-14 n finishes e = absurd (omega arith)

-- A start, a refusal and a beginning answer 11 at most: a call with a larger code is a step.
past-11 : {Q : Type 0} {n : ℕ} (c : Call) (lent : Lengths) (s : Pool) → 11 < n → (plain_call c lent s).1.code ≡ n
    → ((t : ℕ) → t < s.tasks → plain_call c lent s ≡ became s (step_of t s.mem) → Q) → Q
past-11 {Q} {n} c lent s l e g = by (call-is c lent s)
  where
    by : CallIs c s (plain_call c lent s) → Q
    by (starts h w) = absurd (omega arith)
    by (begins h k w) = absurd (omega arith)
    by (steps t f l h) = g t l h

-- No call answers 14.
pub never_14 : (c : Call) (lent : Lengths) (s : Pool) → (plain_call c lent s).1.code ≢ 14
never_14 c lent s e =
    past-11 c lent s (omega arith) e (λ t l h.
    step-not-14 (step_of t s.mem).1.code (step-facts t s.mem).code (answer-code s h e))

-- Each call adds at most one won exchange to each list of a started pool.
pub most : (n : ℕ) (c : Call) (lent : Lengths) (s : Pool) → AtMost n s → AtMost (suc n) (plain_call c lent s).0
most n c lent s g = by (call-is c lent s)
  where
    by : CallIs c s (plain_call c lent s) → AtMost (suc n) (plain_call c lent s).0
    by (starts h w) i ℓ = omega (arith, w ℓ)
    by (begins h k w) i ℓ = omega (arith, w ℓ, g (omega arith) ℓ)
    by (steps t f l h) i ℓ =
        omega (
          arith,
          ap (λ (x : Pool × Answer). x.0.mem.won ℓ) h,
          (step-facts t s.mem).won ℓ,
          g (omega arith) ℓ,
        )

-- A call answers 12 only if it is a step that reads the empty list of spare descriptors.
pub only-12 : (c : Call) (lent : Lengths) (s : Pool) → (plain_call c lent s).1.code ≡ 12
    → EndsBy12 s (plain_call c lent s).1
only-12 c lent s e =
    past-11 c lent s (omega arith) e (λ t l h.
    let r = (step-facts t s.mem).twelve (answer-code s h e) in
    record { t = t; fits = l; reads = r.0; decided = ap (λ (x : Pool × Answer). x.1.decided) h ∙ r.1 })

-- A call answers 13 only if it is a step that wins the exchange that pushes a descriptor back.
pub only-13 : (c : Call) (lent : Lengths) (s : Pool) → (plain_call c lent s).1.code ≡ 13
    → EndsBy13 s (plain_call c lent s).1
only-13 c lent s e =
    past-11 c lent s (omega arith) e (λ t l h.
    let r = (step-facts t s.mem).thirteen (answer-code s h e) in
    record {
      t = t;
      d = r.0;
      fits = l;
      pushes = r.1;
      decided = ap (λ (x : Pool × Answer). x.1.decided) h ∙ r.2;
    })

-- A call answers 16 only if it is a step that is to take a strip, where there is none.
pub only-16 : (c : Call) (lent : Lengths) (s : Pool) → (plain_call c lent s).1.code ≡ 16
    → EndsBy16 s (plain_call c lent s).1
only-16 c lent s e =
    past-11 c lent s (omega arith) e (λ t l h.
    let r = (step-facts t s.mem).sixteen (answer-code s h e) in
    record { t = t; fits = l; finds = r.0; decided = ap (λ (x : Pool × Answer). x.1.decided) h ∙ r.1 })
