-- A task that is at work is at what it has asked for last, after every event.
use mathlib.Core.Path.{◌≡◌, refl, sym, ap, subst, subst⁻¹}
use mathlib.Core.Bool.{cond}
use mathlib.Core.List.{◌∷◌}
use Prim.Native.Nat.{ℕ, zero, suc, ◌≤◌}
use native.Mathlib.Omega.{arith}
use native.Mathlib.Decide.{ℕ_discrete, dec_lt}
use borrow.Author.Tests.{eq-eqb, ne_eqb}
use lib.Dec.{eqb}
use Rattle.limits.specs.Limits.{LARGEST_SIZE}
use Rattle.rows.specs.Branch.{both}
use Rattle.rows.specs.Update.{update}
use Rattle.rows.proofs.Update.{update_all}
use Rattle.classes.specs.Geometry.{region_of}
use Rattle.plain.specs.State.{Place, idle, working, Work, Task, Mem}
use Rattle.plain.specs.Moves.{Answer, refused}
use Rattle.plain.specs.Steps.{Result, step_of, step_at, when_working}
use Rattle.plain.specs.Requests.{request_at, StillAt}
use Rattle.plain.specs.Calls.{Pool, Start, Lengths, Call, start, allocate, free, leave, step, start_mem, opens?, first?}
use Rattle.plain.specs.Calls.{free_entry, when_idle, tested, unstarted, plain_call, StartTested}
use Rattle.plain.proofs.CallTests.{either, by_tests, start-numbers, start-passed, by-start-tests}
use Rattle.plain.proofs.Continues.{leaves_to}
use Rattle.plain.proofs.Requests.{leaves-request, own-request}
use Rattle.stepped.specs.Calls.{Lent, lengths}
use Rattle.agreement.specs.Events.{Event, call, write, whole}
use Rattle.agreement.specs.Reached.{History, starting}
use Rattle.agreement.specs.Asked.{Asked, nothing_yet, for_bytes, for_free, for_leave, asked_by, asked_in, asked}
use Rattle.agreement.specs.AtWhatAsked.{AsAsked, AtWhatAsked, AllAtWhatAsked}
use Rattle.limits.specs.Limits.{UNITS, LARGEST_STRIP, CLASSES}
use Rattle.pieces.specs.Pieces.{free as free_piece, held, begun}
use Rattle.pieces.specs.Strips.{StripStart, nowhere, here, strip_starts}
use Rattle.pieces.specs.StripUnits.{slot_of_unit}
use Rattle.plain.specs.Calls.{StripUnit, strip_unit?, free_strip_at}
use Rattle.agreement.specs.Events.{write_strip}
use Prim.Native.Nat.{◌<◌}

-- a refused call asks for nothing
refused-asks : (k : Call) (t n : ℕ) (a : Asked) → 1 ≤ n → asked_by t k n a ≡ a
refused-asks (start b) t n a h = rw (ne_eqb n 0 (omega arith))
refused-asks (allocate u size) t n a h = rw (ne_eqb n 0 (omega arith))
refused-asks (free u unit) t n a h = rw (ne_eqb n 0 (omega arith))
refused-asks (leave u) t n a h = rw (ne_eqb n 0 (omega arith))
refused-asks (step u) t n a h = refl

-- what a task has asked for stays so while it goes on with it
still : (a : Asked) (w : Work) (p : Place) → AsAsked a (request_at w) → StillAt (request_at w) p → AtWhatAsked a p
still a w idle h k = tt
still a w (working x) h k = subst⁻¹ (AsAsked a) k h

-- the task u begins: it has now asked for b, and is at that
begins : (a : ℕ → Asked) (m : Mem) → AllAtWhatAsked a m
    → (u : ℕ) (b : Asked) (T : Task) → AtWhatAsked b T.place
    → (t : ℕ) → AtWhatAsked (cond (eqb u t) b (a t)) (update m.task u T t).place
begins a m A u b T h =
    update_all (λ t U. AtWhatAsked (cond (eqb u t) b (a t)) U.place) m.task u T (rw (eq-eqb u u refl) h)
    (λ t n. rw (ne_eqb u t (λ e. n (sym e))) (A t))

-- a step of an idle task is none
idle-stays : (u : ℕ) (m : Mem) → (m.task u).place ≡ idle → (step_of u m).0 ≡ m
unfolding step_of
idle-stays u m e = ap (λ (p : Place). (when_working p (λ w. step_at u (m.task u).cache w m) m).0) e

-- a step asks for nothing, and its task goes on
step-asked : (a : ℕ → Asked) (m : Mem) → AllAtWhatAsked a m → (u : ℕ) → AllAtWhatAsked a (step_of u m).0
step-asked a m A u t = by (m.task u).place refl
  where
    by : (p : Place) → (m.task u).place ≡ p → AtWhatAsked (a t) ((step_of u m).0.task t).place
    by idle e = subst⁻¹ (λ (x : Mem). AtWhatAsked (a t) (x.task t).place) (idle-stays u m e) (A t)
    by (working w) e =
        let O = own-request u m w e in
        elim (ℕ_discrete t u) [
          | yes i ↦ rw i (still (a u) w ((step_of u m).0.task u).place (subst (AtWhatAsked (a u)) e (A u)) O.own)
          | no n ↦ rw (O.others t n) (A t)
        ]

module _ (k : Call) (s : Pool) (a : ℕ → Asked) (A : AllAtWhatAsked a s.mem) where
  -- what is shown of a call that leaves the memory of y and gives its answer
  abbrev Shown : Result → Type 0
  Shown y = (t : ℕ) → AtWhatAsked (asked_by t k y.1.code (a t)) (y.0.task t).place

  abbrev ShownOf : Pool × Answer → Type 0
  ShownOf y = Shown (y.0.mem, y.1)

  refuses : (n : ℕ) → 1 ≤ n → Shown (s.mem, refused n)
  refuses n h t =
      subst⁻¹ (λ (b : Asked). AtWhatAsked b (s.mem.task t).place) (refused-asks k t n (a t) h) (A t)

  when-tested : (t : ℕ) (lent : Lengths) (x : Result) → Shown x → ShownOf (tested t lent s x)
  when-tested t lent x h = by_tests ShownOf t lent s x (λ n i l. refuses n i) (λ l. h)

  when-idle : (p : Place) (x : Result) → Shown x → Shown (when_idle p x s.mem)
  when-idle idle x h = h
  when-idle (working w) x h = refuses 6 (omega arith)

-- the beginning of a free, by the map's entry of the unit's region
free-asked : (s : Pool) (a : ℕ → Asked) (A : AllAtWhatAsked a s.mem) (u unit : ℕ) → unit < UNITS → (z : ℕ)
    → Shown (free u unit) s a A (free_entry z u unit s.mem)
free-asked s a A u unit l zero = refuses (free u unit) s a A 10 (omega arith)
free-asked s a A u unit l (suc d) =
    let k = free u unit in
    let D = s.mem.descriptor d in
    let Q = Shown k s a A in
    either Q (both (opens? D (region_of unit)) (first? D.class unit)) _ _
    (λ e. either Q (ℕ_discrete (s.mem.hands unit) 0) _ _ (λ f. refuses k s a A 11 (omega arith))
    (λ f. begins a s.mem A u (for_free unit) _ (refl, l)))
    (λ e. refuses k s a A 10 (omega arith))

-- the beginning of a strip's free, by what starts at the slot
strip-asked : (s : Pool) (a : ℕ → Asked) (A : AllAtWhatAsked a s.mem) (u unit : ℕ) (x : StripStart) → StripUnit unit
    → Shown (free u unit) s a A (free_strip_at x u (slot_of_unit unit) s.mem)
strip-asked s a A u unit nowhere l = refuses (free u unit) s a A 10 (omega arith)
strip-asked s a A u unit (here j free_piece) l = refuses (free u unit) s a A 10 (omega arith)
strip-asked s a A u unit (here j held) l =
    begins a s.mem A u (for_free unit) _ (omega (arith, l.0, l.1.1))
strip-asked s a A u unit (here j (begun t)) l = refuses (free u unit) s a A 11 (omega arith)

-- one call of the plain pool
call-asked : (k : Call) (lent : Lengths) (s : Pool) (a : ℕ → Asked) (A : AllAtWhatAsked a s.mem)
    → ShownOf k s a A (plain_call k lent s)
unfolding plain_call start_mem
call-asked (start b) lent s a A =
    let k = start b in
    by-start-tests (ShownOf k s a A) b lent s (λ n F. refuses k s a A n (start-numbers F).0) (λ T t. tt)
call-asked (allocate u size) lent s a A =
    let k = allocate u size in
    let Q = Shown k s a A in
    when-tested k s a A u lent _ (when-idle k s a A (s.mem.task u).place _
    (either Q (ℕ_discrete size 0) _ _ (λ e. refuses k s a A 8 (omega arith))
    (λ e. either Q (dec_lt LARGEST_STRIP size) _ _ (λ f. refuses k s a A 9 (omega arith))
    (λ f. begins a s.mem A u (for_bytes size) _
    (either (λ w. AsAsked (for_bytes size) (request_at w)) (dec_lt LARGEST_SIZE size) _ _
    (λ g. (g, omega arith, refl)) (λ g. (omega arith, omega arith, refl)))))))
call-asked (free u unit) lent s a A =
    let k = free u unit in
    when-tested k s a A u lent _ (when-idle k s a A (s.mem.task u).place _
    (either (Shown k s a A) (dec_lt unit UNITS) _ _
    (λ e. either (Shown k s a A) (dec_lt (region_of unit) s.regions) _ _
    (λ f. free-asked s a A u unit e (s.mem.map (region_of unit))) (λ f. refuses k s a A 10 (omega arith)))
    (λ e. either (Shown k s a A) (strip_unit? unit) _ _
    (λ f. strip-asked s a A u unit (strip_starts s.mem.strips (slot_of_unit unit)) f)
    (λ f. refuses k s a A 10 (omega arith)))))
call-asked (leave u) lent s a A =
    let k = leave u in
    when-tested k s a A u lent _ (when-idle k s a A (s.mem.task u).place _
    (begins a s.mem A u for_leave _
    (subst⁻¹ (AsAsked for_leave) (leaves-request (leaves_to (s.mem.task u).cache CLASSES 0)) tt)))
call-asked (step u) lent s a A = when-tested (step u) s a A u lent (step_of u s.mem) (step-asked a s.mem A u)

-- one event of the whole run
pub event-asked : (e : Event) (s : Pool) (a : ℕ → Asked) → AllAtWhatAsked a s.mem
    → AllAtWhatAsked (λ t. asked_in t e (whole e s).1.code (a t)) (whole e s).0.mem
event-asked (call k lent) s a A = call-asked k (lengths lent) s a A
event-asked (write at b) s a A = A
event-asked (write_strip at b) s a A = A

-- nothing is asked for at first
pub unstarted-asked : (a : ℕ → Asked) → AllAtWhatAsked a unstarted.mem
unfolding unstarted start_mem
unstarted-asked a t = tt

-- nothing is under way after an accepted start
pub started-asked : (b : Start) (lent : Lent) (s : Pool) (a : ℕ → Asked) → StartTested b (lengths lent)
    → AllAtWhatAsked a (whole (starting b lent) s).0.mem
unfolding plain_call start_mem
started-asked b lent s a T t =
    subst⁻¹ (λ (z : Pool × Answer). AtWhatAsked (a t) (z.0.mem.task t).place)
    (start-passed s T) tt

-- "A start may come at any time and begins a new run": nothing is asked for behind one that is accepted
pub start-forgets : (t : ℕ) (b : Start) (lent : Lent) (s : Pool) (x : Answer) (h : History) → x.code ≡ 0
    → asked t (record { event = call (start b) lent; before = s; answer = x } ∷ h) ≡ nothing_yet
start-forgets t b lent s x h e = rw (eq-eqb x.code 0 e)
