-- The codes of a step, in every state, by the kinds of steps.
use mathlib.Core.Path.{◌≡◌, refl, sym, ap, ◌∙◌}
use mathlib.Core.Logic.{◌≢◌}
use mathlib.Core.List.{List, ◌∷◌, ◌++◌, []}
use Prim.Native.Nat.{ℕ, zero, suc, ◌+◌, ◌≤◌}
use native.Mathlib.Omega.{arith}
use native.Mathlib.Decide.{ℕ_discrete, dec_lt}
use lib.ListN.{length}
use Rattle.limits.specs.Limits.{SPARE_DESCRIPTORS, SPARE_REGIONS}
use Rattle.rows.specs.Branch.{if}
use Rattle.rows.specs.Update.{update}
use Rattle.rows.proofs.Update.{update_same, update_all}
use Rattle.classes.specs.Classes.{per_region}
use Rattle.classes.specs.Geometry.{region_of}
use Rattle.plain.specs.State.{State, EMPTY, PARTIAL, FULL, Phase, read, next, exchange, Pop, partial, spare}
use Rattle.plain.specs.State.{region, Push, retire, back, release, offer, idle, a1, popping, pushing, a4}
use Rattle.plain.specs.State.{a8, f3-read, f3-link, f4-clear, strip-take, strip-give, leave-end, Task, Mem}
use Rattle.plain.specs.State.{working}
use Rattle.plain.specs.State.{Note, Purpose}
use Rattle.pieces.specs.Strips.{StripTaken, none_found, strip_at, take_strip}
use Rattle.plain.specs.Moves.{Decided, nothing, lost, Answer, going, finished_by, refused}
use Rattle.plain.specs.Steps.{pop_list, push_list, as_noted?, cached, pop_read, pop_take}
use Rattle.plain.specs.Steps.{push_put, a1_step, a3_read, f2_step, f3_read, f3_won, step_at, at_work, pop_step}
use Rattle.plain.specs.Steps.{push_step, a3_exchange, a7_step, a8_step, f1_step, f3_exchange, strip_take_step}
use Rattle.plain.specs.Codes.{StepCode, under-way, no_request, no_descriptor, no_region, finishes, WayBack, stays}
use Rattle.plain.specs.Codes.{comes, StepFacts, no_stretch}
use Rattle.plain.proofs.CallTests.{either}
use Rattle.plain.proofs.PushesBack.{back_at, f6-back, f5-back, moving-back, closed-back, popped_back}

-- a won exchange is one more
one_more : (f : ℕ → ℕ) (i j : ℕ) → update f i (f i + 1) j ≤ f j + 1
one_more f i = update_all (λ j n. n ≤ f j + 1) f i (f i + 1) (omega arith) (λ j d. omega arith)

-- ---- results that are no end by 12, 13 or 16

-- the code is neither 12 nor 13 nor 16
abbrev Plain : ℕ → Type 0
Plain n = (n ≢ 12) × (n ≢ 13) × (n ≢ 16)

plain-0 : Plain 0
plain-0 = (λ e. absurd (omega arith), λ e. absurd (omega arith), λ e. absurd (omega arith))

plain-7 : Plain 7
plain-7 = (λ e. absurd (omega arith), λ e. absurd (omega arith), λ e. absurd (omega arith))

plain-20 : Plain 20
plain-20 = (λ e. absurd (omega arith), λ e. absurd (omega arith), λ e. absurd (omega arith))

module _ (t : ℕ) (m : Mem) where
  -- the place after a step that sets the task
  placed_at : (f : ℕ → Task) (T : Task) → (update f t T t).place ≡ T.place
  placed_at f T = ap (λ (U : Task). U.place) (update_same f t T)

  -- A step that sets the task to T, wins at most one exchange of a list and goes to no push back.
  on : (x : Mem) (a : Answer) (T : Task) → x.task ≡ update m.task t T → StepCode a.code → Plain a.code
      → back_at T.place ≡ 0 → ((ℓ : ℕ) → x.won ℓ ≤ m.won ℓ + 1) → StepFacts t m (x, a)
  on x a T e s p b w = record {
    code = s;
    twelve = λ h. absurd (p.0 h);
    thirteen = λ h. absurd (p.1 h);
    sixteen = λ h. absurd (p.2 h);
    way_back = λ c d φ h.
        absurd (omega (arith, b, ap back_at (sym (ap (λ f. (f t).place) e ∙ placed_at m.task T) ∙ h)));
    won = w;
  }

  -- A step that sets the task to T, wins at most one exchange of a list, goes to no push back and goes on.
  goes : {x : Mem} {e : Decided} (T : Task) → x.task ≡ update m.task t T → back_at T.place ≡ 0
      → ((ℓ : ℕ) → x.won ℓ ≤ m.won ℓ + 1) → StepFacts t m (x, going e)
  goes {x} {e} T h b w = on x (going e) T h under-way plain-0 b w

  -- A step that sets the task to T, wins at most one exchange of a list, goes to no push back and finishes.
  done : {x : Mem} {e : Decided} {v : ℕ} (T : Task) → x.task ≡ update m.task t T → back_at T.place ≡ 0
      → ((ℓ : ℕ) → x.won ℓ ≤ m.won ℓ + 1) → StepFacts t m (x, finished_by e v)
  done {x} {e} {v} T h b w = on x (finished_by e v) T h finishes plain-20 b w

  -- A step that changes nothing, at a place that is no push back.
  nothing-done : (a : Answer) → StepCode a.code → Plain a.code → back_at (m.task t).place ≡ 0
      → StepFacts t m (m, a)
  nothing-done a s p b = record {
    code = s;
    twelve = λ h. absurd (p.0 h);
    thirteen = λ h. absurd (p.1 h);
    sixteen = λ h. absurd (p.2 h);
    way_back = λ c d φ h. absurd (omega (arith, ap back_at h));
    won = λ ℓ. omega arith;
  }

  -- The place that a push back is at names its class, descriptor and phase.
  to_back : {c d : ℕ} {ψ : Phase} {e f : ℕ} {φ : Phase}
      → working (pushing (back c d) ψ) ≡ working (pushing (back e f) φ)
      → WayBack t m c d ψ → WayBack t m e f φ
  to_back {c} {d} {ψ} {e} {f} {φ} h w =
      let a : c ≡ e = cc in
      let b : d ≡ f = cc in
      let g : ψ ≡ φ = cc in
      rw (← a, ← b, ← g) w

module _ (t : ℕ) (k : ℕ → List ℕ) (m : Mem) where
  -- no exchange is won
  none-won : (ℓ : ℕ) → m.won ℓ ≤ m.won ℓ + 1
  none-won ℓ = omega arith

  -- ---- pops

  facts-pop_read : (p : Pop) (q : List ℕ) → (m.task t).place ≡ working (popping p read) → m.row (pop_list p) ≡ q
      → StepFacts t m (pop_read t k p q m)
  facts-pop_read (partial c) [] h e = goes t m _ refl refl none-won
  facts-pop_read (spare c) [] h e = record {
    code = no_descriptor;
    twelve = λ i. (record { c = c; place = h; row = e }, refl);
    thirteen = λ i. absurd (omega arith);
    sixteen = λ i. absurd (omega arith);
    way_back = λ c d φ i. absurd (omega (arith, ap back_at (sym (placed_at t m m.task _) ∙ i)));
    won = none-won;
  }
  facts-pop_read (region c d) [] h e = record {
    code = under-way;
    twelve = λ i. absurd (omega arith);
    thirteen = λ i. absurd (omega arith);
    sixteen = λ i. absurd (omega arith);
    way_back = λ c' d' φ i.
        to_back t m (sym (placed_at t m m.task _) ∙ i) (comes (record { place = h; row = e }));
    won = none-won;
  }
  facts-pop_read p (x ∷ q) h e = goes t m _ refl refl none-won

  facts-pop_take : (p : Pop) (q : List ℕ) → StepFacts t m (pop_take t k p q m)
  facts-pop_take p [] = goes t m _ refl refl none-won
  facts-pop_take p (x ∷ q) = goes t m _ refl (popped_back p x) (one_more m.won (pop_list p))

  -- ---- pushes

  facts-push_on : (p : Push) (φ ψ : Phase) (e : Decided) → (m.task t).place ≡ working (pushing p φ)
      → StepFacts t m (at_work t k (pushing p ψ) m, going e)
  facts-push_on (retire c d) φ ψ e h = goes t m _ refl refl none-won
  facts-push_on (back c d) φ ψ e h = record {
    code = under-way;
    twelve = λ i. absurd (omega arith);
    thirteen = λ i. absurd (omega arith);
    sixteen = λ i. absurd (omega arith);
    way_back = λ c' d' χ i. to_back t m (sym (placed_at t m m.task _) ∙ i) (stays φ h);
    won = none-won;
  }
  facts-push_on (release c z d w r) φ ψ e h = goes t m _ refl refl none-won
  facts-push_on (offer c z d) φ ψ e h = goes t m _ refl refl none-won

  facts-push_put : (p : Push) (n : ℕ) → (m.task t).place ≡ working (pushing p (exchange n)) → m.won (push_list p) ≡ n
      → StepFacts t m (push_put t k p m)
  facts-push_put (retire c d) n h e = goes t m _ refl refl (one_more m.won SPARE_DESCRIPTORS)
  facts-push_put (back c d) n h e = record {
    code = no_region;
    twelve = λ i. absurd (omega arith);
    thirteen = λ i. (d, record { c = c; n = n; place = h; won = e }, refl);
    sixteen = λ i. absurd (omega arith);
    way_back = λ c d φ i. absurd (omega (arith, ap back_at (sym (placed_at t m m.task _) ∙ i)));
    won = one_more m.won SPARE_DESCRIPTORS;
  }
  facts-push_put (release c z d w r) n h e = goes t m _ refl (f5-back w k c z d) (one_more m.won SPARE_REGIONS)
  facts-push_put (offer c z d) n h e = goes t m _ refl (f6-back k c z) (one_more m.won c)

  -- ---- the other steps

  pub facts-a1 : (c : ℕ) (q : List ℕ) → StepFacts t m (a1_step t k c q m)
  facts-a1 c [] = goes t m _ refl refl none-won
  facts-a1 c (x ∷ q) = done t m _ refl refl none-won

  pub facts-a3 : (c d : ℕ) (s : State) → StepFacts t m (a3_read t k c d s m)
  facts-a3 c d EMPTY = goes t m _ refl refl none-won
  facts-a3 c d PARTIAL = goes t m _ refl refl none-won
  facts-a3 c d FULL = goes t m _ refl refl none-won

  facts-carved : {P : Type 0} (e : Dec P) (c r i : ℕ) (q : List ℕ)
      → StepFacts t m (cached t k c q (working (if e (a1 c) (a8 c r (suc i)))) m, going nothing)
  facts-carved (yes e) c r i q = goes t m _ refl refl none-won
  facts-carved (no e) c r i q = goes t m _ refl refl none-won

  pub facts-f2 : (c : ℕ) (z : Purpose) (q g : List ℕ) → StepFacts t m (f2_step t k c z q g m)
  facts-f2 c z [] g = goes t m _ refl (closed-back t k c z g) none-won
  facts-f2 c z (x ∷ q) [] = goes t m _ refl refl none-won
  facts-f2 c z (x ∷ q) (y ∷ g) =
      either (StepFacts t m) (ℕ_discrete (region_of x) (region_of y)) _ _
      (λ e. goes t m _ refl refl none-won) (λ e. goes t m _ refl refl none-won)

  pub facts-f3 : (i c : ℕ) (z : Purpose) (y : ℕ) (g : List ℕ) → (m.task t).place ≡ working (f3-read c z y g)
      → StepFacts t m (f3_read t k i c z y g m)
  facts-f3 zero c z y g h = nothing-done t m (going nothing) under-way plain-0 (ap back_at h)
  facts-f3 (suc d) c z y g h = goes t m _ refl refl none-won

  facts-returned : {P : Type 0} (e : Dec P) (c : ℕ) (z : Purpose) (y : ℕ) (g : List ℕ) (d : ℕ) (w : State)
      → StepFacts t m (f3_won t k e c z y g d w m)
  facts-returned (yes e) c z y g d w = goes t m _ refl refl none-won
  facts-returned (no e) c z y g d w = goes t m _ refl (f5-back w k c z d) none-won

  -- ---- the step list

  pub facts-pop : (p : Pop) (φ : Phase) → (m.task t).place ≡ working (popping p φ) → StepFacts t m (pop_step t k p φ m)
  facts-pop p read h = facts-pop_read p (m.row (pop_list p)) h refl
  facts-pop p (next n) h = goes t m _ refl refl none-won
  facts-pop p (exchange n) h =
      either (StepFacts t m) (ℕ_discrete (m.won (pop_list p)) n) _ _
      (λ e. facts-pop_take p (m.row (pop_list p))) (λ e. goes t m _ refl refl none-won)

  pub facts-push : (p : Push) (φ : Phase) → (m.task t).place ≡ working (pushing p φ)
      → StepFacts t m (push_step t k p φ m)
  facts-push p read h = facts-push_on p read (next (m.won (push_list p))) nothing h
  facts-push p (next n) h = facts-push_on p (next n) (exchange n) nothing h
  facts-push p (exchange n) h =
      either (StepFacts t m) (ℕ_discrete (m.won (push_list p)) n) _ _
      (λ e. facts-push_put p n h e) (λ e. facts-push_on p (exchange n) read (lost (push_list p)) h)

  pub facts-a3-exchange : (c d : ℕ) (n : Note) → StepFacts t m (a3_exchange t k c d n m)
  facts-a3-exchange c d n =
      either (StepFacts t m) (as_noted? (m.descriptor d) n) _ _
      (λ e. goes t m _ refl (moving-back c (m.descriptor d).chain) none-won) (λ e. goes t m _ refl refl none-won)

  pub facts-a4 : (c x : ℕ) (q : List ℕ) → StepFacts t m (step_at t k (a4 c x q) m)
  facts-a4 c x q = goes t m _ refl (moving-back c q) none-won

  pub facts-a7 : (c d r : ℕ) → StepFacts t m (a7_step t k c d r m)
  facts-a7 c d r = goes t m _ refl refl none-won

  pub facts-a8 : (c r i : ℕ) → StepFacts t m (a8_step t k c r i m)
  facts-a8 c r i = facts-carved (ℕ_discrete (suc i) (per_region c)) c r i _

  pub facts-f1 : (c u : ℕ) → StepFacts t m (f1_step t k c u m)
  facts-f1 c u =
      either (StepFacts t m) (dec_lt (length (k c)) (per_region c)) _ _
      (λ e. done t m _ refl refl none-won) (λ e. goes t m _ refl refl none-won)

  pub facts-f3-link : (c : ℕ) (z : Purpose) (y : ℕ) (g : List ℕ) (d : ℕ) (n : Note)
      → StepFacts t m (step_at t k (f3-link c z y g d n) m)
  facts-f3-link c z y g d n = goes t m _ refl refl none-won

  pub facts-f3-exchange : (c : ℕ) (z : Purpose) (y : ℕ) (g : List ℕ) (d : ℕ) (n : Note)
      → StepFacts t m (f3_exchange t k c z y g d n m)
  facts-f3-exchange c z y g d n =
      either (StepFacts t m) (as_noted? (m.descriptor d) n) _ _
      (λ e. facts-returned (ℕ_discrete (length (y ∷ (g ++ (m.descriptor d).chain))) (per_region c))
      c z y g d n.state) (λ e. goes t m _ refl refl none-won)

  pub facts-f4 : (c : ℕ) (z : Purpose) (d : ℕ) (w : State) (r : ℕ)
      → StepFacts t m (step_at t k (f4-clear c z d w r) m)
  facts-f4 c z d w r = goes t m _ refl refl none-won

  pub facts-take : (j : ℕ) (x : StripTaken) → take_strip j m.strips ≡ x → (m.task t).place ≡ working (strip-take j)
      → StepFacts t m (strip_take_step t k x m)
  facts-take j none_found e h = record {
    code = no_stretch;
    twelve = λ i. absurd (omega arith);
    thirteen = λ i. absurd (omega arith);
    sixteen = λ i. (record { order = j; place = h; none = e }, refl);
    way_back = λ c d φ i. absurd (omega (arith, ap back_at (sym (placed_at t m m.task _) ∙ i)));
    won = none-won;
  }
  facts-take j (strip_at s p) e h = done t m _ refl refl none-won

  pub facts-give : (s : ℕ) → StepFacts t m (step_at t k (strip-give s) m)
  facts-give s = done t m _ refl refl none-won

  pub facts-leave : StepFacts t m (step_at t k leave-end m)
  facts-leave = done t m _ refl refl none-won

  -- An idle task makes no step.
  pub facts-idle : (m.task t).place ≡ idle → StepFacts t m (m, refused 7)
  facts-idle h = nothing-done t m (refused 7) no_request plain-7 (ap back_at h)
