-- What an act leaves and answers is what the stepped run has at the event.
use mathlib.Core.Path.{◌≡◌, refl, sym, ap, subst, ◌∙◌}
use mathlib.Core.Logic.{◌≢◌, inl, inr, ⊎_elim}
use mathlib.Core.Bool.{Bool, cond, false≢true}
use mathlib.Core.List.{List}
use Prim.Native.Nat.{ℕ}
use native.Mathlib.Omega.{arith}
use borrow.Author.Tests.{eq-eqb, ne_eqb}
use Rattle.plain.specs.Moves as Moves
use Rattle.plain.specs.Calls.{Call, Start, start, allocate, free, leave, step}
use Rattle.control.specs.Layout.{seen}
use Rattle.control.specs.Answers.{code_of, value_of, number_of, code_in}
use Rattle.control.specs.Answers.{Answer}
use Rattle.control.specs.Answers.{Accepted, Allocated, Freed, NoDescriptor, NoRegion}
use Rattle.control.specs.Answers.{NoStrip, Refused}
use Rattle.stepped.specs.Outcome.{Outcome, refuse, Effect, effect, Memories}
use Rattle.stepped.specs.Calls.{effect_of, lengths, lending, control_fails}
use Rattle.stepped.specs.Calls as Calls
use Rattle.stepped.proofs.CallTests.{failed}
use Rattle.agreement.specs.Ends.{Begins, start_refusals, one_of}
use Rattle.agreement.specs.Events.{ran, stepped}
use Rattle.agreement.proofs.Both.{answer_of}
use Rattle.agreement.proofs.BeginningEnds.{start-ends}
use Rattle.agreement.proofs.Lent.{start-elsewhere}
use Rattle.agreement.proofs.Ways.{fails-or-passes}
use Rattle.pool.specs.Call.{EffectIs}
use Rattle.demands.specs.Acts.{Act, on_own, on_other, write, write_strip, Contract, OtherLength, Happens}
use Rattle.demands.specs.AnswerKinds.{ends_request}
use Rattle.demands.specs.Acts.{after_act, event_of_act, Number, Answered}
use Rattle.demands.proofs.NumberTells.{effect-none, numbers}

-- the stepped run at the event of an act: the memories and the number are the act's
pub record Shows (a : Act) (s : Memories) : Type 0 where
  pub leaves : (stepped (event_of_act a s) s).0 ≡ after_act a s
  pub answers : Answered a (stepped (event_of_act a s) s).1

-- ---- calls on the pool's memories

left_is : {e : Effect} {left : Memories} {r : ℕ} → EffectIs e left.control left.area left.strips r
    → (ran e).0 ≡ left
left_is C = sym (λ i. record { control = C.control_is i; area = C.area_is i; strips = C.strips_is i })

own-shows : (k : Call) (left : Memories) (r : ℕ) (s : Memories) → Contract k s left r → Shows (on_own k left r) s
own-shows k left r s C = record { leaves = left_is C; answers = numbers k s left r C }

-- ---- calls on other memories

-- a call on other lengths is refused by the same number, whatever the control memory holds and whatever is behind the
-- tests
pub refused-alike : (s lent : Memories) (t : ℕ) (x y : Outcome) → OtherLength s lent
    → (n : ℕ)
    × ((Calls.tested (lengths (lending lent)) (seen s.control) t x ≡ refuse n)
    × (Calls.tested (lengths (lending lent)) (seen lent.control) t y ≡ refuse n))
refused-alike s lent t x y (inl h) = (1, (failed x (control_fails h), failed y (control_fails h)))
refused-alike s lent t x y (inr h) =
    let l = lengths (lending lent) in
    ⊎_elim
    (λ F. (
      F.0,
      (failed x F.1, ap (λ (k : List ℕ). Calls.tested l (seen k) t y) h.0 ∙ failed y F.1),
    ))
    (λ T. absurd (⊎_elim (λ g. g T.lengths_are) (λ g. omega (arith, g, T.started)) h.1))
    (fails-or-passes l (seen s.control) t)

module _ (s lent left : Memories) (r : ℕ) where
  -- two outcomes that refuse by the same number: the pool's memories stay, and the answers are the same
  both-refused : {o o' : Outcome} {n : ℕ} → o ≡ refuse n → o' ≡ refuse n → Number r (answer_of o')
      → ((ran (effect o s)).0 ≡ s) × Number r (answer_of o)
  both-refused {o} {o'} {n} p q N =
      (ap (λ (z : Outcome). (ran (effect z s)).0) p, subst (Number r) (ap answer_of (q ∙ sym p)) N)

  allocate-shows : (t size : ℕ) → Contract (allocate t size) lent left r → OtherLength s lent
      → Shows (on_other (allocate t size) lent left r) s
  unfolding Calls.allocate_outcome
  allocate-shows t size C h =
      let R = refused-alike s lent t _ _ h in
      let B = both-refused R.1.0 R.1.1 (numbers (allocate t size) lent left r C) in
      record { leaves = B.0; answers = B.1 }

  free-shows : (t u : ℕ) → Contract (free t u) lent left r → OtherLength s lent
      → Shows (on_other (free t u) lent left r) s
  unfolding Calls.free_outcome
  free-shows t u C h =
      let R = refused-alike s lent t _ _ h in
      let B = both-refused R.1.0 R.1.1 (numbers (free t u) lent left r C) in
      record { leaves = B.0; answers = B.1 }

  leave-shows : (t : ℕ) → Contract (leave t) lent left r → OtherLength s lent
      → Shows (on_other (leave t) lent left r) s
  unfolding Calls.leave_outcome
  leave-shows t C h =
      let R = refused-alike s lent t _ _ h in
      let B = both-refused R.1.0 R.1.1 (numbers (leave t) lent left r C) in
      record { leaves = B.0; answers = B.1 }

  step-shows : (t : ℕ) → Contract (step t) lent left r → OtherLength s lent → Shows (on_other (step t) lent left r) s
  unfolding Calls.step_outcome
  step-shows t C h =
      let R = refused-alike s lent t _ _ h in
      let B = both-refused R.1.0 R.1.1 (numbers (step t) lent left r C) in
      record { leaves = B.0; answers = B.1 }

  -- a number of one answer is one of any other with the same code and value
  number-as : {y z : Moves.Answer} → y.code ≡ z.code → y.value ≡ z.value → Number r y → Number r z
  number-as p q N = record {
    code = N.code ∙ p;
    value = N.value ∙ q;
    none_lost = λ e. N.none_lost (ap ends_request p ∙ e);
  }

  module _ (b : Start) (C : Contract (start b) lent left r) where
    -- the start by the event, and by the contract
    abbrev e : Effect
    e = Calls.start_in b (lending lent) s

    abbrev e' : Effect
    e' = Calls.start_in b (lending lent) lent

    N : Number r (ran e').1
    N = numbers (start b) lent left r C

    accepted-number : e'.answer ≡ Accepted → r ≡ 0
    accepted-number q =
        let l : e'.lost ≡ 0 = effect-none (start b) lent (ap (λ (a : Answer). ends_request (code_of a)) q) in
        omega (arith, C.number, ap number_of q, l)

    abbrev StartShown : Type 0
    StartShown = Shows (on_other (start b) lent left r) s

    -- a refused start leaves the pool's memories
    refused-shows : (n : ℕ) → e.answer ≡ Refused n → e'.answer ≡ Refused n → StartShown
    refused-shows n p q =
        let L = (start-ends b (lending lent) s).leaves n p in
        let z : n ≢ 0 =
        λ h. false≢true
        (ap (one_of start_refusals) (sym h) ∙ subst (Begins start_refusals) q
        (start-ends b (lending lent) lent).answers) in
        record {
          leaves =
              L
              ∙ sym (ap (λ (b : Bool). cond b left s)
              (ne_eqb r 0 (λ h. z (sym (N.code ∙ ap code_of q) ∙ ap code_in h))));
          answers = number-as (ap code_of (q ∙ sym p)) (ap value_of (q ∙ sym p)) N;
        }

    -- an accepted start takes the memories that it is lent
    accepted-shows : e ≡ e' → e'.answer ≡ Accepted → StartShown
    accepted-shows p q = record {
      leaves =
          ap (λ (z : Effect). (ran z).0) p
          ∙ left_is C
          ∙ sym (ap (λ (b : Bool). cond b left s) (eq-eqb r 0 (accepted-number q)));
      answers = subst (λ (z : Effect). Number r (ran z).1) (sym p) N;
    }

    equal-shows : e ≡ e' → (a : Answer) → e'.answer ≡ a → Begins start_refusals a → StartShown
    equal-shows p Accepted q b = accepted-shows p q
    equal-shows p (Allocated u) q b = absurd b
    equal-shows p Freed q b = absurd b
    equal-shows p NoDescriptor q b = absurd b
    equal-shows p NoRegion q b = absurd b
    equal-shows p NoStrip q b = absurd b
    equal-shows p (Refused n) q b = refused-shows n (ap (λ (z : Effect). z.answer) p ∙ q) q

    start-shows : StartShown
    start-shows =
        ⊎_elim
        (λ p. equal-shows p e'.answer refl
        (start-ends b (lending lent) lent).answers)
        (λ q. refused-shows q.0 (ap (λ (z : Effect). z.answer) q.1.0)
        (ap (λ (z : Effect). z.answer) q.1.1))
        (start-elsewhere b (lending lent) s lent)

-- ---- every act

other-shows : (k : Call) (lent left : Memories) (r : ℕ) (s : Memories) → Happens (on_other k lent left r) s
    → Shows (on_other k lent left r) s
other-shows (start b) lent left r s h = start-shows s lent left r b h.0
other-shows (allocate t size) lent left r s h = allocate-shows s lent left r t size h.0 h.1
other-shows (free t u) lent left r s h = free-shows s lent left r t u h.0 h.1
other-shows (leave t) lent left r s h = leave-shows s lent left r t h.0 h.1
other-shows (step t) lent left r s h = step-shows s lent left r t h.0 h.1

pub shows : (a : Act) (s : Memories) → Happens a s → Shows a s
shows (on_own k left r) s C = own-shows k left r s C
shows (on_other k lent left r) s h = other-shows k lent left r s h
shows (write at b) s h = record { leaves = refl; answers = tt }
shows (write_strip at b) s h = record { leaves = refl; answers = tt }
