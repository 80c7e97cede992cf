-- What a finished request gives, of the exported functions: "every block of 16 bytes or more to start at a multiple of
-- 16" (the request for the new processor), "A size gets the smallest class that holds it" (the demands), and "A size is
-- rounded up to a power of two, at least 512" (the request for strips).
use mathlib.Core.Path.{◌≡◌, sym, ap, subst, subst⁻¹, ◌∙◌}
use mathlib.Core.Logic.{◌⊎◌, ⊎_elim}
use Prim.Native.Nat.{ℕ, ◌≤◌, ◌<◌}
use native.Mathlib.Omega.{arith}
use Rattle.limits.specs.Limits.{LARGEST_SIZE, UNITS}
use Rattle.fields.specs.Columns.{View}
use Rattle.links.specs.Link.{link}
use Rattle.plain.specs.State.{Mem}
use Rattle.plain.specs.Steps.{Result, step_of}
use Rattle.plain.specs.Calls.{Pool, Lengths, step}
use Rattle.control.specs.Layout.{seen, TaskPlace, TaskClass, Regions}
use Rattle.control.specs.Places.{A1}
use Rattle.control.specs.Answers.{value_of, code_in, value_in}
use Rattle.control.specs.Answers.{Answer}
use Rattle.control.specs.Answers.{Allocated, Freed}
use Rattle.stepped.specs.Outcome.{Outcome, Memories}
use Rattle.stepped.specs.Calls.{Tested, lending, lengths, step_outcome}
use Rattle.agreement.specs.Events.{whole}
use Rattle.agreement.specs.Ends.{IsEnd}
use Rattle.agreement.specs.Reached.{History, Reached}
use Rattle.agreement.specs.Asked.{Asked, for_bytes, for_free, for_leave, asked}
use Rattle.agreement.specs.Handed.{AllEmpty, AlignedBlock, Handed, StripHanded, StripGiven, Gives}
use Rattle.agreement.proofs.Ends.{step-ends, ends_by}
use Rattle.agreement.proofs.Handed.{hands_out, handed, freed}
use Rattle.demands.specs.Acts.{Contract, event_of_call}
use Rattle.demands.proofs.NumberTells.{told, finish-told}
use Rattle.demands.proofs.WholeStep.{whole-step}

module _ (s left : Memories) (r t : ℕ) (C : Contract (step t) s left r) (finished : code_in r ≡ 20) where
  abbrev v : View
  v = seen s.control

  abbrev long : Lengths
  long = lengths (lending s)

  abbrev o : Outcome
  o = step_outcome long v (link s.area) t

  -- the value that the step answers
  abbrev pub value : ℕ
  value = value_in r

  -- the step has handed out a unit, or a free is done
  found : ((u : ℕ) × (o.answer ≡ Allocated u)) ⊎ (o.answer ≡ Freed)
  found =
      finish-told o.answer (step-ends long v (link s.area) t).answers
      (sym (told (step t) s left r C).code ∙ finished)

  -- it passes the tests
  pub finish-tested : Tested long v t
  finish-tested =
      ⊎_elim (λ f. (ends_by long v (link s.area) t (Allocated f.0) tt f.1).0)
      (λ f. (ends_by long v (link s.area) t Freed tt f).0) found

  -- what holds of the unit that an allocation hands out, and of 0 where a free has finished, holds of the value
  of-value : (P : ℕ → Type 0) → ((u : ℕ) → o.answer ≡ Allocated u → P u) → (o.answer ≡ Freed → P 0)
      → P value
  of-value P h k =
      let is = (told (step t) s left r C).value in
      ⊎_elim (λ f. subst P (sym (is ∙ ap value_of f.1)) (h f.0 f.1))
      (λ f. subst P (sym (is ∙ ap value_of f)) (k f)) found

  -- A step that finishes an allocation, at its step 1, hands out an aligned block, in the area, of the class of the
  -- task's request, whatever the memories hold.
  pub class-handed : v (TaskPlace t) ≡ A1 → AlignedBlock (v Regions) (v (TaskClass t)) value
  class-handed here =
      of-value (AlignedBlock (v Regions) (v (TaskClass t))) (λ u. hands_out long v (link s.area) t u here)
      (λ f. absurd
      (⊎_elim (λ k. omega (arith, here, k)) (⊎_elim (λ k. omega (arith, here, k)) (λ k. omega (arith, here, k)))
      (ends_by long v (link s.area) t Freed tt f).1))

  module _ {h : History} {p : Pool} (R : Reached h s p) where
    -- the plain pool's memory after the step
    abbrev pub after : Mem
    after = (whole (event_of_call (step t) s) p).0.mem

    -- Wherever a run has come, a step that finishes a request finishes what its task has asked for last. For `size`
    -- bytes up to 256 it hands out an aligned block, in the area, of the smallest class that holds them; for more an
    -- aligned strip, in the strips' memory, at least as large and less than twice as large, from the smallest
    -- sufficient free piece at the lowest place. Of a free the value is 0, and a strip is joined with the free halves
    -- beside it. Of leaving the value is 0, and all caches of the task are empty.
    pub asked-given : Gives p.regions p.mem after t (asked t h) value
    asked-given =
        let G : Mem → ℕ → Type 0 = λ m u. Gives p.regions p.mem m t (asked t h) u in
        let ended : (a : Answer) → IsEnd a → o.answer ≡ a → after ≡ (step_of t p.mem).0 =
        λ a i e. ap (λ (x : Result). x.0) (whole-step R t (ends_by long v (link s.area) t a i e).0) in
        of-value (G after)
        (λ u e. subst⁻¹ (λ m. G m u) (ended (Allocated u) tt e) (handed R long t u e))
        (λ e. subst⁻¹ (λ m. G m 0) (ended Freed tt e) (freed R long t e))

    -- what was asked for last is given
    given : (a : Asked) → asked t h ≡ a → Gives p.regions p.mem after t a value
    given a e = subst (λ (b : Asked). Gives p.regions p.mem after t b value) e asked-given

    -- the same of an allocation of a small block: "A size gets the smallest class that holds it"
    pub size-handed : (size : ℕ) → asked t h ≡ for_bytes size → size ≤ LARGEST_SIZE → Handed p.regions size value
    size-handed size e = (given (for_bytes size) e).0

    -- the same of a strip: "A size is rounded up to a power of two, at least 512"
    pub strip-handed : (size : ℕ) → asked t h ≡ for_bytes size → LARGEST_SIZE < size
        → StripHanded p.mem.strips after.strips size value
    strip-handed size e = (given (for_bytes size) e).1

    -- the same of a strip's free: "Freed halves join whenever both are free"
    pub strip-given : (unit : ℕ) → asked t h ≡ for_free unit → UNITS ≤ unit
        → StripGiven p.mem.strips after.strips t unit
    strip-given unit e = (given (for_free unit) e).1

    -- the same of leaving: "one further step, after all are empty, finishes the request" (the request for leaving)
    pub left-empty : asked t h ≡ for_leave → (value ≡ 0) × AllEmpty (after.task t).cache
    left-empty e = given for_leave e
