-- Calls that are lent other memories than the pool's: they answer as the calls on those do, and leave the pool's as
-- they are.
use mathlib.Core.Path.{◌≡◌, refl, sym, ap, ◌∙◌}
use mathlib.Core.Logic.{◌⊎◌, ⊎_elim, inl, inr}
use Prim.Native.Nat.{ℕ, ◌≤◌}
use native.Mathlib.Omega.{arith}
use Rattle.links.specs.Link.{link}
use Rattle.plain.specs.Calls.{Start, Call, start, allocate, free, leave, step, Lengths}
use Rattle.plain.proofs.CallTests.{start-tested, start-numbers}
use Rattle.control.specs.Layout.{seen}
use Rattle.control.specs.Answers.{code_of}
use Rattle.control.specs.Answers.{Answer}
use Rattle.control.specs.Answers.{Accepted, Allocated, Freed, NoDescriptor, NoRegion}
use Rattle.control.specs.Answers.{NoStrip, Refused}
use Rattle.stepped.specs.Outcome.{Effect, effect, step_effect, refuse, Memories}
use Rattle.stepped.specs.Calls.{Lent, lengths, effect_in}
use Rattle.stepped.specs.Calls as Stepped
use Rattle.stepped.proofs.CallTests.{start-failed, start-passed}
use Rattle.agreement.specs.Ends.{Leaves}
use Rattle.agreement.specs.Agreement.{Unchanged}
use Rattle.agreement.proofs.Ways.{start-tests}
use Rattle.agreement.specs.Events.{ran, NoStart}

-- ---- what matters of the memories that a call is lent

-- Of a call that is no start the lengths alone matter: the bytes are the pool's own.
pub same-lengths : (k : Call) (l l' : Lent) (s : Memories) → NoStart k → lengths l ≡ lengths l'
    → effect_in k l s ≡ effect_in k l' s
same-lengths (start b) l l' s n e = absurd n
same-lengths (allocate t size) l l' s n e =
    ap (λ (z : Lengths). effect (Stepped.allocate_outcome z (seen s.control) t size) s) e
same-lengths (free t u) l l' s n e =
    ap (λ (z : Lengths). effect (Stepped.free_outcome z (seen s.control) t u) s) e
same-lengths (leave t) l l' s n e =
    ap (λ (z : Lengths). effect (Stepped.leave_outcome z (seen s.control) t) s) e
same-lengths (step t) l l' s n e =
    ap (λ (z : Lengths). step_effect t (Stepped.step_outcome z (seen s.control) (link s.area) t) s) e

-- ---- starts

-- two starts that are both refused by the number n
abbrev BothRefused : Effect → Effect → Memories → Memories → Type 0
BothRefused e e' s s' = (n : ℕ) × ((e ≡ effect (refuse n) s) × (e' ≡ effect (refuse n) s'))

-- A start on memories that are not the pool's: the same effect if it is accepted, and if it is refused, by the same
-- number.
pub start-elsewhere : (b : Start) (lent : Lent) (s s' : Memories)
    → (Stepped.start_in b lent s ≡ Stepped.start_in b lent s')
    ⊎ BothRefused (Stepped.start_in b lent s) (Stepped.start_in b lent s') s s'
start-elsewhere b lent s s' =
    ⊎_elim (λ F. inr (F.0, (start-failed b lent s F.1, start-failed b lent s' F.1)))
    (λ T. inl (start-passed b lent s T ∙ sym (start-passed b lent s' T))) (start-tested b (lengths lent))

-- An accepted start "leaves the area as it is": its area is the one that it is lent, and so is its strips' memory.
pub start-leaves : (b : Start) (lent : Lent) (s : Memories) → code_of (Stepped.start_in b lent s).answer ≡ 0
    → ((Stepped.start_in b lent s).area ≡ lent.area) × ((Stepped.start_in b lent s).strips ≡ lent.strips)
start-leaves b lent s =
    start-tests (λ e. code_of e.answer ≡ 0 → (e.area ≡ lent.area) × (e.strips ≡ lent.strips)) b lent s
    (λ n F h. absurd (omega (arith, start-numbers F, h))) (λ T h. (refl, refl))

-- ---- refusals

-- a call that is refused by one of the numbers 1 to 11 leaves the pool's memories
pub refused-leaves : (e : Effect) (s : Memories) → Leaves e s → Unchanged s (ran e)
refused-leaves e s h = by e.answer refl
  where
    by : (a : Answer) → e.answer ≡ a → 1 ≤ code_of a → code_of a ≤ 11 → (ran e).0 ≡ s
    by Accepted i k l = absurd (omega arith)
    by (Allocated u) i k l = absurd (omega arith)
    by Freed i k l = absurd (omega arith)
    by NoDescriptor i k l = absurd (omega arith)
    by NoRegion i k l = absurd (omega arith)
    by NoStrip i k l = absurd (omega arith)
    by (Refused n) i k l = λ j. h n i j
