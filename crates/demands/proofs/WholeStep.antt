-- A step that passes the tests is the plain pool's step, wherever a run has come.
use mathlib.Core.Path.{◌≡◌, ap, subst}
use Prim.Native.Nat.{ℕ, ◌≤◌}
use native.Mathlib.Omega.{arith}
use Rattle.plain.specs.Moves.{Answer}
use Rattle.plain.specs.Steps.{Result, step_of}
use Rattle.plain.specs.Calls.{Pool, step, StartedLengths, became}
use Rattle.plain.specs.Calls as Plain
use Rattle.plain.proofs.CallTests.{passed}
use Rattle.control.specs.Layout.{seen}
use Rattle.stepped.specs.Outcome.{Memories}
use Rattle.stepped.specs.Calls.{Tested, lending, lengths}
use Rattle.agreement.specs.Events.{whole}
use Rattle.agreement.specs.Reached.{History, Reached}
use Rattle.agreement.proofs.Reaching.{reached-tied}
use Rattle.demands.specs.Acts.{event_of_call}

module _ {h : History} {s : Memories} {p : Pool} (R : Reached h s p) (t : ℕ) where
  -- the plain pool after a step of the task t that passes the tests, and its answer
  pub whole_is : Tested (lengths (lending s)) (seen s.control) t
      → whole (event_of_call (step t) s) p ≡ became p (step_of t p.mem)
  unfolding Plain.plain_call
  whole_is T =
      let D = reached-tied R in
      let k : 1 ≤ p.tasks = omega (arith, D.tasks, T.started) in
      passed (step_of t p.mem)
      (record {
        control_is = T.control_is;
        started = k;
        lengths = subst (StartedLengths (lengths (lending s))) (D.regions k) T.lengths_are;
        below = omega (arith, D.tasks, T.below);
      })

  -- its memory, and the answer
  abbrev pub whole_step : Result
  whole_step = ((whole (event_of_call (step t) s) p).0.mem, (whole (event_of_call (step t) s) p).1)

  pub whole-step : Tested (lengths (lending s)) (seen s.control) t → whole_step ≡ step_of t p.mem
  whole-step T = ap (λ (x : Pool × Answer). (x.0.mem, x.1)) (whole_is T)
