-- The search for the next cache, and what a step makes of what it found.
use Prim.Native.Nat.{ℕ, suc, ◌+◌, ◌-◌, ◌<◌}
use native.Mathlib.Omega.{arith}
use mathlib.Core.Path.{◌≡◌, refl, ap, ◌∙◌}
use mathlib.Core.Logic.{◌≢◌}
use mathlib.Core.Bool.{Bool, true, false, cond}
use mathlib.Core.List.{List, [], ◌∷◌}
use borrow.Author.Tests.{eq-eqb, ne_eqb}
use lib.Dec.{eqb}
use Rattle.limits.specs.Limits.{CLASSES}
use Rattle.fields.specs.Columns.{View, Write, ◌:=◌}
use Rattle.plain.specs.Moves.{Decided}
use Rattle.control.specs.Layout.{changed, CacheCount, GroupCount, TaskPlace, TaskClass}
use Rattle.control.specs.Places.{F2, LEAVE_END}
use Rattle.control.specs.declared.answer.Answer.TheVariants.{Accepted}
use Rattle.limits.specs.declared.refusal.Refusal.TheVariants.{OutOfRange}
use Rattle.control.specs.declared.answer.Answer.{Answer}
use Rattle.limits.specs.declared.refusal.Refusal.{Refusal}
use Rattle.std.specs.declared.result.Result.{Result}
use Rattle.std.specs.Prelude.{Ok}
use Rattle.std.specs.Result.{IsErrAnd}
use Rattle.std.proofs.lemmas.Result.{err_from_is_err_and}
use Rattle.stepped.specs.Outcome.{bad, accept}
use Rattle.stepped.specs.Done.{Done}
use Rattle.stepped.specs.Leaving.{first_cached, next_cached, count_fits, leave_writes, leave_from}
use Rattle.stepped.proofs.Doing.{done}
use Rattle.steps_leave.specs.Goes.{Goes}

-- ---- the search

module _ (v : View) (t : ℕ) where
  pub next-none : (c : ℕ) → c ≡ CLASSES → next_cached v t c ≡ CLASSES
  unfolding first_cached
  next-none c e = rw e refl

  pub next_here : (j c : ℕ) → j ≡ c → c < CLASSES → v (CacheCount t j) ≢ 0 → j ≡ next_cached v t c
  unfolding first_cached
  next_here j c e l n =
      let d : CLASSES - c ≡ suc (CLASSES - suc c) = omega arith in
      rw (d, ne_eqb (v (CacheCount t c)) 0 (rw (← e) n)) e

  pub next-further : (j c : ℕ) → j ≡ c → c < CLASSES → v (CacheCount t j) ≡ 0
      → next_cached v t (c + 1) ≡ next_cached v t c
  unfolding first_cached
  next-further j c i l e =
      let d : CLASSES - c ≡ suc (CLASSES - (c + 1)) = omega arith in
      rw (d, eq-eqb (v (CacheCount t c)) 0 (rw (← i) e)) refl

-- ---- what a step makes of it

-- the writes of the move follow
both-writes : (p : Bool) (t j : ℕ) (ws : List Write) (before : List ℕ)
    → changed ws (changed (cond p (TaskPlace t := LEAVE_END ∷ [])
    (TaskPlace t := F2 ∷ TaskClass t := j ∷ GroupCount t := 0 ∷ [])) before)
    ≡ changed (cond p (TaskPlace t := LEAVE_END ∷ ws)
    (TaskPlace t := F2 ∷ TaskClass t := j ∷ GroupCount t := 0 ∷ ws)) before
both-writes true t j ws before = refl
both-writes false t j ws before = refl

module _ {v : View} {t c : ℕ} (e : Decided) {before between : List ℕ} where
  pub gone : (ws : List Write) {after : List ℕ} → Goes v t c before between → after ≡ changed ws between
      → Done (leave_from v t c e ws) before after (Ok Accepted)
  unfolding leave_from
  gone ws g h =
      let j = next_cached v t c in
      done {o' = accept e (leave_writes v t j ws) []} (rw g.fits refl) refl
      (h ∙ ap (changed ws) g.control ∙ both-writes (eqb j CLASSES) t j ws before) refl

-- the exit of a `?`, where the count is out of its range
pub not-gone : (v : View) (t c : ℕ) (e : Decided) (ws : List Write) (before after : List ℕ) (r : Result Answer Refusal)
    → count_fits v t (next_cached v t c) ≡ false → after ≡ before → IsErrAnd r (λ d. d ≡ OutOfRange)
    → Done (leave_from v t c e ws) before after r
unfolding leave_from
not-gone v t c e ws before after r g i h =
    let p = err_from_is_err_and r h in done {o' = bad} (rw g refl) (rw (p.1, p.2) refl) i refl
