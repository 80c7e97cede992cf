-- Steps 5 and 6 of a free have the outcome of the place that they go on to.
use Prim.Native.Nat.{ℕ}
use mathlib.Core.Path.{◌≡◌, refl}
use mathlib.Core.Bool.{Bool, true, false, cond}
use mathlib.Core.List.{List}
use lib.Dec.{leb, eqb}
use Rattle.std.specs.declared.result.Result.{Result}
use Rattle.limits.specs.declared.index.OutOfRange.{OutOfRange}
use Rattle.fields.specs.Columns.{View, Write}
use Rattle.words.specs.Anchor.{FULL}
use Rattle.classes.specs.Classes.{per_region}
use Rattle.plain.specs.Moves.{Decided}
use Rattle.control.specs.Layout.{CacheCount, TaskUnit, LEAVING}
use Rattle.stepped.specs.Lists.{when_returned, f5, f6}
use Rattle.steps_lists.specs.declared.follow.Follow.{Follow}
use Rattle.steps_lists.specs.Following.{returned_follow, f6_follow, f5_follow, followed}

-- a choice of places is a choice of outcomes
chosen : (b : Bool) (x y : Result Follow OutOfRange) (v : View) (t c : ℕ) (e : Decided) (ws : List Write)
    → followed v (cond b x y) t c e ws ≡ cond b (followed v x t c e ws) (followed v y t c e ws)
chosen true x y v t c e ws = refl
chosen false x y v t c e ws = refl

module _ (v : View) (regions t c : ℕ) (e : Decided) (ws : List Write) where
  returned-follows : when_returned v regions t c e ws ≡ followed v (returned_follow v t) t c e ws
  unfolding when_returned returned_follow
  returned-follows = rw (chosen (leb (v (TaskUnit t)) LEAVING), chosen (eqb (v (TaskUnit t)) LEAVING))

  pub f6-follows : f6 v regions t c e ws ≡ followed v (f6_follow v t c) t c e ws
  unfolding f6 f6_follow
  f6-follows =
      rw (
        chosen (leb (v (CacheCount t c)) (per_region c)),
        chosen (eqb (v (CacheCount t c)) 0),
        returned-follows,
      )

  pub f5-follows : (was : ℕ) → f5 v regions t c was e ws ≡ followed v (f5_follow v t c was) t c e ws
  unfolding f5 f5_follow
  f5-follows was = rw (chosen (eqb was FULL), f6-follows)

  -- steps 6 and 5 have the outcome of a place that is known to be theirs: after a match on it the outcome is that of
  -- its case
  pub f6-at : (r : Result Follow OutOfRange) → r ≡ f6_follow v t c → f6 v regions t c e ws ≡ followed v r t c e ws
  f6-at r h = rw (f6-follows, ← h)

  pub f5-at : (was : ℕ) (r : Result Follow OutOfRange) → r ≡ f5_follow v t c was
      → f5 v regions t c was e ws ≡ followed v r t c e ws
  f5-at was r h = rw (f5-follows was, ← h)
