-- docs/POOL.md, "Free"
-- Where a return goes on, for a free or for leaving: "Cache not empty: 2. Else 1.", and before that "If it was FULL:
-- push the descriptor on the partial list".
use Rattle.std.specs.Prelude.{ℕ, ◌+◌, cond, List, [], ◌∷◌, leb, eqb, Ok, Err}
use Rattle.std.specs.declared.result.Result.{Result}
use Rattle.limits.specs.declared.index.OutOfRange.{OutOfRange}
use Rattle.fields.specs.Columns.{View, Write, ◌:=◌}
use Rattle.words.specs.Anchor.{FULL}
use Rattle.classes.specs.Classes.{per_region}
use Rattle.plain.specs.Moves.{Decided}
use Rattle.control.specs.Layout.{CacheCount, GroupCount, TaskPlace, TaskUnit, LEAVING}
use Rattle.control.specs.declared.moves.Push.TheVariants as Push
use Rattle.control.specs.Places.{F1, F2}
use Rattle.stepped.specs.Outcome.{Outcome, bad, accept}
use Rattle.stepped.specs.Leaving.{leave_from}
use Rattle.stepped.specs.Lists.{push_place}
use Rattle.steps_lists.specs.declared.follow.Follow.{Follow}
use Rattle.steps_lists.specs.declared.follow.Follow.TheVariants.{One, Leave, Two, Offer}

-- a value that was read is out of its range
abbrev outside : Result Follow OutOfRange
outside = Err (record {})

-- the cache is empty: by the task's unit a free goes on, or leaving
unfoldable pub returned_follow : View → ℕ → Result Follow OutOfRange
returned_follow v t =
    let u = v (TaskUnit t) in
    cond (leb u LEAVING) (cond (eqb u LEAVING) (Ok Leave) (Ok One)) outside

-- step 6 of a return, by the blocks in the cache
unfoldable pub f6_follow : View → ℕ → ℕ → Result Follow OutOfRange
f6_follow v t c =
    let k = v (CacheCount t c) in
    cond (leb k (per_region c)) (cond (eqb k 0) (returned_follow v t) (Ok Two)) outside

-- step 5 of a return, by the state in which the anchor was found
unfoldable pub f5_follow : View → ℕ → ℕ → ℕ → Result Follow OutOfRange
f5_follow v t c was = cond (eqb was FULL) (Ok Offer) (f6_follow v t c)

-- the outcome of a step after which a return of the class c goes on there, after the writes ws of the move e
abbrev pub following : View → Follow → ℕ → ℕ → Decided → List Write → Outcome
following v One t c e ws = accept e (TaskPlace t := F1 ∷ ws) []
following v Leave t c e ws = leave_from v t (c + 1) e ws
following v Two t c e ws = accept e (TaskPlace t := F2 ∷ GroupCount t := 0 ∷ ws) []
following v Offer t c e ws = accept e (TaskPlace t := push_place Push.Offer ∷ ws) []

-- the same, unless a value that tells where it goes on is out of its range
abbrev pub followed : View → Result Follow OutOfRange → ℕ → ℕ → Decided → List Write → Outcome
followed v (Ok follow) t c e ws = following v follow t c e ws
followed v (Err _) t c e ws = bad
